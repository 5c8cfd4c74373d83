use mathlib.Core.Path.{◌≡◌, ◌∙◌}
use borrow.Author.Rules.{rules}
use Rattle.model.specs.Verdict.{rank_bar, judge_rank, verdict}
use Rattle.verdict.proofs.JudgeLaws.{judged_11, in_range, judged_12, judged_refused, judged_object, clear_tested, clear_untested}
use Rattle.verdict.proofs.candidate.offer.Goals.{then-reading+in_ok-check, else-reading}
use Rattle.verdict.proofs.candidate.offer.Goals as goal

pub returns-in_err-ahead : goal.returns-in_err-ahead
returns-in_err-ahead c =
    let told = judged_11 c.args.own.now c.args.lent.now c.args.candidate.now _ c.in_err-ahead.ensures in
    search (told, rules)

pub returns-in_err-run : goal.returns-in_err-run
returns-in_err-run c =
    let told = judged_12 _ _ _ _ c.in_ok-ahead.ensures _ c.in_err-run.ensures in
    search (told, rules)

pub returns-in_err-reading : goal.returns-in_err-reading
returns-in_err-reading c =
    let told = judged_refused _ _ _ _ c.in_ok-ahead.ensures _ c.in_ok-run.ensures _ c.in_err-reading.ensures in
    search (told, rules)

pub returns-in_err-check : goal.returns-in_err-check
returns-in_err-check c =
    let told = judged_object _ _ _ _ c.in_ok-ahead.ensures _ c.in_ok-run.ensures _ _ _ c.in_ok-reading.ensures _ c.in_err-check.ensures in
    search (told, rules)

pub returns-in_err-rank : goal.returns-in_err-rank
returns-in_err-rank c =
    let clear : judge_rank c.args.own.now c.args.candidate.now.neighbour (rank_bar c.args.own.now c.args.candidate.now.neighbour) ≡ verdict c.args.own.now c.args.lent.now c.args.candidate.now =
    elim c.if-reading.branch [
      | then-reading+in_ok-check w ↦ clear_tested _ _ _ _ c.in_ok-ahead.ensures _ c.in_ok-run.ensures _ _ _ c.in_ok-reading.ensures w.in_ok-check.ensures
      | else-reading w ↦ clear_untested _ _ _ _ c.in_ok-ahead.ensures _ c.in_ok-run.ensures _ _ _ c.in_ok-reading.ensures w.if-reading.false
    ] in
    let told = c.in_err-rank.ensures ∙ clear in
    search (told, rules)

pub returns : goal.returns
returns c =
    let clear : judge_rank c.args.own.now c.args.candidate.now.neighbour (rank_bar c.args.own.now c.args.candidate.now.neighbour) ≡ verdict c.args.own.now c.args.lent.now c.args.candidate.now =
    elim c.if-reading.branch [
      | then-reading+in_ok-check w ↦ clear_tested _ _ _ _ c.in_ok-ahead.ensures _ c.in_ok-run.ensures _ _ _ c.in_ok-reading.ensures w.in_ok-check.ensures
      | else-reading w ↦ clear_untested _ _ _ _ c.in_ok-ahead.ensures _ c.in_ok-run.ensures _ _ _ c.in_ok-reading.ensures w.if-reading.false
    ] in
    rw (in_range _ c.args.lent.now c.args.candidate.now _ c.in_ok-ahead.ensures).1 (c.in_ok-rank.ensures ∙ clear)
