use mathlib.Core.Path.{◌≡◌, refl, sym, ◌∙◌}
use native.Mathlib.Omega.{arith}
use Rattle.model.specs.Rank.{resulting}
use Rattle.model.proofs.RankLaws.{judged_20, judged_21, judged_unbarred}
use Rattle.verdict.specs.Judged.{finite_rank}
use Rattle.verdict.proofs.FiniteLaws.{none_infinite, some_finite}
use Rattle.verdict.proofs.rank.resulting.Goals as goal

pub returns-in_default : goal.returns-in_default
unfolding resulting
returns-in_default c =
    let grown : c.grow.result ≡ finite_rank (resulting c.args.own.now c.args.neighbour.now) = c.grow.ensures ∙ rw c.units_of.ensures.value in
    judged_20 c.args.own.now c.args.neighbour.now (resulting c.args.own.now c.args.neighbour.now) refl (none_infinite _ (sym grown ∙ c.in_default.is))

pub returns-then-is_above_lowest : goal.returns-then-is_above_lowest
unfolding resulting
returns-then-is_above_lowest c =
    let grown : c.grow.result ≡ finite_rank (resulting c.args.own.now c.args.neighbour.now) = c.grow.ensures ∙ rw c.units_of.ensures.value in
    let (e, l) = some_finite (resulting c.args.own.now c.args.neighbour.now) _ (sym grown ∙ c.in-Some.is) in
    judged_21 c.args.own.now c.args.neighbour.now (resulting c.args.own.now c.args.neighbour.now) refl l (sym (c.is_above_lowest.ensures c.args.neighbour.now e) ∙ c.if-is_above_lowest.true)

pub returns : goal.returns
unfolding resulting
returns c =
    let grown : c.grow.result ≡ finite_rank (resulting c.args.own.now c.args.neighbour.now) = c.grow.ensures ∙ rw c.units_of.ensures.value in
    let (e, l) = some_finite (resulting c.args.own.now c.args.neighbour.now) _ (sym grown ∙ c.in-Some.is) in
    rw e (judged_unbarred c.args.own.now c.args.neighbour.now _ e (omega (arith, e, l)) (sym (c.is_above_lowest.ensures c.args.neighbour.now e) ∙ c.if-is_above_lowest.false))
