use mathlib.Core.Path.{◌≡◌, ◌∙◌}
use Prim.Native.Nat.{◌<◌}
use native.Mathlib.Omega.{arith}
use borrow.Author.Rules.{rules}
use lib.ListN.{length, take}
use Rattle.model.specs.Verdict.{Barred}
use Rattle.model.specs.Reading.{no_place}
use Rattle.choice.specs.Given.{blank}
use Rattle.reason.specs.Why.{refused}
use Rattle.reason.specs.Standing.{refused_by, why_of}
use Rattle.reason.proofs.WhyLaws.{kept_of, asks_first, asks_more, asks_end, asked_within, refused_answer_lem, told_answer}
use Rattle.reason.proofs.ask.Goals as goal

pub returns-in_err-check_question : goal.returns-in_err-check_question
returns-in_err-check_question c =
    let told : why_of c.from_residual.result ≡ refused (refused_by c.in_err-check_question.field-0.0) = search rules in
    told ∙ (refused_answer_lem c.args.own c.args.candidates.now c.args.count c.args.lent.now c.args.position c.in_err-check_question.field-0.0 c.in_err-check_question.ensures)

pub shared_ref_as_front-candidate-items : goal.shared_ref_as_front-candidate-items
shared_ref_as_front-candidate-items c = (asked_within c.args.own c.args.count c.args.position c.in_ok-check_question.ensures).0

pub loop-i-init : goal.loop-i-init
loop-i-init c =
    let (few, below) = asked_within c.args.own c.args.count c.args.position c.in_ok-check_question.ensures in
    let array : length c.args.candidates.now ≡ 16 = search rules in
    let among : c.args.position < length (take c.args.count c.args.candidates.now) = omega arith in
    asks_first c.args.own c.args.lent.now (take c.args.count c.args.candidates.now) c.args.position blank (Barred 13 no_place) among

pub loop-i-preserved : goal.loop-i-preserved
loop-i-preserved c =
    asks_more c.loop-i.invariant c.loop-i-test.true c.judge-verdict.ensures (rw c.kept-asked.ensures (kept_of c.loop-i.i c.args.position _ _)) c.after-best.ensures

pub returns : goal.returns
returns c =
    let (e, f) = asks_end c.loop-i.invariant c.loop-i-test.false in
    told_answer c.args.own c.args.candidates.now c.args.count c.args.lent.now c.args.position c.by_verdict.result blank c.in_ok-check_question.ensures (search rules) e f c.by_verdict.ensures
