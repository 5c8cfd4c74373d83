use mathlib.Core.Path.{◌≡◌, sym, ap, ◌∙◌}
use Prim.Native.Nat.{ℕ, ◌+◌, ◌≤◌, ◌<◌}
use native.Mathlib.Omega.{arith}
use borrow.Author.Rules.{rules}
use lib.ListN.{length, get_or, take}
use Rattle.model.specs.Verdict.{verdict_of}
use Rattle.model.specs.Choice.{choice_in}
use Rattle.hop.specs.Sent.{Sent}
use Rattle.choice.specs.Given.{blank}
use Rattle.choice.proofs.PassLaws.{told_place, Pass, pass_first, pass_barred, pass_unbarred, pass_end}
use Rattle.choice.proofs.ReturnLaws.{runs, refused_returns, nobody_returns, parent_place, size_returns, leaf_returns, as_returned}
use Rattle.choice.proofs.call.Goals as goal
use Rattle.choice.proofs.call.Goals.{in-Barred, in-Unbarred}

pub returns-in-Err : goal.returns-in-Err
returns-in-Err c =
    let all = as_returned (refused_returns c.args.own c.args.candidates.now c.args.count c.args.lent.now c.args.out.now c.in-Err.refusal c.in-Err.ensures c.refused.ensures) in
    record { value = all.0; written = all.1.0; returned = all.1.1 }

pub shared_ref_as_front-candidate-items : goal.shared_ref_as_front-candidate-items
shared_ref_as_front-candidate-items c = (runs c.args.own c.args.candidates.now c.args.count c.args.lent.now c.args.out.now (sym c.in_default.ensures)).few

pub loop-i-init : goal.loop-i-init
loop-i-init c =
    let few : length (take c.args.count c.args.candidates.now) ≤ 16 = omega (arith, (runs c.args.own c.args.candidates.now c.args.count c.args.lent.now c.args.out.now (sym c.in_default.ensures)).few) in
    pass_first c.args.own c.args.lent.now (take c.args.count c.args.candidates.now) few c.blank-answer.ensures

pub loop-i-preserved : goal.loop-i-preserved
loop-i-preserved c = elim c.match-judge.branch [
  | in-Barred w ↦ rw (w.answer-is, w.best-is, w.number.ensures, w.unwrap_or.ensures, w.place.ensures, told_place w.in-Barred.bar) (pass_barred blank c.loop-i.invariant c.loop-i-test.true c.judge.ensures (ap verdict_of w.in-Barred.is))
  | in-Unbarred w ↦ rw (w.answer-is, w.best-is, w.bit_at.ensures) (pass_unbarred blank c.loop-i.invariant c.loop-i-test.true c.judge.ensures (ap verdict_of w.in-Unbarred.is) w.better.ensures)
]

pub bounds-candidates-parent : goal.bounds-candidates-parent
bounds-candidates-parent c = (parent_place c.args.own c.args.candidates.now c.args.count c.args.lent.now c.args.out.now (sym c.in_default.ensures) _ c.loop-i.invariant c.loop-i-test.false (search rules) blank _ _ (ap choice_in c.in-Some.is)).0

pub overflow_add-end : goal.overflow_add-end
overflow_add-end c = omega (arith, (parent_place c.args.own c.args.candidates.now c.args.count c.args.lent.now c.args.out.now (sym c.in_default.ensures) _ c.loop-i.invariant c.loop-i-test.false (search rules) blank _ _ (ap choice_in c.in-Some.is)).1)

pub slice_bounds-send-end : goal.slice_bounds-send-end
slice_bounds-send-end c = omega (arith, (parent_place c.args.own c.args.candidates.now c.args.count c.args.lent.now c.args.out.now (sym c.in_default.ensures) _ c.loop-i.invariant c.loop-i-test.false (search rules) blank _ _ (ap choice_in c.in-Some.is)).1)

-- a leaf answer, by its number
abbrev sent_by : ℕ → Sent
sent_by n = record { leaf = n; size = 0 }

pub returns-in-Ok : goal.returns-in-Ok
returns-in-Ok c =
    let all = as_returned (size_returns c.args.own c.args.candidates.now c.args.count c.args.lent.now c.args.out.now (sym c.in_default.ensures) _ c.loop-i.invariant c.loop-i-test.false (search rules) blank _ _ (ap choice_in c.in-Some.is) c.count_of.ensures (c.in-Ok.ensures.value, c.in-Ok.ensures.written)) in
    record { value = all.0; written = all.1.0; returned = all.1.1 }

pub returns-in-Err-send : goal.returns-in-Err-send
returns-in-Err-send c =
    let told = ap sent_by c.number-in-Err-send.ensures ∙ c.in-Err-send.ensures.value in
    let all = as_returned (leaf_returns c.args.own c.args.candidates.now c.args.count c.args.lent.now c.args.out.now (sym c.in_default.ensures) _ c.loop-i.invariant c.loop-i-test.false (search rules) blank _ _ (ap choice_in c.in-Some.is) c.count_of.ensures (told, c.in-Err-send.ensures.written)) in
    record { value = all.0; written = all.1.0; returned = all.1.1 }

pub returns-in_default-best : goal.returns-in_default-best
returns-in_default-best c =
    let all = as_returned (nobody_returns c.args.own c.args.candidates.now c.args.count c.args.lent.now c.args.out.now (sym c.in_default.ensures) _ c.loop-i.invariant c.loop-i-test.false (search rules) (search rules) c.count_of.ensures) in
    record { value = all.0; written = all.1.0; returned = all.1.1 }
