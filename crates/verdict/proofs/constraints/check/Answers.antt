use native.Mathlib.Omega.{arith}
use Rattle.verdict.proofs.PassLaws.{pass_start, pass_into, pass_out, pass_tabled, pass_fits, pass_onward, pass_barred, pass_clear}
use Rattle.verdict.proofs.constraints.check.Goals as goal

pub loop-data-init : goal.loop-data-init
loop-data-init c = rw c.new-containers.ensures (pass_start _ _ _)

pub loop-object-init : goal.loop-object-init
loop-object-init c = rw c.new-objects.ensures (pass_into _ _ _ _ _ _ _ c.loop-data.invariant c.in-Some.ensures.steps.0 c.in-Some.ensures.steps.1)

pub check_object-requires : goal.check_object-requires
check_object-requires c = pass_tabled _ _ _ _ _ _ _ _ c.loop-object.invariant c.in-Some-next.ensures.steps.0 c.in-Some-next.ensures.steps.1 c.requires

pub overflow_add-place : goal.overflow_add-place
overflow_add-place c =
    let fits = pass_fits _ _ _ _ _ _ _ _ c.loop-object.invariant c.in-Some-next.ensures.steps.0 c.in-Some-next.ensures.steps.1 c.requires (λ i. omega (arith, c.type_inv.run i)) in
    omega arith

pub loop-object-preserved : goal.loop-object-preserved
loop-object-preserved c = pass_onward _ _ _ _ _ _ _ _ c.loop-object.invariant c.in-Some-next.ensures.steps.0 c.in-Some-next.ensures.steps.1 c.in_default-check_object.ensures

pub loop-data-preserved : goal.loop-data-preserved
loop-data-preserved c = pass_out _ _ _ _ _ _ _ c.requires c.loop-object.invariant c.in_default-next.ensures.steps.0.0 c.in_default-next.ensures.steps.1

pub returns-in-Err : goal.returns-in-Err
returns-in-Err c = λ os f. pass_barred _ _ _ _ _ _ _ _ c.loop-object.invariant c.in-Some-next.ensures.steps.0 c.in-Some-next.ensures.steps.1 _ c.in-Err.ensures os f

pub returns-in_default : goal.returns-in_default
returns-in_default c = λ os f. pass_clear _ _ _ _ _ _ c.loop-data.invariant c.in_default.ensures.steps.0.0 c.in_default.ensures.steps.1 os f
