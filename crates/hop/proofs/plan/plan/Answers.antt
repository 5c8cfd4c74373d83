use borrow.Author.Rules.{rules}
use Rattle.hop.proofs.PlanLaws.{plan_start, plan_into, plan_onward, plan_out, plan_cut, plan_short, plan_done}
use Rattle.hop.proofs.plan.plan.Goals as goal

pub loop-data-init : goal.loop-data-init
loop-data-init c = let w = plan_start c.args.own c.args.neighbour c.args.run.now in search (rules, w)

pub loop-object-init : goal.loop-object-init
loop-object-init c = let w = plan_into _ _ _ _ _ _ _ c.loop-data.invariant c.in-Some.ensures.steps.0 c.in-Some.ensures.steps.1 in search (rules, w)

pub loop-object-preserved : goal.loop-object-preserved
loop-object-preserved c = plan_onward _ _ _ _ _ _ _ c.loop-object.invariant _ _ c.in-Some-next.ensures.steps.0 c.in-Some-next.ensures.steps.1 c.plan_object-planned.ensures.small (c.plan_object-planned.ensures.planned)

pub returns-then-not-is_done : goal.returns-then-not-is_done
returns-then-not-is_done c = plan_cut _ _ _ _ _ _ _ c.loop-object.invariant c.in_default-next.ensures.steps.1 (search rules)

pub loop-data-preserved : goal.loop-data-preserved
loop-data-preserved c = plan_out _ _ _ _ _ _ _ c.loop-object.invariant c.in_default-next.ensures.steps.0.0 c.in_default-next.ensures.steps.1 (search rules)

pub returns-then-not-is_done-2 : goal.returns-then-not-is_done-2
returns-then-not-is_done-2 c = plan_short _ _ _ _ _ _ c.loop-data.invariant c.in_default.ensures.steps.1 (search rules)

pub returns : goal.returns
returns c = plan_done _ _ _ _ _ _ c.loop-data.invariant _ c.in_default.ensures.steps.0.0 c.in_default.ensures.steps.1 (search rules) c.conclude.ensures
