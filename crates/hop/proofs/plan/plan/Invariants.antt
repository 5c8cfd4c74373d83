use Rattle.hop.proofs.PlanLaws.{AtPlan, InPlan}
use Rattle.hop.proofs.plan.plan.Given as goal

abbrev pub invariant-loop-object : goal.invariant-loop-object
invariant-loop-object l = InPlan l.own l.neighbour l.fn.run l.containers.rest.now l.objects.rest.now l.planned

abbrev pub invariant-loop-data : goal.invariant-loop-data
invariant-loop-data l = AtPlan l.own l.neighbour l.fn.run l.containers.rest.now l.planned
