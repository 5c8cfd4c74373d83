use mathlib.Core.Path.{ap}
use Rattle.metric.specs.Leaf.{leaf_number}
use Rattle.hop.proofs.PlanLaws.{ends_leaf, ends_long, ends_fits}
use Rattle.hop.proofs.plan.conclude.Goals as goal

pub returns-in-Err : goal.returns-in-Err
returns-in-Err c = λ own n os q. ends_leaf own n os _ q c.in-Err.is

pub returns-in-Ok : goal.returns-in-Ok
returns-in-Ok c = λ own n os q. ends_long own n os _ q (ap leaf_number c.in-Ok.is) c.if-p-gt255.true

pub returns-in-Ok-2 : goal.returns-in-Ok-2
returns-in-Ok-2 c = λ own n os q. ends_fits own n os _ q (ap leaf_number c.in-Ok.is) c.if-p-gt255.false
