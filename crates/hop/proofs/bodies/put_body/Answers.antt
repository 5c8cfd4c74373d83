use Rattle.metric.proofs.RoleLaws.{as_constraint, as_aggregated}
use Rattle.metric.proofs.KindLaws.{constraint_two, constraint_three}
use Rattle.metric.proofs.SizeLaws.{length_constraint, length_aggregated}
use Rattle.hop.proofs.bodies.put_body.Goals as goal

pub put_cleared-requires : goal.put_cleared-requires
put_cleared-requires c = rw (as_constraint _ _ c.is_constraint.ensures c.if-is_constraint.true, length_constraint _ _) at c.requires.body_in_bounds

pub returns-then-header-eq8 : goal.returns-then-header-eq8
returns-then-header-eq8 c = rw (as_constraint _ _ c.is_constraint.ensures c.if-is_constraint.true, ← constraint_three _ _ c.if-header-eq8.true) c.put_cleared.ensures

pub put_constraint-requires : goal.put_constraint-requires
put_constraint-requires c = rw (as_constraint _ _ c.is_constraint.ensures c.if-is_constraint.true, length_constraint _ _) at c.requires.body_in_bounds

pub returns-then-is_constraint : goal.returns-then-is_constraint
returns-then-is_constraint c = rw (as_constraint _ _ c.is_constraint.ensures c.if-is_constraint.true, ← constraint_two _ _ c.if-header-eq8.false) c.put_constraint.ensures

pub put_aggregated-requires : goal.put_aggregated-requires
put_aggregated-requires c =
    rw (as_aggregated _ _ c.is_constraint.ensures c.is_recorded.ensures c.if-is_constraint.false c.if-is_recorded.false, length_aggregated _ _ _ _) at c.requires.body_in_bounds
