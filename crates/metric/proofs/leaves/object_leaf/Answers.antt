use mathlib.Core.Path.{◌∙◌}
use Rattle.metric.proofs.RoleLaws.{as_constraint, as_recorded, as_aggregated}
use Rattle.metric.proofs.LeafLaws.{leaf_constraint, leaf_recorded, leaf_aggregated}
use Rattle.metric.proofs.leaves.object_leaf.Goals as goal

pub returns-then-is_constraint : goal.returns-then-is_constraint
returns-then-is_constraint c = leaf_constraint _ _ _ _ _ _ (as_constraint _ _ c.is_constraint.ensures c.if-is_constraint.true)

pub returns-then-is_recorded : goal.returns-then-is_recorded
returns-then-is_recorded c = c.check_count.ensures ∙ leaf_recorded _ _ _ _ _ _ (as_recorded _ _ c.is_recorded.ensures c.if-is_recorded.true)

pub returns : goal.returns
returns c = c.check_aggregated.ensures ∙ leaf_aggregated _ _ _ _ _ _ (as_aggregated _ _ c.is_constraint.ensures c.is_recorded.ensures c.if-is_constraint.false c.if-is_recorded.false)
