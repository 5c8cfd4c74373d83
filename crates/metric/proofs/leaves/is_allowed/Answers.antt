use Rattle.wire.specs.Row.{has_bit, row_for}
use Rattle.wire.proofs.RowLaws.{masks_exact}
use Rattle.metric.proofs.leaves.is_allowed.Goals as goal

pub returns : goal.returns
unfolding has_bit row_for
returns c = rw (c.row-row.ensures, c.from.ensures) (masks_exact _ _)
