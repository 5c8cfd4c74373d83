use mathlib.Core.Path.{◌∙◌}
use native.Mathlib.Nat.{add-zero}
use native.Mathlib.Omega.{arith}
use Rattle.metric.proofs.SizeLaws.{length_kept}
use Rattle.metric.proofs.sizes.growth.Goals as goal

pub returns : goal.returns
returns c = record { result_len = λ own. add-zero _ ∙ length_kept own _ _ _ _ _ _ c.is_recorded.ensures c.if-is_recorded.false; small = omega arith }
