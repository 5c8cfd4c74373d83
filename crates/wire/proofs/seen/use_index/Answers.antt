use mathlib.Core.Path.{refl}
use native.Mathlib.Omega.{arith}
use Rattle.wire.proofs.RowLaws.{known_within}
use Rattle.wire.proofs.seen.use_index.Goals as goal

pub overflow_sub-result : goal.overflow_sub-result
overflow_sub-result c = (known_within _ c.requires).0

pub returns : goal.returns
returns c = let (a, b) = known_within _ c.requires in (omega arith, refl)
