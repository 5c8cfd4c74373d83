-- A sum in a field.
use mathlib.Core.Path.{◌≡◌, refl}
use Prim.Native.Nat.{ℕ, ◌+◌}
use mathlib.Core.Bool.{Bool, true, false, cond, not}
use lib.Dec.{leb, ltb}
use borrow.Author.Tests.{lt-ltb, le-ltb, leb-true, leb-false}
use Rattle.std.specs.Prelude.{None, Some}
use Rattle.std.specs.Option.{is_some}
use Rattle.metric.specs.Sums.{sum_in}

-- a sum fits where it is not past the maximum
pub sum_past : (most x v : ℕ) → is_some (sum_in most x v) ≡ not (ltb most (x + v))
sum_past most x v = go (leb (x + v) most) refl
  where
    go : (b : Bool) → leb (x + v) most ≡ b → is_some (cond b (Some (x + v)) None) ≡ not (ltb most (x + v))
    go true h = rw (le-ltb most (x + v) (leb-true (x + v) most h))
    go false h = rw (lt-ltb most (x + v) (leb-false (x + v) most h))
