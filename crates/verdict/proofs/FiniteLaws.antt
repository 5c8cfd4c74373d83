-- A number as a rank: what the Option of code says of it.
use mathlib.Core.Path.{◌≡◌, refl}
use Prim.Native.Nat.{ℕ, ◌≤◌, ◌<◌}
use native.Mathlib.Omega.{arith}
use mathlib.Core.Bool.{Bool, true, false, cond}
use lib.Dec.{leb}
use borrow.Author.Tests.{leb-true, leb-false}
use Rattle.std.specs.Prelude.{Option, Some, None}
use Rattle.model.specs.declared.Rank.{Rank}
use Rattle.model.specs.Rank.{infinite}
use Rattle.verdict.specs.Judged.{finite_rank}

pub none_infinite : (n : ℕ) → finite_rank n ≡ None → infinite ≤ n
unfolding finite_rank
none_infinite n e = go (leb infinite n) refl e
  where
    go : (b : Bool) → leb infinite n ≡ b → ◌≡◌ {A = Option Rank} (cond b None (Some (record { 0 = n }))) None → infinite ≤ n
    go true q e = leb-true infinite n q
    go false q e = absurd (let z : ◌≡◌ {A = ℕ} 0 1 = cc in omega arith)

pub some_finite : (n : ℕ) (r : Rank) → finite_rank n ≡ Some r → (r.0 ≡ n) × (n < infinite)
unfolding finite_rank
some_finite n r e = go (leb infinite n) refl e
  where
    go : (b : Bool) → leb infinite n ≡ b → ◌≡◌ {A = Option Rank} (cond b None (Some (record { 0 = n }))) (Some r) → (r.0 ≡ n) × (n < infinite)
    go true q e = absurd (let z : ◌≡◌ {A = ℕ} 0 1 = cc in omega arith)
    go false q e = (cc, leb-false infinite n q)
