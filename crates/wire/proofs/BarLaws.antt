-- Bars 15 to 17 at an object, by the tests that code makes.
use mathlib.Core.Path.{◌≡◌, refl, sym}
use Prim.Native.Nat.{ℕ}
use native.Mathlib.Omega.{arith}
use mathlib.Core.Bool.{Bool, true, false, cond}
use Rattle.model.specs.declared.verdicts.ObjectBar.{ObjectBar}
use Rattle.model.specs.declared.verdicts.ObjectBar.TheVariants as at
use Rattle.model.specs.Bars.{object_bar_number}
use Rattle.model.specs.Object.{Object, kind, role, known}
use Rattle.model.specs.Table.{row}
use Rattle.model.specs.Reading.{cannot_be, shaped}
use Rattle.model.proofs.TabledLaws.{no_bar}
use Rattle.wire.specs.Seen.{bar_by}

module _ (seen : Bool) (o : Object) where
  -- an unknown type has none of them
  pub bar_unknown : known (kind o) ≡ false → 0 ≡ bar_by seen o
  unfolding bar_by
  bar_unknown k = rw k

  -- a known type, seen with this C or not, that is misused
  pub bar_misused : known (kind o) ≡ true → cannot_be (role o) (row (kind o)) ≡ true → cond seen 16 17 ≡ bar_by seen o
  unfolding bar_by
  bar_misused k m = rw (k, m)

  -- a known type whose body is not as tabled
  pub bar_malformed : known (kind o) ≡ true → cannot_be (role o) (row (kind o)) ≡ false → shaped (role o) (row (kind o)) o.body ≡ false
      → 15 ≡ bar_by seen o
  unfolding bar_by
  bar_malformed k m b = rw (k, m, b)

  -- a known type, seen with this C or not, with nothing else against it
  pub bar_shaped : known (kind o) ≡ true → cannot_be (role o) (row (kind o)) ≡ false → shaped (role o) (row (kind o)) o.body ≡ true
      → cond seen 16 0 ≡ bar_by seen o
  unfolding bar_by
  bar_shaped k m b = rw (k, m, b)

  -- a known type without one is what it can be, and its body is as tabled
  pub bar_clear : known (kind o) ≡ true → 0 ≡ bar_by seen o → (cannot_be (role o) (row (kind o)) ≡ false) × (shaped (role o) (row (kind o)) o.body ≡ true)
  unfolding bar_by
  bar_clear k e = let (m, s, r) = no_bar (cannot_be (role o) (row (kind o))) (shaped (role o) (row (kind o)) o.body) seen (sym (rw k at e)) in (m, s)
