-- What objects tell the tests of their container's constraints, where one comes behind others.
use mathlib.Core.Path.{◌≡◌, refl, sym, ◌∙◌}
use Prim.Native.Nat.{ℕ, ◌/◌, ◌%◌}
use native.Mathlib.Omega.{arith}
use mathlib.Core.Bool.{Bool, true, false, cond, not, ◌&&◌, true≢false}
use mathlib.Core.List.{List, [], ◌∷◌, ◌++◌}
use lib.Dec.{eqb}
use borrow.Author.Tests.{eqb-true, eq-eqb}
use Rattle.model.specs.Number.{is_set, any_of}
use Rattle.model.specs.Object.{Object, bit_c, field_a, Scalar, type_of, kind, role_of, role, is_constraint, is_aggregated, is_hp}
use Rattle.model.specs.Reading.{same_use}
use Rattle.model.specs.Constraint.{from_first, counts_hops, adds_up}
use Rattle.model.proofs.BoolLaws.{both, neither}
use Rattle.model.proofs.TypeLaws.{hp_type, constraint_bit, clear_bit, aggregated_bits}

-- ---- the first object with a property

module _ {A : Type 0} (d : A) (p : Object → Bool) (f : Object → A) where
  -- an object without it tells nothing
  pub from_same : (es : List Object) (o : Object) → p o ≡ false → from_first d p f (es ++ (o ∷ [])) ≡ from_first d p f es
  unfolding from_first
  from_same [] o e = rw e
  from_same (x ∷ es) o e = rw (from_same es o e)

  -- behind others without it, whatever follows
  pub from_behind : (es : List Object) (o : Object) (rest : List Object) → any_of p es ≡ false → p o ≡ true → from_first d p f (es ++ (o ∷ rest)) ≡ f o
  unfolding from_first
  from_behind [] o rest n e = rw e
  from_behind (x ∷ es) o rest n e = let (h, t) = neither (p x) (any_of p es) n in rw h (from_behind es o rest t e)

  -- there is none
  pub from_none : (os : List Object) → any_of p os ≡ false → from_first d p f os ≡ d
  unfolding from_first
  from_none [] n = refl
  from_none (o ∷ os) n = let (h, t) = neither (p o) (any_of p os) n in rw h (from_none os t)

-- ---- a property that only metrics of one type have

abbrev pub OfUse : (type : ℕ) → (Object → Bool) → Type 0
OfUse t p = (o : Object) → p o ≡ true → (o.type ≡ t) × (bit_c o ≡ 0)

pub hops_use : OfUse 3 counts_hops
unfolding role_of
hops_use o e =
    let (h, m) = both (is_hp (kind o)) (not (is_constraint (role o))) e in
    let c : not (is_set (bit_c o)) ≡ true = rw (constraint_bit (o.flags / 2 % 2) (o.mode / 128 % 2) (omega arith)) at m in
    (eqb-true o.type 3 (sym (hp_type o.type) ∙ h), eqb-true (bit_c o) 0 (sym (clear_bit (bit_c o) (omega arith)) ∙ c))

pub adds_use : (s : Scalar) → OfUse (type_of s) (adds_up s)
unfolding role_of
adds_use s o e =
    let (x, a) = both (eqb o.type (type_of s) && is_aggregated (role o)) (eqb (field_a o) 0) e in
    let (t, r) = both (eqb o.type (type_of s)) (is_aggregated (role o)) x in
    (eqb-true o.type (type_of s) t, eqb-true (bit_c o) 0 (both (eqb (bit_c o) 0) (eqb (o.mode / 128 % 2) 0) (rw aggregated_bits at r)).0)

-- none that has it stands before another whose use was not seen
pub use_fresh : (t : ℕ) (p : Object → Bool) → OfUse t p → (es : List Object) (o : Object) → p o ≡ true → any_of (same_use o) es ≡ false → any_of p es ≡ false
use_fresh t p u [] o e f = refl
use_fresh t p u (x ∷ es) o e f =
    let (h, n) = neither (same_use o x) (any_of (same_use o) es) f in
    rw (go (p x) refl h) (use_fresh t p u es o e n)
  where
    go : (b : Bool) → p x ≡ b → same_use o x ≡ false → b ≡ false
    go true q h =
        let (a, c) = u o e in
        let (y, z) = u x q in
        absurd (true≢false (sym (rw (eq-eqb x.type o.type (y ∙ sym a), eq-eqb (bit_c x) (bit_c o) (z ∙ sym c))) ∙ h))
    go false q h = refl

-- one object more, whose use was not seen
pub from_snoc : {A : Type 0} (d : A) (t : ℕ) (p : Object → Bool) (f : Object → A) → OfUse t p → (es : List Object) (o : Object) → any_of (same_use o) es ≡ false
    → from_first d p f (es ++ (o ∷ [])) ≡ cond (p o) (f o) (from_first d p f es)
from_snoc d t p f u es o n = go (p o) refl
  where
    go : (b : Bool) → p o ≡ b → from_first d p f (es ++ (o ∷ [])) ≡ cond b (f o) (from_first d p f es)
    go true e = from_behind d p f es o [] (use_fresh t p u es o e n) e
    go false e = from_same d p f es o e
