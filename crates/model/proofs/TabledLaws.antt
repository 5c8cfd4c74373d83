-- Bodies as tabled: the objects of a well-formed container have them; how many bytes they have, and which number.
use mathlib.Core.Path.{◌≡◌, refl, sym, ap, ◌∙◌}
use Prim.Native.Nat.{ℕ, ◌+◌, ◌*◌, ◌≤◌}
use native.Mathlib.Omega.{arith}
use mathlib.Core.Bool.{Bool, true, false, cond, not, ◌&&◌}
use mathlib.Core.List.{List, [], ◌∷◌, ◌++◌, append-nil, append_assoc}
use mathlib.Core.Option.{some}
use lib.ListN.{length, drop, get_or, get_elem?}
use lib.Dec.{leb, eqb}
use borrow.Author.Tests.{leb-true, eqb-true}
use Rattle.model.specs.Number.{any_of, number, ◌when◌, first_case, first_of}
use Rattle.model.specs.Object.{Object, standings, kind_of, kind, known, role}
use Rattle.model.specs.Table.{Row, row}
use Rattle.model.specs.Reading.{tlvs_fit, fixed_shape, shaped, cannot_be, same_use, object_bar}
use Rattle.model.proofs.BoolLaws.{both}
use Rattle.model.proofs.ListLaws.{at_split}
use Rattle.model.proofs.NumberLaws.{first-zero}

-- a known object at which no bar of 15 to 17 stands
pub no_bar : (m s r : Bool) → first_case (15 when (not m && not s) ∷ 16 when r ∷ 17 when m ∷ []) ≡ 0 → (m ≡ false) × (s ≡ true) × (r ≡ false)
no_bar true s true e = absurd (omega arith)
no_bar true s false e = absurd (omega arith)
no_bar false false r e = absurd (omega arith)
no_bar false true true e = absurd (omega arith)
no_bar false true false e = (refl, refl, refl)

-- an object of known type without a bar is what its type can be, its body is as tabled, and its use was not seen
pub bar_free : (es : List Object) (o : Object) → object_bar (record { earlier = es; object = o }) ≡ 0 → known (kind o) ≡ true
    → (cannot_be (role o) (row (kind o)) ≡ false) × (shaped (role o) (row (kind o)) o.body ≡ true) × (any_of (same_use o) es ≡ false)
unfolding object_bar
bar_free es o e k = no_bar (cannot_be (role o) (row (kind o))) (shaped (role o) (row (kind o)) o.body) (any_of (same_use o) es) (rw k at e)

-- an object among others without a bar has none
pub among_free : (ps es : List Object) (o : Object) (rest : List Object) → first_of object_bar (standings ps (es ++ (o ∷ rest))) ≡ 0
    → object_bar (record { earlier = ps ++ es; object = o }) ≡ 0
unfolding first_of standings
among_free ps [] o rest z = rw (append-nil ps) (first-zero (object_bar (record { earlier = ps; object = o })) _ z).0
among_free ps (e ∷ es) o rest z = rw (append_assoc ps (e ∷ []) es) at (among_free (ps ++ (e ∷ [])) es o rest (first-zero (object_bar (record { earlier = ps; object = e })) _ z).1)

-- its body is as tabled
pub among_tabled : (es : List Object) (o : Object) (rest : List Object) → first_of object_bar (standings [] (es ++ (o ∷ rest))) ≡ 0
    → known (kind o) ≡ true → shaped (role o) (row (kind o)) o.body ≡ true
among_tabled es o rest z k = (bar_free es o (among_free [] es o rest z) k).1

-- and the one at an index
pub at_tabled : (os : List Object) (i : ℕ) (o : Object) → first_of object_bar (standings [] os) ≡ 0 → get_elem? os i ≡ some o
    → known (kind o) ≡ true → shaped (role o) (row (kind o)) o.body ≡ true
at_tabled os i o z e k =
    let (es, rest, q) = at_split os i o e in
    among_tabled es o rest (ap (λ l. first_of object_bar (standings [] l)) (sym q) ∙ z) k

-- ---- the bytes of a constraint's or an aggregated metric's body

-- a body that is as tabled has the base bytes of its type, and no others where the type has no TLVs
pub base_of : (r : Row) (b : List ℕ) → fixed_shape r b ≡ true → r.base ≤ length b
base_of r b e = go r.tlvs e
  where
    go : (t : Bool) → cond t (leb r.base (length b) && tlvs_fit (drop r.base b)) (eqb (length b) r.base) ≡ true → r.base ≤ length b
    go true e = leb-true r.base (length b) (both (leb r.base (length b)) (tlvs_fit (drop r.base b)) e).0
    go false e = let q = eqb-true (length b) r.base e in omega arith

pub fixed_base : (t n : ℕ) (b : List ℕ) → t ≡ n → fixed_shape (row (kind_of t)) b ≡ true → (row (kind_of n)).base ≤ length b
fixed_base t n b e h = rw (← e) (base_of (row (kind_of t)) b h)

pub whole_of : (r : Row) (b : List ℕ) → r.tlvs ≡ false → fixed_shape r b ≡ true → length b ≡ r.base
whole_of r b f e = eqb-true (length b) r.base (rw f at e)

pub fixed_whole : (t n : ℕ) (b : List ℕ) → t ≡ n → (row (kind_of n)).tlvs ≡ false → fixed_shape (row (kind_of t)) b ≡ true → length b ≡ (row (kind_of n)).base
fixed_whole t n b e f h = whole_of (row (kind_of n)) b f (rw e at h)

-- the number of 2 bytes, and of 4
pub number_2 : (b : List ℕ) → length b ≡ 2 → get_or b 0 0 * 256 + get_or b 1 0 ≡ number b
unfolding number
number_2 [] e = absurd (omega arith)
number_2 (x ∷ []) e = absurd (omega arith)
number_2 (x ∷ y ∷ []) e = omega arith
number_2 (x ∷ y ∷ z ∷ b) e = absurd (omega arith)

pub number_4 : (b : List ℕ) → length b ≡ 4 → ((get_or b 0 0 * 256 + get_or b 1 0) * 256 + get_or b 2 0) * 256 + get_or b 3 0 ≡ number b
unfolding number
number_4 [] e = absurd (omega arith)
number_4 (x ∷ []) e = absurd (omega arith)
number_4 (x ∷ y ∷ []) e = absurd (omega arith)
number_4 (x ∷ y ∷ z ∷ []) e = absurd (omega arith)
number_4 (x ∷ y ∷ z ∷ w ∷ []) e = omega arith
number_4 (x ∷ y ∷ z ∷ w ∷ v ∷ b) e = absurd (omega arith)
