-- The bits of the uses seen, and the objects that they stand for.
use mathlib.Core.Path.{◌≡◌, refl, sym, ◌∙◌}
use Prim.Native.Nat.{ℕ, ◌/◌, ◌%◌, ◌^◌, ◌≤◌}
use native.Mathlib.Nat.{zero-div}
use native.Mathlib.Omega.{arith}
use mathlib.Core.Bool.{Bool, true, false, ◌&&◌, ◌||◌, or-false, or_assoc, true≢false}
use mathlib.Core.List.{List, [], ◌∷◌, ◌++◌}
use lib.Dec.{eqb}
use borrow.Author.Tests.{eq-eqb, ne_eqb, eqb-true, eqb-false}
use Rattle.model.specs.Number.{any_of}
use Rattle.model.specs.Object.{Object, bit_c, kind, kind_of, known}
use Rattle.model.specs.Reading.{same_use, repeated, object_bar}
use Rattle.model.proofs.ListLaws.{any_same}
use Rattle.wire.specs.Row.{has_bit}
use Rattle.wire.specs.Seen.{use_index, has_use, with_use, seen_from, seen_after, bar_by, sets_bit, BitsExact, SeenExact, BitsApart}
use Rattle.wire.specs.SeenRows.{SeenRows}
use Rattle.wire.proofs.BitLaws.{bit_with}
use Rattle.wire.proofs.RowLaws.{within, known_within}

-- ---- the bits of two uses

-- two objects of types from 1 on are of one use exactly where they have one bit
use_eqb : (o e : Object) → 1 ≤ o.type → 1 ≤ e.type → same_use o e ≡ eqb (use_index e) (use_index o)
use_eqb o e l m = go (eqb e.type o.type) (eqb (bit_c e) (bit_c o)) refl refl
  where
    go : (s t : Bool) → eqb e.type o.type ≡ s → eqb (bit_c e) (bit_c o) ≡ t → s && t ≡ eqb (use_index e) (use_index o)
    go true true p q = let x = eqb-true e.type o.type p in let y = eqb-true (bit_c e) (bit_c o) q in sym (eq-eqb (use_index e) (use_index o) (omega arith))
    go true false p q = let y = eqb-false (bit_c e) (bit_c o) q in let x = eqb-true e.type o.type p in sym (ne_eqb (use_index e) (use_index o) (λ z. y (omega arith)))
    go false t p q = let x = eqb-false e.type o.type p in sym (ne_eqb (use_index e) (use_index o) (λ z. x (omega arith)))

pub bits_apart : BitsApart
bits_apart o l = let (a, b) = within o.type 8 l in (omega arith, λ e m. use_eqb o e a (within e.type 8 m).0)

-- the objects that have a known type's bit are those of its use
sets_use_bit : (o e : Object) → known (kind o) ≡ true → sets_bit (use_index o) e ≡ same_use o e
sets_use_bit o e k = go (known (kind e)) refl
  where
    go : (b : Bool) → known (kind e) ≡ b → sets_bit (use_index o) e ≡ same_use o e
    go true h = rw h (sym (use_eqb o e (known_within o.type k).0 (known_within e.type h).0))
    go false h = rw (h, ne_eqb e.type o.type (λ q. true≢false (sym (rw q k) ∙ h)))

-- ---- one object more

bit_behind : (n : ℕ) (o : Object) (k : ℕ) → has_bit (with_use n o) k ≡ has_bit n k || sets_bit k o
bit_behind n o k = go (known (kind o)) refl
  where
    go : (b : Bool) → known (kind o) ≡ b → has_bit (with_use n o) k ≡ has_bit n k || sets_bit k o
    go true h = rw h (bit_with n (use_index o) k)
    go false h = rw h (sym (or-false (has_bit n k)))

pub seen_snoc : (n : ℕ) (es : List Object) (o : Object) → seen_from n (es ++ (o ∷ [])) ≡ with_use (seen_from n es) o
unfolding seen_from
seen_snoc n [] o = refl
seen_snoc n (e ∷ es) o = seen_snoc (with_use n e) es o

-- ---- all objects before one

bits_from : (n : ℕ) (es : List Object) (k : ℕ) → has_bit (seen_from n es) k ≡ has_bit n k || any_of (sets_bit k) es
unfolding seen_from
bits_from n [] k = sym (or-false (has_bit n k))
bits_from n (e ∷ es) k = bits_from (with_use n e) es k ∙ rw (bit_behind n e k) (or_assoc (has_bit n k) (sets_bit k e) (any_of (sets_bit k) es))

-- no bit is 1 before the first object
unseen : (k : ℕ) → has_bit 0 k ≡ false
unfolding has_bit
unseen k = rw (zero-div (2 ^ k))

pub bits_exact : BitsExact
bits_exact es k = bits_from 0 es k ∙ rw (unseen k)

pub seen_exact : SeenExact
unfolding object_bar bar_by
seen_exact es o = record { exact = exact; repeat = repeat (known (kind o)) refl; bar = bar (known (kind o)) refl }
  where
    exact : known (kind o) ≡ true → has_bit (seen_after es) (use_index o) ≡ any_of (same_use o) es
    exact k = bits_exact es (use_index o) ∙ any_same (sets_bit (use_index o)) (same_use o) (λ e. sets_use_bit o e k) es

    repeat : (b : Bool) → known (kind o) ≡ b → repeated (record { earlier = es; object = o }) ≡ has_use (seen_after es) o
    repeat true k = rw (k, exact k)
    repeat false k = rw k

    bar : (b : Bool) → known (kind o) ≡ b → object_bar (record { earlier = es; object = o }) ≡ bar_by (has_use (seen_after es) o) o
    bar true k = rw (k, exact k)
    bar false k = rw k

-- ---- as code has it

-- a bit that is read
pub reads_use : (n k : ℕ) (o : Object) → known (kind o) ≡ true → k ≡ use_index o → eqb (n / 2 ^ k % 2) 1 ≡ has_use n o
unfolding has_bit
reads_use n k o h e = rw (h, e)

-- ---- computed

pub seen_rows : SeenRows
unfolding seen_from kind_of
seen_rows = refl
