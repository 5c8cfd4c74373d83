-- The sub-objects of colour: which counts the hop, and what they are then.
use mathlib.Core.Path.{◌≡◌, refl, ap, ◌∙◌}
use Prim.Native.Nat.{ℕ, suc, ◌+◌, ◌-◌, ◌*◌, ◌/◌, ◌%◌, ◌≤◌, ◌<◌}
use native.Mathlib.Numerals.{add-one, add-two}
use native.Mathlib.Omega.{arith}
use mathlib.Core.Bool.{Bool, true, false, cond}
use mathlib.Core.List.{List, [], ◌∷◌, ◌++◌}
use lib.ListN.{length, get_or, drop, set, length-append, drop_of_length-le}
use lib.Seq.{drop-cons}
use lib.Dec.{ltb, eqb}
use borrow.Author.Tests.{ltb-true}
use Rattle.model.specs.Constraint.{colour_in}
use Rattle.model.specs.Update.{count_colour}
use Rattle.model.proofs.BoolLaws.{both}
use Rattle.metric.specs.Colours.{gains_in, place_of}

-- ---- a list from an index on, two bytes at a time

pub step_two : (s : List ℕ) (i : ℕ) → i + 2 ≤ length s → drop i s ≡ get_or s i 0 ∷ get_or s (i + 1) 0 ∷ drop (i + 2) s
step_two s i h = rw (drop-cons s i 0 (omega arith), ← add-one i, drop-cons s (i + 1) 0 (omega arith), add-two i, add-one i)

pub step_lone : (s : List ℕ) (i : ℕ) → i < length s → length s - i < 2 → drop i s ≡ get_or s i 0 ∷ []
step_lone s i h g = rw (drop-cons s i 0 h, drop_of_length-le s {i = suc i} (omega arith))

-- ---- where the search stops

pub place_within : (v : ℕ) (s : List ℕ) → place_of v s ≤ length s
place_within v [] = omega arith
place_within v (x ∷ []) = omega arith
place_within v (x ∷ y ∷ t) = go (gains_in v x y) (place_within v t)
  where
    go : (b : Bool) → place_of v t ≤ length t → cond b 0 (2 + place_of v t) ≤ suc (suc (length t))
    go true ih = omega arith
    go false ih = omega arith

-- ---- what they are with the hop counted

-- one gains: its counter is one more, and has room for that
pub counts_at : (v : ℕ) (s : List ℕ) → place_of v s + 2 ≤ length s → count_colour v s ≡ set s (place_of v s + 1) (get_or s (place_of v s + 1) 0 + 1)
counts_at v [] h = absurd (omega arith)
counts_at v (x ∷ []) h = absurd (omega arith)
counts_at v (x ∷ y ∷ t) h = go (gains_in v x y) h (counts_at v t)
  where
    go : (b : Bool) → cond b 0 (2 + place_of v t) + 2 ≤ suc (suc (length t))
        → (place_of v t + 2 ≤ length t → count_colour v t ≡ set t (place_of v t + 1) (get_or t (place_of v t + 1) 0 + 1))
        → cond b (x ∷ (y + 1) ∷ t) (x ∷ y ∷ count_colour v t)
        ≡ set (x ∷ y ∷ t) (cond b 0 (2 + place_of v t) + 1) (get_or (x ∷ y ∷ t) (cond b 0 (2 + place_of v t) + 1) 0 + 1)
    go true h ih = refl
    go false h ih =
        let e : 2 + place_of v t + 1 ≡ suc (suc (place_of v t + 1)) = omega arith in
        rw (e, ih (omega arith))

pub room_at : (v : ℕ) (s : List ℕ) → place_of v s + 2 ≤ length s → get_or s (place_of v s + 1) 0 % 64 < 63
room_at v [] h = absurd (omega arith)
room_at v (x ∷ []) h = absurd (omega arith)
room_at v (x ∷ y ∷ t) h = go (gains_in v x y) refl h (room_at v t)
  where
    go : (b : Bool) → gains_in v x y ≡ b → cond b 0 (2 + place_of v t) + 2 ≤ suc (suc (length t))
        → (place_of v t + 2 ≤ length t → get_or t (place_of v t + 1) 0 % 64 < 63) → get_or (x ∷ y ∷ t) (cond b 0 (2 + place_of v t) + 1) 0 % 64 < 63
    go true e h ih = ltb-true (y % 64) 63 (both (eqb (colour_in x y) v) (ltb (y % 64) 63) e).1
    go false e h ih = let q : 2 + place_of v t + 1 ≡ suc (suc (place_of v t + 1)) = omega arith in rw q (ih (omega arith))

-- none gains: the colour is added behind whole sub-objects, and a lone byte is kept
pub counts_behind : (v : ℕ) (s : List ℕ) → length s < place_of v s + 2 → length s % 2 ≡ 0 → count_colour v s ≡ s ++ (v / 4 ∷ (v % 4 * 64 + 1) ∷ [])
counts_behind v [] h e = refl
counts_behind v (x ∷ []) h e = absurd (omega arith)
counts_behind v (x ∷ y ∷ t) h e = go (gains_in v x y) h (counts_behind v t)
  where
    go : (b : Bool) → suc (suc (length t)) < cond b 0 (2 + place_of v t) + 2
        → (length t < place_of v t + 2 → length t % 2 ≡ 0 → count_colour v t ≡ t ++ (v / 4 ∷ (v % 4 * 64 + 1) ∷ []))
        → cond b (x ∷ (y + 1) ∷ t) (x ∷ y ∷ count_colour v t) ≡ x ∷ y ∷ (t ++ (v / 4 ∷ (v % 4 * 64 + 1) ∷ []))
    go true h ih = absurd (omega arith)
    go false h ih = ap (λ l. x ∷ y ∷ l) (ih (omega arith) (omega arith))

pub counts_lone : (v : ℕ) (s : List ℕ) → length s < place_of v s + 2 → length s % 2 ≡ 1 → count_colour v s ≡ s
counts_lone v [] h e = absurd (omega arith)
counts_lone v (x ∷ []) h e = refl
counts_lone v (x ∷ y ∷ t) h e = go (gains_in v x y) h (counts_lone v t)
  where
    go : (b : Bool) → suc (suc (length t)) < cond b 0 (2 + place_of v t) + 2 → (length t < place_of v t + 2 → length t % 2 ≡ 1 → count_colour v t ≡ t)
        → cond b (x ∷ (y + 1) ∷ t) (x ∷ y ∷ count_colour v t) ≡ x ∷ y ∷ t
    go true h ih = absurd (omega arith)
    go false h ih = ap (λ l. x ∷ y ∷ l) (ih (omega arith) (omega arith))

pub length_opened : (v : ℕ) (s : List ℕ) → length s < place_of v s + 2 → length s % 2 ≡ 0 → length (count_colour v s) ≡ length s + 2
length_opened v s h e = ap length (counts_behind v s h e) ∙ length-append s (v / 4 ∷ (v % 4 * 64 + 1) ∷ [])
