-- Bytes read from a text one by one, into an output.
use Rattle.std.proofs.Common.{◌≡◌, refl, sym, ap, ◌∙◌, ℕ, ◌-◌, ◌≤◌, ◌<◌, List, [], ◌∷◌, ◌++◌, length, take, drop, get_or, arith}
use lib.ListN.{take-append-drop}
use mathlib.Core.List.{append-nil}
use lib.Seq.{length-take-le, take_all, take_at}
use borrow.Author.Tests.{eq-eqb, ne_eqb}
use Rattle.words.specs.Digits.{byte_of}
use Rattle.words.specs.Hex.{ahead, bytes_from, spelled, spelled_in}

-- ---- the byte at the front

-- too few bytes, or another byte than a space in front
pub first_short : (text : List ℕ) → length text < 3 → bytes_from text ≡ []
unfolding bytes_from
first_short [] h = refl
first_short (s ∷ []) h = refl
first_short (s ∷ x ∷ []) h = refl
first_short (s ∷ x ∷ y ∷ l) h = absurd (omega arith)

pub first_other : (text : List ℕ) → 3 ≤ length text → (get_or text 0 0 ≡ 32 → ⊥) → bytes_from text ≡ []
unfolding bytes_from
first_other [] h o = refl
first_other (s ∷ []) h o = refl
first_other (s ∷ x ∷ []) h o = refl
first_other (s ∷ x ∷ y ∷ l) h o = rw (ne_eqb s 32 o) refl

-- a space and two bytes
pub first_three : (text : List ℕ) → 3 ≤ length text → get_or text 0 0 ≡ 32
    → bytes_from text ≡ ahead (byte_of (get_or text 1 0) (get_or text 2 0)) (bytes_from (take (length text - 3) (drop 3 text)))
unfolding bytes_from
first_three [] h e = absurd (omega arith)
first_three (s ∷ []) h e = absurd (omega arith)
first_three (s ∷ x ∷ []) h e = absurd (omega arith)
first_three (s ∷ x ∷ y ∷ l) h e = rw (eq-eqb s 32 e, take_all (length (s ∷ x ∷ y ∷ l) - 3) l (omega arith)) refl

-- the byte at the front, in all cases
pub ruleset first = (first_short, first_other, first_three)

-- ---- the output

-- so many bytes are put, and the rest of the text is unread
pub record Reads (text rest old out : List ℕ) (n : ℕ) : Type 0 where
  pub so_far : bytes_from text ≡ take n out ++ bytes_from rest
  pub kept : drop n out ≡ drop n old

-- what is answered, and the output
abbrev pub Put : (text old out : List ℕ) → (n : ℕ) → Type 0
Put text old out n = (n ≡ length (spelled text (length old))) × (out ≡ spelled_in text old)

put : {text rest old out : List ℕ} {n : ℕ} → Reads text rest old out n → n ≤ length out → spelled text (length old) ≡ take n out → Put text old out n
unfolding spelled_in
put {out = out} {n = n} r h e = let k = length-take-le n out h in (rw (e, k) refl, rw (e, k, sym r.kept, take-append-drop n out) refl)

-- nothing more is spelled
pub reads_end : {text rest old out : List ℕ} {n : ℕ} → Reads text rest old out n → n < length old → length out ≡ length old → bytes_from rest ≡ [] → Put text old out n
unfolding spelled
reads_end {text} {rest} {old} {out} {n} r h l e =
    let all : bytes_from text ≡ take n out = r.so_far ∙ ap (λ k. take n out ++ k) e ∙ append-nil (take n out) in
    put r (omega arith) (rw all (take_all (length old) (take n out) (rw (length-take-le n out (omega arith)) (omega arith))))

-- the output is full
pub reads_full : {text rest old out : List ℕ} → Reads text rest old out (length out) → length out ≡ length old → Put text old out (length out)
unfolding spelled
reads_full {text} {rest} {old} {out} r l =
    put r (omega arith) (rw r.so_far (take_at (take (length out) out) (bytes_from rest) (length old) (rw (length-take-le (length out) out (omega arith)) l)))
