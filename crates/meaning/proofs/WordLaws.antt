-- The words of the table: none for a number that is not in it, and how long they are.
use Rattle.std.proofs.Common.{◌≡◌, refl, ℕ, List, [], ◌∷◌}
use Prim.Native.String.{String}
use borrow.Author.Tests.{ne_eqb}
use Rattle.meaning.specs.Meaning.{words_in}

-- a number other than those of a table
abbrev pub Other : ℕ → List (ℕ × String) → Type 0
Other n [] = Unit
Other n ((k, words) ∷ rows) = (n ≡ k → ⊥) × Other n rows

-- has no words there
pub no_words : (n : ℕ) (rows : List (ℕ × String)) → Other n rows → words_in rows n ≡ ""
unfolding words_in
no_words n [] o = refl
no_words n ((k, words) ∷ rows) o = rw (ne_eqb n k o.0) (no_words n rows o.1)
