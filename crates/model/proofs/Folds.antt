-- The fold over a chain, by A: the sum, the largest, the smallest.
use mathlib.Core.Path.{◌≡◌, refl}
use Prim.Native.Nat.{ℕ, zero, suc, ◌+◌, ◌≤◌, min, max}
use native.Mathlib.Omega.{arith}
use mathlib.Core.Bool.{Bool, true, false}
use mathlib.Core.List.{List, [], ◌∷◌}
use mathlib.Core.Logic.{◌⊎◌, inl, inr, ⊎_elim}
use mathlib.Core.Option.{some, none-ne-some}
use lib.ListN.{get_elem?}
use lib.Dec.{leb}
use borrow.Author.Tests.{leb-true, leb-false}
use Rattle.model.specs.Chain.{together, along, sum_of, Extreme, Largest, Smallest, Folds}

along_sum : (x : ℕ) (vs : List ℕ) → along 0 x vs ≡ x + sum_of vs
unfolding along sum_of
along_sum x [] = omega arith
along_sum x (v ∷ vs) = let e = along_sum x vs in omega arith

-- of two numbers one is picked, beside which both stand in an order
module _ (a : ℕ) (Beside : ℕ → ℕ → Type 0) (itself : (n : ℕ) → Beside n n) (through : (k m n : ℕ) → Beside k m → Beside m n → Beside k n)
    (picks : (x v : ℕ) → (together a x v ≡ x) ⊎ (together a x v ≡ v))
    (left : (x v : ℕ) → Beside x (together a x v)) (right : (x v : ℕ) → Beside v (together a x v)) where
  -- where it stands
  place : (x v n m : ℕ) (vs : List ℕ) (i : ℕ) → get_elem? (x ∷ vs) i ≡ some n → (m ≡ n) ⊎ (m ≡ v)
      → (j : ℕ) × (get_elem? (x ∷ v ∷ vs) j ≡ some m)
  place x v n m vs i e (inr q) = (1, rw q)
  place x v n m vs zero e (inl q) = (0, rw q e)
  place x v n m vs (suc i) e (inl q) = (suc (suc i), rw q e)

  -- beside it stand the number that is new, and all those that stood beside the one before
  beside : (x v n : ℕ) (vs : List ℕ) → ((i m : ℕ) → get_elem? (x ∷ vs) i ≡ some m → Beside m n)
      → (i m : ℕ) → get_elem? (x ∷ v ∷ vs) i ≡ some m → Beside m (together a n v)
  beside x v n vs h zero m e = through m n (together a n v) (h 0 m e) (left n v)
  beside x v n vs h (suc zero) m e = let q : v ≡ m = cc in rw (← q) (right n v)
  beside x v n vs h (suc (suc i)) m e = through m n (together a n v) (h (suc i) m e) (left n v)

  -- then the fold is such a one of all
  extreme : (x : ℕ) (vs : List ℕ) → Extreme (along a x vs) (x ∷ vs) (λ m. Beside m (along a x vs))
  unfolding along
  extreme x [] = record { index = 0; among = refl; others = only }
    where
      only : (i m : ℕ) → get_elem? (x ∷ []) i ≡ some m → Beside m x
      only zero m e = let q : x ≡ m = cc in rw (← q) (itself x)
      only (suc i) m e = absurd (none-ne-some m e)
  extreme x (v ∷ vs) =
      let h = extreme x vs in
      let (j, e) = place x v (along a x vs) (together a (along a x vs) v) vs h.index h.among (picks (along a x vs) v) in
      record { index = j; among = e; others = beside x v (along a x vs) vs h.others }

either : (x v : ℕ) → (x ≤ v) ⊎ (v ≤ x)
either x v = go (leb x v) refl
  where
    go : (b : Bool) → leb x v ≡ b → (x ≤ v) ⊎ (v ≤ x)
    go true e = inl (leb-true x v e)
    go false e = let l = leb-false x v e in inr (omega arith)

larger_picks : (x v : ℕ) → (max x v ≡ x) ⊎ (max x v ≡ v)
larger_picks x v = ⊎_elim (λ l. inr (omega arith)) (λ l. inl (omega arith)) (either x v)

smaller_picks : (x v : ℕ) → (min x v ≡ x) ⊎ (min x v ≡ v)
smaller_picks x v = ⊎_elim (λ l. inl (omega arith)) (λ l. inr (omega arith)) (either x v)

largest : (x : ℕ) (vs : List ℕ) → Largest (along 1 x vs) (x ∷ vs)
largest = extreme 1 (λ m n. m ≤ n) (λ n. omega arith) (λ k m n p q. omega arith) larger_picks (λ x v. omega arith) (λ x v. omega arith)

smallest : (x : ℕ) (vs : List ℕ) → Smallest (along 2 x vs) (x ∷ vs)
smallest = extreme 2 (λ m n. n ≤ m) (λ n. omega arith) (λ k m n p q. omega arith) smaller_picks (λ x v. omega arith) (λ x v. omega arith)

pub folds : Folds
folds a x vs = record {
  sum = λ e. rw e (along_sum x vs);
  largest = λ e. rw e (largest x vs);
  smallest = λ e. rw e (smallest x vs);
}
