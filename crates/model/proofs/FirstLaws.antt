-- The first element that a test numbers, and objects with those before them, where one comes behind others.
use mathlib.Core.Path.{◌≡◌, refl, ap}
use Prim.Native.Nat.{ℕ, zero, suc, ◌≤◌}
use native.Mathlib.Omega.{arith}
use mathlib.Core.List.{List, [], ◌∷◌, ◌++◌, append_assoc, append-nil}
use lib.ListN.{length}
use Rattle.model.specs.Number.{first, first_of, index_after, index_of}
use Rattle.model.specs.Object.{Object, standings}
use Rattle.model.proofs.NumberLaws.{first-zero}

-- ---- the first element that a test numbers

module _ {A : Type 0} (f : A → ℕ) where
  pub first_snoc : (xs : List A) (x : A) → first_of f (xs ++ (x ∷ [])) ≡ first (first_of f xs) (f x)
  unfolding first_of
  first_snoc [] x = go (f x)
    where
      go : (n : ℕ) → first n 0 ≡ n
      go zero = refl
      go (suc n) = refl
  first_snoc (y ∷ xs) x = rw (first_snoc xs x) (go (f y) (first_of f xs) (f x))
    where
      go : (a b c : ℕ) → first a (first b c) ≡ first (first a b) c
      go zero b c = refl
      go (suc a) b c = refl

  -- where none is numbered, the index is that behind the last
  pub index_none : (xs : List A) → first_of f xs ≡ 0 → index_of f xs ≡ length xs
  unfolding first_of index_of
  index_none [] e = refl
  index_none (x ∷ xs) e = go (f x) e (index_none xs)
    where
      go : (n : ℕ) → first n (first_of f xs) ≡ 0 → (first_of f xs ≡ 0 → index_of f xs ≡ length xs) → index_after n (index_of f xs) ≡ suc (length xs)
      go zero e ih = ap suc (ih e)
      go (suc n) e ih = absurd (omega arith)

  -- an element behind one that is numbered, or numbered itself, does not move the index
  pub index_snoc : (xs : List A) (x : A) → (first_of f (xs ++ (x ∷ [])) ≡ 0 → ⊥) → index_of f (xs ++ (x ∷ [])) ≡ index_of f xs
  unfolding first_of index_of
  index_snoc [] x h = go (f x) h
    where
      go : (n : ℕ) → (first n 0 ≡ 0 → ⊥) → index_after n 0 ≡ 0
      go zero h = absurd (h refl)
      go (suc n) h = refl
  index_snoc (y ∷ xs) x h = go (f y) h (index_snoc xs x)
    where
      go : (n : ℕ) → (first n (first_of f (xs ++ (x ∷ []))) ≡ 0 → ⊥) → ((first_of f (xs ++ (x ∷ [])) ≡ 0 → ⊥) → index_of f (xs ++ (x ∷ [])) ≡ index_of f xs)
          → index_after n (index_of f (xs ++ (x ∷ []))) ≡ index_after n (index_of f xs)
      go zero h ih = ap suc (ih h)
      go (suc n) h ih = refl

  pub index_le : (xs : List A) → index_of f xs ≤ length xs
  unfolding index_of
  index_le [] = omega arith
  index_le (x ∷ xs) = go (f x) (index_le xs)
    where
      go : (n : ℕ) → index_of f xs ≤ length xs → index_after n (index_of f xs) ≤ suc (length xs)
      go zero l = omega arith
      go (suc n) l = omega arith

  -- an element that is numbered, behind others that are not
  pub first_behind : (xs : List A) (x : A) (rest : List A) → first_of f xs ≡ 0 → (f x ≡ 0 → ⊥) → first_of f (xs ++ (x ∷ rest)) ≡ f x
  unfolding first_of
  first_behind [] x rest z h = go (f x) h
    where
      go : (n : ℕ) → (n ≡ 0 → ⊥) → first n (first_of f rest) ≡ n
      go zero h = absurd (h refl)
      go (suc n) h = refl
  first_behind (y ∷ xs) x rest z h =
      let (a, b) = first-zero (f y) (first_of f xs) z in
      rw (a, first_behind xs x rest b h)

  pub index_behind : (xs : List A) (x : A) (rest : List A) → first_of f xs ≡ 0 → (f x ≡ 0 → ⊥) → index_of f (xs ++ (x ∷ rest)) ≡ length xs
  unfolding first_of index_of
  index_behind [] x rest z h = go (f x) h
    where
      go : (n : ℕ) → (n ≡ 0 → ⊥) → index_after n (index_of f rest) ≡ 0
      go zero h = absurd (h refl)
      go (suc n) h = refl
  index_behind (y ∷ xs) x rest z h =
      let (a, b) = first-zero (f y) (first_of f xs) z in
      rw (a, index_behind xs x rest b h)

-- ---- the objects of a container, each with those before it

pub standings_snoc : (es os : List Object) (o : Object) → standings es (os ++ (o ∷ [])) ≡ standings es os ++ (record { earlier = es ++ os; object = o } ∷ [])
unfolding standings
standings_snoc es [] o = rw (append-nil es)
standings_snoc es (x ∷ os) o = rw (standings_snoc (es ++ (x ∷ [])) os o, append_assoc es (x ∷ []) os)

pub length-standings : (es os : List Object) → length (standings es os) ≡ length os
unfolding standings
length-standings es [] = refl
length-standings es (o ∷ os) = ap suc (length-standings (es ++ (o ∷ [])) os)
