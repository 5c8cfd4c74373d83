-- The objects in front of bytes: by the first of them, and against the model's.
use Rattle.std.proofs.Common.{◌≡◌, refl, sym, ◌∙◌, ℕ, zero, suc, ◌-◌, ◌<◌, ◌≤◌, Bool, true, false, cond, List, [], ◌∷◌, length, take, drop, slice_index_or, arith, length-drop}
use Rattle.std.specs.Prelude.{leb}
use Rattle.std.proofs.lemmas.List.{take_all}
use Rattle.std.proofs.Math.Option.{none, some}
use mathlib.Core.Option.{none-ne-some}
use Rattle.model.specs.Object.{Object, object, before, split_up_to, split}
use Rattle.wire.specs.Front.{front_up_to, front, left_up_to, left, whole, FrontExact}

enough : (k j : ℕ) (bs : List ℕ) → length bs ≤ k → length bs ≤ j → (front_up_to k bs ≡ front_up_to j bs) × (left_up_to k bs ≡ left_up_to j bs)
unfolding front_up_to left_up_to
enough zero zero bs h i = (refl, refl)
enough zero (suc j) [] h i = (refl, refl)
enough zero (suc j) (t ∷ bs) h i = absurd (omega arith)
enough (suc k) zero [] h i = (refl, refl)
enough (suc k) zero (t ∷ bs) h i = absurd (omega arith)
enough (suc k) (suc j) [] h i = (refl, refl)
enough (suc k) (suc j) (t ∷ []) h i = (refl, refl)
enough (suc k) (suc j) (t ∷ f ∷ []) h i = (refl, refl)
enough (suc k) (suc j) (t ∷ f ∷ m ∷ []) h i = (refl, refl)
enough (suc k) (suc j) (t ∷ f ∷ m ∷ n ∷ rest) h i =
    let (a, b) = enough k j (drop n rest) (rw length-drop (omega arith)) (rw length-drop (omega arith)) in (rw a, rw b)

pub front_short : (bs : List ℕ) → length bs < 4 → (front bs ≡ []) × (left bs ≡ bs)
unfolding front front_up_to left left_up_to
front_short [] h = (refl, refl)
front_short (t ∷ []) h = (refl, refl)
front_short (t ∷ f ∷ []) h = (refl, refl)
front_short (t ∷ f ∷ m ∷ []) h = (refl, refl)
front_short (t ∷ f ∷ m ∷ n ∷ rest) h = absurd (omega arith)

step : (t f m n : ℕ) (rest : List ℕ)
    → (front (t ∷ f ∷ m ∷ n ∷ rest) ≡ cond (leb n (length rest)) (object t f m (take n rest) ∷ front (drop n rest)) [])
    × (left (t ∷ f ∷ m ∷ n ∷ rest) ≡ cond (leb n (length rest)) (left (drop n rest)) (t ∷ f ∷ m ∷ n ∷ rest))
unfolding front front_up_to left left_up_to
step t f m n rest =
    let (a, b) = enough (suc (suc (suc (length rest)))) (length (drop n rest)) (drop n rest) (rw length-drop (omega arith)) (omega arith) in (rw a, rw b)

pub front_four : (bs : List ℕ) → 4 ≤ length bs
    → (front bs ≡ cond (leb (slice_index_or bs 3 0) (length (drop 4 bs))) (object (slice_index_or bs 0 0) (slice_index_or bs 1 0) (slice_index_or bs 2 0) (take (slice_index_or bs 3 0) (drop 4 bs)) ∷ front (drop (slice_index_or bs 3 0) (drop 4 bs))) [])
    × (left bs ≡ cond (leb (slice_index_or bs 3 0) (length (drop 4 bs))) (left (drop (slice_index_or bs 3 0) (drop 4 bs))) bs)
front_four [] h = absurd (omega arith)
front_four (t ∷ []) h = absurd (omega arith)
front_four (t ∷ f ∷ []) h = absurd (omega arith)
front_four (t ∷ f ∷ m ∷ []) h = absurd (omega arith)
front_four (t ∷ f ∷ m ∷ n ∷ rest) h = step t f m n rest

-- a whole object in front, its body and the rest as a pattern on the slice has them
pub front_found : (bs : List ℕ) → 4 ≤ length bs → slice_index_or bs 3 0 ≤ length (drop 4 bs)
    → (front bs ≡ object (slice_index_or bs 0 0) (slice_index_or bs 1 0) (slice_index_or bs 2 0) (take (slice_index_or bs 3 0) (take (length bs - 4) (drop 4 bs))) ∷ front (drop (slice_index_or bs 3 0) (take (length bs - 4) (drop 4 bs))))
    × (left bs ≡ left (drop (slice_index_or bs 3 0) (take (length bs - 4) (drop 4 bs))))
front_found bs h i = let (a, b) = front_four bs h in rw (take_all (length bs - 4) (drop 4 bs) (rw length-drop (omega arith))) (search (a, b, i, arith))

-- ---- the model's objects

pub one_more : (o : Object) (f : List Object) (l : List ℕ) → before o (whole f l) ≡ whole (o ∷ f) l
one_more o f [] = refl
one_more o f (b ∷ bs) = refl

exact_up_to : (k : ℕ) (bs : List ℕ) → split_up_to k bs ≡ whole (front_up_to k bs) (left_up_to k bs)
unfolding split_up_to front_up_to left_up_to
exact_up_to zero [] = refl
exact_up_to zero (t ∷ bs) = refl
exact_up_to (suc k) [] = refl
exact_up_to (suc k) (t ∷ []) = refl
exact_up_to (suc k) (t ∷ f ∷ []) = refl
exact_up_to (suc k) (t ∷ f ∷ m ∷ []) = refl
exact_up_to (suc k) (t ∷ f ∷ m ∷ n ∷ rest) = go (exact_up_to k (drop n rest)) (leb n (length rest))
  where
    go : split_up_to k (drop n rest) ≡ whole (front_up_to k (drop n rest)) (left_up_to k (drop n rest)) → (b : Bool) → cond b (before (object t f m (take n rest)) (split_up_to k (drop n rest))) none
        ≡ whole (cond b (object t f m (take n rest) ∷ front_up_to k (drop n rest)) []) (cond b (left_up_to k (drop n rest)) (t ∷ f ∷ m ∷ n ∷ rest))
    go ih true = rw ih (one_more (object t f m (take n rest)) (front_up_to k (drop n rest)) (left_up_to k (drop n rest)))
    go ih false = refl

pub front_exact : FrontExact
unfolding split front left
front_exact bs = exact_up_to (length bs) bs

whole-some : (f : List Object) (l : List ℕ) (os : List Object) → whole f l ≡ some os → (f ≡ os) × (l ≡ [])
whole-some f [] os e = (cc, refl)
whole-some f (b ∷ l) os e = absurd (none-ne-some os e)

-- bytes are split exactly where the objects in front are all of them
pub split-front : (bs : List ℕ) (os : List Object) → split bs ≡ some os → (front bs ≡ os) × (left bs ≡ [])
split-front bs os e = whole-some (front bs) (left bs) os (sym (front_exact bs) ∙ e)

pub front-split : (bs : List ℕ) (os : List Object) → front bs ≡ os → left bs ≡ [] → split bs ≡ some os
front-split bs os e l = rw (front_exact bs, e, l) refl
