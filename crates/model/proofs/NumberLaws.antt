-- The first case that holds, and the first element that a test numbers.
use mathlib.Core.Path.{◌≡◌, refl, ap, ◌∙◌}
use Prim.Native.Nat.{ℕ, zero, suc, ◌<◌}
use native.Mathlib.Nat.{not-suc-le-zero}
use native.Mathlib.Omega.{arith}
use mathlib.Core.Bool.{Bool, true, false, cond, not, ◌&&◌, ◌||◌, false≢true, true≢false}
use mathlib.Core.List.{List, [], ◌∷◌, ◌++◌, map}
use mathlib.Core.Logic.{◌↔◌}
use mathlib.Core.Option.{some, none-ne-some}
use lib.ListN.{take, get_or, get_elem?}
use lib.Dec.{eqb}
use borrow.Author.Tests.{eqb-true, eqb-false, not-true}
use Rattle.model.specs.Number.{any_of, Case, first_case, first, first_of, index_after, index_of}
use Rattle.model.proofs.BoolLaws.{both, neither}
use Rattle.model.specs.Exact.{NoneOf, FirstToHold, FirstWith}

-- ---- the first case that holds

abbrev holding : List Case → List Bool
holding cs = map (λ c. c.holds) cs

-- a number is neither 0 nor that of a case
abbrev pub absent : ℕ → List Case → Bool
absent n [] = not (eqb 0 n)
absent n (c ∷ cs) = not (eqb c.number n) && absent n cs

other : (m n : ℕ) → not (eqb m n) ≡ true → m ≡ n → ⊥
other m n h e = eqb-false m n (not-true (eqb m n) h) e

absent_not : (n : ℕ) (cs : List Case) → absent n cs ≡ true → first_case cs ≡ n → ⊥
absent_not n [] h e = other 0 n h e
absent_not n (c ∷ cs) h e = let (p, q) = both (not (eqb c.number n)) (absent n cs) h in go c.holds p (absent_not n cs q) e
  where
    go : (b : Bool) → not (eqb c.number n) ≡ true → (first_case cs ≡ n → ⊥) → cond b c.number (first_case cs) ≡ n → ⊥
    go true p ih e = other c.number n p e
    go false p ih e = ih e

-- the number of the case at an index, which no other case has
abbrev pub number_at : List Case → ℕ → ℕ
number_at cs k = get_or (map (λ c. c.number) cs) k 0

abbrev pub alone : List Case → ℕ → Bool
alone [] k = false
alone (c ∷ cs) zero = absent c.number cs
alone (c ∷ cs) (suc k) = not (eqb c.number (number_at cs k)) && alone cs k

-- a number is given exactly when its case holds and none before it does
pub exact : (cs : List Case) (k : ℕ) → alone cs k ≡ true → (first_case cs ≡ number_at cs k) ↔ FirstToHold (take k (holding cs)) (get_or (holding cs) k false)
exact [] k h = absurd (false≢true h)
exact (c ∷ cs) zero h = go c.holds (absent_not c.number cs h)
  where
    go : (t : Bool) → (first_case cs ≡ c.number → ⊥) → (cond t c.number (first_case cs) ≡ c.number) ↔ FirstToHold [] t
    go true x = (λ e. (refl, refl), λ f. refl)
    go false x = (λ e. absurd (x e), λ f. absurd (false≢true f.1))
exact (c ∷ cs) (suc k) h = let (p, q) = both (not (eqb c.number (number_at cs k))) (alone cs k) h in go c.holds p (exact cs k q)
  where
    go : (t : Bool) → not (eqb c.number (number_at cs k)) ≡ true → ((first_case cs ≡ number_at cs k) ↔ FirstToHold (take k (holding cs)) (get_or (holding cs) k false))
        → (cond t c.number (first_case cs) ≡ number_at cs k) ↔ ((t || any_of (λ x. x) (take k (holding cs)) ≡ false) × (get_or (holding cs) k false ≡ true))
    go true p ih = (λ e. absurd (other c.number (number_at cs k) p e), λ f. absurd (true≢false f.0))
    go false p ih = ih

abbrev pub nonzero : List Case → Bool
nonzero [] = true
nonzero (c ∷ cs) = not (eqb c.number 0) && nonzero cs

-- no number is given exactly when no case holds
pub exact_none : (cs : List Case) → nonzero cs ≡ true → (first_case cs ≡ 0) ↔ NoneOf (holding cs)
exact_none [] h = (λ e. refl, λ e. refl)
exact_none (c ∷ cs) h = let (p, q) = both (not (eqb c.number 0)) (nonzero cs) h in go c.holds p (exact_none cs q)
  where
    go : (t : Bool) → not (eqb c.number 0) ≡ true → ((first_case cs ≡ 0) ↔ NoneOf (holding cs)) → (cond t c.number (first_case cs) ≡ 0) ↔ (t || any_of (λ x. x) (holding cs) ≡ false)
    go true p ih = (λ e. absurd (other c.number 0 p e), λ f. absurd (true≢false f))
    go false p ih = ih

-- ---- none of two lists of conditions

pub none_both : (xs ys : List Bool) → NoneOf xs → NoneOf ys → NoneOf (xs ++ ys)
none_both [] ys p q = q
none_both (x ∷ xs) ys p q = let (a, b) = neither x (any_of (λ z. z) xs) p in rw a (none_both xs ys b q)

pub none_parts : (xs ys : List Bool) → NoneOf (xs ++ ys) → NoneOf xs × NoneOf ys
none_parts [] ys p = (refl, p)
none_parts (x ∷ xs) ys p = let (a, b) = neither x (any_of (λ z. z) (xs ++ ys)) p in let (u, v) = none_parts xs ys b in (rw a u, v)

-- ---- numbers given or not

abbrev pub is_given : ℕ → Bool
is_given zero = false
is_given (suc n) = true

pub given_case : (cs : List Case) → nonzero cs ≡ true → is_given (first_case cs) ≡ any_of (λ x. x) (holding cs)
given_case [] h = refl
given_case (c ∷ cs) h = let (p, q) = both (not (eqb c.number 0)) (nonzero cs) h in go c.holds c.number p (given_case cs q)
  where
    go : (t : Bool) (n : ℕ) → not (eqb n 0) ≡ true → is_given (first_case cs) ≡ any_of (λ x. x) (holding cs)
        → is_given (cond t n (first_case cs)) ≡ t || any_of (λ x. x) (holding cs)
    go true zero e ih = e
    go true (suc n) e ih = refl
    go false n e ih = ih

pub given_first : (a b : ℕ) → is_given (first a b) ≡ is_given a || is_given b
given_first zero b = refl
given_first (suc a) b = refl

pub given_none : (n : ℕ) → is_given n ≡ false → n ≡ 0
given_none zero e = refl
given_none (suc n) e = absurd (true≢false e)

pub first-zero : (a b : ℕ) → first a b ≡ 0 → (a ≡ 0) × (b ≡ 0)
first-zero zero b e = (refl, e)
first-zero (suc a) b e = absurd (omega arith)

-- ---- the first element that a test numbers

-- what holds of 0 and of every number that the test gives holds of the first
pub first_of_all : {A : Type 0} (P : ℕ → Type 0) (f : A → ℕ) → P 0 → ((x : A) → P (f x)) → (xs : List A) → P (first_of f xs)
unfolding first_of
first_of_all P f z h [] = z
first_of_all P f z h (x ∷ xs) = go (f x) (h x) (first_of_all P f z h xs)
  where
    go : (n : ℕ) → P n → P (first_of f xs) → P (first n (first_of f xs))
    go zero p q = q
    go (suc n) p q = p

pub given_first_of : {A : Type 0} (f : A → ℕ) (g : A → Bool) → ((x : A) → is_given (f x) ≡ g x) → (xs : List A) → is_given (first_of f xs) ≡ any_of g xs
unfolding first_of
given_first_of f g h [] = refl
given_first_of f g h (x ∷ xs) = given_first (f x) (first_of f xs) ∙ rw (h x, given_first_of f g h xs)

-- the element at an index is the first that the test numbers
pub record FirstAt {A : Type 0} (f : A → ℕ) (xs : List A) (n index : ℕ) : Type 0 where
  pub element : A
  pub stands : get_elem? xs index ≡ some element
  pub gives : f element ≡ n
  pub clear : (i : ℕ) (x : A) → i < index → get_elem? xs i ≡ some x → f x ≡ 0

first_here : {A : Type 0} (f : A → ℕ) (x : A) (xs : List A) (n : ℕ) → f x ≡ n → FirstAt f (x ∷ xs) n 0
first_here f x xs n e = record { element = x; stands = refl; gives = e; clear = λ i y h s. absurd (not-suc-le-zero h) }

first_later : {A : Type 0} (f : A → ℕ) (x : A) (xs : List A) (n index : ℕ) → f x ≡ 0 → FirstAt f xs n index → FirstAt f (x ∷ xs) n (suc index)
first_later {A} f x xs n index e a = record { element = a.element; stands = a.stands; gives = a.gives; clear = clear }
  where
    clear : (i : ℕ) (y : A) → i < suc index → get_elem? (x ∷ xs) i ≡ some y → f y ≡ 0
    clear zero y h s = let q : x ≡ y = cc in rw (← q) e
    clear (suc i) y h s = a.clear i y (omega arith) s

pub first_of_at : {A : Type 0} (f : A → ℕ) (xs : List A) (n : ℕ) → first_of f xs ≡ suc n → FirstAt f xs (suc n) (index_of f xs)
unfolding first_of index_of
first_of_at f [] n e = absurd (omega arith)
first_of_at f (x ∷ xs) n e = go (f x) refl e (first_of_at f xs n)
  where
    go : (m : ℕ) → f x ≡ m → first m (first_of f xs) ≡ suc n → (first_of f xs ≡ suc n → FirstAt f xs (suc n) (index_of f xs)) → FirstAt f (x ∷ xs) (suc n) (index_after m (index_of f xs))
    go zero q e ih = first_later f x xs (suc n) (index_of f xs) q (ih e)
    go (suc m) q e ih = first_here f x xs (suc n) (q ∙ e)

pub at_first_of : {A : Type 0} (f : A → ℕ) (xs : List A) (n index : ℕ) → FirstAt f xs (suc n) index → (first_of f xs ≡ suc n) × (index_of f xs ≡ index)
unfolding first_of index_of
at_first_of f [] n index a = absurd (none-ne-some a.element a.stands)
at_first_of f (x ∷ xs) n zero a =
    let q : x ≡ a.element = let s = a.stands in cc in
    let g : f x ≡ suc n = rw q a.gives in
    rw g (refl, refl)
at_first_of f (x ∷ xs) n (suc index) a =
    let z : f x ≡ 0 = a.clear 0 x (omega arith) refl in
    let ih = at_first_of f xs n index record { element = a.element; stands = a.stands; gives = a.gives; clear = λ i y h s. a.clear (suc i) y (omega arith) s } in
    rw z (ih.0, ap suc ih.1)

-- the same in the words of the statements: which property of a group the element has
pub first_with : {A : Type 0} (f : A → ℕ) (xs : List A) (n : ℕ) (group lower : List (A → Bool)) (property : A → Bool)
    → ((x : A) → (f x ≡ suc n) ↔ FirstToHold (map (λ t. t x) lower) (property x))
    → ((x : A) → (f x ≡ 0) ↔ (any_of (λ t. t x) group ≡ false))
    → (index : ℕ) → ((first_of f xs ≡ suc n) × (index_of f xs ≡ index)) ↔ FirstWith xs group lower property index
first_with f xs n group lower property has clear index = (
  λ e. let a = first_of_at f xs n e.0 in
      rw (← e.1) record { element = a.element; stands = a.stands; has = (has a.element).0 a.gives; clear = λ i x h s. (clear x).0 (a.clear i x h s) },
  λ w. at_first_of f xs n index record { element = w.element; stands = w.stands; gives = (has w.element).1 w.has; clear = λ i x h s. (clear x).1 (w.clear i x h s) },
)

-- ---- a test of every number below a bound, by computation

abbrev pub all_below : ℕ → (ℕ → Bool) → Bool
all_below zero f = true
all_below (suc n) f = f n && all_below n f

pub below_all : (n : ℕ) (f : ℕ → Bool) → all_below n f ≡ true → (k : ℕ) → k < n → f k ≡ true
below_all zero f h k l = absurd (not-suc-le-zero l)
below_all (suc n) f h k l = let (p, q) = both (f n) (all_below n f) h in go (eqb k n) refl (below_all n f q k) p
  where
    go : (b : Bool) → eqb k n ≡ b → (k < n → f k ≡ true) → f n ≡ true → f k ≡ true
    go true e ih p = rw (eqb-true k n e) p
    go false e ih p = ih (let d = eqb-false k n e in omega arith)
