-- Elements of lists, through map and append.
use mathlib.Core.Path.{◌≡◌, refl, sym, ap, ◌∙◌}
use Prim.Native.Nat.{ℕ, zero, suc, ◌-◌, ◌≤◌, ◌<◌}
use native.Mathlib.Omega.{arith}
use mathlib.Core.Bool.{Bool, true, false, ◌||◌, or_assoc}
use mathlib.Core.List.{List, [], ◌∷◌, ◌++◌, map}
use mathlib.Core.Option.{some, none-ne-some}
use lib.ListN.{length, get_or, get_elem?, replicate, length-append, length-replicate}
use Rattle.model.specs.Number.{any_of}
use Rattle.model.proofs.BoolLaws.{neither}

pub at_below : {A : Type 0} (xs : List A) (i : ℕ) (x : A) → get_elem? xs i ≡ some x → i < length xs
at_below [] i x e = absurd (none-ne-some x e)
at_below (y ∷ xs) zero x e = omega arith
at_below (y ∷ xs) (suc i) x e = let h = at_below xs i x e in omega arith

-- what stands at an index has others before and behind it
pub at_split : {A : Type 0} (xs : List A) (i : ℕ) (x : A) → get_elem? xs i ≡ some x → (es : List A) × (rest : List A) × (xs ≡ es ++ (x ∷ rest))
at_split [] i x e = absurd (none-ne-some x e)
at_split (y ∷ xs) zero x e = let q : y ≡ x = cc in ([], xs, rw q)
at_split (y ∷ xs) (suc i) x e = let (es, rest, q) = at_split xs i x e in (y ∷ es, rest, ap (λ l. y ∷ l) q)

pub at_map : {A B : Type 0} (f : A → B) (xs : List A) (i : ℕ) (x : A) → get_elem? xs i ≡ some x → get_elem? (map f xs) i ≡ some (f x)
at_map f [] i x e = absurd (none-ne-some x e)
at_map f (y ∷ xs) zero x e = let q : y ≡ x = cc in rw q
at_map f (y ∷ xs) (suc i) x e = at_map f xs i x e

pub map_at : {A B : Type 0} (f : A → B) (xs : List A) (i : ℕ) (y : B) → get_elem? (map f xs) i ≡ some y → (x : A) × (get_elem? xs i ≡ some x) × (f x ≡ y)
map_at f [] i y e = absurd (none-ne-some y e)
map_at f (x ∷ xs) zero y e = (x, refl, cc)
map_at f (x ∷ xs) (suc i) y e = map_at f xs i y e

-- where no element passes a test, the one at an index does not
pub none_at : {A : Type 0} (p : A → Bool) (xs : List A) (i : ℕ) (x : A) → any_of p xs ≡ false → get_elem? xs i ≡ some x → p x ≡ false
none_at p [] i x h e = absurd (none-ne-some x e)
none_at p (y ∷ xs) zero x h e = let q : y ≡ x = cc in rw (← q) (neither (p y) (any_of p xs) h).0
none_at p (y ∷ xs) (suc i) x h e = none_at p xs i x (neither (p y) (any_of p xs) h).1 e

-- the element of a list with anything behind it
pub get_d_at : {A : Type 0} (xs behind : List A) (i : ℕ) (x d : A) → get_elem? xs i ≡ some x → get_or (xs ++ behind) i d ≡ x
get_d_at [] behind i x d e = absurd (none-ne-some x e)
get_d_at (y ∷ xs) behind zero x d e = cc
get_d_at (y ∷ xs) behind (suc i) x d e = get_d_at xs behind i x d e

get_or_same : {A : Type 0} (n i : ℕ) (x : A) → get_or (replicate n x) i x ≡ x
get_or_same zero i x = refl
get_or_same (suc n) zero x = refl
get_or_same (suc n) (suc i) x = get_or_same n i x

pub get_d_past : {A : Type 0} (xs : List A) (n : ℕ) (d : A) (i : ℕ) → length xs ≤ i → get_or (xs ++ replicate n d) i d ≡ d
get_d_past [] n d i h = get_or_same n i d
get_d_past (x ∷ xs) n d zero h = absurd (omega arith)
get_d_past (x ∷ xs) n d (suc i) h = get_d_past xs n d i (omega arith)

pub any_map : {A B : Type 0} (p : B → Bool) (f : A → B) (xs : List A) → any_of p (map f xs) ≡ any_of (λ x. p (f x)) xs
any_map p f [] = refl
any_map p f (x ∷ xs) = rw (any_map p f xs)

pub any_append : {A : Type 0} (f : A → Bool) (xs ys : List A) → any_of f (xs ++ ys) ≡ any_of f xs || any_of f ys
any_append f [] ys = refl
any_append f (x ∷ xs) ys = rw (any_append f xs ys) (sym (or_assoc (f x) (any_of f xs) (any_of f ys)))

pub any_or : {A : Type 0} (f g : A → Bool) (xs : List A) → any_of (λ x. f x || g x) xs ≡ any_of f xs || any_of g xs
any_or f g [] = refl
any_or f g (x ∷ xs) = go (f x) (g x) (any_of f xs) (any_of g xs) (any_or f g xs)
  where
    go : (a b c d : Bool) → any_of (λ x. f x || g x) xs ≡ c || d → (a || b) || any_of (λ x. f x || g x) xs ≡ (a || c) || (b || d)
    go true b c d e = refl
    go false true true d e = refl
    go false true false d e = refl
    go false false c d e = e

pub any_same : {A : Type 0} (p q : A → Bool) → ((x : A) → p x ≡ q x) → (xs : List A) → any_of p xs ≡ any_of q xs
any_same p q h [] = refl
any_same p q h (x ∷ xs) = rw (h x, any_same p q h xs)

-- filled up to a length
pub length_filled : {A : Type 0} (n : ℕ) (xs : List A) (d : A) → length xs ≤ n → length (xs ++ replicate (n - length xs) d) ≡ n
length_filled n xs d h = length-append xs (replicate (n - length xs) d) ∙ rw (length-replicate (n - length xs) d) (omega arith)
