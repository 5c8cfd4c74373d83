-- Numbers: known or not, big-endian fields, and the first of several numbered cases that holds.
use Rattle.std.specs.Prelude.{ℕ, zero, suc, ◌+◌, ◌*◌, ◌/◌, ◌%◌, ◌^◌, Bool, true, false, cond, ◌||◌, List, [], ◌∷◌, eqb, Option, None, Some}

-- a number that is known, or is not
abbrev pub Quantity : Type 0
Quantity = Option ℕ

-- a bit that is 1
abbrev pub is_set : ℕ → Bool
is_set b = eqb b 1

-- a value that is known where its bit is 1
abbrev pub known_if : (bit value : ℕ) → Quantity
known_if b v = cond (is_set b) (Some v) None

-- a known number satisfies a test; an unknown one satisfies none
abbrev pub satisfies : (ℕ → Bool) → Quantity → Bool
satisfies f (Some v) = f v
satisfies f None = false

-- a number that is not known
abbrev pub is_unknown : Quantity → Bool
is_unknown (Some v) = false
is_unknown None = true

-- the number that big-endian bytes hold, behind the number of those before them
abbrev pub number_from : ℕ → List ℕ → ℕ
number_from n [] = n
number_from n (b ∷ bs) = number_from (n * 256 + b) bs

-- the number that big-endian bytes hold
unfoldable pub number : List ℕ → ℕ
number bs = number_from 0 bs

-- a number in big-endian bytes
abbrev pub big_endian : (width value : ℕ) → List ℕ
big_endian zero v = []
big_endian (suc k) v = v / 256 ^ k % 256 ∷ big_endian k v

-- some element of a list has a property
abbrev pub any_of {ℓ} : {A : Type ℓ} → (A → Bool) → List A → Bool
any_of f [] = false
any_of f (x ∷ xs) = f x || any_of f xs

-- a number of document 01, and whether its condition holds
pub record Case : Type 0 where
  pub number : ℕ
  pub holds : Bool

-- a number beside its condition
infix 80 ◌when◌
abbrev pub ◌when◌ : ℕ → Bool → Case
n when b = record { number = n; holds = b }

-- the number of the first case that holds; 0 where none does
abbrev pub first_case : List Case → ℕ
first_case [] = 0
first_case (c ∷ cs) = cond c.holds c.number (first_case cs)

-- the first of two numbers that is not 0
abbrev pub first : ℕ → ℕ → ℕ
first zero b = b
first (suc a) b = suc a

-- the first number other than 0 that a test gives in a list
unfoldable pub first_of {ℓ} : {A : Type ℓ} → (A → ℕ) → List A → ℕ
first_of f [] = 0
first_of f (x ∷ xs) = first (f x) (first_of f xs)

-- 0 where a number is given here, else one more than the index in the rest
abbrev pub index_after : ℕ → ℕ → ℕ
index_after zero i = suc i
index_after (suc n) i = 0

-- the index of the element at which the test gives that number
unfoldable pub index_of {ℓ} : {A : Type ℓ} → (A → ℕ) → List A → ℕ
index_of f [] = 0
index_of f (x ∷ xs) = index_after (f x) (index_of f xs)
