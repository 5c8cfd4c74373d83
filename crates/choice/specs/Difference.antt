-- On which criterion two unbarred candidates differ first.
use Rattle.std.specs.Prelude.{ℕ, zero, suc, ◌-◌, ◌/◌, ◌%◌, cond, ◌||◌, List, [], ◌∷◌, get_or, eqb, Option, Some, None}
use Rattle.model.specs.Number.{Quantity}
use Rattle.model.specs.declared.Offer.{Offer}
use Rattle.model.specs.Choice.{criteria}
use Rattle.choice.specs.declared.differences.Criterion.{Criterion}
use Rattle.choice.specs.declared.differences.Criterion.TheVariants.{Order, Grounded, Preference, Rank, Current, Position}
use Rattle.choice.specs.declared.differences.Difference.{Difference}

-- one more, where there is one
abbrev pub behind : ℕ → ℕ
behind zero = zero
behind (suc n) = suc (suc n)

-- the number, from 1, of the first place on which two lists differ; 0 for none
unfoldable pub first_difference : List ℕ → List ℕ → ℕ
first_difference [] ys = 0
first_difference (x ∷ xs) [] = 0
first_difference (x ∷ xs) (y ∷ ys) = cond (eqb x y) (behind (first_difference xs ys)) 1

-- what stands at a place, numbered from 1
abbrev pub standing : List ℕ → ℕ → ℕ
standing xs zero = 0
standing xs (suc k) = get_or xs k 0

-- a criterion's number as its field says it: criteria count grounded (2) and the current parent (5) as 0, and root preference (3) from 7 down
abbrev pub shown : (criterion number : ℕ) → ℕ
shown k n = cond (eqb k 2 || eqb k 5) (1 - n) (cond (eqb k 3) (7 - n) n)

-- a criterion by number, 0 for none, and what one and another have there
pub record Differing : Type 0 where
  pub criterion : ℕ
  pub value : ℕ
  pub against : ℕ

abbrev pub differ : (criterion value against : ℕ) → Differing
differ k v a = record { criterion = k; value = v; against = a }

-- what two lists of criteria have at a place
abbrev pub differ_at : List ℕ → List ℕ → (criterion : ℕ) → Differing
differ_at xs ys k = differ k (shown k (standing xs k)) (shown k (standing ys k))

-- the first criterion on which one candidate differs from another, and what the two have there
unfoldable pub difference_of : (current : Quantity) → (position : ℕ) → Offer → (other : ℕ) → Offer → Differing
difference_of q p s b r = differ_at (criteria q p s) (criteria q b r) (first_difference (criteria q p s) (criteria q b r))

-- inside the crate: of two numbers that differ, by their digits
unfoldable pub ahead_difference : (value against : ℕ) → Differing
ahead_difference a b =
    cond (eqb (a / 16) (b / 16))
    (cond (eqb (a / 8 % 2) (b / 8 % 2)) (differ 3 (7 - a % 8) (7 - b % 8)) (differ 2 (1 - a / 8 % 2) (1 - b / 8 % 2)))
    (differ 1 (a / 16) (b / 16))

-- ---- as code has it

-- a criterion's number
abbrev pub number_of : Criterion → ℕ
number_of Order = 1
number_of Grounded = 2
number_of Preference = 3
number_of Rank = 4
number_of Current = 5
number_of Position = 6

-- a difference by numbers
abbrev pub told : Difference → Differing
told d = differ (number_of d.criterion) d.value d.against

-- where there is one
abbrev pub told_of : Option Difference → Differing
told_of (Some d) = told d
told_of None = differ 0 0 0
