-- Inside the crate: the pieces of a line of the listing.
use Rattle.std.specs.Prelude.{ℕ, ◌/◌, ◌%◌, cond, ltb, List, [], ◌∷◌, ◌++◌}
use Rattle.model.specs.Listing.{digit, decimal}

-- the digit of a number at a power of ten, where the number reaches it
abbrev pub digit_at : (n power : ℕ) → List ℕ
digit_at n power = cond (ltb n power) [] (digit (n / power % 10) ∷ [])

-- a number in decimal and a byte behind it
abbrev pub number_and : (n end : ℕ) → List ℕ
number_and n end = decimal n ++ (end ∷ [])
