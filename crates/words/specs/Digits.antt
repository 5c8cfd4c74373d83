-- Numbers in decimal and bytes in hexadecimal, by the ASCII codes of their digits.
use Rattle.std.specs.Prelude.{ℕ, ◌+◌, ◌-◌, ◌*◌, Bool, true, cond, ◌&&◌, List, [], ◌∷◌, ltb, leb, Option, Some, None, Result, Ok, Err}
use Rattle.words.specs.declared.digits.NotDecimal.{NotDecimal}
use Rattle.words.specs.declared.digits.NotDecimal.TheVariants.{TooLarge, NotANumber}

-- ---- decimal

-- a decimal digit
abbrev pub is_digit : ℕ → Bool
is_digit b = leb 48 b && leb b 57

-- digits only
unfoldable pub all_digits : List ℕ → Bool
all_digits [] = true
all_digits (d ∷ ds) = is_digit d && all_digits ds

-- the number that digits denote behind a number that is read already
unfoldable pub number_from : (n : ℕ) → List ℕ → ℕ
number_from n [] = n
number_from n (d ∷ ds) = number_from (n * 10 + (d - 48)) ds

-- the largest number of 64 bits
abbrev pub most : ℕ
most = 18446744073709551615

-- a number where it has 64 bits at most
unfoldable pub fitted : ℕ → Result ℕ NotDecimal
fitted n = cond (leb n most) (Ok n) (Err TooLarge)

-- what a word spells: it has a digit at least, and digits only
unfoldable pub decimal_of : List ℕ → Result ℕ NotDecimal
decimal_of [] = Err NotANumber
decimal_of (d ∷ ds) = cond (all_digits (d ∷ ds)) (fitted (number_from 0 (d ∷ ds))) (Err NotANumber)

-- ---- hexadecimal

-- the value of a digit, small or capital; none for any other byte
unfoldable pub digit_of : ℕ → Option ℕ
digit_of b =
    cond (ltb b 48) None
    (cond (leb b 57) (Some (b - 48))
    (cond (ltb b 65) None
    (cond (leb b 70) (Some (b - 55))
    (cond (ltb b 97) None
    (cond (leb b 102) (Some (b - 87)) None)))))

-- the byte of two values, where each is one
abbrev pub joined : (high low : Option ℕ) → Option ℕ
joined None low = None
joined (Some h) None = None
joined (Some h) (Some l) = Some (h * 16 + l)

-- the byte of two digits
unfoldable pub byte_of : (high low : ℕ) → Option ℕ
byte_of high low = joined (digit_of high) (digit_of low)
