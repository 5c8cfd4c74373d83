-- A number read digit by digit, and the value of a hexadecimal digit.
use Rattle.std.proofs.Common.{◌≡◌, refl, sym, ℕ, ◌+◌, ◌-◌, ◌*◌, ◌<◌, Bool, true, false, cond, ◌&&◌, leb, List, [], ◌∷◌, length, Option, Some, None, Result, Ok, Err, ◌==◌, arith}
use Rattle.std.proofs.lemmas.Bool.{false≢true}
use Rattle.std.proofs.lemmas.Bool.Decides.{nat_tests}
use Rattle.std.specs.Option.{SomeIff}
use Rattle.std.specs.Char.{digit_value}
use borrow.Author.Tests.{lt-leb, leb-false, eqb-true}
use Rattle.words.specs.declared.digits.NotDecimal.{NotDecimal}
use Rattle.words.specs.declared.digits.NotDecimal.TheVariants.{TooLarge, NotANumber}
use Rattle.words.specs.Digits.{is_digit, all_digits, number_from, most, fitted, decimal_of, digit_of}

-- ---- decimal

-- a number where it has 64 bits at most
abbrev pub held : ℕ → Option ℕ
held n = cond (leb n most) (Some n) None

-- a number with one digit more
abbrev pub more : Option ℕ → (digit : ℕ) → Option ℕ
more None d = None
more (Some n) d = held (n * 10 + d)

-- a number that is read on
abbrev pub read_on : Option ℕ → List ℕ → Result ℕ NotDecimal
read_on None [] = Err TooLarge
read_on (Some n) [] = Ok n
read_on n (d ∷ ds) = cond (is_digit d) (read_on (more n (d - 48)) ds) (Err NotANumber)

-- one digit more to a number of any size
more-held : (n d : ℕ) → more (held n) d ≡ held (n * 10 + d)
more-held n d = go (leb n most) refl
  where
    go : (b : Bool) → leb n most ≡ b → more (cond b (Some n) None) d ≡ held (n * 10 + d)
    go true e = refl
    go false e = rw (lt-leb (n * 10 + d) most (let h = leb-false n most e in omega arith)) refl

-- reading on is reading the whole
read_on-held : (n : ℕ) (bs : List ℕ) → read_on (held n) bs ≡ cond (all_digits bs) (fitted (number_from n bs)) (Err NotANumber)
unfolding all_digits number_from fitted
read_on-held n [] = go (leb n most)
  where
    go : (b : Bool) → read_on (cond b (Some n) None) [] ≡ cond b (Ok n) (Err TooLarge)
    go true = refl
    go false = refl
read_on-held n (d ∷ ds) = go (is_digit d) (read_on-held (n * 10 + (d - 48)) ds)
  where
    go : (b : Bool) → read_on (held (n * 10 + (d - 48))) ds ≡ cond (all_digits ds) (fitted (number_from (n * 10 + (d - 48)) ds)) (Err NotANumber)
        → cond b (read_on (more (held n) (d - 48)) ds) (Err NotANumber) ≡ cond (b && all_digits ds) (fitted (number_from (n * 10 + (d - 48)) ds)) (Err NotANumber)
    go true ih = rw (more-held n (d - 48)) ih
    go false ih = refl

-- an empty word, and the whole of another
pub read_none : (bs : List ℕ) → length bs == 0 ≡ true → Err NotANumber ≡ decimal_of bs
unfolding decimal_of
read_none [] e = refl
read_none (d ∷ ds) e = let none = eqb-true (length (d ∷ ds)) 0 e in absurd (omega arith)

pub read_whole : (bs : List ℕ) → length bs == 0 ≡ false → decimal_of bs ≡ read_on (Some 0) bs
unfolding decimal_of
read_whole [] e = absurd (false≢true (sym e))
read_whole (d ∷ ds) e = sym (read_on-held 0 (d ∷ ds))

-- ---- hexadecimal

-- the value of a digit by the library's
pub digit_by_value : {b : ℕ} (c : ℕ) (r : Option ℕ) → SomeIff r (digit_value c < 16) (digit_value c) → c ≡ b → r ≡ digit_of b
unfolding digit_of
digit_by_value c None h e = grind (arith, nat_tests)
digit_by_value c (Some v) h e = grind (arith, nat_tests)
