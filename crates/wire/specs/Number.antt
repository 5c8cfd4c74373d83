-- The number in a body of so many bytes.
use Rattle.std.specs.Prelude.{ℕ, cond, List, length, eqb}
use Rattle.model.specs.Number.{number}

-- the number that a body of a width holds; 0 for a body of another length, which no well-formed object of that type has
unfoldable pub number_in : (width : ℕ) → List ℕ → ℕ
number_in w b = cond (eqb (length b) w) (number b) 0
