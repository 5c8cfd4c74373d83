-- Inside the crate: a sum that fits its field, or does not.
use Rattle.std.specs.Prelude.{ℕ, ◌+◌, cond, leb, Option, None, Some}

-- the whole-number sum where it is at most the field's maximum
abbrev pub sum_in : (most x v : ℕ) → Option ℕ
sum_in most x v = cond (leb (x + v) most) (Some (x + v)) None
