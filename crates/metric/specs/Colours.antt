-- The sub-objects of colour, two bytes each: the one that counts the hop.
use Rattle.std.specs.Prelude.{ℕ, ◌+◌, ◌*◌, ◌/◌, ◌%◌, Bool, cond, ◌&&◌, List, [], ◌∷◌, ltb, eqb}
use Rattle.model.specs.Constraint.{colour_in}

-- a sub-object that gains the hop's count: the link's colour, and a counter below 63
abbrev pub gains_in : (colour x y : ℕ) → Bool
gains_in v x y = eqb (colour_in x y) v && ltb (y % 64) 63

-- the index of the first that does; where none does, of the end, or of a lone last byte
abbrev pub place_of : (colour : ℕ) → List ℕ → ℕ
place_of v [] = 0
place_of v (x ∷ []) = 0
place_of v (x ∷ y ∷ t) = cond (gains_in v x y) 0 (2 + place_of v t)

-- byte 2 of a constraint: the reserved bits cleared, the colour's two bits and I kept
abbrev pub clear_third : ℕ → ℕ
clear_third z = z / 64 * 64 + z % 2
