-- Inside the crate: mandatory constraints among objects, by the bits of a number: bit f is 1 where flags are f, of their low five bits.
use Rattle.std.specs.Prelude.{ℕ, Bool, List, [], ◌∷◌}
use Rattle.model.specs.Number.{any_of}
use Rattle.wire.specs.Row.{has_bit}

-- the low five bits of a mandatory constraint's flags: C=1 and O=0, so that they are 2 modulo 4
abbrev pub mandatory_flags : List ℕ
mandatory_flags = 2 ∷ 6 ∷ 10 ∷ 14 ∷ 18 ∷ 22 ∷ 26 ∷ 30 ∷ []

-- one of these bits is 1
unfoldable pub shows_mandatory : (bits : ℕ) → Bool
shows_mandatory n = any_of (has_bit n) mandatory_flags
