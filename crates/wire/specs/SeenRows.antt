-- The bits of uses, at their boundaries.
use Rattle.std.specs.Prelude.{ℕ, List, [], ◌∷◌}
use Rattle.model.specs.Object.{Object, object}
use Rattle.model.specs.Samples.{Example, ◌gives◌, Holds}
use Rattle.wire.specs.Seen.{seen_after}

-- an object by header bytes 0 to 2
abbrev pub header : (type flags mode : ℕ) → Object
header t f m = object t f m []

abbrev pub bits : List (Example (List Object) ℕ)
bits =
    [] gives 0x0000
    -- each type as a metric and as a constraint, whatever O, P, R and A
    ∷ (header 1 0x00 0x00 ∷ []) gives 0x0001
    ∷ (header 1 0xFD 0xFF ∷ []) gives 0x0001
    ∷ (header 1 0x02 0x00 ∷ []) gives 0x0002
    ∷ (header 1 0xFF 0xFF ∷ []) gives 0x0002
    ∷ (header 2 0x00 0x80 ∷ []) gives 0x0004
    ∷ (header 2 0x03 0x00 ∷ []) gives 0x0008
    ∷ (header 3 0x04 0x00 ∷ []) gives 0x0010
    ∷ (header 3 0x02 0x80 ∷ []) gives 0x0020
    ∷ (header 4 0x01 0x00 ∷ []) gives 0x0040
    ∷ (header 4 0x06 0x10 ∷ []) gives 0x0080
    ∷ (header 5 0x05 0x20 ∷ []) gives 0x0100
    ∷ (header 5 0x07 0x00 ∷ []) gives 0x0200
    ∷ (header 6 0x00 0x80 ∷ []) gives 0x0400
    ∷ (header 6 0x02 0x00 ∷ []) gives 0x0800
    ∷ (header 7 0x00 0x00 ∷ []) gives 0x1000
    ∷ (header 7 0x02 0x00 ∷ []) gives 0x2000
    ∷ (header 8 0x00 0x80 ∷ []) gives 0x4000
    ∷ (header 8 0x03 0x00 ∷ []) gives 0x8000
    -- types that are not known, in either use, once and twice
    ∷ (header 0 0x00 0x00 ∷ header 0 0x02 0x00 ∷ header 0 0x02 0x00 ∷ []) gives 0x0000
    ∷ (header 9 0x00 0x80 ∷ header 9 0x00 0x80 ∷ []) gives 0x0000
    ∷ (header 9 0x02 0x00 ∷ header 9 0x02 0x00 ∷ []) gives 0x0000
    ∷ (header 10 0x00 0x00 ∷ header 255 0x02 0x00 ∷ []) gives 0x0000
    -- a use twice, next to each other and apart; both uses; with an unknown type between
    ∷ (header 1 0x00 0x00 ∷ header 1 0x00 0x00 ∷ []) gives 0x0001
    ∷ (header 7 0x02 0x00 ∷ header 1 0x00 0x00 ∷ header 7 0x02 0x00 ∷ []) gives 0x2001
    ∷ (header 8 0x02 0x00 ∷ header 8 0x00 0x80 ∷ header 8 0x02 0x00 ∷ []) gives 0xC000
    ∷ (header 1 0x00 0x00 ∷ header 1 0x02 0x00 ∷ []) gives 0x0003
    ∷ (header 1 0x02 0x00 ∷ header 0 0x00 0x00 ∷ header 7 0x00 0x00 ∷ header 9 0x02 0x00 ∷ []) gives 0x1002
    ∷ []

abbrev pub SeenRows : Type 0
SeenRows = Holds seen_after bits
