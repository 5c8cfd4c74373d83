-- The text that lists a container, in ASCII.
use Rattle.std.specs.Prelude.{ℕ, ◌+◌, ◌/◌, ◌%◌, cond, List, [], ◌∷◌, ◌++◌, length, ltb}
use Rattle.model.specs.Object.{Object, bit_c, bit_o, bit_r, field_a, field_prec}
use Rattle.model.specs.Reading.{Reading, refused, well_formed, reading}

-- ASCII space
abbrev pub space : ℕ
space = 32

-- ASCII line feed
abbrev pub newline : ℕ
newline = 10

-- ASCII digit
abbrev pub digit : ℕ → ℕ
digit d = 48 + d

-- a number below 1000 in decimal
unfoldable pub decimal : ℕ → List ℕ
decimal n =
    cond (ltb n 10) (digit n ∷ []) (cond (ltb n 100) (digit (n / 10) ∷ digit (n % 10) ∷ []) (digit (n / 100) ∷ digit (n / 10 % 10) ∷ digit (n % 10) ∷ []))

-- a line of numbers, one space between
abbrev pub line : ℕ → List ℕ → List ℕ
line n [] = decimal n ++ (newline ∷ [])
line n (m ∷ ms) = decimal n ++ (space ∷ line m ms)

-- type, C, O, R, A, Prec and length, as received
unfoldable pub object_line : Object → List ℕ
object_line o = line o.type (bit_c o ∷ bit_o o ∷ bit_r o ∷ field_a o ∷ field_prec o ∷ length o.body ∷ [])

-- the lines of a container's objects, in order
unfoldable pub object_lines : List Object → List ℕ
object_lines [] = []
object_lines (o ∷ os) = object_line o ++ object_lines os

-- the word `refused` and a space
abbrev pub refused_word : List ℕ
refused_word = 114 ∷ 101 ∷ 102 ∷ 117 ∷ 115 ∷ 101 ∷ 100 ∷ space ∷ []

-- the text for what was read
abbrev pub listing_of : Reading → List ℕ
listing_of (refused n p) = refused_word ++ line n []
listing_of (well_formed os) = object_lines os

-- a line for each object; on bars 13 to 17 one line only
unfoldable pub listing : List ℕ → List ℕ
listing bs = listing_of (reading bs)
