-- Bar 16 among many objects: the verdict and its place. Constraints are optional, or repeats, so that bar 19 is never theirs.
use Rattle.std.specs.Prelude.{ℕ, List, [], ◌∷◌, ◌++◌}
use Rattle.model.specs.Samples.{Example, ◌gives◌, verdict_of}
use Rattle.model.specs.Boundaries.Shapes.{zeros, objects}
use Rattle.model.specs.Boundaries.Places.{place_given}

-- a metric of each known type
abbrev pub metrics : List ℕ
metrics =
    zeros 1 0x00 0x10 2 ++ zeros 2 0x00 0x80 2 ++ zeros 3 0x00 0x00 2 ++ zeros 4 0x00 0x80 4 ++ zeros 5 0x00 0x80 4
    ++ zeros 6 0x00 0x80 2 ++ zeros 7 0x00 0x80 2 ++ zeros 8 0x00 0x80 3

-- a constraint of each known type
abbrev pub limits : List ℕ
limits =
    zeros 1 0x03 0x00 2 ++ zeros 2 0x03 0x00 2 ++ zeros 3 0x03 0x00 2 ++ zeros 4 0x03 0x00 4 ++ zeros 5 0x03 0x00 4
    ++ zeros 6 0x03 0x00 2 ++ zeros 7 0x03 0x00 2 ++ zeros 8 0x03 0x00 3

-- type 9 in both uses
abbrev pub both_of_nine : List ℕ
both_of_nine = zeros 9 0x00 0x80 2 ++ zeros 9 0x03 0x00 2

-- the verdict on these bytes of data, with its place
abbrev pub bar_given : (data' : List ℕ) → List ℕ
bar_given bs = verdict_of (objects bs) ∷ place_given (objects bs) ∷ []

-- no bar
abbrev pub fresh : List ℕ
fresh = 10 ∷ 65535 ∷ []

-- bar 16 at an index
abbrev pub repeat_at : (index : ℕ) → List ℕ
repeat_at i = 16 ∷ i ∷ []

abbrev pub repeats : List (Example (List ℕ) (List ℕ))
repeats =
    -- every use once
    (metrics ++ limits) gives fresh
    ∷ (limits ++ metrics) gives fresh
    -- and one of them once more, the seventeenth object, whatever O, R, A and P
    ∷ (metrics ++ limits ++ zeros 1 0x00 0x10 2) gives repeat_at 16
    ∷ (metrics ++ limits ++ zeros 2 0x01 0x10 2) gives repeat_at 16
    ∷ (metrics ++ limits ++ zeros 3 0x04 0x00 2) gives repeat_at 16
    ∷ (metrics ++ limits ++ zeros 4 0x05 0x00 4) gives repeat_at 16
    ∷ (metrics ++ limits ++ zeros 5 0x00 0x20 4) gives repeat_at 16
    ∷ (metrics ++ limits ++ zeros 6 0x00 0x80 3) gives repeat_at 16
    ∷ (metrics ++ limits ++ zeros 7 0xFD 0x1F 2) gives repeat_at 16
    ∷ (metrics ++ limits ++ zeros 8 0x04 0x80 5) gives repeat_at 16
    ∷ (limits ++ metrics ++ zeros 1 0x02 0x00 2) gives repeat_at 16
    ∷ (limits ++ metrics ++ zeros 2 0x03 0x80 2) gives repeat_at 16
    ∷ (limits ++ metrics ++ zeros 3 0x06 0x00 2) gives repeat_at 16
    ∷ (limits ++ metrics ++ zeros 4 0x07 0x00 4) gives repeat_at 16
    ∷ (limits ++ metrics ++ zeros 5 0x03 0x70 4) gives repeat_at 16
    ∷ (limits ++ metrics ++ zeros 6 0x03 0x00 2) gives repeat_at 16
    ∷ (limits ++ metrics ++ zeros 7 0xFF 0xFF 2) gives repeat_at 16
    ∷ (limits ++ metrics ++ zeros 8 0x02 0x00 3) gives repeat_at 16
    -- the first of two repeats, the tenth object
    ∷ (metrics ++ zeros 4 0x03 0x00 4 ++ zeros 7 0x00 0x80 2 ++ zeros 4 0x03 0x00 4) gives repeat_at 9
    -- an object of unknown type between the two, or several
    ∷ (zeros 1 0x00 0x10 2 ++ zeros 0 0x00 0x80 2 ++ zeros 1 0x00 0x10 2) gives repeat_at 2
    ∷ (zeros 7 0x03 0x00 2 ++ zeros 9 0x03 0x00 2 ++ zeros 7 0x03 0x00 2) gives repeat_at 2
    ∷ (zeros 2 0x00 0x80 2 ++ zeros 200 0x00 0x80 0 ++ zeros 9 0x03 0x00 1 ++ zeros 255 0x00 0x00 2 ++ zeros 2 0x00 0x80 2) gives repeat_at 4
    -- types 0 and 9 repeat nothing, themselves neither
    ∷ (zeros 0 0x00 0x80 2 ++ zeros 1 0x00 0x10 2 ++ zeros 0 0x00 0x80 2) gives fresh
    ∷ (zeros 0 0x03 0x00 2 ++ zeros 1 0x03 0x00 2 ++ zeros 0 0x03 0x00 2) gives fresh
    ∷ (both_of_nine ++ both_of_nine ++ metrics ++ limits ++ both_of_nine) gives fresh
    ∷ (metrics ++ limits ++ zeros 0 0x00 0x80 2 ++ zeros 0 0x03 0x00 2) gives fresh
    ∷ []
