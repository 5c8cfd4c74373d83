-- Bars 11, 12 and 14, on each side of each boundary; runs of several options have their own.
use Rattle.std.specs.Prelude.{ℕ, List, [], ◌∷◌, ◌++◌, replicate}
use Rattle.model.specs.declared.Neighbour.{Neighbour}
use Rattle.model.specs.Samples.{Example, ◌gives◌, own0, ranked, neighbour0, node_of, lql_of, empty, one, candidate, Calling, calling, single, hop}

-- ---- bar 11

-- a candidate with an empty container
abbrev pub numbers_of : Neighbour → Calling
numbers_of c = single own0 c empty

abbrev pub numbers : List (Example Calling ℕ)
numbers =
    -- Sp 0, 1, 9 and 10
    numbers_of (ranked 256 1 0 0) gives 11
    ∷ numbers_of (ranked 256 1 1 0) gives 10
    ∷ numbers_of (ranked 256 1 9 0) gives 10
    ∷ numbers_of (ranked 256 1 10 0) gives 11
    -- Rf 0, 1, 4 and 5
    ∷ numbers_of (ranked 256 0 1 0) gives 11
    ∷ numbers_of (ranked 256 1 1 0) gives 10
    ∷ numbers_of (ranked 256 4 1 0) gives 10
    ∷ numbers_of (ranked 256 5 1 0) gives 11
    -- Sr 5 and 6
    ∷ numbers_of (ranked 256 1 1 5) gives 10
    ∷ numbers_of (ranked 256 1 1 6) gives 11
    -- LQL 7 and 8
    ∷ numbers_of (lql_of 7) gives 10
    ∷ numbers_of (lql_of 8) gives 11
    -- type 3 and 4
    ∷ numbers_of (node_of 3 0x00 0) gives 10
    ∷ numbers_of (node_of 4 0x00 0) gives 11
    -- before bars 12 and 20
    ∷ calling own0 (candidate (ranked 65535 0 0 6) 0 1 ∷ []) [] gives 11
    ∷ []

-- ---- bar 12

-- a candidate's run by start and length in the lent bytes
abbrev pub part : (start size : ℕ) → (lent : List ℕ) → Calling
part s n lent = calling own0 (candidate neighbour0 s n ∷ []) lent

abbrev pub parts : List (Example Calling ℕ)
parts =
    -- ending exactly at the end, and one past it
    part 0 2 (0x02 ∷ 0x00 ∷ []) gives 10
    ∷ part 0 3 (0x02 ∷ 0x00 ∷ []) gives 12
    ∷ part 1 2 (0xAA ∷ 0x02 ∷ 0x00 ∷ []) gives 10
    ∷ part 2 2 (0xAA ∷ 0x02 ∷ 0x00 ∷ []) gives 12
    -- in the middle: only the part is read
    ∷ part 1 2 (0xAA ∷ 0x02 ∷ 0x00 ∷ 0xAA ∷ []) gives 10
    -- an empty part at the very end, and one further
    ∷ part 2 0 (0x02 ∷ 0x00 ∷ []) gives 10
    ∷ part 3 0 (0x02 ∷ 0x00 ∷ []) gives 12
    ∷ part 0 0 [] gives 10
    ∷ part 1 0 [] gives 12
    -- a sum of 2^64 and more is no small sum
    ∷ part 18446744073709551615 1 (0x02 ∷ 0x00 ∷ []) gives 12
    ∷ part 18446744073709551615 3 (0x02 ∷ 0x00 ∷ []) gives 12
    ∷ part 2 18446744073709551615 (0x02 ∷ 0x00 ∷ []) gives 12
    -- before bar 22
    ∷ part 0 3 (0x02 ∷ 0x01 ∷ []) gives 12
    ∷ []

-- ---- bar 14

abbrev pub inside : (data' : List ℕ) → Calling
inside bs = hop own0 neighbour0 bs

abbrev pub ends : List (Example Calling ℕ)
ends =
    -- a header of 1, 2, 3 and 4 bytes
    inside (0xC8 ∷ []) gives 14
    ∷ inside (0xC8 ∷ 0x00 ∷ []) gives 14
    ∷ inside (0xC8 ∷ 0x00 ∷ 0x80 ∷ []) gives 14
    ∷ inside (0xC8 ∷ 0x00 ∷ 0x80 ∷ 0x00 ∷ []) gives 10
    -- a body one byte short, and exact
    ∷ inside (0xC8 ∷ 0x00 ∷ 0x80 ∷ 0x01 ∷ []) gives 14
    ∷ inside (0xC8 ∷ 0x00 ∷ 0x80 ∷ 0x02 ∷ 0xAA ∷ []) gives 14
    ∷ inside (0xC8 ∷ 0x00 ∷ 0x80 ∷ 0x02 ∷ 0xAA ∷ 0xBB ∷ []) gives 10
    ∷ inside (0xC8 ∷ 0x00 ∷ 0x80 ∷ 0xFC ∷ replicate 251 0x00) gives 14
    -- a second object's header, and body
    ∷ inside (0xC8 ∷ 0x00 ∷ 0x80 ∷ 0x01 ∷ 0xAA ∷ 0xC8 ∷ 0x00 ∷ 0x80 ∷ []) gives 14
    ∷ inside (0xC8 ∷ 0x00 ∷ 0x80 ∷ 0x01 ∷ 0xAA ∷ 0xC8 ∷ 0x00 ∷ 0x80 ∷ 0x01 ∷ []) gives 14
    ∷ inside (0xC8 ∷ 0x00 ∷ 0x80 ∷ 0x01 ∷ 0xAA ∷ 0xC8 ∷ 0x00 ∷ 0x80 ∷ 0x01 ∷ 0xBB ∷ []) gives 10
    -- decided over the whole container before bars 15 to 17
    ∷ inside (one 0x07 0x00 0x00 (0x00 ∷ []) ++ (0xC8 ∷ [])) gives 14
    ∷ inside (one 0x01 0x00 0x80 (0x00 ∷ 0x00 ∷ []) ++ (0xC8 ∷ [])) gives 14
    ∷ []
