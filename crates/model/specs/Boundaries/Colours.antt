-- Link colours (type 8; RFC 6551, section 4.4), on each side of each boundary. A sub-object has ten bits of colour, then a counter of
-- six bits where it is recorded; in a constraint five reserved bits and I, the lowest. 0x55 0x40 is colour 0b0101010101, which is 0x155.
use Rattle.std.specs.Prelude.{ℕ, ◌+◌, ◌-◌, ◌*◌, ◌/◌, ◌%◌, ◌^◌, List, [], ◌∷◌, ◌++◌, map, replicate}
use Rattle.model.specs.Samples.{Example, ◌gives◌, own0, colour_of, verdict_of, holding, empty, one, ascii, candidate, Calling, calling, single, hop}
use Rattle.model.specs.Boundaries.Shapes.{Shapes, shapes, zeros, objects}
use Rattle.model.specs.Boundaries.Constraints.{asked, demand, wish}
use Rattle.model.specs.Boundaries.Leaves.{behind}
use Rattle.model.specs.Boundaries.Records.{extend, clear}

-- ---- bar 11

abbrev pub numbers : List (Example Calling ℕ)
numbers =
    single own0 (colour_of 1023) empty gives 10
    ∷ single own0 (colour_of 1024) empty gives 11
    ∷ single own0 (colour_of 65535) empty gives 11
    -- before bar 12
    ∷ calling own0 (candidate (colour_of 1024) 0 1 ∷ []) [] gives 11
    ∷ []

-- ---- bars 15 to 17

abbrev pub lengths : List (Example Shapes (List ℕ))
lengths =
    -- a constraint has 3 bytes, whatever R
    shapes 8 0x03 0x00 (0 ∷ 1 ∷ 2 ∷ 3 ∷ 4 ∷ 5 ∷ 6 ∷ 7 ∷ []) gives (15 ∷ 15 ∷ 15 ∷ 10 ∷ 15 ∷ 15 ∷ 15 ∷ 15 ∷ [])
    ∷ shapes 8 0x03 0x80 (2 ∷ 3 ∷ 4 ∷ 5 ∷ []) gives (15 ∷ 10 ∷ 15 ∷ 15 ∷ [])
    -- recorded: 1 + 2k
    ∷ shapes 8 0x00 0x80 (0 ∷ 1 ∷ 2 ∷ 3 ∷ 4 ∷ 5 ∷ 6 ∷ 7 ∷ []) gives (15 ∷ 15 ∷ 15 ∷ 10 ∷ 15 ∷ 10 ∷ 15 ∷ 10 ∷ [])
    -- aggregated: 17 before its shape
    ∷ shapes 8 0x00 0x00 (0 ∷ 2 ∷ 3 ∷ 5 ∷ []) gives (17 ∷ 17 ∷ 17 ∷ 17 ∷ [])
    ∷ []

abbrev pub uses : List (Example Calling ℕ)
uses =
    -- 16: two metrics, two constraints; one of each is none, nor is LQL beside colour
    objects (zeros 8 0x00 0x80 3 ++ zeros 8 0x00 0x80 3) gives 16
    ∷ objects (zeros 8 0x03 0x00 3 ++ zeros 8 0x03 0x00 3) gives 16
    ∷ objects (zeros 8 0x00 0x80 3 ++ zeros 8 0x03 0x00 3) gives 10
    ∷ objects (zeros 8 0x03 0x00 3 ++ zeros 8 0x00 0x80 5) gives 10
    ∷ objects (zeros 8 0x00 0x80 3 ++ zeros 6 0x00 0x80 2 ++ zeros 9 0x00 0x80 3 ++ zeros 9 0x00 0x80 3) gives 10
    -- not next to each other
    ∷ objects (zeros 8 0x00 0x80 3 ++ zeros 9 0x00 0x80 0 ++ zeros 8 0x00 0x80 3) gives 16
    -- a malformed repeat is 15; a repeat that 17 forbids is 16
    ∷ objects (zeros 8 0x00 0x80 3 ++ zeros 8 0x00 0x80 2) gives 15
    ∷ objects (zeros 8 0x00 0x80 3 ++ zeros 8 0x00 0x00 3) gives 16
    -- 17: R=0 by any A
    ∷ objects (zeros 8 0x00 0x00 3) gives 17
    ∷ objects (zeros 8 0x00 0x10 3) gives 17
    ∷ objects (zeros 8 0x00 0x20 3) gives 17
    ∷ objects (zeros 8 0x00 0x70 3) gives 17
    ∷ objects (zeros 8 0x00 0x00 3 ++ zeros 8 0x00 0x80 3) gives 17
    ∷ objects (zeros 8 0x00 0xF0 3) gives 10
    ∷ []

-- ---- bar 19

abbrev pub links : List (Example Calling ℕ)
links =
    -- I=1: the link's colour is equal, wider, wider by all, narrower at each end, disjoint, partly the same, none
    asked (colour_of 0x155) (demand 8 (0x00 ∷ 0x55 ∷ 0x41 ∷ [])) gives 10
    ∷ asked (colour_of 0x157) (demand 8 (0x00 ∷ 0x55 ∷ 0x41 ∷ [])) gives 10
    ∷ asked (colour_of 0x3FF) (demand 8 (0x00 ∷ 0x55 ∷ 0x41 ∷ [])) gives 10
    ∷ asked (colour_of 0x154) (demand 8 (0x00 ∷ 0x55 ∷ 0x41 ∷ [])) gives 19
    ∷ asked (colour_of 0x055) (demand 8 (0x00 ∷ 0x55 ∷ 0x41 ∷ [])) gives 19
    ∷ asked (colour_of 0x2AA) (demand 8 (0x00 ∷ 0x55 ∷ 0x41 ∷ [])) gives 19
    ∷ asked (colour_of 0x156) (demand 8 (0x00 ∷ 0x55 ∷ 0x41 ∷ [])) gives 19
    ∷ asked (colour_of 0x000) (demand 8 (0x00 ∷ 0x55 ∷ 0x41 ∷ [])) gives 19
    -- I=0: the other way round
    ∷ asked (colour_of 0x155) (demand 8 (0x00 ∷ 0x55 ∷ 0x40 ∷ [])) gives 19
    ∷ asked (colour_of 0x157) (demand 8 (0x00 ∷ 0x55 ∷ 0x40 ∷ [])) gives 19
    ∷ asked (colour_of 0x3FF) (demand 8 (0x00 ∷ 0x55 ∷ 0x40 ∷ [])) gives 19
    ∷ asked (colour_of 0x154) (demand 8 (0x00 ∷ 0x55 ∷ 0x40 ∷ [])) gives 10
    ∷ asked (colour_of 0x055) (demand 8 (0x00 ∷ 0x55 ∷ 0x40 ∷ [])) gives 10
    ∷ asked (colour_of 0x2AA) (demand 8 (0x00 ∷ 0x55 ∷ 0x40 ∷ [])) gives 10
    ∷ asked (colour_of 0x156) (demand 8 (0x00 ∷ 0x55 ∷ 0x40 ∷ [])) gives 10
    ∷ asked (colour_of 0x000) (demand 8 (0x00 ∷ 0x55 ∷ 0x40 ∷ [])) gives 10
    -- colour 0: every link has it
    ∷ asked (colour_of 0x000) (demand 8 (0x00 ∷ 0x00 ∷ 0x01 ∷ [])) gives 10
    ∷ asked (colour_of 0x3FF) (demand 8 (0x00 ∷ 0x00 ∷ 0x01 ∷ [])) gives 10
    ∷ asked (colour_of 0x000) (demand 8 (0x00 ∷ 0x00 ∷ 0x00 ∷ [])) gives 19
    ∷ asked (colour_of 0x3FF) (demand 8 (0x00 ∷ 0x00 ∷ 0x00 ∷ [])) gives 19
    -- all ten bits
    ∷ asked (colour_of 0x3FF) (demand 8 (0x00 ∷ 0xFF ∷ 0xC1 ∷ [])) gives 10
    ∷ asked (colour_of 0x3FE) (demand 8 (0x00 ∷ 0xFF ∷ 0xC1 ∷ [])) gives 19
    ∷ asked (colour_of 0x1FF) (demand 8 (0x00 ∷ 0xFF ∷ 0xC1 ∷ [])) gives 19
    -- I=0, the first bit and the last
    ∷ asked (colour_of 0x200) (demand 8 (0x00 ∷ 0x80 ∷ 0x00 ∷ [])) gives 19
    ∷ asked (colour_of 0x1FF) (demand 8 (0x00 ∷ 0x80 ∷ 0x00 ∷ [])) gives 10
    ∷ asked (colour_of 0x001) (demand 8 (0x00 ∷ 0x00 ∷ 0x40 ∷ [])) gives 19
    ∷ asked (colour_of 0x3FE) (demand 8 (0x00 ∷ 0x00 ∷ 0x40 ∷ [])) gives 10
    -- reserved bits ask for nothing, and are not I
    ∷ asked (colour_of 0x155) (demand 8 (0xFF ∷ 0x55 ∷ 0x7F ∷ [])) gives 10
    ∷ asked (colour_of 0x2AA) (demand 8 (0xFF ∷ 0x55 ∷ 0x7F ∷ [])) gives 19
    ∷ asked (colour_of 0x155) (demand 8 (0xFF ∷ 0x55 ∷ 0x7E ∷ [])) gives 19
    ∷ asked (colour_of 0x2AA) (demand 8 (0xFF ∷ 0x55 ∷ 0x7E ∷ [])) gives 10
    -- an optional one bars nobody; a recorded metric of another colour neither
    ∷ asked (colour_of 0x2AA) (wish 8 (0x00 ∷ 0x55 ∷ 0x41 ∷ [])) gives 10
    ∷ asked (colour_of 0x2AA) (one 8 0x00 0x80 (0x00 ∷ 0x55 ∷ 0x41 ∷ [])) gives 10
    -- beside other constraints: the first that is not met
    ∷ asked (colour_of 0x2AA) (demand 8 (0x00 ∷ 0x55 ∷ 0x41 ∷ []) ++ demand 9 []) gives 19
    ∷ asked (colour_of 0x2AA) (demand 9 [] ++ demand 8 (0x00 ∷ 0x55 ∷ 0x41 ∷ [])) gives 18
    ∷ []

-- a constraint with one bit at a place, and I=1
abbrev pub bit_asked : (place : ℕ) → List ℕ
bit_asked k = demand 8 (0x00 ∷ 2 ^ k / 4 ∷ (2 ^ k % 4 * 64 + 1) ∷ [])

-- the verdicts for each of the ten places, by the link's colour
abbrev pub bit_verdicts : ((place : ℕ) → ℕ) → List ℕ
bit_verdicts f = map (λ k. verdict_of (asked (colour_of (f k)) (bit_asked k))) (0 ∷ 1 ∷ 2 ∷ 3 ∷ 4 ∷ 5 ∷ 6 ∷ 7 ∷ 8 ∷ 9 ∷ [])

-- the link has that bit alone; it has all the others
abbrev pub bits : List (Example ((place : ℕ) → ℕ) (List ℕ))
bits = (λ k. 2 ^ k) gives replicate 10 10 ∷ (λ k. 1023 - 2 ^ k) gives replicate 10 19 ∷ []

-- ---- leaf answers

abbrev pub leaves : List (Example Calling ℕ)
leaves =
    -- none of 31 to 34
    hop own0 (colour_of 0x155) (one 8 0x00 0x80 (0x00 ∷ 0x55 ∷ 0x41 ∷ [])) gives 0
    ∷ hop own0 (colour_of 0x155) (one 8 0x00 0x80 (0x00 ∷ 0xFF ∷ 0xFF ∷ [])) gives 0
    -- 35: a colour that counts doesn't grow; that adds does, by two bytes: 4 + 249 + 2 = 255, and 257
    ∷ hop own0 (colour_of 0x155) (one 8 0x00 0x80 (0x00 ∷ 0x55 ∷ 0x41 ∷ replicate 248 0x00)) gives 0
    ∷ hop own0 (colour_of 0x156) (one 8 0x00 0x80 (0x00 ∷ 0x55 ∷ 0x41 ∷ replicate 246 0x00)) gives 0
    ∷ hop own0 (colour_of 0x156) (one 8 0x00 0x80 (0x00 ∷ 0x55 ∷ 0x41 ∷ replicate 248 0x00)) gives 35
    ∷ hop own0 (colour_of 0x155) (one 8 0x00 0x80 (0x00 ∷ 0x55 ∷ 0x7F ∷ replicate 248 0x00)) gives 35
    ∷ hop own0 (colour_of 0x156) (behind 244 (one 8 0x00 0x80 (0x00 ∷ 0x55 ∷ 0x41 ∷ []))) gives 0
    ∷ []

-- ---- updating for this hop

abbrev pub records : List (Example Calling (List ℕ))
records =
    -- counter 0, 5, 62 and 63
    extend own0 (colour_of 0x155) 8 (0x00 ∷ 0x55 ∷ 0x40 ∷ []) (0x00 ∷ 0x55 ∷ 0x41 ∷ [])
    ∷ extend own0 (colour_of 0x155) 8 (0x00 ∷ 0x55 ∷ 0x45 ∷ []) (0x00 ∷ 0x55 ∷ 0x46 ∷ [])
    ∷ extend own0 (colour_of 0x155) 8 (0x00 ∷ 0x55 ∷ 0x7E ∷ []) (0x00 ∷ 0x55 ∷ 0x7F ∷ [])
    ∷ extend own0 (colour_of 0x155) 8 (0x00 ∷ 0x55 ∷ 0x7F ∷ []) (0x00 ∷ 0x55 ∷ 0x7F ∷ 0x55 ∷ 0x41 ∷ [])
    -- counter 31 and 32, which is no limit here
    ∷ extend own0 (colour_of 0x155) 8 (0x00 ∷ 0x55 ∷ 0x5F ∷ []) (0x00 ∷ 0x55 ∷ 0x60 ∷ [])
    ∷ extend own0 (colour_of 0x155) 8 (0x00 ∷ 0x55 ∷ 0x60 ∷ []) (0x00 ∷ 0x55 ∷ 0x61 ∷ [])
    -- another colour, in the lower two bits and in the upper eight; wider or narrower is another
    ∷ extend own0 (colour_of 0x154) 8 (0x00 ∷ 0x55 ∷ 0x45 ∷ []) (0x00 ∷ 0x55 ∷ 0x45 ∷ 0x55 ∷ 0x01 ∷ [])
    ∷ extend own0 (colour_of 0x156) 8 (0x00 ∷ 0x55 ∷ 0x45 ∷ []) (0x00 ∷ 0x55 ∷ 0x45 ∷ 0x55 ∷ 0x81 ∷ [])
    ∷ extend own0 (colour_of 0x157) 8 (0x00 ∷ 0x55 ∷ 0x45 ∷ []) (0x00 ∷ 0x55 ∷ 0x45 ∷ 0x55 ∷ 0xC1 ∷ [])
    ∷ extend own0 (colour_of 0x151) 8 (0x00 ∷ 0x55 ∷ 0x45 ∷ []) (0x00 ∷ 0x55 ∷ 0x45 ∷ 0x54 ∷ 0x41 ∷ [])
    -- colour 0 and 1023
    ∷ extend own0 (colour_of 0x000) 8 (0x00 ∷ 0x55 ∷ 0x45 ∷ []) (0x00 ∷ 0x55 ∷ 0x45 ∷ 0x00 ∷ 0x01 ∷ [])
    ∷ extend own0 (colour_of 0x000) 8 (0x00 ∷ 0x00 ∷ 0x01 ∷ []) (0x00 ∷ 0x00 ∷ 0x02 ∷ [])
    ∷ extend own0 (colour_of 0x3FF) 8 (0x00 ∷ 0xFF ∷ 0xFE ∷ []) (0x00 ∷ 0xFF ∷ 0xFF ∷ [])
    ∷ extend own0 (colour_of 0x3FF) 8 (0x00 ∷ 0xFF ∷ 0xFF ∷ []) (0x00 ∷ 0xFF ∷ 0xFF ∷ 0xFF ∷ 0xC1 ∷ [])
    -- the first with the link's colour and a counter below 63; a full one is passed over
    ∷ extend own0 (colour_of 0x155) 8 (0x00 ∷ 0xAA ∷ 0xBE ∷ 0x55 ∷ 0x45 ∷ []) (0x00 ∷ 0xAA ∷ 0xBE ∷ 0x55 ∷ 0x46 ∷ [])
    ∷ extend own0 (colour_of 0x155) 8 (0x00 ∷ 0x55 ∷ 0x45 ∷ 0x55 ∷ 0x41 ∷ []) (0x00 ∷ 0x55 ∷ 0x46 ∷ 0x55 ∷ 0x41 ∷ [])
    ∷ extend own0 (colour_of 0x155) 8 (0x00 ∷ 0x55 ∷ 0x7F ∷ 0x55 ∷ 0x42 ∷ 0x55 ∷ 0x43 ∷ []) (0x00 ∷ 0x55 ∷ 0x7F ∷ 0x55 ∷ 0x43 ∷ 0x55 ∷ 0x43 ∷ [])
    ∷ extend own0 (colour_of 0x155) 8 (0x00 ∷ 0x55 ∷ 0x7F ∷ 0x55 ∷ 0x7F ∷ 0xAA ∷ 0xBE ∷ []) (0x00 ∷ 0x55 ∷ 0x7F ∷ 0x55 ∷ 0x7F ∷ 0xAA ∷ 0xBE ∷ 0x55 ∷ 0x41 ∷ [])
    -- bytes of two sub-objects are none
    ∷ extend own0 (colour_of 0x155) 8 (0x00 ∷ 0x00 ∷ 0x55 ∷ 0x45 ∷ 0x00 ∷ []) (0x00 ∷ 0x00 ∷ 0x55 ∷ 0x45 ∷ 0x00 ∷ 0x55 ∷ 0x41 ∷ [])
    -- byte 0 cleared
    ∷ extend own0 (colour_of 0x155) 8 (0xFF ∷ 0x55 ∷ 0x45 ∷ []) (0x00 ∷ 0x55 ∷ 0x46 ∷ [])
    -- P is kept, and not set
    ∷ hop own0 (colour_of 0x155) (one 8 0xFD 0x8A (0x00 ∷ 0x55 ∷ 0x45 ∷ [])) gives holding (one 8 0x04 0x8A (0x00 ∷ 0x55 ∷ 0x46 ∷ []))
    ∷ hop own0 (colour_of 0x155) (one 8 0xF9 0xFF (0x00 ∷ 0x55 ∷ 0x45 ∷ [])) gives holding (one 8 0x00 0xFF (0x00 ∷ 0x55 ∷ 0x46 ∷ []))
    ∷ []

abbrev pub constraints : List (Example Calling (List ℕ))
constraints =
    -- byte 0 and the five reserved bits cleared; colour and I kept, and the link's colour doesn't get in
    clear own0 (colour_of 0x3FF) 8 0x02 (0xFF ∷ 0x55 ∷ 0x7F ∷ []) (0x00 ∷ 0x55 ∷ 0x41 ∷ [])
    ∷ clear own0 (colour_of 0x000) 8 0x02 (0xFF ∷ 0x55 ∷ 0x7E ∷ []) (0x00 ∷ 0x55 ∷ 0x40 ∷ [])
    ∷ clear own0 (colour_of 0x000) 8 0x03 (0xFF ∷ 0xFF ∷ 0xFF ∷ []) (0x00 ∷ 0xFF ∷ 0xC1 ∷ [])
    ∷ clear own0 (colour_of 0x000) 8 0x03 (0x00 ∷ 0x00 ∷ 0x3E ∷ []) (0x00 ∷ 0x00 ∷ 0x00 ∷ [])
    ∷ clear own0 (colour_of 0x000) 8 0x02 (0x00 ∷ 0x00 ∷ 0x01 ∷ []) (0x00 ∷ 0x00 ∷ 0x01 ∷ [])
    -- with R=1 it is no recorded metric
    ∷ hop own0 (colour_of 0x155) (one 8 0x03 0x80 (0x00 ∷ 0x55 ∷ 0x45 ∷ [])) gives holding (one 8 0x03 0x00 (0x00 ∷ 0x55 ∷ 0x41 ∷ []))
    ∷ []

-- ---- the listing and the cut

abbrev pub lines : List (Example (List ℕ) (List ℕ))
lines =
    holding (one 8 0x00 0x80 (0x00 ∷ 0x55 ∷ 0x45 ∷ [])) gives ascii "8 0 0 1 0 0 3\n"
    ∷ holding (one 8 0x02 0x00 (0x00 ∷ 0x55 ∷ 0x41 ∷ [])) gives ascii "8 1 0 0 0 0 3\n"
    ∷ holding (one 8 0x02 0x00 (0x55 ∷ 0x41 ∷ [])) gives ascii "refused 15\n"
    ∷ holding (one 8 0x00 0x80 (0x00 ∷ 0x55 ∷ 0x45 ∷ 0x55 ∷ [])) gives ascii "refused 15\n"
    ∷ holding (one 8 0x02 0x00 (0x00 ∷ 0x55 ∷ 0x41 ∷ []) ++ one 8 0x03 0x00 (0x00 ∷ 0x55 ∷ 0x41 ∷ [])) gives ascii "refused 16\n"
    ∷ holding (one 8 0x00 0x00 (0x00 ∷ 0x55 ∷ 0x45 ∷ [])) gives ascii "refused 17\n"
    ∷ []

-- colours stay whole; type 9 is dropped
abbrev pub cuts : List (Example (List ℕ) (List ℕ))
cuts =
    holding (one 8 0xF8 0x80 (0xFF ∷ 0x55 ∷ 0x45 ∷ 0xAA ∷ 0xBE ∷ [])) gives holding (one 8 0xF8 0x80 (0xFF ∷ 0x55 ∷ 0x45 ∷ 0xAA ∷ 0xBE ∷ []))
    ∷ holding (one 9 0x02 0x00 (0xFF ∷ 0x55 ∷ 0x7F ∷ []) ++ one 8 0x02 0x00 (0xFF ∷ 0x55 ∷ 0x7F ∷ [])) gives holding (one 8 0x02 0x00 (0xFF ∷ 0x55 ∷ 0x7F ∷ []))
    ∷ []
