-- Runs of RPL options, on each side of each boundary: bars 22, 23 and 14, objects joined, and the output in several containers.
use Rattle.std.specs.Prelude.{ℕ, List, [], ◌∷◌, ◌++◌, replicate}
use Rattle.model.specs.Run.{concat}
use Rattle.model.specs.Samples.{Example, ◌gives◌, own0, ranked, neighbour0, etx_of, lql_of, holding, empty, one, candidate, Calling, calling, single}

-- ---- bytes

-- one candidate, whose run is the whole lent bytes
abbrev pub run : List ℕ → Calling
run bs = single own0 neighbour0 bs

-- the same bytes so many times
abbrev pub times : (count : ℕ) → List ℕ → List ℕ
times n bs = concat (replicate n bs)

-- a container with a mandatory constraint of unknown type, which bars by 18 where it is read
abbrev pub barring : List ℕ
barring = holding (one 200 0x02 0x00 [])

-- a recorded object of unknown type with so many zeros in its body, and as it leaves, with P set
abbrev pub filler : (size : ℕ) → List ℕ
filler n = one 200 0x00 0x80 (replicate n 0x00)

abbrev pub filled : (size : ℕ) → List ℕ
filled n = one 200 0x04 0x80 (replicate n 0x00)

-- ---- bar 22, and what is stepped over

abbrev pub ends : List (Example Calling ℕ)
ends =
    -- no byte; Pad1 alone, and three of them; PadN without data, with one byte and with 255
    run [] gives 10
    ∷ run (0x00 ∷ []) gives 10
    ∷ run (0x00 ∷ 0x00 ∷ 0x00 ∷ []) gives 10
    ∷ run (0x01 ∷ 0x00 ∷ []) gives 10
    ∷ run (0x01 ∷ 0x01 ∷ 0xAA ∷ []) gives 10
    ∷ run (0x01 ∷ 0xFF ∷ replicate 255 0xAA) gives 10
    -- cut short: a type byte alone, a length too long by one, 254 bytes for 255
    ∷ run (0x01 ∷ []) gives 22
    ∷ run (0x02 ∷ []) gives 22
    ∷ run (0xFF ∷ []) gives 22
    ∷ run (0x01 ∷ 0x01 ∷ []) gives 22
    ∷ run (0x02 ∷ 0x01 ∷ []) gives 22
    ∷ run (0x03 ∷ 0x02 ∷ 0xAA ∷ []) gives 22
    ∷ run (0x01 ∷ 0xFF ∷ replicate 254 0xAA) gives 22
    -- the frames of one container: exact, and off by one both ways; the byte behind is Pad1, a type byte, or a whole option
    ∷ run (0x02 ∷ 0x00 ∷ []) gives 10
    ∷ run (0x02 ∷ 0x00 ∷ 0xC8 ∷ []) gives 22
    ∷ run (0x02 ∷ 0x04 ∷ 0xC8 ∷ 0x00 ∷ 0x80 ∷ 0x00 ∷ []) gives 10
    ∷ run (0x02 ∷ 0x05 ∷ 0xC8 ∷ 0x00 ∷ 0x80 ∷ 0x00 ∷ []) gives 22
    ∷ run (0x02 ∷ 0x03 ∷ 0xC8 ∷ 0x00 ∷ 0x80 ∷ 0x00 ∷ []) gives 14
    ∷ run (0x02 ∷ 0xFF ∷ 0xC8 ∷ 0x00 ∷ 0x80 ∷ 0xFB ∷ replicate 250 0x00) gives 22
    ∷ run (0x02 ∷ 0xFF ∷ 0xC8 ∷ 0x00 ∷ 0x80 ∷ 0xFB ∷ replicate 251 0x00) gives 10
    ∷ run (0x02 ∷ 0xFF ∷ 0xC8 ∷ 0x00 ∷ 0x80 ∷ 0xFB ∷ replicate 252 0x00) gives 10
    ∷ run (0x02 ∷ 0x00 ∷ 0xC8 ∷ 0x00 ∷ 0x80 ∷ 0xFC ∷ replicate 252 0x00) gives 10
    -- decided over the whole run, before 23, 14, 15 and 18; behind 11 and 12
    ∷ run (times 9 empty ++ (0x02 ∷ [])) gives 22
    ∷ run (holding (0xC8 ∷ []) ++ (0x03 ∷ [])) gives 22
    ∷ run (holding (one 7 0x00 0x00 (0x00 ∷ [])) ++ (0x03 ∷ 0x01 ∷ [])) gives 22
    ∷ run (barring ++ (0x05 ∷ [])) gives 22
    ∷ single own0 (ranked 256 1 0 0) (0x02 ∷ []) gives 11
    ∷ calling own0 (candidate neighbour0 0 2 ∷ []) (0x02 ∷ []) gives 12
    ∷ []

abbrev pub steps : List (Example Calling ℕ)
steps =
    -- the data of PadN, of type 3 and of type 255 is not looked at
    run barring gives 18
    ∷ run (0x01 ∷ 0x06 ∷ barring) gives 10
    ∷ run (0x03 ∷ 0x06 ∷ barring) gives 10
    ∷ run (0xFF ∷ 0x06 ∷ barring) gives 10
    -- a container behind Pad1, PadN, another option, an empty container, or all of them; and before them
    ∷ run (0x00 ∷ barring) gives 18
    ∷ run (0x01 ∷ 0x00 ∷ barring) gives 18
    ∷ run (0x01 ∷ 0x02 ∷ 0x02 ∷ 0x00 ∷ barring) gives 18
    ∷ run (0x03 ∷ 0x01 ∷ 0x02 ∷ barring) gives 18
    ∷ run (empty ++ barring) gives 18
    ∷ run (0x00 ∷ 0x04 ∷ 0x01 ∷ 0xAA ∷ 0x01 ∷ 0x00 ∷ empty ++ 0x00 ∷ barring) gives 18
    ∷ run (barring ++ 0x00 ∷ 0x01 ∷ 0x01 ∷ 0x00 ∷ 0x05 ∷ 0x00 ∷ []) gives 18
    -- types 1 and 3 are no containers
    ∷ run (0x01 ∷ 0x04 ∷ one 200 0x02 0x00 []) gives 10
    ∷ run (0x03 ∷ 0x04 ∷ one 200 0x02 0x00 []) gives 10
    ∷ run (0x82 ∷ 0x04 ∷ one 200 0x02 0x00 []) gives 10
    ∷ []

-- ---- bar 23

abbrev pub ninths : List (Example Calling ℕ)
ninths =
    -- seven, eight, nine and ten, empty ones too
    run (times 7 empty) gives 10
    ∷ run (times 8 empty) gives 10
    ∷ run (times 9 empty) gives 23
    ∷ run (times 10 empty) gives 23
    ∷ run (times 8 (holding (filler 0))) gives 10
    ∷ run (times 8 (holding (filler 0)) ++ empty) gives 23
    -- other options don't count
    ∷ run (times 8 (empty ++ 0x00 ∷ 0x01 ∷ 0x00 ∷ 0x03 ∷ 0x00 ∷ []) ++ times 9 (0x01 ∷ 0x00 ∷ [])) gives 10
    ∷ run (times 9 (empty ++ 0x00 ∷ 0x01 ∷ 0x00 ∷ 0x03 ∷ 0x00 ∷ [])) gives 23
    -- before 14, 15 and 18, whether the ninth has it or the first; eight with them
    ∷ run (holding (0xC8 ∷ []) ++ times 8 empty) gives 23
    ∷ run (times 8 empty ++ holding (0xC8 ∷ [])) gives 23
    ∷ run (holding (0xC8 ∷ []) ++ times 7 empty) gives 14
    ∷ run (times 8 empty ++ holding (one 7 0x00 0x00 (0x00 ∷ []))) gives 23
    ∷ run (times 7 empty ++ holding (one 7 0x00 0x00 (0x00 ∷ []))) gives 15
    ∷ run (times 8 empty ++ barring) gives 23
    ∷ run (times 7 empty ++ barring) gives 18
    ∷ []

-- ---- objects joined

-- an ETX metric, and a limit of ETX; an HP metric, and a limit of hops
abbrev pub etx : (high low : ℕ) → List ℕ
etx h l = holding (one 7 0x00 0x00 (h ∷ l ∷ []))

abbrev pub joins : List (Example Calling ℕ)
joins =
    -- an object over two containers, in its header and in its body, though the joined bytes are whole; inside one
    run (holding (0xC8 ∷ 0x00 ∷ 0x80 ∷ []) ++ holding (0x01 ∷ 0xAA ∷ [])) gives 14
    ∷ run (holding (0xC8 ∷ 0x00 ∷ 0x80 ∷ 0x02 ∷ 0xAA ∷ []) ++ holding (0xBB ∷ [])) gives 14
    ∷ run (holding (0xC8 ∷ 0x00 ∷ 0x80 ∷ 0x02 ∷ 0xAA ∷ 0xBB ∷ [])) gives 10
    -- in the last of three, with nothing behind it
    ∷ run (holding (filler 1) ++ holding (filler 1) ++ holding (0xC8 ∷ 0x00 ∷ 0x80 ∷ 0x01 ∷ [])) gives 14
    -- 14 in the second before 15 in the first
    ∷ run (holding (one 7 0x00 0x00 (0x00 ∷ [])) ++ holding (0xC8 ∷ [])) gives 14
    ∷ run (holding (one 7 0x00 0x00 (0x00 ∷ [])) ++ holding (filler 0)) gives 15
    -- a repeat in another container; one of another use
    ∷ run (etx 0x00 0x80 ++ etx 0x00 0x80) gives 16
    ∷ run (etx 0x00 0x80 ++ 0x00 ∷ 0x03 ∷ 0x00 ∷ empty ++ etx 0x00 0x80) gives 16
    ∷ run (etx 0x00 0x80 ++ holding (one 7 0x03 0x00 (0x00 ∷ 0x80 ∷ []))) gives 10
    -- 17 in the second
    ∷ run (holding (filler 0) ++ holding (one 1 0x00 0x80 [])) gives 17
    -- a limit of hops in one, the metric in another, behind it and before it
    ∷ run (holding (one 3 0x02 0x00 (0x00 ∷ 4 ∷ [])) ++ holding (one 3 0x00 0x00 (0x00 ∷ 3 ∷ []))) gives 10
    ∷ run (holding (one 3 0x02 0x00 (0x00 ∷ 4 ∷ [])) ++ holding (one 3 0x00 0x00 (0x00 ∷ 4 ∷ []))) gives 19
    ∷ run (holding (one 3 0x00 0x00 (0x00 ∷ 4 ∷ [])) ++ holding (one 3 0x02 0x00 (0x00 ∷ 4 ∷ []))) gives 19
    ∷ run (holding (one 3 0x02 0x00 (0x00 ∷ 4 ∷ []))) gives 19
    -- a limit of the path, with what another container received
    ∷ single own0 (etx_of 56) (etx 0x00 0xC8 ++ holding (one 7 0x02 0x00 (0x01 ∷ 0x00 ∷ []))) gives 10
    ∷ single own0 (etx_of 57) (etx 0x00 0xC8 ++ holding (one 7 0x02 0x00 (0x01 ∷ 0x00 ∷ []))) gives 19
    ∷ single own0 (etx_of 57) (holding (one 7 0x02 0x00 (0x01 ∷ 0x00 ∷ [])) ++ etx 0x00 0xC8) gives 19
    -- 20 behind all of them
    ∷ single own0 (ranked 65535 1 1 0) (times 8 empty) gives 20
    ∷ single own0 (ranked 65535 1 1 0) (times 9 empty) gives 23
    ∷ []

-- places: among the joined objects; 65535 for 22, 23 and 14
abbrev pub places : List (Example Calling ℕ)
places =
    run (0x02 ∷ []) gives 65535
    ∷ run (times 9 empty) gives 65535
    ∷ run (holding (filler 0) ++ holding (0xC8 ∷ [])) gives 65535
    ∷ run (holding (filler 0 ++ filler 0) ++ 0x00 ∷ empty ++ barring) gives 2
    ∷ run (etx 0x00 0x80 ++ 0x03 ∷ 0x00 ∷ holding (filler 0) ++ etx 0x00 0x80) gives 2
    ∷ run (holding (filler 1) ++ holding (one 7 0x00 0x00 (0x00 ∷ [])) ++ holding (one 7 0x00 0x00 (0x00 ∷ []))) gives 1
    ∷ run (holding (filler 1) ++ holding (filler 0 ++ one 1 0x00 0x80 [])) gives 2
    ∷ run (holding (filler 1) ++ holding (one 3 0x02 0x00 (0x00 ∷ 4 ∷ []))) gives 1
    ∷ []

-- ---- the output

abbrev pub outputs : List (Example Calling (List ℕ))
outputs =
    -- no objects: one empty container, whatever came
    run [] gives empty
    ∷ run (0x00 ∷ 0x01 ∷ 0x01 ∷ 0xAA ∷ 0x03 ∷ 0x00 ∷ []) gives empty
    ∷ run (times 8 empty) gives empty
    -- pads and other options are not passed on; two containers leave as one
    ∷ run (0x00 ∷ holding (filler 1) ++ 0x01 ∷ 0x01 ∷ 0xAA ∷ 0x05 ∷ 0x00 ∷ holding (filler 2) ++ 0x00 ∷ []) gives holding (filled 1 ++ filled 2)
    -- 255 bytes of data in one: as received, and of two containers; 256 in two, in order
    ∷ run (holding (filler 251)) gives holding (filled 251)
    ∷ run (holding (filler 247) ++ holding (filler 0)) gives holding (filled 247 ++ filled 0)
    ∷ run (holding (filler 248) ++ holding (filler 0)) gives (holding (filled 248) ++ holding (filled 0))
    ∷ run (holding (filler 0) ++ holding (filler 248)) gives (holding (filled 0) ++ holding (filled 248))
    -- split otherwise than received: 100 + 100 and 100 bytes, received as 100 and 200
    ∷ run (holding (filler 96) ++ holding (filler 96 ++ filler 96)) gives (holding (filled 96 ++ filled 96) ++ holding (filled 96))
    -- a container that is closed stays closed, though a small object would fit into it
    ∷ run (holding (filler 96) ++ holding (filler 196) ++ holding (filler 0)) gives (holding (filled 96) ++ holding (filled 196 ++ filled 0))
    -- recorded ETX grows to 255 bytes, and over the edge
    ∷ single own0 (etx_of 128) (holding (filler 243 ++ one 7 0x00 0x80 (0x00 ∷ 0x80 ∷ [])))
    gives holding (filled 243 ++ one 7 0x00 0x80 (0x00 ∷ 0x80 ∷ 0x00 ∷ 0x80 ∷ []))
    ∷ single own0 (etx_of 128) (holding (filler 244 ++ one 7 0x00 0x80 (0x00 ∷ 0x80 ∷ [])))
    gives (holding (filled 244) ++ holding (one 7 0x00 0x80 (0x00 ∷ 0x80 ∷ 0x00 ∷ 0x80 ∷ [])))
    -- recorded LQL that counts, and that adds one: over the edge, with what is behind it
    ∷ single own0 (lql_of 2) (holding (filler 245 ++ one 6 0x00 0x80 (0x00 ∷ 0x45 ∷ []))) gives holding (filled 245 ++ one 6 0x00 0x80 (0x00 ∷ 0x46 ∷ []))
    ∷ single own0 (lql_of 3) (holding (filler 245 ++ one 6 0x00 0x80 (0x00 ∷ 0x45 ∷ [])) ++ holding (filler 1))
    gives (holding (filled 245) ++ holding (one 6 0x00 0x80 (0x00 ∷ 0x45 ∷ 0x61 ∷ []) ++ filled 1))
    ∷ []

-- eight full containers; one byte more for a ninth is 35
abbrev pub fullest : List (Example Calling (List ℕ))
fullest = run (times 8 (holding (filler 251))) gives times 8 (holding (filled 251)) ∷ []

abbrev pub fulls : List (Example Calling ℕ)
fulls =
    run (times 8 (holding (filler 251))) gives 0
    ∷ single own0 (etx_of 128) (times 7 (holding (filler 251)) ++ holding (filler 243 ++ one 7 0x00 0x80 (0x00 ∷ 0x80 ∷ []))) gives 0
    ∷ single own0 (etx_of 128) (times 7 (holding (filler 251)) ++ holding (filler 244 ++ one 7 0x00 0x80 (0x00 ∷ 0x80 ∷ []))) gives 35
    ∷ []
