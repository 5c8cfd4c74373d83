-- Bars 15 to 17, on each side of each boundary. Constraints are optional here, so that bar 19 is never theirs.
use Rattle.std.specs.Prelude.{ℕ, List, [], ◌∷◌, ◌++◌, map, replicate}
use Rattle.model.specs.Samples.{Example, ◌gives◌, own0, neighbour0, one, Calling, hop, verdict_of}

-- ---- bar 15: lengths

-- an object by header bytes 0 to 2, with bodies of several lengths, all their bytes 0
pub record Shapes : Type 0 where
  pub type : ℕ
  pub flags : ℕ
  pub mode : ℕ
  pub lengths : List ℕ

abbrev pub shapes : (type flags mode : ℕ) → (lengths : List ℕ) → Shapes
shapes t f m ns = record { type = t; flags = f; mode = m; lengths = ns }

-- the verdict for each length
abbrev pub shape_verdicts : Shapes → List ℕ
shape_verdicts s = map (λ n. verdict_of (hop own0 neighbour0 (one s.type s.flags s.mode (replicate n 0x00)))) s.lengths

abbrev pub lengths : List (Example Shapes (List ℕ))
lengths =
    -- NSA, NE and HP, constraint and aggregated: 2 and TLVs, here of length 0
    shapes 1 0x03 0x00 (0 ∷ 1 ∷ 2 ∷ 3 ∷ 4 ∷ 5 ∷ 6 ∷ []) gives (15 ∷ 15 ∷ 10 ∷ 15 ∷ 10 ∷ 15 ∷ 10 ∷ [])
    ∷ shapes 1 0x00 0x10 (0 ∷ 1 ∷ 2 ∷ 3 ∷ 4 ∷ 5 ∷ 6 ∷ []) gives (15 ∷ 15 ∷ 10 ∷ 15 ∷ 10 ∷ 15 ∷ 10 ∷ [])
    ∷ shapes 2 0x03 0x00 (0 ∷ 1 ∷ 2 ∷ 3 ∷ 4 ∷ 5 ∷ 6 ∷ []) gives (15 ∷ 15 ∷ 10 ∷ 15 ∷ 10 ∷ 15 ∷ 10 ∷ [])
    ∷ shapes 2 0x00 0x10 (0 ∷ 1 ∷ 2 ∷ 3 ∷ 4 ∷ 5 ∷ 6 ∷ []) gives (15 ∷ 15 ∷ 10 ∷ 15 ∷ 10 ∷ 15 ∷ 10 ∷ [])
    ∷ shapes 3 0x03 0x00 (0 ∷ 1 ∷ 2 ∷ 3 ∷ 4 ∷ 5 ∷ 6 ∷ []) gives (15 ∷ 15 ∷ 10 ∷ 15 ∷ 10 ∷ 15 ∷ 10 ∷ [])
    ∷ shapes 3 0x00 0x00 (0 ∷ 1 ∷ 2 ∷ 3 ∷ 4 ∷ 5 ∷ 6 ∷ []) gives (15 ∷ 15 ∷ 10 ∷ 15 ∷ 10 ∷ 15 ∷ 10 ∷ [])
    -- throughput and latency, constraint and aggregated: 4
    ∷ shapes 4 0x03 0x00 (0 ∷ 3 ∷ 4 ∷ 5 ∷ 8 ∷ []) gives (15 ∷ 15 ∷ 10 ∷ 15 ∷ 15 ∷ [])
    ∷ shapes 4 0x00 0x00 (0 ∷ 3 ∷ 4 ∷ 5 ∷ 8 ∷ []) gives (15 ∷ 15 ∷ 10 ∷ 15 ∷ 15 ∷ [])
    ∷ shapes 5 0x03 0x00 (0 ∷ 3 ∷ 4 ∷ 5 ∷ 8 ∷ []) gives (15 ∷ 15 ∷ 10 ∷ 15 ∷ 15 ∷ [])
    ∷ shapes 5 0x00 0x00 (0 ∷ 3 ∷ 4 ∷ 5 ∷ 8 ∷ []) gives (15 ∷ 15 ∷ 10 ∷ 15 ∷ 15 ∷ [])
    -- LQL, constraint; ETX, constraint and aggregated: 2
    ∷ shapes 6 0x03 0x00 (0 ∷ 1 ∷ 2 ∷ 3 ∷ 4 ∷ []) gives (15 ∷ 15 ∷ 10 ∷ 15 ∷ 15 ∷ [])
    ∷ shapes 7 0x03 0x00 (0 ∷ 1 ∷ 2 ∷ 3 ∷ 4 ∷ []) gives (15 ∷ 15 ∷ 10 ∷ 15 ∷ 15 ∷ [])
    ∷ shapes 7 0x00 0x00 (0 ∷ 1 ∷ 2 ∷ 3 ∷ 4 ∷ []) gives (15 ∷ 15 ∷ 10 ∷ 15 ∷ 15 ∷ [])
    -- recorded NE: 2k, no TLVs
    ∷ shapes 2 0x00 0x80 (0 ∷ 1 ∷ 2 ∷ 3 ∷ 4 ∷ 5 ∷ []) gives (15 ∷ 15 ∷ 10 ∷ 15 ∷ 10 ∷ 15 ∷ [])
    -- recorded throughput and latency: 4k
    ∷ shapes 4 0x00 0x80 (0 ∷ 3 ∷ 4 ∷ 5 ∷ 6 ∷ 7 ∷ 8 ∷ 9 ∷ []) gives (15 ∷ 15 ∷ 10 ∷ 15 ∷ 15 ∷ 15 ∷ 10 ∷ 15 ∷ [])
    ∷ shapes 5 0x00 0x80 (0 ∷ 3 ∷ 4 ∷ 5 ∷ 6 ∷ 7 ∷ 8 ∷ 9 ∷ []) gives (15 ∷ 15 ∷ 10 ∷ 15 ∷ 15 ∷ 15 ∷ 10 ∷ 15 ∷ [])
    -- recorded LQL: 1+k
    ∷ shapes 6 0x00 0x80 (0 ∷ 1 ∷ 2 ∷ 3 ∷ 4 ∷ []) gives (15 ∷ 15 ∷ 10 ∷ 10 ∷ 10 ∷ [])
    -- recorded ETX: 2k
    ∷ shapes 7 0x00 0x80 (0 ∷ 1 ∷ 2 ∷ 3 ∷ 4 ∷ 5 ∷ []) gives (15 ∷ 15 ∷ 10 ∷ 15 ∷ 10 ∷ 15 ∷ [])
    -- R is ignored when C=1
    ∷ shapes 2 0x03 0x80 (0 ∷ 1 ∷ 2 ∷ 3 ∷ 4 ∷ []) gives (15 ∷ 15 ∷ 10 ∷ 15 ∷ 10 ∷ [])
    ∷ shapes 6 0x03 0x80 (1 ∷ 2 ∷ 3 ∷ []) gives (15 ∷ 10 ∷ 15 ∷ [])
    ∷ shapes 7 0x03 0x80 (1 ∷ 2 ∷ 3 ∷ 4 ∷ []) gives (15 ∷ 10 ∷ 15 ∷ 15 ∷ [])
    -- unknown types, just outside 1 to 8: any length
    ∷ shapes 0 0x00 0x80 (0 ∷ 1 ∷ 2 ∷ 3 ∷ []) gives (10 ∷ 10 ∷ 10 ∷ 10 ∷ [])
    ∷ shapes 9 0x00 0x80 (0 ∷ 1 ∷ 2 ∷ 3 ∷ []) gives (10 ∷ 10 ∷ 10 ∷ 10 ∷ [])
    ∷ shapes 9 0x03 0x00 (0 ∷ 1 ∷ 2 ∷ 3 ∷ []) gives (10 ∷ 10 ∷ 10 ∷ 10 ∷ [])
    ∷ shapes 255 0x00 0x00 (0 ∷ 1 ∷ 2 ∷ 3 ∷ []) gives (10 ∷ 10 ∷ 10 ∷ 10 ∷ [])
    ∷ []

-- ---- bar 15: TLVs

-- the verdicts for NSA, NE and HP, each as constraint and aggregated, with these bytes behind the first two
abbrev pub tlv_verdicts : List ℕ → List ℕ
tlv_verdicts bs =
    map (λ d. verdict_of (hop own0 neighbour0 d))
    (one 1 0x03 0x00 (0x00 ∷ 0x00 ∷ bs)
    ∷ one 1 0x00 0x10 (0x00 ∷ 0x00 ∷ bs)
    ∷ one 2 0x03 0x00 (0x00 ∷ 0x00 ∷ bs)
    ∷ one 2 0x00 0x10 (0x00 ∷ 0x00 ∷ bs)
    ∷ one 3 0x03 0x00 (0x00 ∷ 0x00 ∷ bs)
    ∷ one 3 0x00 0x00 (0x00 ∷ 0x00 ∷ bs)
    ∷ [])

abbrev pub tlvs : List (Example (List ℕ) (List ℕ))
tlvs =
    -- a lone byte
    (0x01 ∷ []) gives replicate 6 15
    -- length 0, fitting; length 1, overrunning by one and fitting; length 2
    ∷ (0x01 ∷ 0x00 ∷ []) gives replicate 6 10
    ∷ (0x01 ∷ 0x01 ∷ []) gives replicate 6 15
    ∷ (0x01 ∷ 0x01 ∷ 0xAA ∷ []) gives replicate 6 10
    ∷ (0x01 ∷ 0x02 ∷ 0xAA ∷ []) gives replicate 6 15
    ∷ (0x01 ∷ 0x02 ∷ 0xAA ∷ 0xBB ∷ []) gives replicate 6 10
    ∷ (0x01 ∷ 0xFF ∷ []) gives replicate 6 15
    -- behind another TLV
    ∷ (0x01 ∷ 0x01 ∷ 0xAA ∷ 0x02 ∷ []) gives replicate 6 15
    ∷ (0x01 ∷ 0x01 ∷ 0xAA ∷ 0x02 ∷ 0x00 ∷ []) gives replicate 6 10
    ∷ (0x01 ∷ 0x01 ∷ 0xAA ∷ 0x02 ∷ 0x01 ∷ []) gives replicate 6 15
    ∷ (0x01 ∷ 0x01 ∷ 0xAA ∷ 0x02 ∷ 0x01 ∷ 0xBB ∷ []) gives replicate 6 10
    -- as many as a container holds, the last fitting and overrunning
    ∷ replicate 248 0x00 gives replicate 6 10
    ∷ (replicate 246 0x00 ++ (0x00 ∷ 0x01 ∷ [])) gives replicate 6 15
    ∷ []

-- ---- bars 15, 16 and 17

abbrev pub zeros : (type flags mode size : ℕ) → List ℕ
zeros t f m n = one t f m (replicate n 0x00)

abbrev pub objects : (data' : List ℕ) → Calling
objects bs = hop own0 neighbour0 bs

abbrev pub uses : List (Example Calling ℕ)
uses =
    -- 16: the same C again, whatever O, R, A and P
    objects (zeros 7 0x00 0x80 2 ++ zeros 7 0x00 0x80 2) gives 16
    ∷ objects (zeros 7 0x00 0x80 2 ++ zeros 7 0x05 0x20 2) gives 16
    ∷ objects (zeros 7 0x03 0x00 2 ++ zeros 7 0x03 0x00 2) gives 16
    ∷ objects (zeros 7 0x03 0x00 2 ++ zeros 7 0x06 0x80 2) gives 16
    -- the other C; another type
    ∷ objects (zeros 7 0x00 0x80 2 ++ zeros 7 0x03 0x00 2) gives 10
    ∷ objects (zeros 7 0x03 0x00 2 ++ zeros 7 0x00 0x80 2) gives 10
    ∷ objects (zeros 4 0x00 0x80 4 ++ zeros 5 0x00 0x80 4) gives 10
    -- not next to each other
    ∷ objects (zeros 7 0x00 0x80 2 ++ zeros 7 0x03 0x00 2 ++ zeros 7 0x00 0x80 2) gives 16
    ∷ objects (zeros 7 0x03 0x00 2 ++ zeros 7 0x00 0x80 2 ++ zeros 7 0x03 0x00 2) gives 16
    -- unknown types may repeat
    ∷ objects (zeros 200 0x00 0x80 2 ++ zeros 200 0x00 0x80 2) gives 10
    ∷ objects (zeros 0 0x03 0x00 2 ++ zeros 0 0x03 0x00 2) gives 10
    ∷ objects (zeros 9 0x00 0x00 2 ++ zeros 9 0x00 0x00 2) gives 10
    -- a malformed repeat is 15; a repeat that 17 forbids is 16
    ∷ objects (zeros 7 0x00 0x80 2 ++ zeros 7 0x00 0x80 1) gives 15
    ∷ objects (zeros 1 0x00 0x10 2 ++ zeros 1 0x00 0x80 2) gives 16
    ∷ objects (zeros 3 0x00 0x00 2 ++ zeros 3 0x00 0x80 0) gives 16
    ∷ objects (zeros 6 0x00 0x80 2 ++ zeros 6 0x00 0x00 2) gives 16
    -- 17: recorded NSA and HP, aggregated LQL by any A; shape is not tested
    ∷ objects (zeros 1 0x00 0x80 2) gives 17
    ∷ objects (zeros 3 0x00 0x80 2) gives 17
    ∷ objects (zeros 6 0x00 0x00 2) gives 17
    ∷ objects (zeros 6 0x00 0x10 2) gives 17
    ∷ objects (zeros 6 0x00 0x20 2) gives 17
    ∷ objects (zeros 1 0x00 0x80 0) gives 17
    ∷ objects (zeros 3 0x00 0x80 3) gives 17
    ∷ objects (zeros 6 0x00 0x00 1) gives 17
    -- not the other way round, nor as constraints
    ∷ objects (zeros 1 0x00 0x10 2) gives 10
    ∷ objects (zeros 3 0x00 0x00 2) gives 10
    ∷ objects (zeros 6 0x00 0x80 2) gives 10
    ∷ objects (zeros 1 0x03 0x80 2) gives 10
    ∷ objects (zeros 3 0x03 0x80 2) gives 10
    ∷ objects (zeros 6 0x03 0x00 2) gives 10
    -- nor other types
    ∷ objects (zeros 2 0x00 0x80 2) gives 10
    ∷ objects (zeros 4 0x00 0x80 4) gives 10
    ∷ objects (zeros 200 0x00 0x80 2) gives 10
    -- the first object with one of them
    ∷ objects (zeros 1 0x00 0x80 2 ++ zeros 7 0x00 0x00 1) gives 17
    ∷ objects (zeros 7 0x00 0x00 1 ++ zeros 1 0x00 0x80 2) gives 15
    ∷ objects (zeros 1 0x00 0x80 2 ++ zeros 1 0x00 0x80 2) gives 17
    ∷ objects (zeros 7 0x00 0x80 2 ++ zeros 7 0x00 0x80 2 ++ zeros 5 0x00 0x00 3) gives 16
    ∷ []
