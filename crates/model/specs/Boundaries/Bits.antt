-- Each bit beside all the others: of flags, of headers and of bodies. What a bit says, no other bit changes.
use Rattle.std.specs.Prelude.{ℕ, List, [], ◌∷◌, ◌++◌}
use Rattle.model.specs.Samples.{Example, ◌gives◌, own0, own_with, own_node, ranked, neighbour0, node_of, link_of, lql_of, empty, holding, one, Calling, single, hop}
use Rattle.model.specs.Boundaries.Refusals.{Sized, sized}

-- a mandatory constraint alone
abbrev pub limit : (type : ℕ) → (body : List ℕ) → List ℕ
limit t b = one t 0x02 0x00 b

abbrev pub verdicts : List (Example Calling ℕ)
verdicts =
    -- the neighbour's flags, all set, and all but one: ETX 0x08, latency 0x10, throughput 0x20
    hop own0 (link_of 0xFF 1 255 999 1001) (limit 7 (0x01 ∷ 0x00 ∷ [])) gives 10
    ∷ hop own0 (link_of 0xF7 1 255 999 1001) (limit 7 (0x01 ∷ 0x00 ∷ [])) gives 19
    ∷ hop own0 (link_of 0xFF 1 255 999 1001) (limit 5 (0x00 ∷ 0x00 ∷ 0x03 ∷ 0xE8 ∷ [])) gives 10
    ∷ hop own0 (link_of 0xEF 1 255 999 1001) (limit 5 (0x00 ∷ 0x00 ∷ 0x03 ∷ 0xE8 ∷ [])) gives 19
    ∷ hop own0 (link_of 0xFF 1 255 999 1001) (limit 4 (0x00 ∷ 0x00 ∷ 0x03 ∷ 0xE8 ∷ [])) gives 10
    ∷ hop own0 (link_of 0xDF 1 255 999 1001) (limit 4 (0x00 ∷ 0x00 ∷ 0x03 ∷ 0xE8 ∷ [])) gives 19
    -- overloaded 0x01, aggregator 0x02, energy 0x04
    ∷ hop own0 (node_of 0 0xFF 0) (limit 1 (0x00 ∷ 0x01 ∷ [])) gives 19
    ∷ hop own0 (node_of 0 0xFE 0) (limit 1 (0x00 ∷ 0x01 ∷ [])) gives 10
    ∷ hop own0 (node_of 0 0xFF 0) (limit 1 (0x00 ∷ 0x02 ∷ [])) gives 10
    ∷ hop own0 (node_of 0 0xFD 0) (limit 1 (0x00 ∷ 0x02 ∷ [])) gives 19
    ∷ hop own0 (node_of 0 0xFF 101) (limit 2 (0x09 ∷ 100 ∷ [])) gives 10
    ∷ hop own0 (node_of 0 0xFB 101) (limit 2 (0x09 ∷ 100 ∷ [])) gives 19
    -- own flags: L 0x08
    ∷ single (own_with 1 768 1024 0 0xFF 0 0) (ranked 1792 1 1 0) empty gives 21
    ∷ single (own_with 1 768 1024 0 0xF7 0 0) (ranked 1792 1 1 0) empty gives 10
    -- NSA: what is asked, beside reserved bits
    ∷ hop own0 neighbour0 (limit 1 (0xFF ∷ 0xFE ∷ [])) gives 19
    ∷ hop own0 (node_of 0 0x01 0) (limit 1 (0xFF ∷ 0xFD ∷ [])) gives 19
    ∷ hop own0 (node_of 0 0x01 0) (limit 1 (0xFF ∷ 0xFC ∷ [])) gives 10
    -- NE: I 0x08, T 0x06 and E 0x01, beside each other and reserved bits
    ∷ hop own0 (node_of 3 0x04 101) (limit 2 (0xFF ∷ 100 ∷ [])) gives 10
    ∷ hop own0 (node_of 3 0x04 100) (limit 2 (0xFF ∷ 100 ∷ [])) gives 19
    ∷ hop own0 (node_of 3 0x04 100) (limit 2 (0xFE ∷ 100 ∷ [])) gives 10
    ∷ hop own0 (node_of 3 0x04 100) (limit 2 (0xF7 ∷ 100 ∷ [])) gives 10
    ∷ hop own0 (node_of 3 0x04 99) (limit 2 (0xF7 ∷ 100 ∷ [])) gives 19
    ∷ hop own0 (node_of 3 0x04 100) (limit 2 (0xF6 ∷ 100 ∷ [])) gives 19
    ∷ hop own0 (node_of 1 0x04 100) (limit 2 (0xFF ∷ 100 ∷ [])) gives 19
    ∷ hop own0 (node_of 1 0x04 101) (limit 2 (0x0B ∷ 100 ∷ [])) gives 10
    ∷ hop own0 (node_of 2 0x04 101) (limit 2 (0x0D ∷ 100 ∷ [])) gives 10
    -- HP: count and limit beside their reserved byte
    ∷ hop own0 neighbour0 (limit 3 (0xFF ∷ 4 ∷ []) ++ one 3 0x00 0x00 (0xFF ∷ 3 ∷ [])) gives 10
    ∷ hop own0 neighbour0 (limit 3 (0x00 ∷ 4 ∷ []) ++ one 3 0x00 0x00 (0x00 ∷ 4 ∷ [])) gives 19
    -- LQL: Val beside the counter and the reserved byte
    ∷ hop own0 (lql_of 2) (limit 6 (0xFF ∷ 0x5F ∷ [])) gives 10
    ∷ hop own0 (lql_of 3) (limit 6 (0xFF ∷ 0x5F ∷ [])) gives 19
    -- header: C and O beside P and reserved bits, and beside R, A and Prec
    ∷ hop own0 neighbour0 (one 7 0xFE 0xFF (0x01 ∷ 0x00 ∷ [])) gives 19
    ∷ hop own0 neighbour0 (one 7 0xFF 0xFF (0x01 ∷ 0x00 ∷ [])) gives 10
    ∷ hop own0 neighbour0 (one 7 0xFD 0xFF (0x01 ∷ 0x00 ∷ [])) gives 10
    ∷ hop own0 neighbour0 (one 200 0xFE 0xFF []) gives 18
    ∷ hop own0 neighbour0 (one 200 0xFD 0xFF []) gives 10
    ∷ []

-- own flags: the current parent 0x10
abbrev pub refusals : List (Example Sized ℕ)
refusals = sized (own_with 256 0 0 0 0xFF 0 1) 1 2056 gives 3 ∷ sized (own_with 256 0 0 0 0xEF 0 1) 1 2056 gives 0 ∷ []

-- own flags in what is passed on: energy 0x04, and NSA's two
abbrev pub containers : List (Example Calling (List ℕ))
containers =
    hop (own_node 0 0xFF 200) neighbour0 (one 2 0x00 0x10 (0x01 ∷ 100 ∷ [])) gives holding (one 2 0x00 0x10 (0x01 ∷ 200 ∷ []))
    ∷ hop (own_node 0 0xFB 200) neighbour0 (one 2 0x00 0x10 (0x01 ∷ 100 ∷ [])) gives []
    ∷ hop (own_node 0 0xFF 0) neighbour0 (one 1 0x00 0x10 (0x00 ∷ 0x00 ∷ [])) gives holding (one 1 0x00 0x10 (0x00 ∷ 0x03 ∷ []))
    ∷ hop (own_node 0 0xFE 0) neighbour0 (one 1 0x00 0x10 (0x00 ∷ 0x00 ∷ [])) gives holding (one 1 0x00 0x10 (0x00 ∷ 0x02 ∷ []))
    ∷ hop (own_node 0 0xFD 0) neighbour0 (one 1 0x00 0x20 (0xFF ∷ 0xFF ∷ [])) gives holding (one 1 0x00 0x20 (0x00 ∷ 0x01 ∷ []))
    ∷ []
