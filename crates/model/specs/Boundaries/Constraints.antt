-- Bars 18 and 19: every constraint met, and not met, at its limit.
use Rattle.std.specs.Prelude.{ℕ, List, [], ◌∷◌, ◌++◌}
use Rattle.model.specs.declared.Neighbour.{Neighbour}
use Rattle.model.specs.Samples.{Example, ◌gives◌, own0, neighbour0, node_of, link_of, etx_of, latency_of, throughput_of, lql_of, one, Calling, hop}

-- a neighbour beside a container with these bytes of data
abbrev pub asked : Neighbour → (data' : List ℕ) → Calling
asked c bs = hop own0 c bs

-- a mandatory constraint alone, by type and body
abbrev pub demand : (type : ℕ) → (body : List ℕ) → List ℕ
demand t b = one t 0x02 0x00 b

-- the same, optional
abbrev pub wish : (type : ℕ) → (body : List ℕ) → List ℕ
wish t b = one t 0x03 0x00 b

-- ---- bar 18

abbrev pub unknowns : List (Example Calling ℕ)
unknowns =
    -- unknown type, C=1: O=0 and O=1; C=0, recorded and aggregated
    asked neighbour0 (one 200 0x02 0x00 (0xAA ∷ [])) gives 18
    ∷ asked neighbour0 (one 200 0x03 0x00 (0xAA ∷ [])) gives 10
    ∷ asked neighbour0 (one 200 0x00 0x80 (0xAA ∷ [])) gives 10
    ∷ asked neighbour0 (one 200 0x00 0x00 (0xAA ∷ [])) gives 10
    -- whatever P, R and A
    ∷ asked neighbour0 (one 200 0x06 0x90 []) gives 18
    -- 0, 9 and 255 are unknown; 1, 7 and 8 are known
    ∷ asked neighbour0 (one 0 0x02 0x00 []) gives 18
    ∷ asked neighbour0 (one 9 0x02 0x00 []) gives 18
    ∷ asked neighbour0 (one 255 0x02 0x00 []) gives 18
    ∷ asked neighbour0 (demand 1 (0x00 ∷ 0x00 ∷ [])) gives 10
    ∷ asked (etx_of 128) (demand 7 (0x00 ∷ 0x80 ∷ [])) gives 10
    ∷ asked neighbour0 (demand 8 (0x00 ∷ 0x00 ∷ 0x01 ∷ [])) gives 10
    -- the first object with 18 or 19
    ∷ asked neighbour0 (demand 200 [] ++ demand 7 (0x00 ∷ 0x80 ∷ [])) gives 18
    ∷ asked neighbour0 (demand 7 (0x00 ∷ 0x80 ∷ []) ++ demand 200 []) gives 19
    ∷ asked neighbour0 (wish 7 (0x00 ∷ 0x80 ∷ []) ++ demand 200 []) gives 18
    ∷ asked neighbour0 (wish 200 [] ++ demand 7 (0x00 ∷ 0x80 ∷ [])) gives 19
    -- behind bars 15 to 17, wherever they stand
    ∷ asked neighbour0 (demand 200 [] ++ one 7 0x00 0x00 (0x00 ∷ [])) gives 15
    ∷ asked neighbour0 (demand 200 [] ++ one 1 0x00 0x80 []) gives 17
    ∷ []

-- ---- bar 19: node constraints. A node's flags: 0x01 overloaded, 0x02 aggregator, 0x04 energy is known

abbrev pub nodes : List (Example Calling ℕ)
nodes =
    -- NSA, aggregator bit set
    asked (node_of 0 0x02 0) (demand 1 (0x00 ∷ 0x02 ∷ [])) gives 10
    ∷ asked (node_of 0 0x00 0) (demand 1 (0x00 ∷ 0x02 ∷ [])) gives 19
    ∷ asked (node_of 0 0x03 0) (demand 1 (0x00 ∷ 0x02 ∷ [])) gives 10
    -- overload bit set
    ∷ asked (node_of 0 0x00 0) (demand 1 (0x00 ∷ 0x01 ∷ [])) gives 10
    ∷ asked (node_of 0 0x01 0) (demand 1 (0x00 ∷ 0x01 ∷ [])) gives 19
    ∷ asked (node_of 0 0x02 0) (demand 1 (0x00 ∷ 0x01 ∷ [])) gives 10
    -- both, and none; reserved bits ask for nothing
    ∷ asked (node_of 0 0x02 0) (demand 1 (0x00 ∷ 0x03 ∷ [])) gives 10
    ∷ asked (node_of 0 0x03 0) (demand 1 (0x00 ∷ 0x03 ∷ [])) gives 19
    ∷ asked (node_of 0 0x00 0) (demand 1 (0x00 ∷ 0x03 ∷ [])) gives 19
    ∷ asked (node_of 0 0x01 0) (demand 1 (0x00 ∷ 0x00 ∷ [])) gives 10
    ∷ asked (node_of 0 0x01 0) (demand 1 (0xFF ∷ 0xFC ∷ [])) gives 10
    -- NE, I=1, E=0: the type equals T; energy doesn't matter
    ∷ asked (node_of 0 0x00 0) (demand 2 (0x08 ∷ 0xFF ∷ [])) gives 10
    ∷ asked (node_of 1 0x00 0) (demand 2 (0x08 ∷ 0xFF ∷ [])) gives 19
    ∷ asked (node_of 1 0x00 0) (demand 2 (0x0C ∷ 0xFF ∷ [])) gives 19
    ∷ asked (node_of 2 0x00 0) (demand 2 (0x0C ∷ 0xFF ∷ [])) gives 10
    ∷ asked (node_of 3 0x00 0) (demand 2 (0x0C ∷ 0xFF ∷ [])) gives 19
    ∷ asked (node_of 3 0x00 0) (demand 2 (0xFE ∷ 0xFF ∷ [])) gives 10
    -- NE, I=1, E=1: and energy above 100; 99, 100, 101, unknown, and another type
    ∷ asked (node_of 0 0x04 99) (demand 2 (0x09 ∷ 100 ∷ [])) gives 19
    ∷ asked (node_of 0 0x04 100) (demand 2 (0x09 ∷ 100 ∷ [])) gives 19
    ∷ asked (node_of 0 0x04 101) (demand 2 (0x09 ∷ 100 ∷ [])) gives 10
    ∷ asked (node_of 0 0x00 101) (demand 2 (0x09 ∷ 100 ∷ [])) gives 19
    ∷ asked (node_of 1 0x04 101) (demand 2 (0x09 ∷ 100 ∷ [])) gives 19
    -- NE, I=0, E=0: the type is another
    ∷ asked (node_of 0 0x00 0) (demand 2 (0x00 ∷ 100 ∷ [])) gives 19
    ∷ asked (node_of 0 0x04 101) (demand 2 (0x00 ∷ 100 ∷ [])) gives 19
    ∷ asked (node_of 1 0x00 0) (demand 2 (0x00 ∷ 100 ∷ [])) gives 10
    ∷ asked (node_of 3 0x00 0) (demand 2 (0xF6 ∷ 100 ∷ [])) gives 19
    ∷ asked (node_of 2 0x00 0) (demand 2 (0xF6 ∷ 100 ∷ [])) gives 10
    -- NE, I=0, E=1: or energy 100 and more; 99, 100, 101, unknown, and another type
    ∷ asked (node_of 0 0x04 99) (demand 2 (0x01 ∷ 100 ∷ [])) gives 19
    ∷ asked (node_of 0 0x04 100) (demand 2 (0x01 ∷ 100 ∷ [])) gives 10
    ∷ asked (node_of 0 0x04 101) (demand 2 (0x01 ∷ 100 ∷ [])) gives 10
    ∷ asked (node_of 0 0x00 101) (demand 2 (0x01 ∷ 100 ∷ [])) gives 19
    ∷ asked (node_of 1 0x04 99) (demand 2 (0x01 ∷ 100 ∷ [])) gives 10
    ∷ asked (node_of 1 0x00 0) (demand 2 (0x01 ∷ 100 ∷ [])) gives 10
    -- HP limit 4: metric 3 and 4, before it and behind it; no metric
    ∷ asked neighbour0 (one 3 0x00 0x00 (0x00 ∷ 3 ∷ []) ++ demand 3 (0x00 ∷ 4 ∷ [])) gives 10
    ∷ asked neighbour0 (one 3 0x00 0x00 (0x00 ∷ 4 ∷ []) ++ demand 3 (0x00 ∷ 4 ∷ [])) gives 19
    ∷ asked neighbour0 (demand 3 (0x00 ∷ 4 ∷ []) ++ one 3 0x00 0x00 (0x00 ∷ 3 ∷ [])) gives 10
    ∷ asked neighbour0 (demand 3 (0x00 ∷ 4 ∷ []) ++ one 3 0x00 0x00 (0x00 ∷ 4 ∷ [])) gives 19
    ∷ asked neighbour0 (demand 3 (0x00 ∷ 4 ∷ [])) gives 19
    -- whatever the metric's A, and what stands between; the lowest and the highest limit
    ∷ asked neighbour0 (demand 3 (0x00 ∷ 4 ∷ []) ++ demand 1 (0x00 ∷ 0x00 ∷ []) ++ one 3 0x00 0x10 (0x00 ∷ 3 ∷ [])) gives 10
    ∷ asked neighbour0 (demand 3 (0x00 ∷ 0 ∷ []) ++ one 3 0x00 0x00 (0x00 ∷ 0 ∷ [])) gives 19
    ∷ asked neighbour0 (demand 3 (0x00 ∷ 255 ∷ []) ++ one 3 0x00 0x00 (0x00 ∷ 254 ∷ [])) gives 10
    ∷ asked neighbour0 (demand 3 (0x00 ∷ 255 ∷ []) ++ one 3 0x00 0x00 (0x00 ∷ 255 ∷ [])) gives 19
    ∷ []

-- ---- bar 19: link constraints

abbrev pub links : List (Example Calling ℕ)
links =
    -- throughput, limit 1000: 999, 1000, 1001; unknown, though its field is 1001
    asked (throughput_of 999) (demand 4 (0x00 ∷ 0x00 ∷ 0x03 ∷ 0xE8 ∷ [])) gives 19
    ∷ asked (throughput_of 1000) (demand 4 (0x00 ∷ 0x00 ∷ 0x03 ∷ 0xE8 ∷ [])) gives 10
    ∷ asked (throughput_of 1001) (demand 4 (0x00 ∷ 0x00 ∷ 0x03 ∷ 0xE8 ∷ [])) gives 10
    ∷ asked (link_of 0x18 1 1 1 1001) (demand 4 (0x00 ∷ 0x00 ∷ 0x03 ∷ 0xE8 ∷ [])) gives 19
    -- latency, limit 1000: 999, 1000, 1001; unknown, though its field is 999
    ∷ asked (latency_of 999) (demand 5 (0x00 ∷ 0x00 ∷ 0x03 ∷ 0xE8 ∷ [])) gives 10
    ∷ asked (latency_of 1000) (demand 5 (0x00 ∷ 0x00 ∷ 0x03 ∷ 0xE8 ∷ [])) gives 10
    ∷ asked (latency_of 1001) (demand 5 (0x00 ∷ 0x00 ∷ 0x03 ∷ 0xE8 ∷ [])) gives 19
    ∷ asked (link_of 0x28 1 1 999 9999) (demand 5 (0x00 ∷ 0x00 ∷ 0x03 ∷ 0xE8 ∷ [])) gives 19
    -- ETX, limit 256: 255, 256, 257; unknown, though its field is 255
    ∷ asked (etx_of 255) (demand 7 (0x01 ∷ 0x00 ∷ [])) gives 10
    ∷ asked (etx_of 256) (demand 7 (0x01 ∷ 0x00 ∷ [])) gives 10
    ∷ asked (etx_of 257) (demand 7 (0x01 ∷ 0x00 ∷ [])) gives 19
    ∷ asked (link_of 0x30 1 255 1 9999) (demand 7 (0x01 ∷ 0x00 ∷ [])) gives 19
    -- all 32 bits count, the first byte most
    ∷ asked (throughput_of 0x01020303) (demand 4 (0x01 ∷ 0x02 ∷ 0x03 ∷ 0x04 ∷ [])) gives 19
    ∷ asked (throughput_of 0x01020304) (demand 4 (0x01 ∷ 0x02 ∷ 0x03 ∷ 0x04 ∷ [])) gives 10
    ∷ asked (latency_of 0xFFFFFFFF) (demand 5 (0xFF ∷ 0xFF ∷ 0xFF ∷ 0xFF ∷ [])) gives 10
    ∷ asked (latency_of 0xFFFFFFFF) (demand 5 (0xFF ∷ 0xFF ∷ 0xFF ∷ 0xFE ∷ [])) gives 19
    -- LQL, Val 3 (0x60): 0, 1, 3, 4; the counter bits don't matter
    ∷ asked (lql_of 0) (demand 6 (0x00 ∷ 0x60 ∷ [])) gives 19
    ∷ asked (lql_of 1) (demand 6 (0x00 ∷ 0x60 ∷ [])) gives 10
    ∷ asked (lql_of 3) (demand 6 (0x00 ∷ 0x60 ∷ [])) gives 10
    ∷ asked (lql_of 4) (demand 6 (0x00 ∷ 0x60 ∷ [])) gives 19
    ∷ asked (lql_of 3) (demand 6 (0xFF ∷ 0x7F ∷ [])) gives 10
    ∷ asked (lql_of 4) (demand 6 (0xFF ∷ 0x7F ∷ [])) gives 19
    -- Val 0 and 7
    ∷ asked (lql_of 0) (demand 6 (0x00 ∷ 0x00 ∷ [])) gives 19
    ∷ asked (lql_of 1) (demand 6 (0x00 ∷ 0x00 ∷ [])) gives 19
    ∷ asked (lql_of 7) (demand 6 (0x00 ∷ 0xE0 ∷ [])) gives 10
    ∷ []

-- ---- bar 19: a latency or ETX limit beside a metric that is added up along the path

-- metrics of latency and ETX that are added up, 2 received of each
abbrev sums : List ℕ
sums = one 5 0x00 0x00 (0x00 ∷ 0x00 ∷ 0x00 ∷ 0x02 ∷ []) ++ one 7 0x00 0x00 (0x00 ∷ 0x02 ∷ [])

abbrev pub paths : List (Example Calling ℕ)
paths =
    -- latency: 1,500,000 received and 500,000 of the link, limits 2,000,000 and 1,999,999; the metric before it and behind it
    asked (latency_of 500000) (one 5 0x00 0x00 (0x00 ∷ 0x16 ∷ 0xE3 ∷ 0x60 ∷ []) ++ demand 5 (0x00 ∷ 0x1E ∷ 0x84 ∷ 0x80 ∷ [])) gives 10
    ∷ asked (latency_of 500000) (one 5 0x00 0x00 (0x00 ∷ 0x16 ∷ 0xE3 ∷ 0x60 ∷ []) ++ demand 5 (0x00 ∷ 0x1E ∷ 0x84 ∷ 0x7F ∷ [])) gives 19
    ∷ asked (latency_of 500000) (demand 5 (0x00 ∷ 0x1E ∷ 0x84 ∷ 0x80 ∷ []) ++ one 5 0x00 0x00 (0x00 ∷ 0x16 ∷ 0xE3 ∷ 0x60 ∷ [])) gives 10
    ∷ asked (latency_of 500000) (demand 5 (0x00 ∷ 0x1E ∷ 0x84 ∷ 0x7F ∷ []) ++ one 5 0x00 0x00 (0x00 ∷ 0x16 ∷ 0xE3 ∷ 0x60 ∷ [])) gives 19
    -- with other objects between and around them
    ∷ asked (latency_of 500000) (one 200 0x00 0x80 (0xAA ∷ []) ++ demand 5 (0x00 ∷ 0x1E ∷ 0x84 ∷ 0x7F ∷ []) ++ one 3 0x00 0x00 (0x00 ∷ 3 ∷ []) ++ one 5 0x00 0x00 (0x00 ∷ 0x16 ∷ 0xE3 ∷ 0x60 ∷ [])) gives 19
    ∷ asked (latency_of 500000) (one 200 0x00 0x80 (0xAA ∷ []) ++ one 5 0x00 0x00 (0x00 ∷ 0x16 ∷ 0xE3 ∷ 0x60 ∷ []) ++ one 3 0x00 0x00 (0x00 ∷ 3 ∷ []) ++ demand 5 (0x00 ∷ 0x1E ∷ 0x84 ∷ 0x80 ∷ [])) gives 10
    -- limit 1000, 2 received: 998, 999; the link alone would meet it, and so would what is received
    ∷ asked (latency_of 998) (one 5 0x00 0x00 (0x00 ∷ 0x00 ∷ 0x00 ∷ 0x02 ∷ []) ++ demand 5 (0x00 ∷ 0x00 ∷ 0x03 ∷ 0xE8 ∷ [])) gives 10
    ∷ asked (latency_of 999) (one 5 0x00 0x00 (0x00 ∷ 0x00 ∷ 0x00 ∷ 0x02 ∷ []) ++ demand 5 (0x00 ∷ 0x00 ∷ 0x03 ∷ 0xE8 ∷ [])) gives 19
    -- 0 received; nothing of the link
    ∷ asked (latency_of 1000) (one 5 0x00 0x00 (0x00 ∷ 0x00 ∷ 0x00 ∷ 0x00 ∷ []) ++ demand 5 (0x00 ∷ 0x00 ∷ 0x03 ∷ 0xE8 ∷ [])) gives 10
    ∷ asked (latency_of 1001) (one 5 0x00 0x00 (0x00 ∷ 0x00 ∷ 0x00 ∷ 0x00 ∷ []) ++ demand 5 (0x00 ∷ 0x00 ∷ 0x03 ∷ 0xE8 ∷ [])) gives 19
    ∷ asked (latency_of 0) (one 5 0x00 0x00 (0x00 ∷ 0x00 ∷ 0x03 ∷ 0xE8 ∷ []) ++ demand 5 (0x00 ∷ 0x00 ∷ 0x03 ∷ 0xE8 ∷ [])) gives 10
    ∷ asked (latency_of 0) (one 5 0x00 0x00 (0x00 ∷ 0x00 ∷ 0x03 ∷ 0xE9 ∷ []) ++ demand 5 (0x00 ∷ 0x00 ∷ 0x03 ∷ 0xE8 ∷ [])) gives 19
    -- A of 1, 2, 3, 4 and 7, and recorded: the link alone decides
    ∷ asked (latency_of 1000) (one 5 0x00 0x10 (0x00 ∷ 0x00 ∷ 0x00 ∷ 0x02 ∷ []) ++ demand 5 (0x00 ∷ 0x00 ∷ 0x03 ∷ 0xE8 ∷ [])) gives 10
    ∷ asked (latency_of 1001) (one 5 0x00 0x10 (0x00 ∷ 0x00 ∷ 0x00 ∷ 0x02 ∷ []) ++ demand 5 (0x00 ∷ 0x00 ∷ 0x03 ∷ 0xE8 ∷ [])) gives 19
    ∷ asked (latency_of 1000) (one 5 0x00 0x20 (0x00 ∷ 0x00 ∷ 0x00 ∷ 0x02 ∷ []) ++ demand 5 (0x00 ∷ 0x00 ∷ 0x03 ∷ 0xE8 ∷ [])) gives 10
    ∷ asked (latency_of 1001) (one 5 0x00 0x20 (0x00 ∷ 0x00 ∷ 0x00 ∷ 0x02 ∷ []) ++ demand 5 (0x00 ∷ 0x00 ∷ 0x03 ∷ 0xE8 ∷ [])) gives 19
    ∷ asked (latency_of 1000) (one 5 0x00 0x30 (0x00 ∷ 0x00 ∷ 0x00 ∷ 0x02 ∷ []) ++ demand 5 (0x00 ∷ 0x00 ∷ 0x03 ∷ 0xE8 ∷ [])) gives 10
    ∷ asked (latency_of 1001) (one 5 0x00 0x30 (0x00 ∷ 0x00 ∷ 0x00 ∷ 0x02 ∷ []) ++ demand 5 (0x00 ∷ 0x00 ∷ 0x03 ∷ 0xE8 ∷ [])) gives 19
    ∷ asked (latency_of 1000) (one 5 0x00 0x40 (0x00 ∷ 0x00 ∷ 0x00 ∷ 0x02 ∷ []) ++ demand 5 (0x00 ∷ 0x00 ∷ 0x03 ∷ 0xE8 ∷ [])) gives 10
    ∷ asked (latency_of 1001) (one 5 0x00 0x40 (0x00 ∷ 0x00 ∷ 0x00 ∷ 0x02 ∷ []) ++ demand 5 (0x00 ∷ 0x00 ∷ 0x03 ∷ 0xE8 ∷ [])) gives 19
    ∷ asked (latency_of 1000) (one 5 0x00 0x70 (0x00 ∷ 0x00 ∷ 0x00 ∷ 0x02 ∷ []) ++ demand 5 (0x00 ∷ 0x00 ∷ 0x03 ∷ 0xE8 ∷ [])) gives 10
    ∷ asked (latency_of 1001) (one 5 0x00 0x70 (0x00 ∷ 0x00 ∷ 0x00 ∷ 0x02 ∷ []) ++ demand 5 (0x00 ∷ 0x00 ∷ 0x03 ∷ 0xE8 ∷ [])) gives 19
    ∷ asked (latency_of 1000) (one 5 0x00 0x80 (0x00 ∷ 0x00 ∷ 0x00 ∷ 0x02 ∷ []) ++ demand 5 (0x00 ∷ 0x00 ∷ 0x03 ∷ 0xE8 ∷ [])) gives 10
    ∷ asked (latency_of 1001) (one 5 0x00 0x80 (0x00 ∷ 0x00 ∷ 0x00 ∷ 0x02 ∷ []) ++ demand 5 (0x00 ∷ 0x00 ∷ 0x03 ∷ 0xE8 ∷ [])) gives 19
    -- P, O and Prec of the metric and the reserved bits of its header don't matter
    ∷ asked (latency_of 999) (one 5 0xFD 0x0F (0x00 ∷ 0x00 ∷ 0x00 ∷ 0x02 ∷ []) ++ demand 5 (0x00 ∷ 0x00 ∷ 0x03 ∷ 0xE8 ∷ [])) gives 19
    ∷ asked (latency_of 998) (one 5 0xFD 0x0F (0x00 ∷ 0x00 ∷ 0x00 ∷ 0x02 ∷ []) ++ demand 5 (0x00 ∷ 0x00 ∷ 0x03 ∷ 0xE8 ∷ [])) gives 10
    -- a metric of another type, unknown ones too, has no part in it
    ∷ asked (latency_of 1000) (one 7 0x00 0x00 (0x00 ∷ 0x02 ∷ []) ++ one 4 0x00 0x00 (0x00 ∷ 0x00 ∷ 0x00 ∷ 0x02 ∷ []) ++ one 13 0x00 0x00 (0x00 ∷ 0x00 ∷ 0x00 ∷ 0x02 ∷ []) ++ demand 5 (0x00 ∷ 0x00 ∷ 0x03 ∷ 0xE8 ∷ [])) gives 10
    ∷ asked (etx_of 256) (one 5 0x00 0x00 (0x00 ∷ 0x00 ∷ 0x00 ∷ 0x02 ∷ []) ++ one 4 0x00 0x00 (0x00 ∷ 0x00 ∷ 0x00 ∷ 0x02 ∷ []) ++ one 15 0x00 0x00 (0x00 ∷ 0x02 ∷ []) ++ demand 7 (0x01 ∷ 0x00 ∷ [])) gives 10
    -- the link's value is not known, though its field is 0
    ∷ asked (link_of 0x28 1 1 0 9999) (one 5 0x00 0x00 (0x00 ∷ 0x00 ∷ 0x00 ∷ 0x00 ∷ []) ++ demand 5 (0x00 ∷ 0x00 ∷ 0x03 ∷ 0xE8 ∷ [])) gives 19
    ∷ asked (link_of 0x30 1 0 1 9999) (one 7 0x00 0x00 (0x00 ∷ 0x00 ∷ []) ++ demand 7 (0x01 ∷ 0x00 ∷ [])) gives 19
    ∷ asked (link_of 0x28 1 1 0 9999) (one 5 0x00 0x00 (0x00 ∷ 0x00 ∷ 0x00 ∷ 0x02 ∷ []) ++ demand 5 (0xFF ∷ 0xFF ∷ 0xFF ∷ 0xFF ∷ [])) gives 19
    ∷ asked (link_of 0x30 1 0 1 9999) (one 7 0x00 0x00 (0x00 ∷ 0x02 ∷ []) ++ demand 7 (0xFF ∷ 0xFF ∷ [])) gives 19
    -- ETX: limit 256, 200 received: 55, 56, 57; before it and behind it
    ∷ asked (etx_of 55) (one 7 0x00 0x00 (0x00 ∷ 0xC8 ∷ []) ++ demand 7 (0x01 ∷ 0x00 ∷ [])) gives 10
    ∷ asked (etx_of 56) (one 7 0x00 0x00 (0x00 ∷ 0xC8 ∷ []) ++ demand 7 (0x01 ∷ 0x00 ∷ [])) gives 10
    ∷ asked (etx_of 57) (one 7 0x00 0x00 (0x00 ∷ 0xC8 ∷ []) ++ demand 7 (0x01 ∷ 0x00 ∷ [])) gives 19
    ∷ asked (etx_of 56) (demand 7 (0x01 ∷ 0x00 ∷ []) ++ one 7 0x00 0x00 (0x00 ∷ 0xC8 ∷ [])) gives 10
    ∷ asked (etx_of 57) (demand 7 (0x01 ∷ 0x00 ∷ []) ++ one 7 0x00 0x00 (0x00 ∷ 0xC8 ∷ [])) gives 19
    -- nothing of the link: 256 received, and 257
    ∷ asked (etx_of 0) (one 7 0x00 0x00 (0x01 ∷ 0x00 ∷ []) ++ demand 7 (0x01 ∷ 0x00 ∷ [])) gives 10
    ∷ asked (etx_of 0) (one 7 0x00 0x00 (0x01 ∷ 0x01 ∷ []) ++ demand 7 (0x01 ∷ 0x00 ∷ [])) gives 19
    -- A of 1, 2 and 4, and recorded
    ∷ asked (etx_of 256) (one 7 0x00 0x10 (0x00 ∷ 0x02 ∷ []) ++ demand 7 (0x01 ∷ 0x00 ∷ [])) gives 10
    ∷ asked (etx_of 257) (one 7 0x00 0x10 (0x00 ∷ 0x02 ∷ []) ++ demand 7 (0x01 ∷ 0x00 ∷ [])) gives 19
    ∷ asked (etx_of 256) (one 7 0x00 0x20 (0x00 ∷ 0x02 ∷ []) ++ demand 7 (0x01 ∷ 0x00 ∷ [])) gives 10
    ∷ asked (etx_of 257) (one 7 0x00 0x20 (0x00 ∷ 0x02 ∷ []) ++ demand 7 (0x01 ∷ 0x00 ∷ [])) gives 19
    ∷ asked (etx_of 256) (one 7 0x00 0x40 (0x00 ∷ 0x02 ∷ []) ++ demand 7 (0x01 ∷ 0x00 ∷ [])) gives 10
    ∷ asked (etx_of 257) (one 7 0x00 0x40 (0x00 ∷ 0x02 ∷ []) ++ demand 7 (0x01 ∷ 0x00 ∷ [])) gives 19
    ∷ asked (etx_of 256) (one 7 0x00 0x80 (0x00 ∷ 0x02 ∷ []) ++ demand 7 (0x01 ∷ 0x00 ∷ [])) gives 10
    ∷ asked (etx_of 257) (one 7 0x00 0x80 (0x00 ∷ 0x02 ∷ []) ++ demand 7 (0x01 ∷ 0x00 ∷ [])) gives 19
    -- a sum beyond the field is above any limit, though an ETX is passed on as 65535
    ∷ asked (etx_of 1) (one 7 0x00 0x00 (0xFF ∷ 0xFF ∷ []) ++ demand 7 (0xFF ∷ 0xFF ∷ [])) gives 19
    ∷ asked (etx_of 0) (one 7 0x00 0x00 (0xFF ∷ 0xFF ∷ []) ++ demand 7 (0xFF ∷ 0xFF ∷ [])) gives 10
    ∷ asked (etx_of 1) (one 7 0x00 0x00 (0xFF ∷ 0xFE ∷ []) ++ demand 7 (0xFF ∷ 0xFF ∷ [])) gives 10
    ∷ asked (latency_of 1) (one 5 0x00 0x00 (0xFF ∷ 0xFF ∷ 0xFF ∷ 0xFF ∷ []) ++ demand 5 (0xFF ∷ 0xFF ∷ 0xFF ∷ 0xFF ∷ [])) gives 19
    ∷ asked (latency_of 0) (one 5 0x00 0x00 (0xFF ∷ 0xFF ∷ 0xFF ∷ 0xFF ∷ []) ++ demand 5 (0xFF ∷ 0xFF ∷ 0xFF ∷ 0xFF ∷ [])) gives 10
    ∷ asked (latency_of 0xFFFFFFFF) (one 5 0x00 0x00 (0xFF ∷ 0xFF ∷ 0xFF ∷ 0xFF ∷ []) ++ demand 5 (0xFF ∷ 0xFF ∷ 0xFF ∷ 0xFF ∷ [])) gives 19
    ∷ asked (latency_of 0xFFFFFFFE) (one 5 0x00 0x00 (0x00 ∷ 0x00 ∷ 0x00 ∷ 0x01 ∷ []) ++ demand 5 (0xFF ∷ 0xFF ∷ 0xFF ∷ 0xFF ∷ [])) gives 10
    -- all 32 bits of what is received count, the first byte most
    ∷ asked (latency_of 0x01010101) (one 5 0x00 0x00 (0x01 ∷ 0x02 ∷ 0x03 ∷ 0x04 ∷ []) ++ demand 5 (0x02 ∷ 0x03 ∷ 0x04 ∷ 0x05 ∷ [])) gives 10
    ∷ asked (latency_of 0x01010101) (one 5 0x00 0x00 (0x01 ∷ 0x02 ∷ 0x03 ∷ 0x04 ∷ []) ++ demand 5 (0x02 ∷ 0x03 ∷ 0x04 ∷ 0x04 ∷ [])) gives 19
    -- both limits, each by its own metric
    ∷ asked (link_of 0x18 0 56 500 0) (one 5 0x00 0x00 (0x00 ∷ 0x00 ∷ 0x01 ∷ 0xF4 ∷ []) ++ one 7 0x00 0x00 (0x00 ∷ 0xC8 ∷ []) ++ demand 5 (0x00 ∷ 0x00 ∷ 0x03 ∷ 0xE8 ∷ []) ++ demand 7 (0x01 ∷ 0x00 ∷ [])) gives 10
    ∷ asked (link_of 0x18 0 56 501 0) (one 5 0x00 0x00 (0x00 ∷ 0x00 ∷ 0x01 ∷ 0xF4 ∷ []) ++ one 7 0x00 0x00 (0x00 ∷ 0xC8 ∷ []) ++ demand 5 (0x00 ∷ 0x00 ∷ 0x03 ∷ 0xE8 ∷ []) ++ demand 7 (0x01 ∷ 0x00 ∷ [])) gives 19
    ∷ asked (link_of 0x18 0 57 500 0) (one 5 0x00 0x00 (0x00 ∷ 0x00 ∷ 0x01 ∷ 0xF4 ∷ []) ++ one 7 0x00 0x00 (0x00 ∷ 0xC8 ∷ []) ++ demand 5 (0x00 ∷ 0x00 ∷ 0x03 ∷ 0xE8 ∷ []) ++ demand 7 (0x01 ∷ 0x00 ∷ [])) gives 19
    -- throughput stays the link's
    ∷ asked (throughput_of 999) (one 4 0x00 0x00 (0x00 ∷ 0x00 ∷ 0x03 ∷ 0xE8 ∷ []) ++ demand 4 (0x00 ∷ 0x00 ∷ 0x03 ∷ 0xE8 ∷ [])) gives 19
    ∷ asked (throughput_of 1000) (one 4 0x00 0x00 (0x00 ∷ 0x00 ∷ 0x00 ∷ 0x01 ∷ []) ++ demand 4 (0x00 ∷ 0x00 ∷ 0x03 ∷ 0xE8 ∷ [])) gives 10
    -- limits of other types beside sums of latency and ETX
    ∷ asked (throughput_of 999) (sums ++ demand 4 (0x00 ∷ 0x00 ∷ 0x03 ∷ 0xE8 ∷ [])) gives 19
    ∷ asked (throughput_of 1000) (sums ++ demand 4 (0x00 ∷ 0x00 ∷ 0x03 ∷ 0xE8 ∷ [])) gives 10
    ∷ asked (node_of 0 0x04 100) (sums ++ demand 2 (0x09 ∷ 100 ∷ [])) gives 19
    ∷ asked (node_of 0 0x04 101) (sums ++ demand 2 (0x09 ∷ 100 ∷ [])) gives 10
    ∷ asked neighbour0 (sums ++ one 3 0x00 0x00 (0x00 ∷ 3 ∷ []) ++ demand 3 (0x00 ∷ 4 ∷ [])) gives 10
    ∷ asked neighbour0 (sums ++ one 3 0x00 0x00 (0x00 ∷ 4 ∷ []) ++ demand 3 (0x00 ∷ 4 ∷ [])) gives 19
    ∷ asked (lql_of 3) (sums ++ demand 6 (0x00 ∷ 0x60 ∷ [])) gives 10
    ∷ asked (lql_of 4) (sums ++ demand 6 (0x00 ∷ 0x60 ∷ [])) gives 19
    -- optional
    ∷ asked (latency_of 999) (one 5 0x00 0x00 (0x00 ∷ 0x00 ∷ 0x00 ∷ 0x02 ∷ []) ++ wish 5 (0x00 ∷ 0x00 ∷ 0x03 ∷ 0xE8 ∷ [])) gives 10
    ∷ asked (etx_of 57) (wish 7 (0x01 ∷ 0x00 ∷ []) ++ one 7 0x00 0x00 (0x00 ∷ 0xC8 ∷ [])) gives 10
    ∷ []

-- ---- an optional constraint that isn't met bars nobody

abbrev pub wishes : List (Example Calling ℕ)
wishes =
    asked neighbour0 (wish 1 (0x00 ∷ 0x02 ∷ [])) gives 10
    ∷ asked neighbour0 (wish 2 (0x00 ∷ 0x00 ∷ [])) gives 10
    ∷ asked neighbour0 (wish 3 (0x00 ∷ 4 ∷ [])) gives 10
    ∷ asked neighbour0 (wish 4 (0x00 ∷ 0x00 ∷ 0x03 ∷ 0xE8 ∷ [])) gives 10
    ∷ asked neighbour0 (wish 5 (0x00 ∷ 0x00 ∷ 0x03 ∷ 0xE8 ∷ [])) gives 10
    ∷ asked neighbour0 (wish 6 (0x00 ∷ 0x60 ∷ [])) gives 10
    ∷ asked neighbour0 (wish 7 (0x01 ∷ 0x00 ∷ [])) gives 10
    -- a mandatory one behind it still does
    ∷ asked neighbour0 (wish 1 (0x00 ∷ 0x02 ∷ []) ++ demand 7 (0x01 ∷ 0x00 ∷ [])) gives 19
    -- P, R, A and Prec don't matter
    ∷ asked neighbour0 (one 7 0xFE 0xFF (0x01 ∷ 0x00 ∷ [])) gives 19
    ∷ asked neighbour0 (one 7 0xFF 0xFF (0x01 ∷ 0x00 ∷ [])) gives 10
    ∷ []
