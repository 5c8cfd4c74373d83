-- Leaf answers 31 to 36, on each side of each boundary.
use Rattle.std.specs.Prelude.{ℕ, ◌*◌, List, [], ◌∷◌, ◌++◌, map, replicate}
use Rattle.model.specs.declared.Own.{Own}
use Rattle.model.specs.declared.Neighbour.{Neighbour}
use Rattle.model.specs.Samples.{Example, ◌gives◌, own0, own_node, neighbour0, link_of, etx_of, latency_of, throughput_of, lql_of, holding, one, Calling, single, hop, result_of, Outcome, stopped}

abbrev pub leaf_given : Calling → ℕ
leaf_given w = (result_of w).answer.leaf

-- ---- 32: every A

-- an aggregated metric by type and body
pub record Aggregated : Type 0 where
  pub own : Own
  pub neighbour : Neighbour
  pub type : ℕ
  pub body : List ℕ

abbrev pub aggregated : Own → Neighbour → (type : ℕ) → (body : List ℕ) → Aggregated
aggregated own c t b = record { own = own; neighbour = c; type = t; body = b }

-- the leaf answer for each A from 0 to 7
abbrev pub leaf_by_a : Aggregated → List ℕ
leaf_by_a m = map (λ a. leaf_given (hop m.own m.neighbour (one m.type 0x00 (a * 16) m.body))) (0 ∷ 1 ∷ 2 ∷ 3 ∷ 4 ∷ 5 ∷ 6 ∷ 7 ∷ [])

abbrev pub operations : List (Example Aggregated (List ℕ))
operations =
    -- NSA and NE: maximum and minimum
    aggregated own0 neighbour0 1 (0x00 ∷ 0x00 ∷ []) gives (32 ∷ 0 ∷ 0 ∷ 32 ∷ 32 ∷ 32 ∷ 32 ∷ 32 ∷ [])
    ∷ aggregated (own_node 0 0x04 100) neighbour0 2 (0x01 ∷ 100 ∷ []) gives (32 ∷ 0 ∷ 0 ∷ 32 ∷ 32 ∷ 32 ∷ 32 ∷ 32 ∷ [])
    -- HP: add
    ∷ aggregated own0 neighbour0 3 (0x00 ∷ 3 ∷ []) gives (0 ∷ 32 ∷ 32 ∷ 32 ∷ 32 ∷ 32 ∷ 32 ∷ 32 ∷ [])
    -- throughput, latency and ETX: add, maximum and minimum
    ∷ aggregated own0 (throughput_of 1) 4 (0x00 ∷ 0x00 ∷ 0x00 ∷ 0x01 ∷ []) gives (0 ∷ 0 ∷ 0 ∷ 32 ∷ 32 ∷ 32 ∷ 32 ∷ 32 ∷ [])
    ∷ aggregated own0 (latency_of 1) 5 (0x00 ∷ 0x00 ∷ 0x00 ∷ 0x01 ∷ []) gives (0 ∷ 0 ∷ 0 ∷ 32 ∷ 32 ∷ 32 ∷ 32 ∷ 32 ∷ [])
    ∷ aggregated own0 (etx_of 128) 7 (0x00 ∷ 0x80 ∷ []) gives (0 ∷ 0 ∷ 0 ∷ 32 ∷ 32 ∷ 32 ∷ 32 ∷ 32 ∷ [])
    -- a sum past the maximum: throughput and latency, A=0, are 36; ETX stops
    ∷ aggregated own0 (throughput_of 1) 4 (replicate 4 0xFF) gives (36 ∷ 0 ∷ 0 ∷ 32 ∷ 32 ∷ 32 ∷ 32 ∷ 32 ∷ [])
    ∷ aggregated own0 (latency_of 1) 5 (replicate 4 0xFF) gives (36 ∷ 0 ∷ 0 ∷ 32 ∷ 32 ∷ 32 ∷ 32 ∷ 32 ∷ [])
    ∷ aggregated own0 (etx_of 1) 7 (replicate 2 0xFF) gives (0 ∷ 0 ∷ 0 ∷ 32 ∷ 32 ∷ 32 ∷ 32 ∷ 32 ∷ [])
    -- the lowest number at an object: unknown type is 31, a value that is unknown too is 32, HP at 255 too is 32
    ∷ aggregated own0 neighbour0 200 (0x00 ∷ []) gives replicate 8 31
    ∷ aggregated own0 neighbour0 7 (0x00 ∷ 0x80 ∷ []) gives (33 ∷ 33 ∷ 33 ∷ 32 ∷ 32 ∷ 32 ∷ 32 ∷ 32 ∷ [])
    ∷ aggregated own0 neighbour0 3 (0x00 ∷ 255 ∷ []) gives (34 ∷ 32 ∷ 32 ∷ 32 ∷ 32 ∷ 32 ∷ 32 ∷ 32 ∷ [])
    ∷ []

-- ---- 31, 33, 34

abbrev pub leaves : List (Example Calling ℕ)
leaves =
    -- 31: aggregated, recorded, optional constraint; 0 and 9 are unknown, 1 and 7 are known
    hop own0 neighbour0 (one 200 0x00 0x00 (0xAA ∷ [])) gives 31
    ∷ hop own0 neighbour0 (one 200 0x00 0x80 (0xAA ∷ [])) gives 0
    ∷ hop own0 neighbour0 (one 200 0x03 0x00 (0xAA ∷ [])) gives 0
    ∷ hop own0 neighbour0 (one 0 0x00 0x00 []) gives 31
    ∷ hop own0 neighbour0 (one 9 0x00 0x00 []) gives 31
    ∷ hop own0 neighbour0 (one 1 0x00 0x10 (0x00 ∷ 0x00 ∷ [])) gives 0
    ∷ hop own0 (etx_of 128) (one 7 0x00 0x00 (0x00 ∷ 0x80 ∷ [])) gives 0
    -- 33: throughput, latency and ETX, unknown, though all else is known; known
    ∷ hop own0 (link_of 0x18 1 1 1 1) (one 4 0x00 0x00 (replicate 4 0x00)) gives 33
    ∷ hop own0 (throughput_of 1) (one 4 0x00 0x00 (replicate 4 0x00)) gives 0
    ∷ hop own0 (link_of 0x28 1 1 1 1) (one 5 0x00 0x00 (replicate 4 0x00)) gives 33
    ∷ hop own0 (latency_of 1) (one 5 0x00 0x00 (replicate 4 0x00)) gives 0
    ∷ hop own0 (link_of 0x34 1 1 1 1) (one 7 0x00 0x00 (0x00 ∷ 0x00 ∷ [])) gives 33
    ∷ hop own0 (etx_of 1) (one 7 0x00 0x00 (0x00 ∷ 0x00 ∷ [])) gives 0
    -- own energy, unknown, though the neighbour's is known; NE with E=0 and E=1
    ∷ hop (own_node 0 0x03 9) (link_of 0x3C 1 1 1 1) (one 2 0x00 0x10 (0x01 ∷ 9 ∷ [])) gives 33
    ∷ hop (own_node 0 0x04 9) neighbour0 (one 2 0x00 0x10 (0x01 ∷ 9 ∷ [])) gives 0
    ∷ hop (own_node 0 0x04 9) neighbour0 (one 2 0x00 0x10 (0x00 ∷ 9 ∷ [])) gives 33
    ∷ hop (own_node 0 0x04 9) neighbour0 (one 2 0x00 0x20 (0x0E ∷ 9 ∷ [])) gives 33
    ∷ hop (own_node 0 0x04 9) neighbour0 (one 2 0x00 0x20 (0x0F ∷ 9 ∷ [])) gives 0
    -- not recorded, nor a constraint
    ∷ hop own0 neighbour0 (one 4 0x00 0x80 (replicate 4 0x00)) gives 0
    ∷ hop own0 neighbour0 (one 2 0x00 0x80 (0x00 ∷ 9 ∷ [])) gives 0
    ∷ hop own0 neighbour0 (one 7 0x03 0x00 (0x00 ∷ 0x00 ∷ [])) gives 0
    ∷ hop own0 neighbour0 (one 2 0x03 0x00 (0x00 ∷ 9 ∷ [])) gives 0
    -- 34: HP metric count 254 and 255; a limit of 255
    ∷ hop own0 neighbour0 (one 3 0x00 0x00 (0x00 ∷ 254 ∷ [])) gives 0
    ∷ hop own0 neighbour0 (one 3 0x00 0x00 (0x00 ∷ 255 ∷ [])) gives 34
    ∷ hop own0 neighbour0 (one 3 0x03 0x00 (0x00 ∷ 255 ∷ [])) gives 0
    -- the first object with one of 31 to 34
    ∷ hop own0 neighbour0 (one 3 0x00 0x00 (0x00 ∷ 255 ∷ []) ++ one 200 0x00 0x00 []) gives 34
    ∷ hop own0 neighbour0 (one 200 0x00 0x00 [] ++ one 3 0x00 0x00 (0x00 ∷ 255 ∷ [])) gives 31
    ∷ hop own0 neighbour0 (one 7 0x00 0x00 (0x00 ∷ 0x00 ∷ []) ++ one 1 0x00 0x30 (0x00 ∷ 0x00 ∷ [])) gives 33
    ∷ []

-- ---- 36

abbrev pub sums : List (Example Calling ℕ)
sums =
    -- throughput: 4294967294 + 1 and + 2; 4294967295 + 0, + 1 and + 4294967295
    hop own0 (throughput_of 1) (one 4 0x00 0x00 (0xFF ∷ 0xFF ∷ 0xFF ∷ 0xFE ∷ [])) gives 0
    ∷ hop own0 (throughput_of 2) (one 4 0x00 0x00 (0xFF ∷ 0xFF ∷ 0xFF ∷ 0xFE ∷ [])) gives 36
    ∷ hop own0 (throughput_of 0) (one 4 0x00 0x00 (replicate 4 0xFF)) gives 0
    ∷ hop own0 (throughput_of 1) (one 4 0x00 0x00 (replicate 4 0xFF)) gives 36
    ∷ hop own0 (throughput_of 0xFFFFFFFF) (one 4 0x00 0x00 (replicate 4 0xFF)) gives 36
    -- latency: the same, and 0 and 1 + 4294967295
    ∷ hop own0 (latency_of 1) (one 5 0x00 0x00 (0xFF ∷ 0xFF ∷ 0xFF ∷ 0xFE ∷ [])) gives 0
    ∷ hop own0 (latency_of 2) (one 5 0x00 0x00 (0xFF ∷ 0xFF ∷ 0xFF ∷ 0xFE ∷ [])) gives 36
    ∷ hop own0 (latency_of 0) (one 5 0x00 0x00 (replicate 4 0xFF)) gives 0
    ∷ hop own0 (latency_of 1) (one 5 0x00 0x00 (replicate 4 0xFF)) gives 36
    ∷ hop own0 (latency_of 0xFFFFFFFF) (one 5 0x00 0x00 (replicate 4 0xFF)) gives 36
    ∷ hop own0 (latency_of 0xFFFFFFFF) (one 5 0x00 0x00 (0x00 ∷ 0x00 ∷ 0x00 ∷ 0x00 ∷ [])) gives 0
    ∷ hop own0 (latency_of 0xFFFFFFFF) (one 5 0x00 0x00 (0x00 ∷ 0x00 ∷ 0x00 ∷ 0x01 ∷ [])) gives 36
    -- each by its own number of the link, whatever the other is
    ∷ hop own0 (link_of 0x38 0 65535 0xFFFFFFFF 0) (one 4 0x00 0x00 (replicate 4 0xFF)) gives 0
    ∷ hop own0 (link_of 0x38 0 65535 0 0xFFFFFFFF) (one 5 0x00 0x00 (replicate 4 0xFF)) gives 0
    -- ETX stops at 65535
    ∷ hop own0 (etx_of 1) (one 7 0x00 0x00 (0xFF ∷ 0xFF ∷ [])) gives 0
    -- no other bit of the header counts: reserved bits, P, O and Prec
    ∷ hop own0 (throughput_of 1) (one 4 0xFD 0x0F (replicate 4 0xFF)) gives 36
    ∷ hop own0 (latency_of 1) (one 5 0xFD 0x0F (replicate 4 0xFF)) gives 36
    -- not recorded, nor a constraint
    ∷ hop own0 (throughput_of 1) (one 4 0x00 0x80 (replicate 4 0xFF)) gives 0
    ∷ hop own0 (latency_of 1) (one 5 0x00 0x80 (replicate 4 0xFF)) gives 0
    ∷ hop own0 (throughput_of 1) (one 4 0x03 0x00 (replicate 4 0xFF)) gives 0
    ∷ hop own0 (latency_of 1) (one 5 0x02 0x00 (replicate 4 0xFF)) gives 0
    -- a value that is unknown is 33, whatever number stands there
    ∷ hop own0 (link_of 0x18 0 1 1 1) (one 4 0x00 0x00 (replicate 4 0xFF)) gives 33
    ∷ hop own0 (link_of 0x28 0 1 1 1) (one 5 0x00 0x00 (replicate 4 0xFF)) gives 33
    -- the first object with one of 31 to 34 and 36
    ∷ hop own0 (latency_of 1) (one 5 0x00 0x00 (replicate 4 0xFF) ++ one 200 0x00 0x00 []) gives 36
    ∷ hop own0 (latency_of 1) (one 200 0x00 0x00 [] ++ one 5 0x00 0x00 (replicate 4 0xFF)) gives 31
    ∷ hop own0 (throughput_of 1) (one 3 0x00 0x00 (0x00 ∷ 255 ∷ []) ++ one 4 0x00 0x00 (replicate 4 0xFF)) gives 34
    ∷ hop own0 (throughput_of 1) (one 4 0x00 0x00 (replicate 4 0xFF) ++ one 3 0x00 0x00 (0x00 ∷ 255 ∷ [])) gives 36
    ∷ hop own0 (latency_of 1) (one 3 0x00 0x00 (0x00 ∷ 254 ∷ []) ++ one 5 0x00 0x00 (replicate 4 0xFF)) gives 36
    ∷ []

-- ---- 35: a single object too long; a ninth container stands with the runs

-- a recorded object of unknown type, and behind it another object
abbrev pub behind : (filler : ℕ) → (data' : List ℕ) → List ℕ
behind n bs = one 200 0x00 0x80 (replicate n 0x00) ++ bs

-- a recorded metric with so many zeros in its body, alone
abbrev pub zeros : (type size : ℕ) → List ℕ
zeros t n = one t 0x00 0x80 (replicate n 0x00)

abbrev pub long : List (Example Calling ℕ)
long =
    -- a single object of 255 bytes, and of 256: recorded ETX grows by 2, if it is known
    hop own0 (etx_of 128) (zeros 7 248) gives 0
    ∷ hop own0 (etx_of 128) (zeros 7 250) gives 35
    ∷ hop own0 neighbour0 (zeros 7 250) gives 0
    -- recorded throughput and latency by 4
    ∷ hop own0 (throughput_of 1) (zeros 4 244) gives 0
    ∷ hop own0 (throughput_of 1) (zeros 4 248) gives 35
    ∷ hop own0 (latency_of 1) (zeros 5 244) gives 0
    ∷ hop own0 (latency_of 1) (zeros 5 248) gives 35
    -- recorded NE by 2, with unknown energy too
    ∷ hop own0 neighbour0 (zeros 2 248) gives 0
    ∷ hop own0 neighbour0 (zeros 2 250) gives 35
    -- recorded LQL that counts doesn't grow; that adds does, by 1: 4 + 250 + 1 = 255, and 256
    ∷ hop own0 (lql_of 2) (one 6 0x00 0x80 (0x00 ∷ replicate 250 0x45)) gives 0
    ∷ hop own0 (lql_of 3) (one 6 0x00 0x80 (0x00 ∷ replicate 249 0x45)) gives 0
    ∷ hop own0 (lql_of 3) (one 6 0x00 0x80 (0x00 ∷ replicate 250 0x45)) gives 35
    -- nothing grows: 4 + 251 = 255
    ∷ hop own0 neighbour0 (behind 251 []) gives 0
    -- two objects of more than 255 bytes together are none too long
    ∷ hop own0 (etx_of 128) (behind 244 (one 7 0x00 0x80 (0x00 ∷ 0x80 ∷ []))) gives 0
    ∷ hop own0 (etx_of 128) (behind 245 (one 7 0x00 0x80 (0x00 ∷ 0x80 ∷ []))) gives 0
    -- first or last; behind 36 and 34, wherever they stand
    ∷ single own0 (etx_of 128) (holding (zeros 7 250) ++ holding (behind 251 [])) gives 35
    ∷ single own0 (etx_of 128) (holding (behind 251 []) ++ holding (zeros 7 250)) gives 35
    ∷ single own0 (link_of 0x38 0 1 1 1) (holding (zeros 7 250) ++ holding (one 4 0x00 0x00 (0xFF ∷ 0xFF ∷ 0xFF ∷ 0xFE ∷ []))) gives 35
    ∷ single own0 (link_of 0x38 0 1 1 1) (holding (zeros 7 250) ++ holding (one 4 0x00 0x00 (replicate 4 0xFF))) gives 36
    ∷ single own0 (etx_of 128) (holding (zeros 7 250) ++ holding (one 3 0x00 0x00 (0x00 ∷ 255 ∷ []))) gives 34
    ∷ []

-- ---- all that a call with a leaf answer tells

-- rank 256 and one unit of 256, alone and unbarred; length 0, the output untouched
abbrev pub leaf_only : ℕ → Outcome
leaf_only n = stopped 0 512 (10 ∷ replicate 15 0) 0b1 1 n

abbrev pub leaf_calls : List (Example Calling Outcome)
leaf_calls =
    hop own0 neighbour0 (one 200 0x00 0x00 (0xAA ∷ [])) gives leaf_only 31
    ∷ hop own0 neighbour0 (one 1 0x00 0x00 (0x00 ∷ 0x00 ∷ [])) gives leaf_only 32
    ∷ hop own0 neighbour0 (one 7 0x00 0x00 (0x00 ∷ 0x80 ∷ [])) gives leaf_only 33
    ∷ hop own0 neighbour0 (one 3 0x00 0x00 (0x00 ∷ 255 ∷ [])) gives leaf_only 34
    ∷ hop own0 (throughput_of 1) (one 4 0x00 0x00 (replicate 4 0xFF)) gives leaf_only 36
    ∷ hop own0 (latency_of 1) (one 5 0x00 0x00 (replicate 4 0xFF)) gives leaf_only 36
    ∷ hop own0 (etx_of 128) (zeros 7 250) gives leaf_only 35
    ∷ []
