-- Reasons and findings at their boundaries, worked out from documents 01 and 02 by hand.
use Rattle.std.specs.Prelude.{ℕ, List, [], ◌∷◌, ◌++◌, map, replicate}
use Rattle.model.specs.declared.Own.{Own}
use Rattle.model.specs.declared.Neighbour.{Neighbour}
use Rattle.model.specs.Samples.{Example, ◌gives◌, Holds, own0, own_as, own_in, own_limits, ranked, neighbour0, node_of, etx_of, latency_of, throughput_of, lql_of, plain, colour_of, sited, holding, empty, one, candidate, Calling, calling, single, hop}
use Rattle.model.specs.Boundaries.Choices.{at, among}
use Rattle.model.specs.Boundaries.Editions.{with}
use Rattle.model.specs.Boundaries.Runs.{run, times, filler}
use Rattle.reason.specs.declared.findings.Finding.{Finding}
use Rattle.reason.specs.declared.reasons.Reason.{Reason}
use Rattle.reason.specs.Why.{reason_of, why}
use Rattle.reason.specs.Finding.{finding, nothing, finding_of}

-- ---- reasons

-- a call, and the position that is asked about
pub record Question : Type 0 where
  pub calls : Calling
  pub position : ℕ

infix 85 ◌ask◌
abbrev pub ◌ask◌ : Calling → ℕ → Question
w ask p = record { calls = w; position = p }

abbrev pub answer_to : Question → Reason
answer_to q = reason_of (why q.calls.own q.calls.candidates q.calls.lent q.position)

-- a reason by all its numbers
abbrev pub told : (refusal kind number parent criterion place value against : ℕ) → Reason
told f k n p c i v a = record { refusal = f; kind = k; number = n; parent = p; criterion = c; place = i; value = v; against = a }

-- kind 0, a refusal; kind 1, the parent; kind 2, a bar and its place; kind 3, the parent's position, the criterion and both values
abbrev pub refused : (number : ℕ) → Reason
refused n = told n 0 0 255 0 65535 0 0

abbrev pub chosen : Reason
chosen = told 0 1 0 255 0 65535 0 0

abbrev pub barred : (number place : ℕ) → Reason
barred n i = told 0 2 n 255 0 i 0 0

abbrev pub beaten : (parent criterion value against : ℕ) → Reason
beaten b k v a = told 0 3 0 b k 65535 v a

-- refusals, each also with the next; the position below the count and at it
abbrev pub refusals : List (Example Question Reason)
refusals =
    among (own_as 1 0 0 0 0 0x00 0 0) (at 100 ∷ []) ask 0 gives refused 1
    ∷ among (own_as 1 0 0 0 0 0x00 0 0) (replicate 17 (at 100)) ask 0 gives refused 1
    ∷ among own0 (replicate 17 (at 100)) ask 0 gives refused 2
    ∷ among (own_in 1 0x10 17) (replicate 17 (at 100)) ask 0 gives refused 2
    ∷ among (own_in 1 0x10 1) (at 100 ∷ []) ask 0 gives refused 3
    ∷ among (own_in 3 0x10 1) (at 100 ∷ []) ask 0 gives refused 3
    ∷ among (own_in 3 0x00 0) (at 100 ∷ []) ask 0 gives refused 5
    ∷ among (own_in 0 0x00 0) (at 100 ∷ []) ask 1 gives refused 5
    ∷ among own0 (at 100 ∷ []) ask 1 gives refused 6
    ∷ among own0 (at 100 ∷ at 200 ∷ []) ask 2 gives refused 6
    ∷ among own0 (at 100 ∷ []) ask 18446744073709551616 gives refused 6
    ∷ among own0 [] ask 0 gives refused 6
    ∷ among own0 (at 100 ∷ []) ask 0 gives chosen
    ∷ []

-- chosen, also with a leaf answer (31), and the last of two; with nobody unbarred everyone is barred
abbrev pub kinds : List (Example Question Reason)
kinds =
    among own0 (at 100 ∷ at 200 ∷ []) ask 0 gives chosen
    ∷ among own0 (at 200 ∷ at 100 ∷ []) ask 1 gives chosen
    ∷ among own0 (at 200 ∷ at 100 ∷ []) ask 0 gives beaten 1 4 456 356
    ∷ hop own0 neighbour0 (one 0xC8 0x00 0x00 (0x01 ∷ [])) ask 0 gives chosen
    ∷ among own0 (at 65535 ∷ candidate (ranked 100 1 0 0) 0 2 ∷ []) ask 0 gives barred 20 65535
    ∷ among own0 (at 65535 ∷ candidate (ranked 100 1 0 0) 0 2 ∷ []) ask 1 gives barred 11 65535
    ∷ among own0 (at 300 ∷ candidate (ranked 0 1 1 0) 1 2 ∷ []) ask 1 gives barred 12 65535
    ∷ among own0 (at 300 ∷ candidate (ranked 0 1 1 0) 0 1 ∷ []) ask 1 gives barred 22 65535
    ∷ run (times 9 empty) ask 0 gives barred 23 65535
    ∷ run (times 8 empty) ask 0 gives chosen
    ∷ hop own0 neighbour0 (0x07 ∷ []) ask 0 gives barred 14 65535
    ∷ hop own0 neighbour0 (one 0xC8 0x00 0x80 [] ++ one 0x07 0x00 0x00 (0x01 ∷ [])) ask 0 gives barred 15 1
    ∷ hop own0 neighbour0 (one 0x07 0x00 0x00 (0x01 ∷ 0x00 ∷ []) ++ one 0x07 0x00 0x00 (0x01 ∷ 0x00 ∷ [])) ask 0 gives barred 16 1
    ∷ hop own0 neighbour0 (one 0x01 0x00 0x80 (0x00 ∷ 0x00 ∷ [])) ask 0 gives barred 17 0
    ∷ hop own0 neighbour0 (one 0xC8 0x00 0x80 [] ++ one 0x09 0x03 0x00 [] ++ one 0x09 0x02 0x00 []) ask 0 gives barred 18 2
    ∷ hop own0 neighbour0 (one 0xC8 0x00 0x80 [] ++ one 0x06 0x02 0x00 (0x00 ∷ 0xE0 ∷ [])) ask 0 gives barred 19 1
    ∷ run (holding (filler 0) ++ 0x00 ∷ holding (filler 1 ++ one 0x06 0x02 0x00 (0x00 ∷ 0xE0 ∷ []))) ask 0 gives barred 19 2
    ∷ among (own_limits 256 768 1024) (candidate (ranked 1537 1 1 0) 0 2 ∷ []) ask 0 gives barred 21 65535
    ∷ []

-- each criterion alone, the one that is asked about losing on it, where every later one speaks for it; both values as their fields have them
abbrev pub criteria : List (Example Question Reason)
criteria =
    among (own_in 2 0x10 0) (with 3 0x40 7 100 ∷ with 0 0x00 0 300 ∷ []) ask 0 gives beaten 1 1 3 0
    ∷ among (own_in 2 0x10 1) (with 6 0x00 0 300 ∷ with 7 0x40 7 100 ∷ []) ask 1 gives beaten 0 1 7 6
    ∷ among (own_in 2 0x10 0) (with 3 0x00 7 100 ∷ with 3 0x40 0 300 ∷ []) ask 0 gives beaten 1 2 0 1
    ∷ among (own_in 2 0x10 1) (with 3 0x40 0 300 ∷ with 3 0x00 7 100 ∷ []) ask 1 gives beaten 0 2 0 1
    ∷ among (own_in 2 0x10 0) (with 3 0x40 2 100 ∷ with 3 0x40 7 300 ∷ []) ask 0 gives beaten 1 3 2 7
    ∷ among (own_in 2 0x10 1) (with 3 0x00 1 300 ∷ with 3 0x00 0 100 ∷ []) ask 1 gives beaten 0 3 0 1
    ∷ among (own_in 2 0x10 0) (with 3 0x40 4 1280 ∷ with 3 0x40 4 768 ∷ []) ask 0 gives beaten 1 4 1536 1024
    ∷ among (own_in 2 0x10 1) (with 3 0x40 4 100 ∷ with 3 0x40 4 100 ∷ []) ask 0 gives beaten 1 5 0 1
    ∷ among (own_in 2 0x00 1) (with 3 0x40 4 100 ∷ with 3 0x40 4 100 ∷ []) ask 1 gives beaten 0 6 1 0
    -- in edition 1 the first three never decide
    ∷ among (own_in 1 0x10 0) (with 0 0x40 7 101 ∷ with 200 0x00 200 100 ∷ []) ask 0 gives beaten 1 4 357 356
    ∷ among (own_in 1 0x10 1) (with 0 0x40 7 100 ∷ with 5 0x00 0 100 ∷ []) ask 0 gives beaten 1 5 0 1
    ∷ among (own_in 1 0x00 1) (with 5 0x00 0 100 ∷ with 0 0x40 7 100 ∷ []) ask 1 gives beaten 0 6 1 0
    -- by the parent, not by another that is better too; a barred one beats nobody
    ∷ among own0 (at 300 ∷ at 200 ∷ at 100 ∷ []) ask 0 gives beaten 2 4 556 356
    ∷ among own0 (at 300 ∷ candidate (ranked 0 1 10 0) 0 2 ∷ at 200 ∷ []) ask 0 gives beaten 2 4 556 456
    ∷ []

-- ---- findings

-- the finding of one candidate
abbrev pub found_in : Calling → List Finding
found_in w = map (λ c. finding_of w.own c w.lent) w.candidates

-- one candidate with an empty container
abbrev pub alone : Own → Neighbour → Calling
alone own c = single own c empty

-- a mandatory constraint of a type
abbrev pub rule : (type : ℕ) → (body : List ℕ) → List ℕ
rule t b = one t 0x02 0x00 b

-- bar 11: each number at both ends of its range and beyond, the first of several; order and preference in edition 2 alone
abbrev pub ranges : List (Example Calling (List Finding))
ranges =
    alone own0 (ranked 256 1 0 0) gives (finding 1 1 9 0 ∷ [])
    ∷ alone own0 (ranked 256 1 1 0) gives (nothing ∷ [])
    ∷ alone own0 (ranked 256 4 9 5) gives (nothing ∷ [])
    ∷ alone own0 (ranked 256 0 10 6) gives (finding 1 1 9 10 ∷ [])
    ∷ alone own0 (ranked 256 0 9 6) gives (finding 2 1 4 0 ∷ [])
    ∷ alone own0 (ranked 256 5 9 6) gives (finding 2 1 4 5 ∷ [])
    ∷ alone own0 (ranked 256 4 9 6) gives (finding 3 0 5 6 ∷ [])
    ∷ alone own0 (lql_of 7) gives (nothing ∷ [])
    ∷ alone own0 (lql_of 8) gives (finding 4 0 7 8 ∷ [])
    ∷ alone own0 (node_of 3 0x00 0) gives (nothing ∷ [])
    ∷ alone own0 (node_of 4 0x00 0) gives (finding 5 0 3 4 ∷ [])
    ∷ alone own0 (ranked 256 200 9 6) gives (finding 2 1 4 200 ∷ [])
    ∷ alone own0 (ranked 256 4 9 77) gives (finding 3 0 5 77 ∷ [])
    ∷ alone own0 (lql_of 200) gives (finding 4 0 7 200 ∷ [])
    ∷ alone own0 (node_of 99 0x00 0) gives (finding 5 0 3 99 ∷ [])
    ∷ alone own0 (colour_of 65535) gives (finding 6 0 1023 65535 ∷ [])
    ∷ alone (own_in 2 0x00 0) (sited 255 0x00 0 256) gives (finding 7 0 7 255 ∷ [])
    ∷ alone (own_in 2 0x00 0) (sited 0 0x00 66 256) gives (finding 8 0 7 66 ∷ [])
    ∷ alone own0 (colour_of 1023) gives (nothing ∷ [])
    ∷ alone own0 (plain 256 0x00 1024 8 8) gives (finding 6 0 1023 1024 ∷ [])
    ∷ alone (own_in 2 0x00 0) (sited 7 0x00 7 256) gives (nothing ∷ [])
    ∷ alone (own_in 2 0x00 0) (sited 8 0x00 8 256) gives (finding 7 0 7 8 ∷ [])
    ∷ alone (own_in 2 0x00 0) (sited 7 0x00 8 256) gives (finding 8 0 7 8 ∷ [])
    ∷ alone own0 (sited 8 0x00 8 256) gives (nothing ∷ [])
    ∷ []

-- bar 12, and bar 14 in one container
abbrev pub frames : List (Example Calling (List Finding))
frames =
    calling own0 (candidate neighbour0 1 2 ∷ candidate neighbour0 3 0 ∷ candidate neighbour0 2 0 ∷ []) empty gives (finding 9 1 2 2 ∷ finding 9 3 0 2 ∷ nothing ∷ [])
    ∷ hop own0 neighbour0 (0x07 ∷ []) gives (finding 13 0 4 1 ∷ [])
    ∷ hop own0 neighbour0 (one 0xC8 0x00 0x80 (0x01 ∷ []) ++ (0x07 ∷ 0x00 ∷ 0x00 ∷ [])) gives (finding 13 1 4 3 ∷ [])
    ∷ hop own0 neighbour0 (one 0xC8 0x00 0x80 [] ++ one 0xC8 0x00 0x80 [] ++ (0x07 ∷ 0x00 ∷ 0x00 ∷ 0x0D ∷ 0x01 ∷ 0x02 ∷ [])) gives (finding 14 2 13 2 ∷ [])
    ∷ hop own0 neighbour0 (0x07 ∷ 0x00 ∷ 0x00 ∷ 0x01 ∷ []) gives (finding 14 0 1 0 ∷ [])
    ∷ hop own0 neighbour0 (filler 1 ++ 0xC8 ∷ 0x00 ∷ 0x80 ∷ 0xFF ∷ replicate 246 0x00) gives (finding 14 1 255 246 ∷ [])
    -- 15 to 18, 20 and unbarred: nothing
    ∷ hop own0 neighbour0 (one 0x07 0x00 0x00 (0x01 ∷ [])) gives (nothing ∷ [])
    ∷ hop own0 neighbour0 (one 0x09 0x02 0x00 []) gives (nothing ∷ [])
    ∷ single own0 (ranked 65535 1 1 0) empty gives (nothing ∷ [])
    ∷ single own0 neighbour0 empty gives (nothing ∷ [])
    ∷ []

-- bar 22: the option that is cut short, by its index in the run
abbrev pub cuts : List (Example Calling (List Finding))
cuts =
    -- a type byte alone, whatever the type but Pad1; at the start, behind Pad1, behind an empty container
    run (0x02 ∷ []) gives (finding 37 0 2 1 ∷ [])
    ∷ run (0x01 ∷ []) gives (finding 37 0 2 1 ∷ [])
    ∷ run (0xFF ∷ []) gives (finding 37 0 2 1 ∷ [])
    ∷ run (0x00 ∷ []) gives (nothing ∷ [])
    ∷ run [] gives (nothing ∷ [])
    ∷ run (0x00 ∷ 0x00 ∷ 0x07 ∷ []) gives (finding 37 2 2 1 ∷ [])
    ∷ run (empty ++ (0x03 ∷ [])) gives (finding 37 2 2 1 ∷ [])
    ∷ run (empty ++ (0x00 ∷ [])) gives (nothing ∷ [])
    ∷ run (0x03 ∷ 0x00 ∷ []) gives (nothing ∷ [])
    -- too little data, by one and by all; the rest of one that is long
    ∷ run (0x02 ∷ 0x01 ∷ []) gives (finding 38 0 1 0 ∷ [])
    ∷ run (0x07 ∷ 0x02 ∷ 0x02 ∷ []) gives (finding 38 0 2 1 ∷ [])
    ∷ run (0x07 ∷ 0x02 ∷ 0x02 ∷ 0x09 ∷ []) gives (nothing ∷ [])
    ∷ run (0x02 ∷ 0x0D ∷ 0x07 ∷ 0x00 ∷ 0x00 ∷ 0x02 ∷ 0x01 ∷ 0x00 ∷ []) gives (finding 38 0 13 6 ∷ [])
    ∷ run (0x05 ∷ 0xFF ∷ []) gives (finding 38 0 255 0 ∷ [])
    ∷ run (0x05 ∷ 0xFF ∷ replicate 254 0xAA) gives (finding 38 0 255 254 ∷ [])
    ∷ run (0x05 ∷ 0xFF ∷ replicate 255 0xAA) gives (nothing ∷ [])
    -- behind pads, other options and containers with data, whose bytes are not looked at
    ∷ run (0x01 ∷ 0x02 ∷ 0x02 ∷ 0x09 ∷ 0x02 ∷ 0x01 ∷ []) gives (finding 38 4 1 0 ∷ [])
    ∷ run (0x00 ∷ 0x01 ∷ 0x01 ∷ 0x00 ∷ holding (filler 3) ++ 0x09 ∷ 0x00 ∷ 0x02 ∷ 0x06 ∷ 0xC8 ∷ 0x00 ∷ []) gives (finding 38 15 6 2 ∷ [])
    ∷ run (replicate 300 0x00 ++ (0x02 ∷ 0x03 ∷ 0xAA ∷ [])) gives (finding 38 300 3 1 ∷ [])
    ∷ run (replicate 300 0x00 ++ (0x02 ∷ [])) gives (finding 37 300 2 1 ∷ [])
    -- before 23, 14, 15 and 19
    ∷ run (times 9 empty ++ (0x02 ∷ [])) gives (finding 37 18 2 1 ∷ [])
    ∷ run (holding (0x07 ∷ []) ++ (0x03 ∷ 0x02 ∷ [])) gives (finding 38 3 2 0 ∷ [])
    ∷ run (holding (one 0x07 0x00 0x00 (0x01 ∷ [])) ++ (0x03 ∷ [])) gives (finding 37 7 2 1 ∷ [])
    ∷ run (holding (rule 3 (0x00 ∷ 200 ∷ [])) ++ (0x03 ∷ 0x01 ∷ [])) gives (finding 38 8 1 0 ∷ [])
    ∷ []

-- bar 23: how many containers there are
abbrev pub ninths : List (Example Calling (List Finding))
ninths =
    run (times 8 empty) gives (nothing ∷ [])
    ∷ run (times 9 empty) gives (finding 39 0 8 9 ∷ [])
    ∷ run (times 10 (holding (filler 1))) gives (finding 39 0 8 10 ∷ [])
    ∷ run (times 200 empty) gives (finding 39 0 8 200 ∷ [])
    -- other options don't count; empty containers do
    ∷ run (times 8 (empty ++ 0x00 ∷ 0x01 ∷ 0x01 ∷ 0x02 ∷ 0x03 ∷ 0x00 ∷ [])) gives (nothing ∷ [])
    ∷ run (times 9 (empty ++ 0x00 ∷ 0x01 ∷ 0x01 ∷ 0x02 ∷ 0x03 ∷ 0x00 ∷ [])) gives (finding 39 0 8 9 ∷ [])
    ∷ run (times 8 (holding (filler 0)) ++ 0x00 ∷ empty ++ holding (filler 0)) gives (finding 39 0 8 10 ∷ [])
    -- before 14, 15 and 19
    ∷ run (holding (0x07 ∷ []) ++ times 8 empty) gives (finding 39 0 8 9 ∷ [])
    ∷ run (times 8 empty ++ holding (one 0x07 0x00 0x00 (0x01 ∷ []))) gives (finding 39 0 8 9 ∷ [])
    ∷ run (times 8 empty ++ holding (rule 3 (0x00 ∷ 200 ∷ []))) gives (finding 39 0 8 9 ∷ [])
    ∷ []

-- bar 14 among several containers: the index is that among the joined objects, the bytes are those of its own container
abbrev pub overruns : List (Example Calling (List Finding))
overruns =
    -- in the first, the second and the last
    run (holding (0x07 ∷ []) ++ holding (filler 0)) gives (finding 13 0 4 1 ∷ [])
    ∷ run (holding (filler 0 ++ filler 2) ++ holding (filler 1 ++ 0x07 ∷ 0x00 ∷ 0x00 ∷ [])) gives (finding 13 3 4 3 ∷ [])
    ∷ run (holding (filler 0) ++ holding (filler 0 ++ 0xC8 ∷ 0x00 ∷ 0x80 ∷ 0x04 ∷ 0x01 ∷ []) ++ holding (filler 0)) gives (finding 14 2 4 1 ∷ [])
    ∷ run (times 7 (holding (filler 0 ++ filler 1)) ++ holding (filler 0 ++ 0xC8 ∷ 0x00 ∷ 0x80 ∷ 0x01 ∷ [])) gives (finding 14 15 1 0 ∷ [])
    ∷ run (holding (filler 251) ++ holding (filler 200 ++ 0xC8 ∷ 0x00 ∷ 0x80 ∷ 0xFF ∷ replicate 40 0x00)) gives (finding 14 2 255 40 ∷ [])
    -- behind pads, other options and empty containers, and before them
    ∷ run (holding (filler 0) ++ 0x00 ∷ 0x01 ∷ 0x01 ∷ 0x02 ∷ 0x03 ∷ 0x01 ∷ 0x07 ∷ holding (0x07 ∷ 0x00 ∷ 0x00 ∷ 0x0D ∷ 0x01 ∷ 0x02 ∷ [])) gives (finding 14 1 13 2 ∷ [])
    ∷ run (empty ++ 0x00 ∷ empty ++ holding (filler 0 ++ 0x07 ∷ 0x00 ∷ []) ++ 0x00 ∷ 0x05 ∷ 0x00 ∷ empty) gives (finding 13 1 4 2 ∷ [])
    -- bytes behind its container are not its own, though they would make it whole
    ∷ run (holding (0xC8 ∷ 0x00 ∷ []) ++ holding (0x80 ∷ 0x00 ∷ [])) gives (finding 13 0 4 2 ∷ [])
    ∷ run (holding (filler 0 ++ 0xC8 ∷ 0x00 ∷ 0x80 ∷ 0x02 ∷ 0x01 ∷ []) ++ holding (0x02 ∷ [])) gives (finding 14 1 2 1 ∷ [])
    ∷ run (holding (0xC8 ∷ 0x00 ∷ 0x80 ∷ 0x02 ∷ 0x01 ∷ 0x02 ∷ []) ++ holding (filler 0)) gives (nothing ∷ [])
    -- the first of two; 15 in an earlier container
    ∷ run (holding (filler 0 ++ 0x07 ∷ []) ++ holding (0x07 ∷ 0x00 ∷ [])) gives (finding 13 1 4 1 ∷ [])
    ∷ run (holding (one 0x07 0x00 0x00 (0x01 ∷ [])) ++ holding (0x07 ∷ 0x00 ∷ 0x00 ∷ 0x01 ∷ [])) gives (finding 14 1 1 0 ∷ [])
    ∷ []

-- bar 19: the node
abbrev pub nodes : List (Example Calling (List Finding))
nodes =
    hop own0 (node_of 0 0x00 0) (rule 1 (0x00 ∷ 0x02 ∷ [])) gives (finding 15 0 0 0 ∷ [])
    ∷ hop own0 (node_of 0 0x01 0) (rule 1 (0x00 ∷ 0x03 ∷ [])) gives (finding 15 0 0 0 ∷ [])
    ∷ hop own0 (node_of 0 0x03 0) (rule 1 (0x00 ∷ 0x03 ∷ [])) gives (finding 16 0 0 0 ∷ [])
    ∷ hop own0 (node_of 0 0x01 0) (rule 1 (0x00 ∷ 0x01 ∷ [])) gives (finding 16 0 0 0 ∷ [])
    ∷ hop own0 (node_of 0 0x04 90) (rule 2 (0x0B ∷ 50 ∷ [])) gives (finding 17 0 1 0 ∷ [])
    ∷ hop own0 (node_of 1 0x04 40) (rule 2 (0x0B ∷ 50 ∷ [])) gives (finding 18 1 50 40 ∷ [])
    ∷ hop own0 (node_of 1 0x04 50) (rule 2 (0x0B ∷ 50 ∷ [])) gives (finding 18 1 50 50 ∷ [])
    ∷ hop own0 (node_of 1 0x04 51) (rule 2 (0x0B ∷ 50 ∷ [])) gives (nothing ∷ [])
    ∷ hop own0 (node_of 3 0x04 0) (rule 2 (0x0A ∷ 50 ∷ [])) gives (finding 17 0 1 3 ∷ [])
    ∷ hop own0 (node_of 2 0x04 7) (rule 2 (0x0F ∷ 50 ∷ [])) gives (finding 17 0 3 2 ∷ [])
    ∷ hop own0 (node_of 0 0x04 7) (rule 2 (0x09 ∷ 200 ∷ [])) gives (finding 18 0 200 7 ∷ [])
    ∷ hop own0 (node_of 3 0x04 255) (rule 2 (0xFF ∷ 255 ∷ [])) gives (finding 18 3 255 255 ∷ [])
    ∷ hop own0 (node_of 2 0x00 9) (rule 2 (0x0D ∷ 0 ∷ [])) gives (finding 19 2 0 0 ∷ [])
    ∷ hop own0 (node_of 3 0x04 90) (rule 2 (0x06 ∷ 50 ∷ [])) gives (finding 20 0 3 3 ∷ [])
    ∷ hop own0 (node_of 0 0x04 3) (rule 2 (0x01 ∷ 99 ∷ [])) gives (finding 21 0 99 3 ∷ [])
    ∷ hop own0 (node_of 3 0x00 3) (rule 2 (0x07 ∷ 99 ∷ [])) gives (finding 22 3 99 0 ∷ [])
    ∷ hop own0 neighbour0 (rule 3 (0x00 ∷ 4 ∷ []) ++ one 3 0x00 0x00 (0x00 ∷ 9 ∷ [])) gives (finding 23 0 4 9 ∷ [])
    ∷ hop own0 neighbour0 (rule 3 (0x00 ∷ 200 ∷ [])) gives (finding 24 0 200 0 ∷ [])
    ∷ hop own0 (node_of 1 0x00 90) (rule 2 (0x0B ∷ 50 ∷ [])) gives (finding 19 1 50 0 ∷ [])
    ∷ hop own0 (node_of 1 0x04 90) (rule 2 (0x02 ∷ 50 ∷ [])) gives (finding 20 0 1 1 ∷ [])
    ∷ hop own0 (node_of 2 0x04 49) (rule 2 (0x05 ∷ 50 ∷ [])) gives (finding 21 2 50 49 ∷ [])
    ∷ hop own0 (node_of 2 0x04 50) (rule 2 (0x05 ∷ 50 ∷ [])) gives (nothing ∷ [])
    ∷ hop own0 (node_of 2 0x00 90) (rule 2 (0x05 ∷ 50 ∷ [])) gives (finding 22 2 50 0 ∷ [])
    ∷ hop own0 neighbour0 (rule 3 (0x00 ∷ 4 ∷ []) ++ one 3 0x00 0x00 (0x00 ∷ 4 ∷ [])) gives (finding 23 0 4 4 ∷ [])
    ∷ hop own0 neighbour0 (one 3 0x00 0x00 (0x00 ∷ 3 ∷ []) ++ rule 3 (0x00 ∷ 4 ∷ [])) gives (nothing ∷ [])
    ∷ hop own0 neighbour0 (rule 3 (0x00 ∷ 4 ∷ [])) gives (finding 24 0 4 0 ∷ [])
    ∷ []

-- bar 19: the link and the path
abbrev pub links : List (Example Calling (List Finding))
links =
    hop own0 (throughput_of 999) (rule 4 (0x00 ∷ 0x00 ∷ 0x03 ∷ 0xE8 ∷ [])) gives (finding 25 0 1000 999 ∷ [])
    ∷ hop own0 (throughput_of 1000) (rule 4 (0x00 ∷ 0x00 ∷ 0x03 ∷ 0xE8 ∷ [])) gives (nothing ∷ [])
    ∷ hop own0 neighbour0 (rule 4 (0x00 ∷ 0x00 ∷ 0x03 ∷ 0xE8 ∷ [])) gives (finding 26 0 1000 0 ∷ [])
    ∷ hop own0 (latency_of 1001) (rule 5 (0x00 ∷ 0x00 ∷ 0x03 ∷ 0xE8 ∷ [])) gives (finding 27 0 1000 1001 ∷ [])
    ∷ hop own0 (latency_of 1000) (rule 5 (0x00 ∷ 0x00 ∷ 0x03 ∷ 0xE8 ∷ [])) gives (nothing ∷ [])
    ∷ hop own0 (latency_of 1001) (rule 5 (0x00 ∷ 0x00 ∷ 0x03 ∷ 0xE8 ∷ []) ++ one 5 0x00 0x00 (0 ∷ 0 ∷ 0 ∷ 0 ∷ [])) gives (finding 27 0 1000 1001 ∷ [])
    ∷ hop own0 (latency_of 1000) (rule 5 (0x00 ∷ 0x00 ∷ 0x03 ∷ 0xE8 ∷ []) ++ one 5 0x00 0x00 (0 ∷ 0 ∷ 0 ∷ 1 ∷ [])) gives (finding 28 1 1000 1001 ∷ [])
    ∷ hop own0 (latency_of 4294967295) (one 5 0x00 0x00 (0xFF ∷ 0xFF ∷ 0xFF ∷ 0xFF ∷ []) ++ rule 5 (0xFF ∷ 0xFF ∷ 0xFF ∷ 0xFF ∷ [])) gives (finding 28 4294967295 4294967295 8589934590 ∷ [])
    ∷ hop own0 neighbour0 (rule 5 (0x00 ∷ 0x00 ∷ 0x03 ∷ 0xE8 ∷ []) ++ one 5 0x00 0x00 (0 ∷ 0 ∷ 0 ∷ 7 ∷ [])) gives (finding 29 7 1000 0 ∷ [])
    ∷ hop own0 (etx_of 257) (rule 7 (0x01 ∷ 0x00 ∷ [])) gives (finding 30 0 256 257 ∷ [])
    ∷ hop own0 (etx_of 128) (one 7 0x00 0x00 (0x00 ∷ 0x81 ∷ []) ++ rule 7 (0x01 ∷ 0x00 ∷ [])) gives (finding 31 129 256 257 ∷ [])
    ∷ hop own0 (etx_of 128) (one 7 0x00 0x00 (0x00 ∷ 0x80 ∷ []) ++ rule 7 (0x01 ∷ 0x00 ∷ [])) gives (nothing ∷ [])
    ∷ hop own0 neighbour0 (rule 7 (0x01 ∷ 0x00 ∷ [])) gives (finding 32 0 256 0 ∷ [])
    ∷ hop own0 (lql_of 4) (rule 6 (0x00 ∷ 0x7F ∷ [])) gives (finding 33 0 3 4 ∷ [])
    ∷ hop own0 (lql_of 3) (rule 6 (0x00 ∷ 0x7F ∷ [])) gives (nothing ∷ [])
    ∷ hop own0 (lql_of 0) (rule 6 (0x00 ∷ 0x7F ∷ [])) gives (finding 34 0 3 0 ∷ [])
    ∷ hop own0 (colour_of 1) (rule 8 (0x00 ∷ 0x00 ∷ 0xC1 ∷ [])) gives (finding 35 0 3 1 ∷ [])
    ∷ hop own0 (colour_of 7) (rule 8 (0x00 ∷ 0x00 ∷ 0xC1 ∷ [])) gives (nothing ∷ [])
    ∷ hop own0 (colour_of 7) (rule 8 (0x00 ∷ 0x00 ∷ 0xC0 ∷ [])) gives (finding 36 0 3 7 ∷ [])
    -- far from their limits, and with every byte of a number
    ∷ hop own0 (throughput_of 5) (rule 4 (0x01 ∷ 0x02 ∷ 0x03 ∷ 0x04 ∷ [])) gives (finding 25 0 16909060 5 ∷ [])
    ∷ hop own0 neighbour0 (rule 4 (0xFF ∷ 0x00 ∷ 0x00 ∷ 0x00 ∷ [])) gives (finding 26 0 4278190080 0 ∷ [])
    ∷ hop own0 (latency_of 4000000000) (rule 5 (0x00 ∷ 0x00 ∷ 0x00 ∷ 0x09 ∷ [])) gives (finding 27 0 9 4000000000 ∷ [])
    ∷ hop own0 (latency_of 30) (one 5 0x00 0x00 (0x00 ∷ 0x01 ∷ 0x00 ∷ 0x00 ∷ []) ++ rule 5 (0x00 ∷ 0x00 ∷ 0x00 ∷ 0x09 ∷ [])) gives (finding 28 65536 9 65566 ∷ [])
    ∷ hop own0 (etx_of 60000) (rule 7 (0x00 ∷ 0x07 ∷ [])) gives (finding 30 0 7 60000 ∷ [])
    ∷ hop own0 (etx_of 65535) (one 7 0x00 0x00 (0xFF ∷ 0xFF ∷ []) ++ rule 7 (0x12 ∷ 0x34 ∷ [])) gives (finding 31 65535 4660 131070 ∷ [])
    ∷ hop own0 neighbour0 (one 7 0x00 0x00 (0x00 ∷ 0x05 ∷ []) ++ rule 7 (0x12 ∷ 0x34 ∷ [])) gives (finding 32 5 4660 0 ∷ [])
    ∷ hop own0 (lql_of 7) (rule 6 (0x00 ∷ 0x20 ∷ [])) gives (finding 33 0 1 7 ∷ [])
    ∷ hop own0 (lql_of 0) (rule 6 (0x00 ∷ 0xE0 ∷ [])) gives (finding 34 0 7 0 ∷ [])
    ∷ hop own0 (colour_of 5) (rule 8 (0x00 ∷ 0x80 ∷ 0x41 ∷ [])) gives (finding 35 0 513 5 ∷ [])
    ∷ hop own0 (colour_of 1023) (rule 8 (0x00 ∷ 0x80 ∷ 0x7E ∷ [])) gives (finding 36 0 513 1023 ∷ [])
    -- the object that bars is the one that is told of: the first that is not met, behind one that is met and one that is optional
    ∷ hop own0 (lql_of 3) (rule 6 (0x00 ∷ 0x60 ∷ []) ++ one 7 0x03 0x00 (0x00 ∷ 0x00 ∷ []) ++ rule 4 (0x00 ∷ 0x00 ∷ 0x00 ∷ 0x09 ∷ [])) gives (finding 26 0 9 0 ∷ [])
    ∷ []

-- bar 19 among several containers: the HP metric, and what was received, may stand in another than the constraint
abbrev pub paths : List (Example Calling (List Finding))
paths =
    run (holding (one 3 0x00 0x00 (0x00 ∷ 9 ∷ [])) ++ holding (rule 3 (0x00 ∷ 4 ∷ []))) gives (finding 23 0 4 9 ∷ [])
    ∷ run (holding (rule 3 (0x00 ∷ 200 ∷ [])) ++ 0x00 ∷ holding (one 3 0x00 0x00 (0x00 ∷ 200 ∷ []))) gives (finding 23 0 200 200 ∷ [])
    ∷ run (holding (rule 3 (0x00 ∷ 200 ∷ [])) ++ 0x00 ∷ holding (one 3 0x00 0x00 (0x00 ∷ 199 ∷ []))) gives (nothing ∷ [])
    ∷ run (holding (filler 2) ++ holding (rule 3 (0x00 ∷ 4 ∷ []))) gives (finding 24 0 4 0 ∷ [])
    ∷ single own0 (latency_of 1000) (holding (one 5 0x00 0x00 (0 ∷ 0 ∷ 0 ∷ 1 ∷ [])) ++ empty ++ holding (rule 5 (0x00 ∷ 0x00 ∷ 0x03 ∷ 0xE8 ∷ []))) gives (finding 28 1 1000 1001 ∷ [])
    ∷ single own0 (latency_of 999) (holding (one 5 0x00 0x00 (0 ∷ 0 ∷ 0 ∷ 1 ∷ [])) ++ empty ++ holding (rule 5 (0x00 ∷ 0x00 ∷ 0x03 ∷ 0xE8 ∷ []))) gives (nothing ∷ [])
    ∷ single own0 neighbour0 (holding (rule 5 (0x00 ∷ 0x00 ∷ 0x03 ∷ 0xE8 ∷ [])) ++ holding (one 5 0x00 0x00 (0 ∷ 1 ∷ 0 ∷ 0 ∷ []))) gives (finding 29 65536 1000 0 ∷ [])
    ∷ single own0 (etx_of 128) (holding (rule 7 (0x01 ∷ 0x00 ∷ [])) ++ 0x01 ∷ 0x02 ∷ 0x00 ∷ 0x02 ∷ holding (filler 0 ++ one 7 0x00 0x00 (0x00 ∷ 0x81 ∷ []))) gives (finding 31 129 256 257 ∷ [])
    -- of the joined objects the first that is not met, behind one that is met and one that is optional
    ∷ single own0 (lql_of 3) (holding (rule 6 (0x00 ∷ 0x60 ∷ [])) ++ 0x03 ∷ 0x01 ∷ 0x02 ∷ holding (filler 0 ++ one 7 0x03 0x00 (0x00 ∷ 0x00 ∷ [])) ++ holding (rule 4 (0x00 ∷ 0x00 ∷ 0x00 ∷ 0x09 ∷ []) ++ rule 3 (0x00 ∷ 4 ∷ []))) gives (finding 26 0 9 0 ∷ [])
    ∷ []

-- every row of them
pub record ReasonRows : Type 0 where
  pub by_refusal : Holds answer_to refusals
  pub by_kind : Holds answer_to kinds
  pub by_criterion : Holds answer_to criteria
  pub by_range : Holds found_in ranges
  pub by_frame : Holds found_in frames
  pub by_node : Holds found_in nodes
  pub by_link : Holds found_in links
  pub by_cut : Holds found_in cuts
  pub by_ninth : Holds found_in ninths
  pub by_overrun : Holds found_in overruns
  pub by_path : Holds found_in paths
