-- Editions 1 and 2 (RFC 6552, section 4.2.1, as far as there are fields), on each side of each boundary.
use Rattle.std.specs.Prelude.{ℕ, List, [], ◌∷◌, ◌++◌, map, replicate}
use Rattle.std.specs.Prelude.{None}
use Rattle.model.specs.declared.Own.{Own}
use Rattle.model.specs.declared.Candidate.{Candidate}
use Rattle.model.specs.Samples.{Example, ◌gives◌, own_as, own_in, sited, empty, candidate, Calling, calling, single, result_of, verdict_of, Outcome, nobody, chosen}
use Rattle.model.specs.Verdict.{offer_of}
use Rattle.model.specs.Choice.{criteria}
use Rattle.model.specs.Boundaries.Refusals.{Sized, sized}
use Rattle.model.specs.Boundaries.Choices.{among, judged}

-- ---- refusal 5

-- own numbers that are all zeros but for MinHopRankIncrease
abbrev pub zeroed : (minhop : ℕ) → Own
zeroed m = own_as 0 m 0 0 0 0x00 0 0

abbrev pub refusals : List (Example Sized ℕ)
refusals =
    sized (own_in 0 0x00 0) 1 2056 gives 5
    ∷ sized (own_in 1 0x00 0) 1 2056 gives 0
    ∷ sized (own_in 2 0x00 0) 1 2056 gives 0
    ∷ sized (own_in 3 0x00 0) 1 2056 gives 5
    ∷ sized (own_in 255 0x00 0) 1 2056 gives 5
    -- 130 is 2 in its low seven bits; without a candidate too
    ∷ sized (own_in 130 0x00 0) 1 2056 gives 5
    ∷ sized (own_in 3 0x00 0) 0 2056 gives 5
    -- after 4, 3, 2 and 1
    ∷ sized (own_in 3 0x00 0) 1 2055 gives 4
    ∷ sized (own_in 3 0x10 1) 1 2056 gives 3
    ∷ sized (own_in 3 0x00 0) 17 2056 gives 2
    ∷ sized (zeroed 0) 1 2056 gives 1
    ∷ sized (zeroed 1) 1 2056 gives 5
    -- edition 2 has the refusals before it too
    ∷ sized (own_in 2 0x00 0) 1 2055 gives 4
    ∷ sized (own_in 2 0x10 1) 1 2056 gives 3
    ∷ []

-- ---- bar 11

-- the verdicts on one such candidate in edition 1 and in edition 2
pub record Site : Type 0 where
  pub order : ℕ
  pub flags : ℕ
  pub preference : ℕ

abbrev pub site : (order flags preference : ℕ) → Site
site o f p = record { order = o; flags = f; preference = p }

abbrev pub site_verdicts : Site → List ℕ
site_verdicts s = map (λ e. verdict_of (single (own_in e 0x00 0) (sited s.order s.flags s.preference 256) empty)) (1 ∷ 2 ∷ [])

abbrev pub sites : List (Example Site (List ℕ))
sites =
    site 0 0x00 0 gives (10 ∷ 10 ∷ [])
    ∷ site 7 0x40 0 gives (10 ∷ 10 ∷ [])
    ∷ site 8 0x40 0 gives (10 ∷ 11 ∷ [])
    ∷ site 255 0x00 0 gives (10 ∷ 11 ∷ [])
    ∷ site 0 0x00 7 gives (10 ∷ 10 ∷ [])
    ∷ site 0 0x00 8 gives (10 ∷ 11 ∷ [])
    ∷ site 0 0x40 255 gives (10 ∷ 11 ∷ [])
    ∷ site 7 0x00 7 gives (10 ∷ 10 ∷ [])
    ∷ site 8 0x00 8 gives (10 ∷ 11 ∷ [])
    -- 16 and 128 are 0 in their low bits
    ∷ site 16 0x00 0 gives (10 ∷ 11 ∷ [])
    ∷ site 0 0x00 128 gives (10 ∷ 11 ∷ [])
    ∷ []

-- before bar 12, and before bar 20
abbrev pub earlier : List (Example Calling ℕ)
earlier =
    calling (own_in 2 0x00 0) (candidate (sited 8 0x00 0 256) 0 1 ∷ []) [] gives 11
    ∷ calling (own_in 2 0x00 0) (candidate (sited 7 0x00 0 256) 0 1 ∷ []) [] gives 12
    ∷ calling (own_in 1 0x00 0) (candidate (sited 8 0x00 0 256) 0 1 ∷ []) [] gives 12
    ∷ single (own_in 2 0x00 0) (sited 0 0x00 8 65535) empty gives 11
    ∷ single (own_in 1 0x00 0) (sited 0 0x00 8 65535) empty gives 20
    ∷ []

-- ---- what candidates are compared by

-- the criteria of such a candidate of rank 256, at position 3 without a current parent, in edition 1 and in edition 2
abbrev pub site_criteria : Site → List (List ℕ)
site_criteria s = map (λ e. criteria None 3 (offer_of (own_in e 0x00 0) (sited s.order s.flags s.preference 256))) (1 ∷ 2 ∷ [])

abbrev pub compared : List (Example Site (List (List ℕ)))
compared =
    site 0 0x00 0 gives ((0 ∷ 0 ∷ 0 ∷ 512 ∷ 1 ∷ 3 ∷ []) ∷ (0 ∷ 1 ∷ 7 ∷ 512 ∷ 1 ∷ 3 ∷ []) ∷ [])
    ∷ site 0 0x40 7 gives ((0 ∷ 0 ∷ 0 ∷ 512 ∷ 1 ∷ 3 ∷ []) ∷ (0 ∷ 0 ∷ 0 ∷ 512 ∷ 1 ∷ 3 ∷ []) ∷ [])
    ∷ site 7 0x00 0 gives ((0 ∷ 0 ∷ 0 ∷ 512 ∷ 1 ∷ 3 ∷ []) ∷ (7 ∷ 1 ∷ 7 ∷ 512 ∷ 1 ∷ 3 ∷ []) ∷ [])
    ∷ site 5 0x40 2 gives ((0 ∷ 0 ∷ 0 ∷ 512 ∷ 1 ∷ 3 ∷ []) ∷ (5 ∷ 0 ∷ 5 ∷ 512 ∷ 1 ∷ 3 ∷ []) ∷ [])
    ∷ []

-- ---- the choice

-- candidates with empty containers; flag 0x10: the current parent's position is given
pub record Contest : Type 0 where
  pub flags : ℕ
  pub current : ℕ
  pub candidates : List Candidate

abbrev pub with : (order flags preference rank : ℕ) → Candidate
with o f p r = candidate (sited o f p r) 0 2

-- without a current parent, and with one
abbrev pub free : List Candidate → Contest
free cs = record { flags = 0x00; current = 0; candidates = cs }

abbrev pub current : (position : ℕ) → List Candidate → Contest
current p cs = record { flags = 0x10; current = p; candidates = cs }

-- the parent's position in edition 1 and in edition 2
abbrev pub parents : Contest → List ℕ
parents w = map (λ e. (result_of (among (own_in e w.flags w.current) w.candidates)).answer.parent) (1 ∷ 2 ∷ [])

abbrev pub contests : List (Example Contest (List ℕ))
contests =
    -- interface order alone decides in edition 2; all else speaks for the other, whom edition 1 takes
    current 0 (with 1 0x40 7 100 ∷ with 0 0x00 0 300 ∷ []) gives (0 ∷ 1 ∷ [])
    ∷ current 1 (with 0 0x00 0 300 ∷ with 1 0x40 7 100 ∷ []) gives (1 ∷ 0 ∷ [])
    ∷ free (with 7 0x40 7 100 ∷ with 6 0x00 0 300 ∷ []) gives (0 ∷ 1 ∷ [])
    ∷ free (with 3 0x40 7 100 ∷ with 5 0x40 7 100 ∷ with 2 0x00 0 300 ∷ []) gives (0 ∷ 2 ∷ [])
    -- grounded alone
    ∷ current 0 (with 3 0x00 7 100 ∷ with 3 0x40 0 300 ∷ []) gives (0 ∷ 1 ∷ [])
    ∷ current 1 (with 3 0x40 0 300 ∷ with 3 0x00 7 100 ∷ []) gives (1 ∷ 0 ∷ [])
    -- by flag 0x40, whatever the others
    ∷ free (with 0 0xBF 7 100 ∷ with 0 0x40 0 300 ∷ []) gives (0 ∷ 1 ∷ [])
    ∷ free (with 0 0xBF 0 300 ∷ with 0 0xFF 0 300 ∷ []) gives (0 ∷ 1 ∷ [])
    ∷ free (with 0 0x80 0 300 ∷ with 0 0x20 0 300 ∷ []) gives (0 ∷ 0 ∷ [])
    -- root preference alone, the higher the better, among grounded and among floating ones
    ∷ current 0 (with 3 0x40 4 100 ∷ with 3 0x40 5 300 ∷ []) gives (0 ∷ 1 ∷ [])
    ∷ current 1 (with 3 0x00 5 300 ∷ with 3 0x00 4 100 ∷ []) gives (1 ∷ 0 ∷ [])
    ∷ free (with 0 0x00 0 100 ∷ with 0 0x00 1 300 ∷ []) gives (0 ∷ 1 ∷ [])
    ∷ free (with 0 0x00 6 100 ∷ with 0 0x00 7 300 ∷ []) gives (0 ∷ 1 ∷ [])
    -- grounded before preference, and order before both
    ∷ free (with 0 0x40 0 300 ∷ with 0 0x00 7 300 ∷ []) gives (0 ∷ 0 ∷ [])
    ∷ free (with 0 0x00 7 300 ∷ with 0 0x40 0 300 ∷ []) gives (0 ∷ 1 ∷ [])
    ∷ free (with 1 0x40 7 300 ∷ with 0 0x00 0 300 ∷ []) gives (0 ∷ 1 ∷ [])
    -- resulting rank alone, in both
    ∷ current 0 (with 3 0x40 4 101 ∷ with 3 0x40 4 100 ∷ []) gives (1 ∷ 1 ∷ [])
    ∷ current 1 (with 3 0x00 4 100 ∷ with 3 0x00 4 101 ∷ []) gives (0 ∷ 0 ∷ [])
    -- being the current parent alone, in both
    ∷ current 1 (with 3 0x40 4 100 ∷ with 3 0x40 4 100 ∷ []) gives (1 ∷ 1 ∷ [])
    -- position alone, in both
    ∷ free (with 3 0x40 4 100 ∷ with 3 0x40 4 100 ∷ []) gives (0 ∷ 0 ∷ [])
    -- in edition 1 rank, current and position decide, whatever the three say
    ∷ free (with 200 0x00 200 100 ∷ with 0 0x40 7 101 ∷ []) gives (0 ∷ 1 ∷ [])
    ∷ current 1 (with 0 0x40 7 100 ∷ with 5 0x00 0 100 ∷ []) gives (1 ∷ 0 ∷ [])
    ∷ free (with 5 0x00 0 100 ∷ with 0 0x40 7 100 ∷ []) gives (0 ∷ 1 ∷ [])
    -- the least rank among those that are level with the parent
    ∷ free (with 0 0x40 3 300 ∷ with 0 0x40 3 200 ∷ with 1 0x40 3 100 ∷ []) gives (2 ∷ 1 ∷ [])
    ∷ current 2 (with 0 0x40 3 200 ∷ with 1 0x40 3 100 ∷ with 0 0x40 3 200 ∷ []) gives (1 ∷ 2 ∷ [])
    ∷ []

-- the whole answer
abbrev pub outcomes : List (Example Calling Outcome)
outcomes =
    among (own_in 2 0x00 0) (with 1 0x40 7 100 ∷ with 0 0x00 0 300 ∷ []) gives chosen 1 556 (judged 14 (10 ∷ 10 ∷ [])) 0b11 2 empty
    ∷ among (own_in 1 0x00 0) (with 1 0x40 7 100 ∷ with 0 0x00 0 300 ∷ []) gives chosen 0 356 (judged 14 (10 ∷ 10 ∷ [])) 0b11 2 empty
    -- who is barred is not compared: by 11 in edition 2 alone, by 20 in both
    ∷ among (own_in 2 0x00 0) (with 8 0x40 7 100 ∷ with 7 0x00 0 300 ∷ []) gives chosen 1 556 (judged 14 (11 ∷ 10 ∷ [])) 0b10 1 empty
    ∷ among (own_in 1 0x00 0) (with 8 0x40 7 100 ∷ with 7 0x00 0 300 ∷ []) gives chosen 0 356 (judged 14 (10 ∷ 10 ∷ [])) 0b11 2 empty
    ∷ among (own_in 2 0x00 0) (with 0 0x40 7 65535 ∷ with 7 0x00 0 300 ∷ []) gives chosen 1 556 (judged 14 (20 ∷ 10 ∷ [])) 0b10 1 empty
    ∷ among (own_in 2 0x00 0) (with 0 0x40 8 100 ∷ []) gives nobody (judged 15 (11 ∷ []))
    -- 16 candidates, the last the best
    ∷ among (own_in 2 0x00 0) (replicate 15 (with 0 0x40 6 100) ++ (with 0 0x40 7 300 ∷ [])) gives chosen 15 556 (replicate 16 10) 0xFFFF 16 empty
    ∷ []
