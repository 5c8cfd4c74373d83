-- Refusals 1 to 5, on each side of each boundary.
use Rattle.std.specs.Prelude.{ℕ, List, [], ◌∷◌, replicate}
use Rattle.model.specs.declared.Own.{Own}
use Rattle.model.specs.Choice.{Result, refusal, call}
use Rattle.model.specs.Samples.{Example, ◌gives◌, own0, own_with, own_node, own_current, own_in, neighbour0, empty, candidate, Outcome, outcome, refused_with}

-- a call by the number of its candidates, all alike, and of its output's bytes
pub record Sized : Type 0 where
  pub own : Own
  pub count : ℕ
  pub room : ℕ

abbrev pub sized : Own → (count room : ℕ) → Sized
sized own n m = record { own = own; count = n; room = m }

abbrev pub sized_call : Sized → Result
sized_call w = call w.own (replicate w.count (candidate neighbour0 0 2)) empty (replicate w.room 0xAA)

abbrev pub sized_refusal : Sized → ℕ
sized_refusal w = refusal w.own w.count w.room

abbrev pub sized_outcome : Sized → Outcome
sized_outcome w = outcome (sized_call w)

-- the number of a refusal, by the numbers that it reads; what a refused call tells is below
abbrev pub refusals : List (Example Sized ℕ)
refusals =
    sized own0 1 2056 gives 0
    -- 1: MinHopRankIncrease 0 and 1; own type 3 and 4
    ∷ sized (own_with 0 0 0 0 0x00 0 0) 1 2056 gives 1
    ∷ sized (own_with 1 0 0 0 0x00 0 0) 1 2056 gives 0
    ∷ sized (own_node 3 0x00 0) 1 2056 gives 0
    ∷ sized (own_node 4 0x00 0) 1 2056 gives 1
    -- 2: no candidate, 16 and 17
    ∷ sized own0 0 2056 gives 0
    ∷ sized own0 16 2056 gives 0
    ∷ sized own0 17 2056 gives 2
    -- 3: the current position just below the count, and at it
    ∷ sized (own_current 0) 1 2056 gives 0
    ∷ sized (own_current 1) 1 2056 gives 3
    ∷ sized (own_current 15) 16 2056 gives 0
    ∷ sized (own_current 16) 16 2056 gives 3
    ∷ sized (own_current 0) 0 2056 gives 3
    ∷ sized (own_current 256) 1 2056 gives 3
    ∷ sized (own_current 18446744073709551615) 16 2056 gives 3
    -- a position that is not given is not tested
    ∷ sized (own_with 256 0 0 0 0x00 0 9) 1 2056 gives 0
    -- 4: output of 2,055 bytes, of none, of one container and of 2,057, also where nothing would be written
    ∷ sized own0 1 2055 gives 4
    ∷ sized own0 1 0 gives 4
    ∷ sized own0 1 257 gives 4
    ∷ sized own0 1 2057 gives 0
    ∷ sized own0 0 2055 gives 4
    -- the order
    ∷ sized (own_with 0 0 0 0 0x10 0 17) 17 2055 gives 1
    ∷ sized (own_current 17) 17 2055 gives 2
    ∷ sized (own_current 1) 1 2055 gives 3
    ∷ []

-- all that a refused call tells; the output is untouched
abbrev pub refused_calls : List (Example Sized Outcome)
refused_calls =
    sized (own_node 4 0x00 0) 1 2056 gives refused_with 1 (replicate 2056 0xAA)
    ∷ sized own0 17 2056 gives refused_with 2 (replicate 2056 0xAA)
    ∷ sized (own_current 1) 1 2056 gives refused_with 3 (replicate 2056 0xAA)
    ∷ sized own0 1 257 gives refused_with 4 (replicate 257 0xAA)
    ∷ sized (own_in 3 0x00 0) 1 2056 gives refused_with 5 (replicate 2056 0xAA)
    ∷ []
