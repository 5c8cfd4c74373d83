-- The choice of a preferred parent, and the whole answer.
use Rattle.std.specs.Prelude.{ℕ, List, [], ◌∷◌, ◌++◌, replicate}
use Rattle.model.specs.declared.Own.{Own}
use Rattle.model.specs.declared.Candidate.{Candidate}
use Rattle.model.specs.Samples.{Example, ◌gives◌, own0, own_with, own_current, ranked, etx_of, empty, candidate, Calling, calling, Outcome, nobody, chosen, stopped}

-- a candidate of this advertised rank, one unit away; all containers coincide
abbrev pub at : (rank : ℕ) → Candidate
at r = candidate (ranked r 1 1 0) 0 2

-- candidates whose container is empty
abbrev pub among : Own → List Candidate → Calling
among own cs = calling own cs empty

-- verdicts, and 0 for the positions past the count
abbrev pub judged : (past : ℕ) → List ℕ → List ℕ
judged n vs = vs ++ replicate n 0

abbrev pub choices : List (Example Calling Outcome)
choices =
    -- no candidate; one; all barred
    among own0 [] gives nobody (judged 16 [])
    ∷ among own0 (at 100 ∷ []) gives chosen 0 356 (judged 15 (10 ∷ [])) 0b1 1 empty
    ∷ among own0 (at 65535 ∷ []) gives nobody (judged 15 (20 ∷ []))
    ∷ among own0 (at 65535 ∷ candidate (ranked 100 1 0 0) 0 2 ∷ []) gives nobody (judged 14 (20 ∷ 11 ∷ []))
    -- the smallest resulting rank, first, in the middle and last
    ∷ among own0 (at 100 ∷ at 200 ∷ at 300 ∷ []) gives chosen 0 356 (judged 13 (10 ∷ 10 ∷ 10 ∷ [])) 0b111 3 empty
    ∷ among own0 (at 300 ∷ at 100 ∷ at 200 ∷ []) gives chosen 1 356 (judged 13 (10 ∷ 10 ∷ 10 ∷ [])) 0b111 3 empty
    ∷ among own0 (at 300 ∷ at 200 ∷ at 100 ∷ []) gives chosen 2 356 (judged 13 (10 ∷ 10 ∷ 10 ∷ [])) 0b111 3 empty
    -- one rank apart; the current parent has no say
    ∷ among (own_current 0) (at 101 ∷ at 100 ∷ []) gives chosen 1 356 (judged 14 (10 ∷ 10 ∷ [])) 0b11 2 empty
    -- resulting, not advertised
    ∷ among own0 (candidate (ranked 100 1 2 0) 0 2 ∷ at 200 ∷ []) gives chosen 1 456 (judged 14 (10 ∷ 10 ∷ [])) 0b11 2 empty
    ∷ among own0 (candidate (ranked 0 1 2 0) 0 2 ∷ at 256 ∷ []) gives chosen 0 512 (judged 14 (10 ∷ 10 ∷ [])) 0b11 2 empty
    -- a tie: the lower position; the current parent if it is among them
    ∷ among own0 (at 300 ∷ at 100 ∷ at 100 ∷ []) gives chosen 1 356 (judged 13 (10 ∷ 10 ∷ 10 ∷ [])) 0b111 3 empty
    ∷ among (own_current 1) (at 300 ∷ at 100 ∷ at 100 ∷ []) gives chosen 1 356 (judged 13 (10 ∷ 10 ∷ 10 ∷ [])) 0b111 3 empty
    ∷ among (own_current 2) (at 300 ∷ at 100 ∷ at 100 ∷ []) gives chosen 2 356 (judged 13 (10 ∷ 10 ∷ 10 ∷ [])) 0b111 3 empty
    ∷ among (own_current 1) (at 100 ∷ at 100 ∷ at 100 ∷ []) gives chosen 1 356 (judged 13 (10 ∷ 10 ∷ 10 ∷ [])) 0b111 3 empty
    -- the current parent is not among them: of higher rank, barred, or not given though its field is 2
    ∷ among (own_current 0) (at 300 ∷ at 100 ∷ at 100 ∷ []) gives chosen 1 356 (judged 13 (10 ∷ 10 ∷ 10 ∷ [])) 0b111 3 empty
    ∷ among (own_current 0) (at 65535 ∷ at 100 ∷ at 100 ∷ []) gives chosen 1 356 (judged 13 (20 ∷ 10 ∷ 10 ∷ [])) 0b110 2 empty
    ∷ among (own_with 256 0 0 0 0x00 0 2) (at 300 ∷ at 100 ∷ at 100 ∷ []) gives chosen 1 356 (judged 13 (10 ∷ 10 ∷ 10 ∷ [])) 0b111 3 empty
    -- barred candidates of lower rank, and their bits
    ∷ among own0 (at 300 ∷ candidate (ranked 100 1 10 0) 0 2 ∷ at 200 ∷ []) gives chosen 2 456 (judged 13 (10 ∷ 11 ∷ 10 ∷ [])) 0b101 2 empty
    ∷ among own0 (candidate (ranked 0 1 1 0) 1 2 ∷ candidate (ranked 0 1 1 0) 0 1 ∷ at 300 ∷ []) gives chosen 2 556 (judged 13 (12 ∷ 22 ∷ 10 ∷ [])) 0b100 1 empty
    -- 16 candidates
    ∷ among own0 (replicate 16 (at 100)) gives chosen 0 356 (replicate 16 10) 0xFFFF 16 empty
    ∷ among (own_current 15) (replicate 16 (at 100)) gives chosen 15 356 (replicate 16 10) 0xFFFF 16 empty
    ∷ among own0 (replicate 15 (at 65535) ++ (at 100 ∷ [])) gives chosen 15 356 (replicate 15 20 ++ (10 ∷ [])) 0x8000 1 empty
    ∷ []

-- ---- containers of their own

-- HP count 3 in bytes 0 to 7, unknown aggregated in 8 to 13, recorded unknown in 14 to 19, ETX 0x0100 in 20 to 27
abbrev pub lent : List ℕ
lent =
    0x02 ∷ 0x06 ∷ 0x03 ∷ 0x00 ∷ 0x00 ∷ 0x02 ∷ 0x00 ∷ 0x03
    ∷ 0x02 ∷ 0x04 ∷ 0xC8 ∷ 0x00 ∷ 0x00 ∷ 0x00
    ∷ 0x02 ∷ 0x04 ∷ 0xC8 ∷ 0x00 ∷ 0x80 ∷ 0x00
    ∷ 0x02 ∷ 0x06 ∷ 0x07 ∷ 0x00 ∷ 0x00 ∷ 0x02 ∷ 0x01 ∷ 0x00
    ∷ []

abbrev pub over : Own → List Candidate → Calling
over own cs = calling own cs lent

abbrev pub containers : List (Example Calling Outcome)
containers =
    -- the parent's container is passed on, with the parent's numbers
    over own0 (candidate (ranked 100 1 1 0) 0 8 ∷ candidate (ranked 200 1 1 0) 14 6 ∷ [])
    gives chosen 0 356 (judged 14 (10 ∷ 10 ∷ [])) 0b11 2 (0x02 ∷ 0x06 ∷ 0x03 ∷ 0x00 ∷ 0x00 ∷ 0x02 ∷ 0x00 ∷ 0x04 ∷ [])
    ∷ over own0 (candidate (ranked 300 1 1 0) 0 8 ∷ candidate (ranked 200 1 1 0) 14 6 ∷ [])
    gives chosen 1 456 (judged 14 (10 ∷ 10 ∷ [])) 0b11 2 (0x02 ∷ 0x04 ∷ 0xC8 ∷ 0x04 ∷ 0x80 ∷ 0x00 ∷ [])
    ∷ over own0 (candidate (ranked 300 1 1 0) 0 8 ∷ candidate (etx_of 1) 20 8 ∷ candidate (etx_of 2) 20 8 ∷ [])
    gives chosen 1 512 (judged 13 (10 ∷ 10 ∷ 10 ∷ [])) 0b111 3 (0x02 ∷ 0x06 ∷ 0x07 ∷ 0x00 ∷ 0x00 ∷ 0x02 ∷ 0x01 ∷ 0x01 ∷ [])
    ∷ over (own_current 2) (candidate (ranked 300 1 1 0) 0 8 ∷ candidate (etx_of 1) 20 8 ∷ candidate (etx_of 2) 20 8 ∷ [])
    gives chosen 2 512 (judged 13 (10 ∷ 10 ∷ 10 ∷ [])) 0b111 3 (0x02 ∷ 0x06 ∷ 0x07 ∷ 0x00 ∷ 0x00 ∷ 0x02 ∷ 0x01 ∷ 0x02 ∷ [])
    -- a leaf answer is the parent's alone, and no reason to choose another
    ∷ over own0 (candidate (ranked 100 1 1 0) 0 8 ∷ candidate (ranked 200 1 1 0) 8 6 ∷ [])
    gives chosen 0 356 (judged 14 (10 ∷ 10 ∷ [])) 0b11 2 (0x02 ∷ 0x06 ∷ 0x03 ∷ 0x00 ∷ 0x00 ∷ 0x02 ∷ 0x00 ∷ 0x04 ∷ [])
    ∷ over own0 (candidate (ranked 200 1 1 0) 0 8 ∷ candidate (ranked 100 1 1 0) 8 6 ∷ []) gives stopped 1 356 (judged 14 (10 ∷ 10 ∷ [])) 0b11 2 31
    -- runs that overlap: one reads both containers, one across a container's end
    ∷ over own0 (candidate (ranked 200 1 1 0) 0 8 ∷ candidate (ranked 100 1 1 0) 0 14 ∷ []) gives stopped 1 356 (judged 14 (10 ∷ 10 ∷ [])) 0b11 2 31
    ∷ over own0 (candidate (ranked 200 1 1 0) 0 8 ∷ candidate (ranked 100 1 1 0) 0 13 ∷ [])
    gives chosen 0 456 (judged 14 (10 ∷ 22 ∷ [])) 0b1 1 (0x02 ∷ 0x06 ∷ 0x03 ∷ 0x00 ∷ 0x00 ∷ 0x02 ∷ 0x00 ∷ 0x04 ∷ [])
    -- malformed beside well-formed runs
    ∷ over own0 (candidate (ranked 100 1 1 0) 24 4 ∷ candidate (ranked 100 1 1 0) 20 7 ∷ candidate (ranked 100 1 1 0) 20 9 ∷ []) gives nobody (judged 13 (14 ∷ 22 ∷ 12 ∷ []))
    ∷ []
