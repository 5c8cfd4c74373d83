-- The verdict on a candidate: bars 11, 12, 22, 23 and 14 to 21, in the order of documents 01 and 02.
use Rattle.std.specs.Prelude.{ℕ, zero, suc, ◌+◌, ◌-◌, ◌*◌, ◌/◌, ◌%◌, Bool, true, false, cond, ◌&&◌, ◌||◌, List, [], ◌∷◌, length, take, drop, ltb, eqb}
use Rattle.model.specs.declared.Own.{Own}
use Rattle.model.specs.declared.Offer.{Offer}
use Rattle.model.specs.declared.Neighbour.{Neighbour}
use Rattle.model.specs.declared.Candidate.{Candidate}
use Rattle.model.specs.declared.verdicts.Verdict as code
use Rattle.model.specs.declared.verdicts.Verdict.TheVariants as coded
use Rattle.model.specs.Bars.{bar_number, bar_place}
use Rattle.model.specs.Number.{first_of, index_of, Case, ◌when◌, first_case}
use Rattle.model.specs.Reading.{no_place, Reading, refused, well_formed}
use Rattle.model.specs.Run.{read_run}
use Rattle.model.specs.Constraint.{summary, constraint_bar}
use Rattle.model.specs.Rank.{resulting, rank_too_high, above_lowest}

-- a verdict: unbarred with what it is compared by; or barred by a number, at the object of an index, or no_place
pub data Verdict : Type 0 where
  Unbarred : Offer → Verdict
  Barred : (number place : ℕ) → Verdict

-- the verdict that code has in its enum
abbrev pub verdict_of : code.Verdict → Verdict
verdict_of (coded.Unbarred r) = Unbarred r
verdict_of (coded.Barred b) = Barred (bar_number b) (bar_place b)

-- Sp outside 1..9, Rf outside 1..4, Sr above 5, LQL above 7, type above 3 or colour above 1023
unfoldable pub out_of_range : Neighbour → Bool
out_of_range c = ltb c.sp 1 || ltb 9 c.sp || ltb c.rf 1 || ltb 4 c.rf || ltb 5 c.sr || ltb 7 c.lql || ltb 3 c.nodetype || ltb 1023 c.colour

-- interface order or root preference above 7
abbrev pub site_out_of_range : Neighbour → Bool
site_out_of_range c = ltb 7 c.order || ltb 7 c.preference

-- the caller names edition 2
abbrev pub is_second : Own → Bool
is_second own = eqb own.edition 2

-- bar 11: numbers out of range, in edition 2 also those that it alone reads
unfoldable pub bad_numbers : Own → Neighbour → Bool
bad_numbers own c = out_of_range c || is_second own && site_out_of_range c

-- a candidate's run in the lent bytes
abbrev pub run_of : (lent : List ℕ) → Candidate → List ℕ
run_of lent c = take c.size (drop c.start lent)

-- bar 12: run not inside the lent bytes
abbrev pub outside : (lent : List ℕ) → Candidate → Bool
outside lent c = ltb (length lent) (c.start + c.size)

-- bars 20 and 21
abbrev pub rank_cases : Own → Neighbour → List Case
rank_cases own c = 20 when rank_too_high own c ∷ 21 when above_lowest own c ∷ []

-- the lower of 20 and 21
unfoldable pub rank_bar : Own → Neighbour → ℕ
rank_bar own c = first_case (rank_cases own c)

-- 1 where its DODAG is grounded: flag 0x40
abbrev pub grounded : Neighbour → ℕ
grounded c = c.flags / 64 % 2

-- what edition 2 compares before the rank, as digits: interface order, 1 where not grounded, how far root preference is below 7
unfoldable pub ahead_of : Own → Neighbour → ℕ
ahead_of own c = cond (is_second own) (c.order * 16 + (1 - grounded c) * 8 + (7 - c.preference)) 0

-- what an unbarred candidate is compared by
abbrev pub offer_of : Own → Neighbour → Offer
offer_of own c = record { ahead = ahead_of own c; rank = record { 0 = resulting own c } }

-- past the objects: bars 20 and 21, or unbarred
abbrev pub judge_rank : Own → Neighbour → (bar : ℕ) → Verdict
judge_rank own c zero = Unbarred (offer_of own c)
judge_rank own c (suc n) = Barred (suc n) no_place

-- the first object's bar of 18 and 19, if there is one
abbrev pub judge_objects : Own → Neighbour → (bar place : ℕ) → Verdict
judge_objects own c zero p = judge_rank own c (rank_bar own c)
judge_objects own c (suc n) p = Barred (suc n) p

-- past bars 11 and 12, by what reading the run gives
abbrev pub judge_reading : Own → Neighbour → Reading → Verdict
judge_reading own c (refused n p) = Barred n p
judge_reading own c (well_formed os) = judge_objects own c (first_of (constraint_bar c (summary os)) os) (index_of (constraint_bar c (summary os)) os)

-- documents 01 and 02's verdict: 11, 12, 22, 23, 14 in order, then the first object with 15, 16 or 17, then the first with 18 or 19, then 20, 21
unfoldable pub verdict : Own → (lent : List ℕ) → Candidate → Verdict
verdict own lent c = cond (bad_numbers own c.neighbour) (Barred 11 no_place) (cond (outside lent c) (Barred 12 no_place) (judge_reading own c.neighbour (read_run (run_of lent c))))

-- the number of a verdict: 10 for an unbarred candidate
abbrev pub number_of : Verdict → ℕ
number_of (Unbarred r) = 10
number_of (Barred n p) = n

-- the place of a verdict
abbrev pub place_of : Verdict → ℕ
place_of (Unbarred r) = no_place
place_of (Barred n p) = p

-- a verdict that does not bar
abbrev pub is_unbarred : Verdict → Bool
is_unbarred (Unbarred r) = true
is_unbarred (Barred n p) = false
