-- Inside the crate: what its functions say of one another.
use Rattle.std.specs.Prelude.{◌≡◌, ℕ, true, cond, List, leb, Option, Some, None, Result, Ok, Err}
use denote.Ref.{Bor}
use Rattle.model.specs.declared.Rank.{Rank}
use Rattle.model.specs.declared.Own.{Own}
use Rattle.model.specs.declared.Offer.{Offer}
use Rattle.model.specs.declared.Neighbour.{Neighbour}
use Rattle.model.specs.declared.Candidate.{Candidate}
use Rattle.model.specs.declared.Summary.{Summary}
use Rattle.model.specs.declared.verdicts.ObjectBar.{ObjectBar}
use Rattle.model.specs.declared.verdicts.Bar.{Bar}
use Rattle.model.specs.declared.verdicts.Bar.TheVariants.{Numbers, Outside}
use Rattle.model.specs.Bars.{object_bar_number, bar_number, bar_place}
use Rattle.model.specs.Number.{first_of, index_of}
use Rattle.model.specs.Object.{Object, kind, known, role}
use Rattle.model.specs.Table.{row}
use Rattle.model.specs.Reading.{shaped, well_formed}
use Rattle.model.specs.Run.{read_run}
use Rattle.model.specs.Constraint.{constraint_bar}
use Rattle.model.specs.Rank.{infinite}
use Rattle.model.specs.Verdict.{Verdict, Unbarred, Barred, bad_numbers, ahead_of, outside, run_of}

-- ---- bars 11 and 12

-- bar 11, or what edition 2 compares before the rank
unfoldable pub numbers_told : Own → Neighbour → Result ℕ Bar
numbers_told own c = cond (bad_numbers own c) (Err Numbers) (Ok (ahead_of own c))

-- bar 12, or the run in the lent bytes
unfoldable pub run_in : (lent : List ℕ) → Candidate → Result (List ℕ) Bar
run_in lent c = cond (outside lent c) (Err Outside) (Ok (run_of lent c))

-- the same of a part of the lent bytes
abbrev pub run_told : Result (Bor (List ℕ)) Bar → Result (List ℕ) Bar
run_told (Ok r) = Ok r.now
run_told (Err b) = Err b

-- ---- bars 18 and 19

-- an object whose body is as tabled, if its type is known
abbrev pub Tabled : Object → Type 0
Tabled o = known (kind o) ≡ true → shaped (role o) (row (kind o)) o.body ≡ true

-- a run that is well-formed
pub record WellFormed (bs : List ℕ) : Type 0 where
  pub objects : List Object
  pub read : read_run bs ≡ well_formed objects

-- the number of a bar at an object; 0 for none
abbrev pub object_bar_in : Result Unit ObjectBar → ℕ
object_bar_in (Ok u) = 0
object_bar_in (Err b) = object_bar_number b

-- the first object with bar 18 or 19, by number and index; or none
abbrev pub BarsFirst : Neighbour → Summary → List Object → Result Unit Bar → Type 0
BarsFirst c s os (Ok u) = 0 ≡ first_of (constraint_bar c s) os
BarsFirst c s os (Err b) = (bar_number b ≡ first_of (constraint_bar c s) os) × (bar_place b ≡ index_of (constraint_bar c s) os)

-- the same of a well-formed run
abbrev pub FirstBarring : Neighbour → Summary → List ℕ → Result Unit Bar → Type 0
FirstBarring c s bs r = (os : List Object) → read_run bs ≡ well_formed os → BarsFirst c s os r

-- ---- bars 20 and 21

-- a number as a rank, if it is a finite one
unfoldable pub finite_rank : ℕ → Option Rank
finite_rank n = cond (leb infinite n) None (Some (record { 0 = n }))

-- the verdict of a neighbour that nothing else bars
abbrev pub ranked : Own → Neighbour → Result Rank Bar → Verdict
ranked own c (Ok r) = Unbarred (record { ahead = ahead_of own c; rank = r })
ranked own c (Err b) = Barred (bar_number b) (bar_place b)

-- ---- the verdict

-- by an offer, or a bar
abbrev pub offered : Result Offer Bar → Verdict
offered (Ok o) = Unbarred o
offered (Err b) = Barred (bar_number b) (bar_place b)
