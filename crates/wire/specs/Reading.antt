-- A run that is read: document 01's number and values for each case, and the same in the Result of code.
use Rattle.std.specs.Prelude.{ℕ, Bool, length, Result, Ok, Err}
use Rattle.model.specs.declared.Summary.{Summary}
use Rattle.model.specs.declared.verdicts.Bar.{Bar}
use Rattle.model.specs.Number.{any_of}
use Rattle.model.specs.Reading as model
use Rattle.model.specs.Constraint.{summary, mandatory}
use Rattle.model.specs.Bars.{bar_number, bar_place}
use Rattle.wire.specs.declared.container.Reading as code

-- refused by a bar at the index of its object; or well-formed, with the number of objects, whether some are mandatory constraints, and what they tell the tests of these
pub data Reading : Type 0 where
  Refused : (number place : ℕ) → Reading
  WellFormed : (count : ℕ) → (mandatory : Bool) → Summary → Reading

-- by the model's
abbrev pub reading_of : model.Reading → Reading
reading_of (model.refused n p) = Refused n p
reading_of (model.well_formed os) = WellFormed (length os) (any_of mandatory os) (summary os)

-- by what code answers
abbrev pub reading_in : Result code.Reading Bar → Reading
reading_in (Ok r) = WellFormed r.count r.mandatory r.summary
reading_in (Err b) = Refused (bar_number b) (bar_place b)
