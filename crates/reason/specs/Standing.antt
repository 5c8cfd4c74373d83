-- What code has of a reason.
use Rattle.std.specs.Prelude.{ℕ, Result, Ok, Err, ⊤}
use Rattle.model.specs.Bars.{bar_number, bar_place}
use Rattle.choice.specs.Difference as difference
use Rattle.choice.specs.Refusal as refusal
use Rattle.reason.specs.declared.reasons.Refused.{Refused}
use Rattle.reason.specs.declared.reasons.Refused.TheVariants.{Call, Position}
use Rattle.reason.specs.declared.reasons.Standing.{Standing}
use Rattle.reason.specs.declared.reasons.Standing.TheVariants.{Chosen, Barred, Beaten}
use Rattle.reason.specs.declared.reasons.Kind.{Kind}
use Rattle.reason.specs.declared.reasons.Kind.TheVariants as kind
use Rattle.reason.specs.Why.{Why, refused, chosen, barred, beaten_on}

-- a kind's number
abbrev pub kind_of : Kind → ℕ
kind_of kind.Refused = 0
kind_of kind.Chosen = 1
kind_of kind.Barred = 2
kind_of kind.Beaten = 3

-- the number of a refusal of a question
abbrev pub refused_by : Refused → ℕ
refused_by (Call r) = refusal.number_of r
refused_by Position = 6

-- the same of a check; 0 where it is not refused
abbrev pub refused_as : Result ⊤ Refused → ℕ
refused_as (Ok u) = 0
refused_as (Err r) = refused_by r

-- where a candidate stands
abbrev pub standing_of : Standing → Why
standing_of Chosen = chosen
standing_of (Barred b) = barred (bar_number b) (bar_place b)
standing_of (Beaten b d) = beaten_on b (difference.told d)

-- or why its question is refused
abbrev pub why_of : Result Standing Refused → Why
why_of (Ok s) = standing_of s
why_of (Err r) = refused (refused_by r)
