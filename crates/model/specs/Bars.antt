-- The bars as code has them: the number of each, and the index of its object.
use Rattle.std.specs.Prelude.{ℕ, Option, None, Some}
use Rattle.model.specs.declared.verdicts.ObjectBar.{ObjectBar}
use Rattle.model.specs.declared.verdicts.ObjectBar.TheVariants as at
use Rattle.model.specs.declared.verdicts.Bar.{Bar}
use Rattle.model.specs.declared.verdicts.Bar.TheVariants as bar
use Rattle.model.specs.Reading.{no_place}

-- the number of a bar at an object
abbrev pub object_bar_number : ObjectBar → ℕ
object_bar_number at.Body = 15
object_bar_number at.Repeat = 16
object_bar_number at.Recorded = 17
object_bar_number at.Unknown = 18
object_bar_number at.Unmet = 19

-- the number of a bar
abbrev pub bar_number : Bar → ℕ
bar_number bar.Numbers = 11
bar_number bar.Outside = 12
bar_number bar.Frame = 13
bar_number bar.Overrun = 14
bar_number (bar.AtObject b p) = object_bar_number b
bar_number bar.Rank = 20
bar_number bar.Increase = 21
bar_number bar.Option = 22
bar_number bar.Containers = 23

-- the index of its object, where it is at one
abbrev pub place_told : Bar → Option ℕ
place_told bar.Numbers = None
place_told bar.Outside = None
place_told bar.Frame = None
place_told bar.Overrun = None
place_told (bar.AtObject b p) = Some p
place_told bar.Rank = None
place_told bar.Increase = None
place_told bar.Option = None
place_told bar.Containers = None

-- the same as a number
abbrev pub place_or_none : Option ℕ → ℕ
place_or_none None = no_place
place_or_none (Some p) = p

abbrev pub bar_place : Bar → ℕ
bar_place b = place_or_none (place_told b)
