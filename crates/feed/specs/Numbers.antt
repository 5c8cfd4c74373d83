-- The numbers that the state has for where the last byte stands and for what becomes of the option in hand.
use Rattle.std.specs.Prelude.{ℕ, cond, eqb}
use Rattle.feed.specs.declared.phase.Phase.{Phase}
use Rattle.feed.specs.declared.phase.Phase.TheVariants.{Between, Typed, Within, Short}
use Rattle.feed.specs.declared.phase.Keep.{Keep}
use Rattle.feed.specs.declared.phase.Keep.TheVariants.{Dropped, Empty, Whole}

-- any number has a phase
abbrev pub phase_of : (number : ℕ) → Phase
phase_of n = cond (eqb n 1) Typed (cond (eqb n 2) Within (cond (eqb n 255) Short Between))

-- and says what becomes of an option
abbrev pub keep_of : (number : ℕ) → Keep
keep_of n = cond (eqb n 0) Dropped (cond (eqb n 1) Empty Whole)

-- the number of each
abbrev pub keep_number_of : Keep → ℕ
keep_number_of Dropped = 0
keep_number_of Empty = 1
keep_number_of Whole = 2
