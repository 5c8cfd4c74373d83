-- Whole-call refusals by number.
use Rattle.std.specs.Prelude.{ℕ, Result, Ok, Err, ⊤}
use Rattle.choice.specs.declared.refusals.Refusal.{Refusal}
use Rattle.choice.specs.declared.refusals.Refusal.TheVariants.{Own, Count, Current, Output, Edition}

-- a refusal's number
abbrev pub number_of : Refusal → ℕ
number_of Own = 1
number_of Count = 2
number_of Current = 3
number_of Output = 4
number_of Edition = 5

-- 0 where a call is not refused
abbrev pub refused_as : Result ⊤ Refusal → ℕ
refused_as (Ok u) = 0
refused_as (Err r) = number_of r
