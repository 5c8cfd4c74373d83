-- Inside the crate: what code has of a finding.
use Rattle.std.specs.Prelude.{ℕ, ◌+◌, cond, eqb, Result, Ok, Err, Option, Some, None, ⊤}
use Rattle.model.specs.Number.{Quantity}
use Rattle.reason.specs.declared.findings.Shortfall.{Shortfall}
use Rattle.reason.specs.declared.findings.Finding.{Finding}
use Rattle.reason.specs.Finding.{finding, nothing, Objects, Short, All}
use Rattle.reason.specs.Way.{number_of}

-- by number
abbrev pub by_number : Shortfall → Finding
by_number s = finding (number_of s.way) s.which s.asked s.found

-- nothing is told where nothing falls short
abbrev pub finding_in : Option Shortfall → Finding
finding_in (Some s) = by_number s
finding_in None = nothing

-- the same of a check
abbrev pub finding_from : Result ⊤ Shortfall → Finding
finding_from (Err s) = by_number s
finding_from (Ok u) = nothing

-- of the objects of a container
abbrev pub objects_in : Result ℕ Shortfall → Objects
objects_in (Err s) = Short (by_number s)
objects_in (Ok i) = All i

-- latency and ETX: the link's value, alone or with what was received of the path
abbrev pub limit_told : (way received limit : ℕ) → Quantity → Finding
limit_told w r limit (Some v) = cond (eqb r 0) (finding w r limit (r + v)) (finding (w + 1) r limit (r + v))
limit_told w r limit None = finding (w + 2) r limit 0
