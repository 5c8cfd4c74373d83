use Prim.Native.Nat.{◌-◌}
use lib.ListN.{length}
use Rattle.reason.proofs.OptionLaws.{Counts}
use Rattle.reason.proofs.options.count.Given as goal

abbrev pub invariant-loop-from : goal.invariant-loop-from
invariant-loop-from l = Counts l.run l.from l.found

abbrev pub decreases-loop-from : goal.decreases-loop-from
decreases-loop-from l = length l.run - l.from
