use Prim.Native.Nat.{◌-◌}
use lib.ListN.{length}
use Rattle.reason.proofs.OverrunLaws.{Overruns}
use Rattle.reason.proofs.frames.check.Given as goal

abbrev pub invariant-loop-at : goal.invariant-loop-at
invariant-loop-at l = Overruns l.run l.at l.index

abbrev pub decreases-loop-at : goal.decreases-loop-at
decreases-loop-at l = length l.run - l.at
