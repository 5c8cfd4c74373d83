use Prim.Native.Nat.{◌-◌}
use lib.ListN.{length}
use Rattle.reason.proofs.OverrunLaws.{Telling}
use Rattle.reason.proofs.frames.objects_of.Given as goal

abbrev pub invariant-loop-at : goal.invariant-loop-at
invariant-loop-at l = Telling l.bytes l.first l.at l.index

abbrev pub decreases-loop-at : goal.decreases-loop-at
decreases-loop-at l = length l.bytes - l.at
