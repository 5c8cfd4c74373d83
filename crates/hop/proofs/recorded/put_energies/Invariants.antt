use Prim.Native.Nat.{◌-◌, ◌≤◌}
use lib.ListN.{length, drop}
use Rattle.model.specs.Update.{clear_each}
use Rattle.hop.proofs.RunLaws.{Putting}
use Rattle.hop.proofs.recorded.put_energies.Given as goal

abbrev pub invariant-loop-i : goal.invariant-loop-i
invariant-loop-i l = (l.i ≤ length l.body) × Putting l.initial.out l.at (clear_each l.body) l.out l.i (clear_each (drop l.i l.body))

abbrev pub decreases-loop-i : goal.decreases-loop-i
decreases-loop-i l = length l.body - l.i
