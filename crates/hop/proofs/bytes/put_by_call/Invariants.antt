use Prim.Native.Nat.{◌≤◌}
use lib.ListN.{length, drop}
use Rattle.hop.proofs.RunLaws.{Putting}
use Rattle.hop.proofs.bytes.put_by_call.Given as goal

abbrev pub invariant-loop-i : goal.invariant-loop-i
invariant-loop-i l = (l.i ≤ length l.bytes) × Putting l.initial.out l.at l.bytes l.out l.i (drop l.i l.bytes)
