use Prim.Native.Nat.{◌≤◌}
use lib.ListN.{length, drop}
use Rattle.model.specs.Update.{count_level}
use Rattle.hop.proofs.RunLaws.{Putting}
use Rattle.hop.proofs.levels.put_levels.Given as goal

abbrev pub invariant-loop-i : goal.invariant-loop-i
invariant-loop-i l = (l.i ≤ length l.subs) × Putting l.initial.out l.at (count_level l.level l.subs) l.out l.i (count_level l.level (drop l.i l.subs))
