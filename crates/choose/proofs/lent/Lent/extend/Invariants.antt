use Rattle.std.proofs.Common.{◌≤◌}
use Rattle.choose.proofs.lent.Lent.extend.Given as goal

abbrev pub invariant-loop-byte : goal.invariant-loop-byte
invariant-loop-byte l = l.initial.self.used ≤ l.self.used
