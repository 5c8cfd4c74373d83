use Rattle.std.proofs.Common.{◌≤◌, ◌-◌}
use Rattle.try_calls.proofs.input.Input.read_on.Given as goal

abbrev pub invariant-loop-self : goal.invariant-loop-self
invariant-loop-self l = l.fn.self.held ≤ l.self.held

abbrev pub decreases-loop-self : goal.decreases-loop-self
decreases-loop-self l = 65536 - l.self.held
