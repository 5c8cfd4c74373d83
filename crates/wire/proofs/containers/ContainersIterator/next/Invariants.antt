use Rattle.std.proofs.Common.{◌≡◌, length}
use Rattle.wire.specs.Options.{data_front, options_left}
use Rattle.wire.proofs.containers.ContainersIterator.next.Given as goal

abbrev pub invariant-loop-self : goal.invariant-loop-self
invariant-loop-self l = (data_front l.self.rest.now ≡ data_front l.fn.self.rest.now) × (options_left l.self.rest.now ≡ options_left l.fn.self.rest.now)

abbrev pub decreases-loop-self : goal.decreases-loop-self
decreases-loop-self l = length l.self.rest.now
