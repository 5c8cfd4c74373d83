use Rattle.wire.proofs.FrameLaws.{Counted}
use Rattle.wire.proofs.containers.check.Given as goal

abbrev pub invariant-loop-count : goal.invariant-loop-count
invariant-loop-count l = Counted l.fn.run l.containers.rest.now l.count
