use Rattle.feed.proofs.StepLaws.{FedUpTo}
use Rattle.feed.proofs.bytes.feed.Given as goal

abbrev pub invariant-loop-byte : goal.invariant-loop-byte
invariant-loop-byte l = FedUpTo l.part l.byte-index l.initial.keeper l.keeper
