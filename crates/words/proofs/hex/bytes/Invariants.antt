use Rattle.words.proofs.HexLaws.{Reads}
use Rattle.words.proofs.hex.bytes.Given as goal

abbrev pub invariant-loop-n : goal.invariant-loop-n
invariant-loop-n l = Reads l.text l.rest l.initial.out l.out l.n
