use Rattle.std.proofs.Common.{◌≡◌, drop}
use Rattle.words.specs.Digits.{decimal_of}
use Rattle.words.proofs.DigitLaws.{read_on}
use Rattle.words.proofs.digits.number.Given as goal

abbrev pub invariant-loop-byte : goal.invariant-loop-byte
invariant-loop-byte l = decimal_of l.word ≡ read_on l.sum (drop l.byte-index l.word)
