use Rattle.std.proofs.Common.{sym, ◌∙◌}
use Rattle.words.proofs.DigitLaws.{read_none, read_whole}
use Rattle.words.proofs.digits.number.Goals as goal

pub returns-then-is_empty : goal.returns-then-is_empty
returns-then-is_empty c = read_none _ (sym c.is_empty.ensures ∙ c.if-is_empty.true)

pub loop-byte-init : goal.loop-byte-init
loop-byte-init c = read_whole _ (sym c.is_empty.ensures ∙ c.if-is_empty.false)
