use Rattle.reason.proofs.OptionLaws.{counts_first, counts_end}
use Rattle.reason.proofs.options.count.Goals as goal

pub loop-from-init : goal.loop-from-init
loop-from-init c = counts_first _

pub returns : goal.returns
returns c = counts_end _ _ _ c.loop-from.invariant c.loop-from-test.false
