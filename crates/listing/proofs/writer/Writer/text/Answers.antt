use Rattle.std.proofs.Common.{arith}
use Rattle.listing.proofs.PutLaws.{puts_part}
use Rattle.listing.proofs.writer.Writer.text.Goals as goal

pub returns-clause-put : goal.returns-clause-put
returns-clause-put c = puts_part _ _ c.copy_from_slice.ensures.after (omega arith)
