use Rattle.std.proofs.Common.{arith}
use Rattle.listing.proofs.PutLaws.{puts_number}
use Rattle.listing.proofs.writer.Writer.number.Goals as goal

pub returns-clause-put : goal.returns-clause-put
returns-clause-put c = puts_number _ _ (omega arith) c.digit.ensures.put c.digit-2.ensures.put c.byte.ensures.put c.byte-2.ensures.put
