use Rattle.listing.proofs.PutLaws.{puts_append}
use Rattle.listing.proofs.writer.Writer.refused.Goals as goal

pub returns-clause-put : goal.returns-clause-put
returns-clause-put c = puts_append c.text.ensures.put c.number.ensures.put
