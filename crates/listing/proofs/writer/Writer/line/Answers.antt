use Rattle.std.proofs.Common.{arith}
use Rattle.model.specs.Listing.{object_line}
use Rattle.listing.proofs.PutLaws.{puts_before, puts_short}
use Rattle.listing.proofs.writer.Writer.line.Goals as goal

pub number-requires-2 : goal.number-requires-2
number-requires-2 c = omega (arith, puts_short)

pub number-requires-3 : goal.number-requires-3
number-requires-3 c = omega (arith, puts_short)

pub number-requires-4 : goal.number-requires-4
number-requires-4 c = omega (arith, puts_short)

pub number-requires-5 : goal.number-requires-5
number-requires-5 c = omega (arith, puts_short)

pub number-requires-6 : goal.number-requires-6
number-requires-6 c = omega (arith, puts_short)

pub number-requires-7 : goal.number-requires-7
number-requires-7 c = omega (arith, puts_short)

pub returns-clause-put : goal.returns-clause-put
unfolding object_line
returns-clause-put c =
    puts_before _ c.number.ensures.put
    (puts_before _ c.number-2.ensures.put
    (puts_before _ c.number-3.ensures.put
    (puts_before _ c.number-4.ensures.put
    (puts_before _ c.number-5.ensures.put
    (puts_before _ c.number-6.ensures.put c.number-7.ensures.put)))))
