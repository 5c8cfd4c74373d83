use Rattle.std.proofs.Common.{◌≡◌}
use Rattle.wire.specs.Front.{front}
use Rattle.listing.proofs.LineLaws.{Lines}
use Rattle.listing.proofs.put_lines.Given as goal

abbrev pub invariant-loop-object : goal.invariant-loop-object
invariant-loop-object l =
    (l.writer.out.ghost_name ≡ l.fn.writer.out.ghost_name)
    × Lines (front l.bytes) (front l.object-iterator.rest.now) l.fn.writer.out.now l.writer.used l.writer.out.now
