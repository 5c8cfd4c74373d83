-- Every bar and leaf answer that a call reports is given exactly when document 01 says.
use Rattle.model.specs.Exact.{BarsExact, LeavesExact}
use Rattle.model.proofs.Bars.{bar_exact}
use Rattle.model.proofs.LeafLaws.{leaf_exact}
use Rattle.model.proofs.Selection.{selection}
use Rattle.model.proofs.OutgoingLaws.{leaf_is}

pub bars : BarsExact
bars own cs lent out taken i c s = rw ((selection own cs lent out taken).verdict_at i c s).0 (bar_exact own lent c)

pub leaves : LeavesExact
leaves own cs lent out taken x = rw (leaf_is own cs lent out taken x) (leaf_exact own x.candidate.neighbour x.objects)
