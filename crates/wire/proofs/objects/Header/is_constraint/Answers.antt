use Rattle.wire.proofs.HeaderLaws.{constraint_by}
use Rattle.wire.proofs.objects.Header.is_constraint.Goals as goal

pub returns : goal.returns
returns c = constraint_by _ _
