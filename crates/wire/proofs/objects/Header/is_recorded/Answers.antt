use Rattle.wire.proofs.HeaderLaws.{recorded_by_lem}
use Rattle.wire.proofs.objects.Header.is_recorded.Goals as goal

pub returns : goal.returns
returns c = recorded_by_lem _ _
