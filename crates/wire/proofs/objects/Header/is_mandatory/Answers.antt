use Rattle.wire.proofs.MandatoryLaws.{mandatory_by}
use Rattle.wire.proofs.objects.Header.is_mandatory.Goals as goal

pub returns : goal.returns
returns c = mandatory_by c.args.self.flags c.args.self.mode
