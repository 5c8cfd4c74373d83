use Rattle.std.proofs.Common.{rules}
use Rattle.wire.proofs.OptionLaws.{pads_none}
use Rattle.wire.proofs.containers.unpadded.Goals as goal

pub returns-in_default-2 : goal.returns-in_default-2
returns-in_default-2 c = pads_none c.args.bytes.now (search rules)
