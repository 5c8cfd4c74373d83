use Rattle.std.proofs.Common.{rules}
use Rattle.wire.proofs.OptionLaws.{pads_place}
use Rattle.wire.proofs.containers.pads.Goals as goal

pub returns-clause-value : goal.returns-clause-value
returns-clause-value c =
    let e = pads_place c.args.bytes.now c.behind_pads.result c.behind_pads.ensures in search (rules, e)
