use mathlib.Core.List.{[]}
use Rattle.wire.specs.Step.{object_of}
use Rattle.wire.proofs.MandatoryLaws.{shows_with}
use Rattle.wire.proofs.mandatory.FlagsSeen.with.Goals as goal

pub returns : goal.returns
returns c = shows_with c.args.self.0 (object_of c.args.header [])
