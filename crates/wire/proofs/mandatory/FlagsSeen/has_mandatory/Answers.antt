use mathlib.Core.Bool.{or_assoc, or-false}
use Rattle.wire.specs.Row.{has_bit}
use Rattle.wire.specs.Mandatory.{shows_mandatory}
use Rattle.wire.proofs.mandatory.FlagsSeen.has_mandatory.Goals as goal

pub returns : goal.returns
unfolding shows_mandatory has_bit
returns c = simp (or_assoc, or-false)
