use mathlib.Core.Path.{◌≡◌, sym, ◌∙◌}
use mathlib.Core.Bool.{true}
use Rattle.model.specs.Object.{known, kind_of}
use mathlib.Core.List.{[]}
use Rattle.wire.specs.Step.{object_of}
use Rattle.wire.proofs.SeenLaws.{reads_use}
use Rattle.wire.proofs.seen.Uses.has.Goals as goal

pub returns : goal.returns
returns c =
    let k : known (kind_of c.args.header.mctype) ≡ true = rw (← c.metric_type.ensures) (sym c.is_known.ensures ∙ c.if-not-is_known.false) in
    reads_use c.args.self.0 _ (object_of c.args.header []) k c.use_index.ensures.1
