use mathlib.Core.Path.{◌∙◌}
use Rattle.model.specs.Update.{combine}
use Rattle.wire.proofs.NumberLaws.{number_in_lem}
use Rattle.hop.proofs.BodyLaws.{on_field_lem}
use Rattle.hop.proofs.aggregated.put_field_4.Goals as goal

pub returns : goal.returns
returns c =
    let args = c.args in
    on_field_lem 4 (λ x. combine args.a 4294967295 x args.v) _ c.if-body-ne4.false (c.number_4.ensures ∙ number_in_lem 4 _ c.if-body-ne4.false) c.combine.ensures c.put_number.ensures
