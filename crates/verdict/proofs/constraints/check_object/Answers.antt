use mathlib.Core.Path.{◌≡◌, sym, ap, ◌∙◌}
use mathlib.Core.Bool.{true}
use Rattle.model.specs.Object.{kind, known}
use Rattle.wire.specs.Front.{seen}
use Rattle.verdict.proofs.HoldLaws.{named_known, optional_free, unknown_bars, met_free, unmet_bars}
use Rattle.verdict.proofs.constraints.check_object.Goals as goal

pub returns-then-not-is_mandatory : goal.returns-then-not-is_mandatory
returns-then-not-is_mandatory c = optional_free _ _ (seen c.args.object) (sym c.is_mandatory.ensures ∙ c.if-not-is_mandatory.true)

pub returns-in-Unknown : goal.returns-in-Unknown
returns-in-Unknown c = unknown_bars _ _ (seen c.args.object) (sym c.is_mandatory.ensures ∙ c.if-not-is_mandatory.false) (ap known (sym c.in-Unknown.ensures))

pub returns-in_default : goal.returns-in_default
returns-in_default c =
    let k : known (kind (seen c.args.object)) ≡ true = ap known (sym c.metric_type.ensures) ∙ named_known _ c.in_default.not-Unknown in
    met_free _ _ (seen c.args.object) (sym c.is_mandatory.ensures ∙ c.if-not-is_mandatory.false) k (rw (← c.metric_type.ensures) (sym c.is_met.ensures ∙ c.if-is_met.true))

pub returns-in_default-2 : goal.returns-in_default-2
returns-in_default-2 c =
    let k : known (kind (seen c.args.object)) ≡ true = ap known (sym c.metric_type.ensures) ∙ named_known _ c.in_default.not-Unknown in
    unmet_bars _ _ (seen c.args.object) (sym c.is_mandatory.ensures ∙ c.if-not-is_mandatory.false) k (rw (← c.metric_type.ensures) (sym c.is_met.ensures ∙ c.if-is_met.false))
