use mathlib.Core.Path.{◌≡◌, sym, ◌∙◌}
use mathlib.Core.Bool.{true, false}
use Rattle.model.specs.Object.{kind, role}
use Rattle.model.specs.Table.{row}
use Rattle.model.specs.Reading.{cannot_be, shaped}
use Rattle.wire.specs.Front.{seen}
use Rattle.wire.proofs.BarLaws.{bar_misused, bar_malformed, bar_shaped}
use Rattle.wire.proofs.bars.check_aggregated.Goals as goal

pub returns-then-cannot_be_aggregated : goal.returns-then-cannot_be_aggregated
returns-then-cannot_be_aggregated c =
    let o = seen c.args.object in
    let u : cannot_be (role o) (row (kind o)) ≡ true = rw (c.requires.of_role, ← c.metric_type-metric_type.ensures) (sym c.cannot_be_aggregated.ensures ∙ c.if-cannot_be_aggregated.true) in
    c.misuse.ensures ∙ bar_misused _ o c.requires.is_known u

pub returns-then-not-is_fixed : goal.returns-then-not-is_fixed
returns-then-not-is_fixed c =
    let o = seen c.args.object in
    let u : cannot_be (role o) (row (kind o)) ≡ false = rw (c.requires.of_role, ← c.metric_type-metric_type.ensures) (sym c.cannot_be_aggregated.ensures ∙ c.if-cannot_be_aggregated.false) in
    let b : shaped (role o) (row (kind o)) o.body ≡ false = rw (c.requires.of_role, ← c.metric_type-metric_type.ensures) (sym c.is_fixed.ensures ∙ c.if-not-is_fixed.true) in
    bar_malformed _ o c.requires.is_known u b

pub returns : goal.returns
returns c =
    let o = seen c.args.object in
    let u : cannot_be (role o) (row (kind o)) ≡ false = rw (c.requires.of_role, ← c.metric_type-metric_type.ensures) (sym c.cannot_be_aggregated.ensures ∙ c.if-cannot_be_aggregated.false) in
    let b : shaped (role o) (row (kind o)) o.body ≡ true = rw (c.requires.of_role, ← c.metric_type-metric_type.ensures) (sym c.is_fixed.ensures ∙ c.if-not-is_fixed.false) in
    c.check_use.ensures ∙ bar_shaped _ o c.requires.is_known u b
