use mathlib.Core.Path.{sym, ◌∙◌, refl}
use borrow.Author.Tests.{eq-eqb}
use Rattle.wire.specs.Front.{seen}
use Rattle.wire.proofs.NumberLaws.{number_two, number_four}
use Rattle.wire.proofs.RowLaws.{type_by, type_of_3, type_of_5, type_of_7}
use Rattle.wire.proofs.ToldLaws.{tells_hops, tells_latency, tells_etx, tells_nothing}
use Rattle.wire.proofs.gathered.told_with.Goals as goal

pub returns-in-HopCount-len2-up : goal.returns-in-HopCount-len2-up
returns-in-HopCount-len2-up c =
    let r = c.requires.of_role in
    tells_hops (seen c.args.object) _ r _ (type_by _ _ c.in-HopCount-len2-up.ensures refl) refl

pub returns-in-Latency-len4 : goal.returns-in-Latency-len4
returns-in-Latency-len4 c =
    let r = c.requires.of_role in
    let n = number_four c.args.object.body.now c.in-Latency-len4.len_at_least c.in-Latency-len4.len_below in
    tells_latency (seen c.args.object) _ r _ (type_by _ _ c.in-Latency-len4.ensures refl) (eq-eqb _ 0 (sym c.aggregation-is_added.ensures ∙ c.if-is_added.true)) (c.from_be_bytes.ensures ∙ n)

pub returns-in-Etx-len2 : goal.returns-in-Etx-len2
returns-in-Etx-len2 c =
    let r = c.requires.of_role in
    let n = number_two c.args.object.body.now c.in-Etx-len2.len_at_least c.in-Etx-len2.len_below in
    tells_etx (seen c.args.object) _ r _ (type_by _ _ c.in-Etx-len2.ensures refl) (eq-eqb _ 0 (sym c.aggregation-is_added.ensures ∙ c.if-is_added-2.true)) (c.from_be_bytes-in-Etx-len2.ensures ∙ n)

pub returns-in_default-8 : goal.returns-in_default-8
returns-in_default-8 c =
    let r = c.requires.of_role in
    tells_nothing (seen c.args.object) _ r
    (λ z. c.in_default.not-HopCount-0 (type_of_3 _ _ c.metric_type.ensures z))
    (λ z. absurd (c.in_default.not-Latency-0 (type_of_5 _ _ c.metric_type.ensures z)))
    (λ z. absurd (c.in_default.not-Etx-0 (type_of_7 _ _ c.metric_type.ensures z)))
