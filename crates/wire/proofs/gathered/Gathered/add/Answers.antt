use mathlib.Core.Path.{◌≡◌, refl, sym, ◌∙◌}
use mathlib.Core.Bool.{true, false}
use borrow.Author.Rules.{rules}
use Rattle.model.specs.Object.{kind, known}
use Rattle.model.proofs.TabledLaws.{bar_free}
use Rattle.wire.specs.Front.{seen}
use Rattle.wire.proofs.HeaderLaws.{role_constraint, role_recorded, role_aggregated}
use Rattle.wire.proofs.BarLaws.{bar_unknown, bar_clear}
use Rattle.wire.proofs.ToldLaws.{unknown_same, told_snoc, constraint_tells, recorded_tells}
use Rattle.wire.proofs.GatherLaws.{bar_seen, gathers_more}
use Rattle.wire.proofs.gathered.Gathered.add.Goals as goal

pub returns-then-not-is_known : goal.returns-then-not-is_known
returns-then-not-is_known c = λ es w.
    let o = seen c.args.object in
    let u : known (kind o) ≡ false = rw (← c.metric_type.ensures) (sym c.is_known.ensures ∙ c.if-not-is_known.true) in
    let b = bar_seen _ es o w 0 (bar_unknown _ o u) in
    gathers_more _ es o w _ _ _ b c.with.ensures refl refl (w.told ∙ unknown_same es o u)

pub check_constraint-requires-clause-is_known : goal.check_constraint-requires-clause-is_known
check_constraint-requires-clause-is_known c = rw (← c.metric_type.ensures) (sym c.is_known.ensures ∙ c.if-not-is_known.false)

pub check_constraint-requires-clause-of_role : goal.check_constraint-requires-clause-of_role
check_constraint-requires-clause-of_role c = role_constraint _ (sym c.is_constraint.ensures ∙ c.if-is_constraint.true)

pub returns-in_err-check_constraint : goal.returns-in_err-check_constraint
returns-in_err-check_constraint c = λ es w.
    let b = bar_seen _ es (seen c.args.object) w _ c.in_err-check_constraint.ensures in
    search (rules, b)

pub returns-then-is_constraint : goal.returns-then-is_constraint
returns-then-is_constraint c = λ es w.
    let o = seen c.args.object in
    let k : known (kind o) ≡ true = rw (← c.metric_type.ensures) (sym c.is_known.ensures ∙ c.if-not-is_known.false) in
    let b = bar_seen _ es o w 0 c.in_ok-check_constraint.ensures in
    let t = constraint_tells _ o (role_constraint _ (sym c.is_constraint.ensures ∙ c.if-is_constraint.true)) in
    gathers_more _ es o w _ _ _ b c.with-then-is_constraint.ensures refl refl (t ∙ told_snoc es o (bar_free es o b k).2 _ w.told)

pub check_recorded-requires-clause-is_known : goal.check_recorded-requires-clause-is_known
check_recorded-requires-clause-is_known c = rw (← c.metric_type.ensures) (sym c.is_known.ensures ∙ c.if-not-is_known.false)

pub check_recorded-requires-clause-of_role : goal.check_recorded-requires-clause-of_role
check_recorded-requires-clause-of_role c = role_recorded _ (sym c.is_recorded.ensures ∙ c.if-is_recorded.true)

pub returns-in_err-check_recorded : goal.returns-in_err-check_recorded
returns-in_err-check_recorded c = λ es w.
    let b = bar_seen _ es (seen c.args.object) w _ c.in_err-check_recorded.ensures in
    search (rules, b)

pub returns-then-is_recorded : goal.returns-then-is_recorded
returns-then-is_recorded c = λ es w.
    let o = seen c.args.object in
    let k : known (kind o) ≡ true = rw (← c.metric_type.ensures) (sym c.is_known.ensures ∙ c.if-not-is_known.false) in
    let b = bar_seen _ es o w 0 c.in_ok-check_recorded.ensures in
    let t = recorded_tells _ o (role_recorded _ (sym c.is_recorded.ensures ∙ c.if-is_recorded.true)) (bar_free es o b k).0 in
    gathers_more _ es o w _ _ _ b c.with-then-is_recorded.ensures refl refl (t ∙ told_snoc es o (bar_free es o b k).2 _ w.told)

pub check_aggregated-requires-clause-is_known : goal.check_aggregated-requires-clause-is_known
check_aggregated-requires-clause-is_known c = rw (← c.metric_type.ensures) (sym c.is_known.ensures ∙ c.if-not-is_known.false)

pub check_aggregated-requires-clause-of_role : goal.check_aggregated-requires-clause-of_role
check_aggregated-requires-clause-of_role c = role_aggregated _ (sym c.is_constraint.ensures ∙ c.if-is_constraint.false) (sym c.is_recorded.ensures ∙ c.if-is_recorded.false)

pub returns-in_err-check_aggregated : goal.returns-in_err-check_aggregated
returns-in_err-check_aggregated c = λ es w.
    let b = bar_seen _ es (seen c.args.object) w _ c.in_err-check_aggregated.ensures in
    search (rules, b)

pub told_with-requires-clause-of_role : goal.told_with-requires-clause-of_role
told_with-requires-clause-of_role c = role_aggregated _ (sym c.is_constraint.ensures ∙ c.if-is_constraint.false) (sym c.is_recorded.ensures ∙ c.if-is_recorded.false)

pub told_with-requires-clause-shaped : goal.told_with-requires-clause-shaped
told_with-requires-clause-shaped c =
    let o = seen c.args.object in
    let k : known (kind o) ≡ true = rw (← c.metric_type.ensures) (sym c.is_known.ensures ∙ c.if-not-is_known.false) in
    (bar_clear _ o k c.in_ok-check_aggregated.ensures).1

pub returns : goal.returns
returns c = λ es w.
    let o = seen c.args.object in
    let k : known (kind o) ≡ true = rw (← c.metric_type.ensures) (sym c.is_known.ensures ∙ c.if-not-is_known.false) in
    let b = bar_seen _ es o w 0 c.in_ok-check_aggregated.ensures in
    gathers_more _ es o w _ _ _ b c.with-2.ensures refl refl (c.told_with.ensures ∙ told_snoc es o (bar_free es o b k).2 _ w.told)
