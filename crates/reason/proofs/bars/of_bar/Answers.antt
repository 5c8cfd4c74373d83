use mathlib.Core.Path.{◌∙◌, ap}
use native.Mathlib.Omega.{arith}
use Rattle.model.specs.Bars.{bar_number, bar_place}
use Rattle.reason.proofs.BarLaws.{by_err, other_number, found_range, found_outside, found_inside}
use Rattle.reason.proofs.bars.of_bar.Goals as goal

pub returns-in-Numbers : goal.returns-in-Numbers
returns-in-Numbers c =
    λ v. rw c.err.ensures.value (by_err c.check.result) ∙ c.check.ensures ∙ found_range c.args.own c.args.candidate (bar_number c.args.bar) (bar_place c.args.bar) c.args.lent.now (ap bar_number c.in-Numbers.is)

pub returns-then-lent-start : goal.returns-then-lent-start
returns-then-lent-start c =
    λ v. c.outside.ensures ∙ found_outside c.args.own c.args.candidate (bar_number c.args.bar) (bar_place c.args.bar) c.args.lent.now (other_number c.args.bar c.in_default.not-Numbers) (omega arith)

pub returns-then-lent-start-2 : goal.returns-then-lent-start-2
returns-then-lent-start-2 c =
    λ v. c.outside-then-lent-start-2.ensures ∙ found_outside c.args.own c.args.candidate (bar_number c.args.bar) (bar_place c.args.bar) c.args.lent.now (other_number c.args.bar c.in_default.not-Numbers) (omega arith)

pub returns : goal.returns
returns c =
    found_inside c.args.own c.args.candidate (bar_number c.args.bar) (bar_place c.args.bar) c.args.lent.now (other_number c.args.bar c.in_default.not-Numbers) (omega arith) c.in_run.ensures
