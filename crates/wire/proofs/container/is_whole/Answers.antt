use borrow.Author.Rules.{rules}
use Rattle.wire.proofs.PassLaws.{reach_start, reach_into, within_onward, within_out, within_cut, reach_done}
use Rattle.wire.proofs.container.is_whole.Goals as goal

pub loop-data-init : goal.loop-data-init
loop-data-init c = let r = reach_start c.args.run.now in search (rules, r)

pub loop-init : goal.loop-init
loop-init c = let r = reach_into _ _ _ _ c.loop-data.invariant c.in-Some.ensures.steps.0 c.in-Some.ensures.steps.1 in search (rules, r)

pub loop-preserved : goal.loop-preserved
loop-preserved c = within_onward _ _ _ _ _ c.loop.invariant c.in-Some-next.ensures.steps.0 c.in-Some-next.ensures.steps.1

pub returns-then-not-is_done : goal.returns-then-not-is_done
returns-then-not-is_done c = within_cut _ _ _ _ c.loop.invariant c.in_default-next.ensures.steps.1 (search rules)

pub loop-data-preserved : goal.loop-data-preserved
loop-data-preserved c = within_out _ _ _ _ c.loop.invariant c.in_default-next.ensures.steps.0.0 c.in_default-next.ensures.steps.1 (search rules)

pub returns : goal.returns
returns c = reach_done _ _ _ c.loop-data.invariant c.in_default.ensures.steps.0.0 c.in_default.ensures.steps.1 c.requires
