use Rattle.reason.proofs.OverrunLaws.{telling_header, telling_body, telling_next, telling_end}
use Rattle.reason.proofs.frames.objects_of.Goals as goal

pub returns-then-there-lt4-clause-value : goal.returns-then-there-lt4-clause-value
returns-then-there-lt4-clause-value c = telling_header _ _ _ _ c.loop-at.invariant c.loop-at-test.true c.if-there-lt4.true

pub returns-then-there-size-clause-value : goal.returns-then-there-size-clause-value
returns-then-there-size-clause-value c = telling_body _ _ _ _ c.loop-at.invariant c.if-there-lt4.false c.if-there-size.true

pub loop-at-preserved : goal.loop-at-preserved
loop-at-preserved c = telling_next _ _ _ _ c.loop-at.invariant c.if-there-lt4.false c.if-there-size.false

pub returns-clause-value : goal.returns-clause-value
returns-clause-value c = telling_end _ _ _ _ c.loop-at.invariant c.loop-at-test.false
