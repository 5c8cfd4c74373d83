use mathlib.Core.Path.{ap, sym, ◌∙◌}
use Rattle.reason.proofs.WalkLaws.{seeks_start, seeks_into, seeks_out, seeks_on, here_asked, end_asked}
use Rattle.reason.proofs.objects.at_object.Goals as goal

pub loop-data-init : goal.loop-data-init
loop-data-init c = rw c.new-containers.ensures (seeks_start _ _)

pub loop-object-init : goal.loop-object-init
loop-object-init c = rw c.new-objects.ensures (seeks_into _ _ _ _ _ _ c.loop-data.invariant c.in-Some.ensures.steps.0 c.in-Some.ensures.steps.1)

pub returns-then-left-eq0 : goal.returns-then-left-eq0
returns-then-left-eq0 c = λ os f. c.of_object.ensures ∙ here_asked _ _ _ _ _ _ _ c.loop-object.invariant c.in-Some-next.ensures.steps.0 c.in-Some-next.ensures.steps.1 _ _ os f c.if-left-eq0.true

pub loop-object-preserved : goal.loop-object-preserved
loop-object-preserved c = seeks_on _ _ _ _ _ _ _ c.loop-object.invariant c.in-Some-next.ensures.steps.0 c.in-Some-next.ensures.steps.1 c.if-left-eq0.false

pub loop-data-preserved : goal.loop-data-preserved
loop-data-preserved c = seeks_out _ _ _ _ _ _ c.requires c.loop-object.invariant c.in_default-next.ensures.steps.0.0 c.in_default-next.ensures.steps.1

pub returns : goal.returns
returns c = λ os f. end_asked _ _ _ _ _ c.loop-data.invariant c.in_default.ensures.steps.0.0 c.in_default.ensures.steps.1 _ _ os f
