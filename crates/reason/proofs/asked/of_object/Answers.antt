use mathlib.Core.Path.{◌∙◌}
use Rattle.reason.specs.Finding.{asked_with}
use Rattle.reason.proofs.LimitLaws.{limit_by}
use Rattle.reason.proofs.asked.of_object.Goals as goal

pub returns-in-5 : goal.returns-in-5
unfolding asked_with
returns-in-5 c = rw (c.in-5.is, ← c.number_4-in-5.ensures) (c.of_limit.ensures ∙ rw c.if_set.ensures (limit_by 27 _ _ _ _))

pub returns-in-7 : goal.returns-in-7
unfolding asked_with
returns-in-7 c = rw (c.in-7.is, ← c.number_2.ensures) (c.of_limit-in-7.ensures ∙ rw c.if_set-in-7.ensures (limit_by 30 _ _ _ _))
