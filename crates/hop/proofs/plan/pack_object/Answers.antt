use Rattle.hop.proofs.PackingLaws.{fills_over, fills_long, fills_within, fills_next, fills_ninth, small_over, small_within, small_next}
use Rattle.hop.proofs.plan.pack_object.Goals as goal

-- src/plan.rt:41:9
pub returns-then-f-n-le255 : goal.returns-then-f-n-le255
returns-then-f-n-le255 c = record { small_2 = small_within _ c.requires.small _ c.if-f-n-le255.true; packed = λ os o e q. fills_within _ os o _ e q c.requires.small c.if-f-n-le255.true }

-- src/plan.rt:48:9
pub returns-then-f-gt255 : goal.returns-then-f-gt255
returns-then-f-gt255 c = record { small_2 = c.requires.small; packed = λ os o e q. fills_over _ os o _ e q c.if-f-gt255.true }

-- src/plan.rt:51:9
pub returns-then-n-gt255 : goal.returns-then-n-gt255
returns-then-n-gt255 c = record { small_2 = small_over _ c.requires.small; packed = λ os o e q. fills_long _ os o _ e q c.if-n-gt255.true }

-- src/plan.rt:58:9
pub returns-then-f-ge7 : goal.returns-then-f-ge7
returns-then-f-ge7 c = record { small_2 = small_over _ c.requires.small; packed = λ os o e q. fills_ninth _ os o _ e q c.if-f-n-le255.false c.if-f-gt255.false c.if-f-ge7.true }

-- src/plan.rt:34:1
pub returns : goal.returns
returns c = record { small_2 = small_next _ c.requires.small _ c.if-f-gt255.false c.if-n-gt255.false c.if-f-ge7.false; packed = λ os o e q. fills_next _ os o _ e q c.if-f-n-le255.false c.if-f-gt255.false c.if-n-gt255.false c.if-f-ge7.false }
