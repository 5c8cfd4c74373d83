use Rattle.reason.proofs.OptionLaws.{at_pad, at_lone, at_over, at_whole}
use Rattle.reason.proofs.options.option_at.Goals as goal

pub returns-then-kind-eq0 : goal.returns-then-kind-eq0
returns-then-kind-eq0 c = at_pad _ _ c.requires c.if-kind-eq0.true

pub returns-then-there-lt2 : goal.returns-then-there-lt2
returns-then-there-lt2 c = at_lone _ _ c.requires c.if-kind-eq0.false c.if-there-lt2.true

pub returns-then-there-size : goal.returns-then-there-size
returns-then-there-size c = at_over _ _ c.requires c.if-kind-eq0.false c.if-there-lt2.false c.if-there-size.true

pub returns : goal.returns
returns c = at_whole _ _ c.requires c.if-kind-eq0.false c.if-there-lt2.false c.if-there-size.false
