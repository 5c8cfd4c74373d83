use mathlib.Core.Path.{refl, sym, ◌∙◌}
use Rattle.reason.specs.Finding.{cut_option_finding}
use Rattle.reason.specs.Options.{cut_option_at}
use Rattle.reason.proofs.OptionLaws.{cut_end}
use Rattle.reason.proofs.options.check.Goals as goal

pub loop-at-init : goal.loop-at-init
unfolding cut_option_at cut_option_finding
loop-at-init c = refl

pub returns : goal.returns
returns c = sym (cut_end _ _ c.loop-at-test.false) ∙ c.loop-at.invariant
