use mathlib.Core.Path.{sym, ◌∙◌}
use Rattle.metric.proofs.SizeLaws.{grows_colour, grows_gained}
use Rattle.metric.proofs.sizes.colour_growth.Goals as goal

pub returns-in-len1-up-clause-result_len : goal.returns-in-len1-up-clause-result_len
returns-in-len1-up-clause-result_len c = grows_colour _ _ c.in-len1-up.len_at_least (sym c.place_of.ensures ∙ c.if-place_of-subs.true)

pub returns-in_default-2-clause-result_len : goal.returns-in_default-2-clause-result_len
returns-in_default-2-clause-result_len c = grows_gained _ _ c.in-len1-up.len_at_least (λ e. c.if-place_of-subs.false (c.place_of.ensures ∙ e))
