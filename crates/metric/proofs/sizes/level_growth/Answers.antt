use mathlib.Core.Path.{sym, ◌∙◌}
use Rattle.metric.proofs.SizeLaws.{grows_level, grows_counted}
use Rattle.metric.proofs.sizes.level_growth.Goals as goal

pub returns-in-len1-up-clause-result_len : goal.returns-in-len1-up-clause-result_len
returns-in-len1-up-clause-result_len c = grows_level _ _ c.in-len1-up.len_at_least (sym c.is_counted.ensures ∙ c.if-not-is_counted.true)

pub returns-in_default-2-clause-result_len : goal.returns-in_default-2-clause-result_len
returns-in_default-2-clause-result_len c = grows_counted _ _ c.in-len1-up.len_at_least (sym c.is_counted.ensures ∙ c.if-not-is_counted.false)
