use mathlib.Core.Path.{sym, ◌∙◌}
use native.Mathlib.Omega.{arith}
use Rattle.wire.proofs.NumberLaws.{number_in_lem, number_none, number_two}
use Rattle.wire.proofs.numbers.number_2.Goals as goal

pub returns-in-len2 : goal.returns-in-len2
returns-in-len2 c =
    c.from_be_bytes.ensures ∙ number_two _ c.in-len2.len_at_least c.in-len2.len_below ∙ sym (number_in_lem 2 _ (omega (arith, c.in-len2.len_at_least, c.in-len2.len_below)))

pub returns-in_default : goal.returns-in_default
returns-in_default c = number_none 2 _ (λ e. omega (arith, e, c.in_default.len_below))

pub returns-in_default-2 : goal.returns-in_default-2
returns-in_default-2 c = number_none 2 _ (λ e. omega (arith, e, c.in_default.len_at_least))
