use mathlib.Core.Path.{refl, ◌∙◌}
use borrow.Author.Rules.{rules}
use Rattle.wire.proofs.TlvLaws.{tlvs_few, tlvs_on, tlvs_past}
use Rattle.wire.proofs.bodies.+tlvs_fit.Goals as goal

pub returns-in_default : goal.returns-in_default
returns-in_default t c = let e = tlvs_few c.args.tlvs.now c.in_default.len_below in search (rules, e)

pub returns-then-rest-size : goal.returns-then-rest-size
returns-then-rest-size t c = tlvs_past _ c.in-len2-up.len_at_least c.if-rest-size.true

pub returns : goal.returns
returns t c = c.tlvs_fit.ensures ∙ tlvs_on _ _ _ c.in-len2-up.len_at_least refl refl c.if-rest-size.false
