use mathlib.Core.Path.{◌≡◌, refl, sym, ◌∙◌}
use borrow.Author.Rules.{rules}
use Rattle.reason.specs.Told.{by_number, finding_from}
use Rattle.reason.proofs.OverrunLaws.{overruns_first, overruns_short, overruns_whole, overruns_end}
use Rattle.reason.proofs.frames.check.Goals as goal

pub loop-at-init : goal.loop-at-init
loop-at-init c = overruns_first _

pub returns-in_err-index : goal.returns-in_err-index
returns-in_err-index c =
    let told : finding_from c.from_residual-in_err-index.result ≡ by_number c.in_err-index.field-0.0 = search rules in
    λ h. told ∙ (overruns_short _ _ _ c.loop-at.invariant _ _ c.in_ok-option.ensures c.if-option-eq2.true (sym c.in_err-index.ensures.value) h)

pub loop-at-preserved-in_ok-index : goal.loop-at-preserved-in_ok-index
loop-at-preserved-in_ok-index c =
    overruns_whole _ _ _ c.loop-at.invariant _ _ c.in_ok-option.ensures c.if-option-eq2.true (sym c.in_ok-index.ensures.value) (c.in_ok-index.ensures.few _ refl)

pub returns : goal.returns
returns c = λ h. overruns_end _ _ _ c.loop-at.invariant c.loop-at-test.false h
