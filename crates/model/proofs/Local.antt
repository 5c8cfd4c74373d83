-- A verdict depends on nothing but the candidate, its bytes and own numbers.
use mathlib.Core.Path.{◌≡◌, refl, sym, ap, ◌∙◌}
use mathlib.Core.Bool.{Bool, true, false}
use Prim.Native.Nat.{ℕ, ◌+◌}
use mathlib.Core.List.{List}
use lib.ListN.{length}
use borrow.Author.Tests.{ltb-false}
use Rattle.model.specs.declared.Own.{Own}
use Rattle.model.specs.declared.Candidate.{Candidate}
use Rattle.model.specs.Verdict.{outside, verdict, number_of, place_of}
use Rattle.model.specs.Local.{Alike, Local}
use Rattle.model.proofs.Selection.{selection}

alike_verdict : (own : Own) (lent lent' : List ℕ) (c c' : Candidate) → Alike lent lent' c c' → verdict own lent c ≡ verdict own lent' c'
unfolding verdict
alike_verdict own lent lent' c c' a = go (outside lent c) refl
  where
    go : (b : Bool) → outside lent c ≡ b → verdict own lent c ≡ verdict own lent' c'
    go true e = let e' : outside lent' c' ≡ true = sym a.inside ∙ e in rw (a.numbers, e, e')
    go false e = let e' : outside lent' c' ≡ false = sym a.inside ∙ e in rw (a.numbers, e, e', a.bytes (ltb-false (length lent) (c.start + c.size) e))

pub local : Local
local own cs cs' lent lent' out out' taken taken' i i' c c' s s' a =
    let (n, p) = (selection own cs lent out taken).verdict_at i c s in
    let (n', p') = (selection own cs' lent' out' taken').verdict_at i' c' s' in
    let e = alike_verdict own lent lent' c c' a in
    (n ∙ ap number_of e ∙ sym n', p ∙ ap place_of e ∙ sym p')
