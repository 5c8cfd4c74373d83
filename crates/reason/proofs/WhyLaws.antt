-- The pass of a question over the candidates, and what it comes to.
use mathlib.Core.Path.{◌≡◌, refl, sym, ap}
use Prim.Native.Nat.{ℕ, zero, suc, ◌+◌, ◌≤◌, ◌<◌}
use native.Mathlib.Omega.{arith}
use native.Mathlib.Numerals.{add-one}
use mathlib.Core.Bool.{Bool, true, false, cond}
use mathlib.Core.List.{List, [], ◌∷◌, ◌++◌}
use mathlib.Core.Option.{some}
use lib.ListN.{length, get_or, get_elem?, take}
use lib.Seq.{take-suc, length-take-le, take_all}
use lib.Dec.{leb, ltb, eqb}
use borrow.Author.Tests.{lt-ltb, le-ltb, le-leb, lt-leb, eqb-true, eqb-false, ltb-true, ltb-false, leb-false}
use Rattle.model.specs.declared.Own.{Own}
use Rattle.model.specs.declared.Candidate.{Candidate}
use Rattle.model.specs.Verdict.{Verdict}
use Rattle.model.specs.Choice.{Choice}
use Rattle.model.specs.Choice.{Nobody}
use Rattle.model.specs.declared.verdicts.Verdict as code
use Rattle.model.specs.Verdict.{verdict_of}
use Rattle.model.specs.Number.{◌when◌, first_case}
use Rattle.model.specs.Verdict.{verdict}
use Rattle.model.specs.Choice.{bad_own, too_many, current_past, bad_edition, refusal, current_of, after_verdict, choose_from, choice_of}
use Rattle.choice.specs.Given.{given}
use Rattle.choice.proofs.GivenLaws.{given-length, given_within}
use Rattle.choice.proofs.PassLaws.{choice_snoc}
use Rattle.std.specs.Prelude.{Ok, Err}
use Rattle.choice.specs.declared.refusals.Refusal.{Refusal}
use Rattle.choice.specs.declared.refusals.Refusal.TheVariants as refusals
use Rattle.choice.specs.Refusal.{number_of}
use Rattle.reason.specs.declared.reasons.Refused.{Refused}
use Rattle.reason.specs.declared.reasons.Refused.TheVariants.{Call, Position}
use Rattle.reason.specs.declared.reasons.Standing.{Standing}
use Rattle.reason.specs.Standing.{refused_by, standing_of, why_of}
use Rattle.reason.specs.Why.{why_refusal, refused, by_verdict, unless_refused, why}

-- ---- refusals

-- the call's, with room for its output, and then 6
by_call : (a b c d e : Bool)
    → first_case (1 when a ∷ 2 when b ∷ 3 when c ∷ 5 when d ∷ 6 when e ∷ [])
    ≡ (let n = first_case (1 when a ∷ 2 when b ∷ 3 when c ∷ 4 when false ∷ 5 when d ∷ []) in cond (eqb n 0) (cond e 6 0) n)
by_call true b c d e = refl
by_call false true c d e = refl
by_call false false true d e = refl
by_call false false false true e = refl
by_call false false false false e = refl

module _ (own : Own) (n p : ℕ) where
  refusal_by_call : why_refusal own n p ≡ cond (eqb (refusal own n 2056) 0) (cond (leb n p) 6 0) (refusal own n 2056)
  unfolding why_refusal refusal
  refusal_by_call = by_call (bad_own own) (too_many n) (current_past own n) (bad_edition own) (leb n p)

  pub refused_call : (r : Refusal) → number_of r ≡ refusal own n 2056 → number_of r ≡ why_refusal own n p
  refused_call r e = rw (refusal_by_call, ← e) (go r)
    where
      go : (r : Refusal) → number_of r ≡ cond (eqb (number_of r) 0) (cond (leb n p) 6 0) (number_of r)
      go refusals.Own = refl
      go refusals.Count = refl
      go refusals.Current = refl
      go refusals.Output = refl
      go refusals.Edition = refl

  pub refused_position : 0 ≡ refusal own n 2056 → n ≤ p → 6 ≡ why_refusal own n p
  refused_position e l = rw (refusal_by_call, ← e, le-leb n p l)

  pub refused_nothing : 0 ≡ refusal own n 2056 → p < n → 0 ≡ why_refusal own n p
  refused_nothing e l = rw (refusal_by_call, ← e, lt-leb n p l)

  -- what is refused, by the call's own refusal
  pub ruleset questions = (refused_call, refused_position, refused_nothing)

  -- a question that is not refused: few candidates, and the position among them
  pub asked_within : 0 ≡ why_refusal own n p → (n ≤ 16) × (p < n)
  unfolding why_refusal
  asked_within e = go (bad_own own) (too_many n) refl (current_past own n) (bad_edition own) (leb n p) refl e
    where
      go : (a b : Bool) → too_many n ≡ b → (c d e : Bool) → leb n p ≡ e → 0 ≡ first_case (1 when a ∷ 2 when b ∷ 3 when c ∷ 5 when d ∷ 6 when e ∷ []) → (n ≤ 16) × (p < n)
      go true b q c d e r z = absurd (omega arith)
      go false true q c d e r z = absurd (omega arith)
      go false false q true d e r z = absurd (omega arith)
      go false false q false true e r z = absurd (omega arith)
      go false false q false false true r z = absurd (omega arith)
      go false false q false false false r z = (ltb-false 16 n q, leb-false n p r)

-- ---- the pass

-- the pass before an index: the best of those before it, and the verdict that is asked about once it is reached
pub record Asks (own : Own) (lent : List ℕ) (cs : List Candidate) (position i : ℕ) (d : Candidate) (none : Verdict) (best : Choice) (asked : Verdict) : Type 0 where
  pub among : position < length cs
  pub chosen : best ≡ choice_of own (take i cs) lent
  pub told : asked ≡ cond (ltb position i) (verdict own lent (get_or cs position d)) none

pub asks_first : (own : Own) (lent : List ℕ) (cs : List Candidate) (position : ℕ) (d : Candidate) (none : Verdict) → position < length cs → Asks own lent cs position 0 d none Nobody none
unfolding choose_from
asks_first own lent cs position d none m = record { among = m; chosen = refl; told = rw (le-ltb position 0 (omega arith)) }

-- one more is told exactly where it is the one
told_more : (i p : ℕ) (f : ℕ → Verdict) (none : Verdict) → cond (eqb i p) (f i) (cond (ltb p i) (f p) none) ≡ cond (ltb p (i + 1)) (f p) none
told_more i p f none = go (eqb i p) refl (ltb p i) refl
  where
    go : (s : Bool) → eqb i p ≡ s → (t : Bool) → ltb p i ≡ t → cond (eqb i p) (f i) (cond (ltb p i) (f p) none) ≡ cond (ltb p (i + 1)) (f p) none
    go true q t r = let e : i ≡ p = eqb-true i p q in rw (q, lt-ltb p (i + 1) (omega arith)) (ap f e)
    go false q true r = let l = ltb-true p i r in rw (q, r, lt-ltb p (i + 1) (omega arith))
    go false q false r =
        let l : i ≤ p = ltb-false p i r in
        let h = eqb-false i p q in
        rw (q, r, le-ltb p (i + 1) (above i p l h))
      where
        above : (i p : ℕ) → i ≤ p → (i ≡ p → ⊥) → i + 1 ≤ p
        above i p l h = side (ltb i p) refl
          where
            side : (b : Bool) → ltb i p ≡ b → i + 1 ≤ p
            side true t = let m = ltb-true i p t in omega arith
            side false t = let m = ltb-false i p t in absurd (h (omega arith))

module _ {own : Own} {lent : List ℕ} {cs : List Candidate} {position i : ℕ} {d : Candidate} {none : Verdict} {best : Choice} {asked : Verdict} (pass : Asks own lent cs position i d none best asked) where
  pub asks_more : {v a : Verdict} {b : Choice} → i < length cs → v ≡ verdict own lent (get_or cs i d) → a ≡ cond (eqb i position) v asked → b ≡ after_verdict (current_of own) best i v
      → Asks own lent cs position (i + 1) d none b a
  asks_more {v} {a} {b} h ev ea eb =
      let t : take (i + 1) cs ≡ take i cs ++ (get_or cs i d ∷ []) = rw (add-one) (take-suc cs i d h) in
      let l : length (take i cs) ≡ i = length-take-le i cs (omega arith) in
      record {
        among = pass.among;
        chosen = rw (eb, ev, pass.chosen, t) (sym (rw l at (choice_snoc own lent (take i cs) (get_or cs i d))));
        told = rw (ea, ev, pass.told) (told_more i position (λ k. verdict own lent (get_or cs k d)) none);
      }

  pub asks_end : length cs ≤ i → (best ≡ choice_of own cs lent) × (asked ≡ verdict own lent (get_or cs position d))
  asks_end h = (rw (take_all i cs h) at pass.chosen, rw (lt-ltb position i (omega (arith, pass.among))) at pass.told)

-- the verdict that is kept, as the model has it
pub kept_of : (i p : ℕ) (v w : code.Verdict) → verdict_of (cond (eqb i p) v w) ≡ cond (eqb i p) (verdict_of v) (verdict_of w)
kept_of i p v w = go (eqb i p)
  where
    go : (b : Bool) → verdict_of (cond b v w) ≡ cond b (verdict_of v) (verdict_of w)
    go true = refl
    go false = refl

-- ---- what is answered

at_within : (xs : List Candidate) (p : ℕ) (d : Candidate) → p < length xs → get_elem? xs p ≡ some (get_or xs p d)
at_within [] p d h = absurd (omega arith)
at_within (x ∷ xs) zero d h = refl
at_within (x ∷ xs) (suc p) d h = at_within xs p d (omega arith)

module _ (own : Own) (cs : List Candidate) (n : ℕ) (lent : List ℕ) (p : ℕ) where
  pub refused_answer_lem : (r : Refused) → refused_by r ≡ why_refusal own n p → why_of (Err r) ≡ why own (given cs n) lent p
  unfolding why
  refused_answer_lem r e = rw (given-length cs n, ← e) (go r _)
    where
      go : (r : Refused) → (w : _) → refused (refused_by r) ≡ unless_refused (refused_by r) w
      go (Call refusals.Own) w = refl
      go (Call refusals.Count) w = refl
      go (Call refusals.Current) w = refl
      go (Call refusals.Output) w = refl
      go (Call refusals.Edition) w = refl
      go Position w = refl

  pub told_answer : (s : Standing) {ch : Choice} {v : Verdict} (d : Candidate) → 0 ≡ why_refusal own n p → length cs ≡ 16
      → ch ≡ choice_of own (take n cs) lent → v ≡ verdict own lent (get_or (take n cs) p d) → standing_of s ≡ by_verdict (current_of own) ch p v → why_of (Ok s) ≡ why own (given cs n) lent p
  unfolding why
  told_answer s {ch} {v} d z l ec ev a =
      let (f, m) = asked_within own n p z in
      let t : length (take n cs) ≡ n = length-take-le n cs (omega arith) in
      rw (a, ec, ev, given-length cs n, ← z, given_within cs n (omega arith), at_within (take n cs) p d (omega arith))
