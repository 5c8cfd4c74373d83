-- The reason is the true first one.
use mathlib.Core.Path.{◌≡◌, refl, sym, ap, subst, ◌∙◌}
use Prim.Native.Nat.{ℕ, zero, suc, ◌≤◌, ◌<◌}
use native.Mathlib.Omega.{arith}
use mathlib.Core.Bool.{Bool, true, false, cond, true≢false, false≢true}
use mathlib.Core.List.{List, [], ◌∷◌}
use mathlib.Core.Logic.{◌↔◌}
use mathlib.Core.Option.{some}
use lib.ListN.{length, get_or, get_elem?}
use lib.Dec.{leb, ltb, eqb}
use borrow.Author.Tests.{eq-eqb, ne_eqb, eqb-true, eqb-false, ltb-true, ltb-false, le-ltb}
use Rattle.model.specs.Number.{Quantity}
use Rattle.model.specs.declared.Own.{Own}
use Rattle.model.specs.declared.Offer.{Offer}
use Rattle.model.specs.declared.Candidate.{Candidate}
use Rattle.model.specs.Verdict.{Verdict}
use Rattle.model.specs.Verdict.{Unbarred, Barred}
use Rattle.model.specs.Choice.{Choice}
use Rattle.model.specs.Choice.{Nobody, Parent}
use Rattle.model.specs.Number.{◌when◌, first_case}
use Rattle.model.specs.Verdict.{offer_of, verdict, is_unbarred}
use Rattle.model.specs.Choice.{bad_own, too_many, current_past, bad_edition, refusal, current_of, criteria, precedes, parent_of, Result, verdicts, choice_of, call}
use Rattle.model.proofs.NumberLaws.{exact, exact_none}
use Rattle.model.proofs.ListLaws.{at_map, map_at, at_below}
use Rattle.model.proofs.ChoiceLaws.{not_preceding, Preferred, choose_preferred, choose_unbarred}
use Rattle.model.proofs.Refusals.{refusal_is}
use Rattle.model.proofs.CallLaws.{call_is}
use Rattle.model.proofs.VerdictLaws.{admitted, nothing_bars}
use Rattle.choice.specs.Difference.{behind, first_difference, standing, shown, difference_of}
use Rattle.reason.specs.Why.{Why, refused, chosen, barred, beaten, why_cases, why_refusal, beaten_on, beside_choice, by_verdict, why_at, unless_refused, why}
use Rattle.reason.proofs.WhyLaws.{asked_within}
use Rattle.reason.specs.TrueReason.{refused_by, QuestionExact, QuestionsExact, Decides, Beaten, ReasonTrue, TrueReason}

-- ---- the first difference decides

below : (x y : ℕ) → x ≤ y → (y ≡ x → ⊥) → x < y
below x y a n = side (ltb x y) refl
  where
    side : (b : Bool) → ltb x y ≡ b → x < y
    side true t = ltb-true x y t
    side false t = let g = ltb-false x y t in absurd (n (omega arith))

-- ys does not come before xs, and they differ: then xs has the lower number at the first difference
decides : (xs ys : List ℕ) → length xs ≡ length ys → precedes ys xs ≡ false → (ys ≡ xs → ⊥) → Decides xs ys (first_difference ys xs)
unfolding precedes first_difference
decides [] [] l e d = absurd (d refl)
decides [] (y ∷ ys) l e d = absurd (omega arith)
decides (x ∷ xs) [] l e d = absurd (omega arith)
decides (x ∷ xs) (y ∷ ys) l e d = go (eqb y x) refl (λ f h. decides xs ys (omega arith) f h)
  where
    tail : (k : ℕ) → y ≡ x → Decides xs ys k → Decides (x ∷ xs) (y ∷ ys) (behind k)
    tail zero q r = absurd (let z = r.lower in omega arith)
    tail (suc k) q r = record { before = λ j h. at j h; lower = r.lower }
      where
        at : (j : ℕ) → suc j < suc (suc k) → get_or (x ∷ xs) j 0 ≡ get_or (y ∷ ys) j 0
        at zero h = sym q
        at (suc j) h = r.before j (omega arith)

    go : (b : Bool) → eqb y x ≡ b → (precedes ys xs ≡ false → (ys ≡ xs → ⊥) → Decides xs ys (first_difference ys xs)) → Decides (x ∷ xs) (y ∷ ys) (cond b (behind (first_difference ys xs)) 1)
    go true q ih =
        let z = eqb-true y x q in
        let (a, f) = not_preceding y x (precedes ys xs) e in
        tail (first_difference ys xs) z (ih (f z) (λ h. d (rw (z, h))))
    go false q ih =
        let n = eqb-false y x q in
        let (a, f) = not_preceding y x (precedes ys xs) e in
        record { before = λ j h. absurd (omega arith); lower = below x y a n }

-- there is one such place only
decided : (xs ys : List ℕ) (k : ℕ) → Decides xs ys k → length xs ≡ length ys → first_difference ys xs ≡ k
unfolding first_difference
decided xs ys zero d l = absurd (let z = d.lower in omega arith)
decided [] [] (suc k) d l = absurd (let z = d.lower in omega arith)
decided [] (y ∷ ys) (suc k) d l = absurd (omega arith)
decided (x ∷ xs) [] (suc k) d l = absurd (omega arith)
decided (x ∷ xs) (y ∷ ys) (suc zero) d l = rw (ne_eqb y x (λ e. let z = d.lower in omega arith))
decided (x ∷ xs) (y ∷ ys) (suc (suc k)) d l =
    let e : x ≡ y = d.before 0 (omega arith) in
    let r : first_difference ys xs ≡ suc k = decided xs ys (suc k) (record { before = λ j h. d.before (suc j) (omega arith); lower = d.lower }) (omega arith) in
    rw (eq-eqb y x (sym e), r)

-- ---- refusals

refused_is : (n : ℕ) (w : Why) → refused_by w ≡ 0 → refused_by (unless_refused n w) ≡ n
refused_is zero w e = e
refused_is (suc n) w e = refl

-- a reason, and no refusal
abbrev is_reason : Why → Bool
is_reason (refused n) = false
is_reason chosen = true
is_reason (barred n i) = true
is_reason (beaten b k v a) = true

reason_unrefused : (w : Why) → is_reason w ≡ true → refused_by w ≡ 0
reason_unrefused (refused n) e = absurd (false≢true e)
reason_unrefused chosen e = refl
reason_unrefused (barred n i) e = refl
reason_unrefused (beaten b k v a) e = refl

verdict_told : (q : Quantity) (ch : Choice) (p : ℕ) (v : Verdict) → is_reason (by_verdict q ch p v) ≡ true
unfolding by_verdict beside_choice
verdict_told q ch p (Barred n i) = refl
verdict_told q Nobody p (Unbarred s) = refl
verdict_told q (Parent b r) p (Unbarred s) = go (eqb b p)
  where
    go : (t : Bool) → is_reason (cond t chosen (beaten_on b (difference_of q p s b r))) ≡ true
    go true = refl
    go false = refl

at_some : (cs : List Candidate) (p : ℕ) → p < length cs → (c : Candidate) × (get_elem? cs p ≡ some c)
at_some [] p h = absurd (omega arith)
at_some (c ∷ cs) zero h = (c, refl)
at_some (c ∷ cs) (suc p) h = at_some cs p (omega arith)

module _ (own : Own) (cs : List Candidate) (lent : List ℕ) (p : ℕ) where
  -- a question that is not refused: the candidate, and its reason by its verdict
  why_is : (c : Candidate) → get_elem? cs p ≡ some c → why_refusal own (length cs) p ≡ 0 → why own cs lent p ≡ by_verdict (current_of own) (choice_of own cs lent) p (verdict own lent c)
  unfolding why
  why_is c e z = rw (z, e)

  question_is : refused_by (why own cs lent p) ≡ why_refusal own (length cs) p
  unfolding why
  question_is = go (why_refusal own (length cs) p) refl
    where
      go : (n : ℕ) → why_refusal own (length cs) p ≡ n → refused_by (unless_refused n (why_at own cs lent p (get_elem? cs p))) ≡ n
      go zero e = let (c, f) = at_some cs p (asked_within own (length cs) p (sym e)).1 in rw f (reason_unrefused (by_verdict (current_of own) (choice_of own cs lent) p (verdict own lent c)) (verdict_told (current_of own) (choice_of own cs lent) p (verdict own lent c)))
      go (suc n) e = refl

-- 4 is not among the refusals of a question
never_four : (a b c d e : Bool) → first_case (1 when a ∷ 2 when b ∷ 3 when c ∷ 5 when d ∷ 6 when e ∷ []) ≡ 4 → ⊥
never_four true b c d e z = omega arith
never_four false true c d e z = omega arith
never_four false false true d e z = omega arith
never_four false false false true e z = omega arith
never_four false false false false true z = omega arith
never_four false false false false false z = omega arith

question_exact : (own : Own) (n p : ℕ) → QuestionExact own n p (why_refusal own n p)
unfolding why_refusal
question_exact own n p = record {
  refusal_1 = exact (why_cases own n p) 0 refl;
  refusal_2 = exact (why_cases own n p) 1 refl;
  refusal_3 = exact (why_cases own n p) 2 refl;
  never_4 = never_four (bad_own own) (too_many n) (current_past own n) (bad_edition own) (leb n p);
  refusal_5 = exact (why_cases own n p) 3 refl;
  refusal_6 = exact (why_cases own n p) 4 refl;
  unrefused = exact_none (why_cases own n p) refl;
}

pub questions_exact : QuestionsExact
questions_exact own cs lent p = rw (question_is own cs lent p) (question_exact own (length cs) p)

-- ---- reasons

-- an unbarred candidate is compared by the offer of its own numbers
offers : (own : Own) (lent : List ℕ) (c : Candidate) (r : Offer) → verdict own lent c ≡ Unbarred r → r ≡ offer_of own c.neighbour
offers own lent c r e = let u : is_unbarred (verdict own lent c) ≡ true = rw e in let j = (admitted own lent c u).judged in cc

-- the choice, and the parent that it names
parent_at : (own : Own) (cs : List Candidate) (lent : List ℕ) (b : ℕ) (r : Offer) → choice_of own cs lent ≡ Parent b r
    → (d : Candidate) × (get_elem? cs b ≡ some d) × (verdict own lent d ≡ Unbarred r)
parent_at own cs lent b r e = map_at (verdict own lent) cs b (Unbarred r) (choose_unbarred (current_of own) (verdicts own cs lent) b r e)

-- two elements at one place are the same
pub same_at : {A : Type 0} (xs : List A) (i : ℕ) (x y : A) → get_elem? xs i ≡ some x → get_elem? xs i ≡ some y → x ≡ y
same_at xs i x y e f = cc

module _ (own : Own) (cs : List Candidate) (lent : List ℕ) (p : ℕ) (c : Candidate) (stands : get_elem? cs p ≡ some c) (few : length cs ≤ 16) where
  -- where the parent is the one asked about, it is unbarred
  parent_unbarred : (ch : Choice) → choice_of own cs lent ≡ ch → parent_of ch ≡ p → (r : Offer) × (ch ≡ Parent p r) × (verdict own lent c ≡ Unbarred r)
  parent_unbarred Nobody e h = absurd (let l = at_below cs p c stands in omega arith)
  parent_unbarred (Parent b r) e h =
      let (d, at, v) = parent_at own cs lent b r e in
      let s : d ≡ c = same_at cs p d c (subst (λ (x : ℕ). get_elem? cs x ≡ some d) h at) stands in
      (r, ap (λ (x : ℕ). Parent x r) h, subst (λ (x : Candidate). verdict own lent x ≡ Unbarred r) s v)

  abbrev Told : (parent : ℕ) → Why → Type 0
  Told b w = ((w ≡ chosen) ↔ (b ≡ p))
      × ((n i : ℕ) → (w ≡ barred n i) ↔ (verdict own lent c ≡ Barred n i))
      × ((b' k v a : ℕ) → (w ≡ beaten b' k v a) ↔ ((b ≡ b') × Beaten own cs lent p c b' k v a))

  told_barred : (n i : ℕ) → verdict own lent c ≡ Barred n i → (ch : Choice) → choice_of own cs lent ≡ ch → Told (parent_of ch) (barred n i)
  told_barred n i e ch f = (
    (λ x. absurd (let z : ◌≡◌ {A = ℕ} 0 1 = cc in omega arith), λ h. let (r, x, u) = parent_unbarred ch f h in absurd (let z : ◌≡◌ {A = ℕ} 0 1 = cc in omega arith)),
    (λ m j. (λ x. cc, λ x. cc)),
    (λ b k v a. (λ x. absurd (let z : ◌≡◌ {A = ℕ} 0 1 = cc in omega arith), λ x. absurd (true≢false (sym x.1.unbarred ∙ nothing_bars own lent c ∙ rw e)))),
  )

  told_chosen : (r : Offer) → verdict own lent c ≡ Unbarred r → Told p chosen
  told_chosen r e = (
    (λ x. refl, λ x. refl),
    (λ m j. (λ x. absurd (let z : ◌≡◌ {A = ℕ} 0 1 = cc in omega arith), λ x. absurd (let z : ◌≡◌ {A = ℕ} 0 1 = cc in omega arith))),
    (λ b k v a. (λ x. absurd (let z : ◌≡◌ {A = ℕ} 0 1 = cc in omega arith), λ x. absurd (x.1.another (sym x.0)))),
  )

  module _ (s : Offer) (judged : verdict own lent c ≡ Unbarred s) (b : ℕ) (r : Offer) (e : choice_of own cs lent ≡ Parent b r) (h : b ≡ p → ⊥) where
    abbrev q : Quantity
    q = current_of own

    abbrev ours : List ℕ
    ours = criteria q p s

    abbrev theirs : List ℕ
    theirs = criteria q b r

    preferred : precedes ours theirs ≡ false
    preferred = subst (λ (x : Choice). Preferred q x p s) e (choose_preferred q (verdicts own cs lent) p s (at_map (verdict own lent) cs p c stands ∙ ap some judged))

    -- what decides, by offers that are the same
    by_offers : {s' r' : Offer} {k : ℕ} → s ≡ s' → r ≡ r' → Decides theirs ours k → Decides (criteria q b r') (criteria q p s') k
    by_offers {s'} {r'} {k} o t d =
        subst (λ (x : Offer). Decides (criteria q b r') (criteria q p x) k) o (subst (λ (x : Offer). Decides (criteria q b x) (criteria q p s) k) t d)

    is_beaten : Beaten own cs lent p c b (first_difference ours theirs) (shown (first_difference ours theirs) (standing ours (first_difference ours theirs))) (shown (first_difference ours theirs) (standing theirs (first_difference ours theirs)))
    is_beaten =
        let (d, at, v) = parent_at own cs lent b r e in
        let o = offers own lent c s judged in
        let t = offers own lent d r v in
        record {
          unbarred = nothing_bars own lent c ∙ rw judged;
          another = h;
          parent = d;
          stands = at;
          parent_unbarred = nothing_bars own lent d ∙ ap is_unbarred v;
          decides = by_offers o t (decides theirs ours refl preferred (λ x. h (sym (ap (λ (l : List ℕ). get_or l 5 0) x))));
          value = ap (λ (x : Offer). shown (first_difference ours theirs) (standing (criteria q p x) (first_difference ours theirs))) o;
          against = ap (λ (x : Offer). shown (first_difference ours theirs) (standing (criteria q b x) (first_difference ours theirs))) t;
        }

    -- and back
    as_offers : {b' : ℕ} {s' r' : Offer} {k : ℕ} → s' ≡ s → r' ≡ r → b' ≡ b → Decides (criteria q b' r') (criteria q p s') k → Decides theirs ours k
    as_offers {b'} {s'} {r'} {k} o t x d =
        subst (λ (z : ℕ). Decides (criteria q z r) (criteria q p s) k) x
        (subst (λ (z : Offer). Decides (criteria q b' r) (criteria q p z) k) o (subst (λ (z : Offer). Decides (criteria q b' z) (criteria q p s') k) t d))

    abbrev first : ℕ
    first = first_difference ours theirs

    told : (b' k v a : ℕ) → beaten b first (shown first (standing ours first)) (shown first (standing theirs first)) ≡ beaten b' k v a → (b ≡ b') × Beaten own cs lent p c b' k v a
    told b' k v a x =
        let e₁ : b ≡ b' = cc in
        let e₂ : first ≡ k = cc in
        let e₃ : shown first (standing ours first) ≡ v = cc in
        let e₄ : shown first (standing theirs first) ≡ a = cc in
        (e₁, rw (← e₁, ← e₂, ← e₃, ← e₄) is_beaten)

    same : (b' k v a : ℕ) → b ≡ b' → Beaten own cs lent p c b' k v a → beaten b first (shown first (standing ours first)) (shown first (standing theirs first)) ≡ beaten b' k v a
    same b' k v a x y =
        let (d, at, w) = parent_at own cs lent b r e in
        let t : d ≡ y.parent = same_at cs b d y.parent at (rw x y.stands) in
        let o : offer_of own c.neighbour ≡ s = sym (offers own lent c s judged) in
        let m : offer_of own y.parent.neighbour ≡ r = ap (λ (z : Candidate). offer_of own z.neighbour) (sym t) ∙ sym (offers own lent d r w) in
        let f : first ≡ k = decided theirs ours k (as_offers o m (sym x) y.decides) refl in
        let g : v ≡ shown k (standing ours k) = y.value ∙ ap (λ (z : Offer). shown k (standing (criteria q p z) k)) o in
        let i : a ≡ shown k (standing theirs k) = y.against ∙ ap (λ (z : Offer). shown k (standing (criteria q b' z) k)) m ∙ ap (λ (z : ℕ). shown k (standing (criteria q z r) k)) (sym x) in
        rw (g, i, ← f, ← x)

    told_beaten : Told b (beaten_on b (difference_of q p s b r))
    unfolding difference_of
    told_beaten = (
      (λ x. absurd (let z : ◌≡◌ {A = ℕ} 0 1 = cc in omega arith), λ x. absurd (h x)),
      (λ m j. (λ x. absurd (let z : ◌≡◌ {A = ℕ} 0 1 = cc in omega arith), λ x. absurd (let z : ◌≡◌ {A = ℕ} 0 1 = cc in omega arith))),
      (λ b' k v a. (λ x. told b' k v a x, λ x. same b' k v a x.0 x.1)),
    )

  told_by_lem : (v : Verdict) → verdict own lent c ≡ v → (ch : Choice) → choice_of own cs lent ≡ ch → Told (parent_of ch) (by_verdict (current_of own) ch p v)
  unfolding by_verdict beside_choice
  told_by_lem (Barred n i) e ch f = told_barred n i e ch f
  told_by_lem (Unbarred s) e Nobody f = absurd (rw f at (choose_preferred (current_of own) (verdicts own cs lent) p s (at_map (verdict own lent) cs p c stands ∙ ap some e)))
  told_by_lem (Unbarred s) e (Parent b r) f = go (eqb b p) refl
    where
      go : (t : Bool) → eqb b p ≡ t → Told b (cond t chosen (beaten_on b (difference_of (current_of own) p s b r)))
      go true x = let y : b ≡ p = eqb-true b p x in rw y (told_chosen s e)
      go false x = told_beaten s e b r f (eqb-false b p x)

-- a question that is not refused, with room for an output, is about a call that is not refused
call_taken : (own : Own) (n m p : ℕ) → why_refusal own n p ≡ 0 → 2056 ≤ m → refusal own n m ≡ 0
unfolding why_refusal refusal
call_taken own n m p z l = go (bad_own own) (too_many n) (current_past own n) (bad_edition own) (leb n p) z
  where
    go : (a b c d e : Bool) → first_case (1 when a ∷ 2 when b ∷ 3 when c ∷ 5 when d ∷ 6 when e ∷ []) ≡ 0 → first_case (1 when a ∷ 2 when b ∷ 3 when c ∷ 4 when ltb m 2056 ∷ 5 when d ∷ []) ≡ 0
    go true b c d e z = absurd (omega arith)
    go false true c d e z = absurd (omega arith)
    go false false true d e z = absurd (omega arith)
    go false false false true e z = absurd (omega arith)
    go false false false false e z = rw (le-ltb m 2056 l)

reason_true : (own : Own) (cs : List Candidate) (lent out : List ℕ) (p : ℕ) (c : Candidate) → get_elem? cs p ≡ some c → length cs ≤ 16 → why_refusal own (length cs) p ≡ 0
    → (call own cs lent out).answer.refusal ≡ 0 → ReasonTrue own cs lent out p c (why own cs lent p)
reason_true own cs lent out p c at few z x =
    let ch = choice_of own cs lent in
    let w = by_verdict (current_of own) ch p (verdict own lent c) in
    let y : (call own cs lent out).answer.parent ≡ parent_of ch = ap (λ (r : Result). r.answer.parent) (call_is own cs lent out x) in
    let t = told_by_lem own cs lent p c at few (verdict own lent c) refl ch refl in
    subst (λ (g : Why). ReasonTrue own cs lent out p c g) (sym (why_is own cs lent p c at z))
    (record {
      is_chosen = (λ e. y ∙ t.0.0 e, λ e. t.0.1 (sym y ∙ e));
      is_barred = t.1;
      is_beaten = λ b k v a. (λ e. let (f, g) = (t.2 b k v a).0 e in (y ∙ f, g), λ e. (t.2 b k v a).1 (sym y ∙ e.0, e.1));
      is_told = λ n e. false≢true (sym (ap is_reason e) ∙ verdict_told (current_of own) ch p (verdict own lent c));
    })

pub true_reason : TrueReason
true_reason own cs lent out p e l =
    let z : why_refusal own (length cs) p ≡ 0 = sym (question_is own cs lent p) ∙ e in
    let (few, below) = asked_within own (length cs) p (sym z) in
    let (c, at) = at_some cs p below in
    (c, at, reason_true own cs lent out p c at few z (refusal_is own cs lent out ∙ call_taken own (length cs) (length out) p z l))
