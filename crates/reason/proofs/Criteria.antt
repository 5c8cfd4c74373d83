-- The criterion that is told, by the candidates' own numbers.
use mathlib.Core.Path.{◌≡◌, refl, sym, subst, ◌∙◌}
use Prim.Native.Nat.{ℕ, zero, suc, ◌-◌, ◌/◌, ◌%◌, ◌≤◌, ◌<◌}
use native.Mathlib.Omega.{arith}
use mathlib.Core.Bool.{Bool, true, false, not, ◌||◌, true≢false}
use mathlib.Core.List.{List, [], ◌∷◌}
use mathlib.Core.Logic.{◌⊎◌, inl, inr, ⊎_elim}
use mathlib.Core.Option.{some}
use lib.ListN.{length, get_or, get_elem?, replicate, get_or-eq_default}
use lib.Dec.{leb, eqb}
use borrow.Author.Tests.{eqb-true, leb-true, leb-false}
use Rattle.std.specs.Prelude.{Some}
use Rattle.model.specs.declared.Own.{Own}
use Rattle.model.specs.declared.Neighbour.{Neighbour}
use Rattle.model.specs.declared.Candidate.{Candidate}
use Rattle.model.specs.Rank.{resulting}
use Rattle.model.specs.Verdict.{offer_of}
use Rattle.model.specs.Choice.{bad_own, too_many, current_past, bad_edition, current_of, not_current, criteria}
use Rattle.model.specs.Conditions.{barred_by_nothing}
use Rattle.model.proofs.BoolLaws.{neither}
use Rattle.model.proofs.Selection.{current_is, at_most_one}
use Rattle.model.proofs.Editions.{first_criteria, second_criteria}
use Rattle.model.proofs.VerdictLaws.{admitted, nothing_bars, site_in_range}
use Rattle.choice.specs.Difference.{standing, shown}
use Rattle.reason.specs.Why.{beaten, why}
use Rattle.reason.specs.TrueReason.{refused_by, Decides, Beaten, OnCriterion, BeatenOn}
use Rattle.reason.proofs.TrueReason.{same_at, questions_exact, true_reason}

-- there are six
six : (xs ys : List ℕ) (k : ℕ) → length xs ≡ 6 → length ys ≡ 6 → Decides xs ys k → (1 ≤ k) × (k ≤ 6)
six xs ys zero l m d = absurd (let z = d.lower in omega arith)
six xs ys (suc k) l m d = go (leb k 5) refl
  where
    go : (b : Bool) → leb k 5 ≡ b → (1 ≤ suc k) × (suc k ≤ 6)
    go true e = let z = leb-true k 5 e in (omega arith, omega arith)
    go false e =
        let z = leb-false k 5 e in
        let x : get_or xs k 0 ≡ 0 = get_or-eq_default xs 0 (omega arith) in
        let y : get_or ys k 0 ≡ 0 = get_or-eq_default ys 0 (omega arith) in
        absurd (let w = d.lower in omega (arith, x, y))

-- an edition is 1 or 2
edition_is : (own : Own) → bad_edition own ≡ false → (own.edition ≡ 1) ⊎ (own.edition ≡ 2)
edition_is own e = go (eqb own.edition 1) refl (eqb own.edition 2) refl e
  where
    go : (a : Bool) → eqb own.edition 1 ≡ a → (b : Bool) → eqb own.edition 2 ≡ b → not (a || b) ≡ false → (own.edition ≡ 1) ⊎ (own.edition ≡ 2)
    go true p b q e = inl (eqb-true own.edition 1 p)
    go false p true q e = inr (eqb-true own.edition 2 q)
    go false p false q e = absurd (true≢false e)

module _ (own : Own) (p : ℕ) (c : Neighbour) (b : ℕ) (d : Neighbour) (k v a : ℕ) where
  -- the last three, which both editions compare, behind any first three
  module _ (o g r o' g' r' : ℕ)
      (decides : Decides (o' ∷ g' ∷ r' ∷ resulting own d ∷ not_current (current_of own) b ∷ b ∷ []) (o ∷ g ∷ r ∷ resulting own c ∷ not_current (current_of own) p ∷ p ∷ []) k)
      (value : v ≡ shown k (standing (o ∷ g ∷ r ∷ resulting own c ∷ not_current (current_of own) p ∷ p ∷ []) k))
      (against : a ≡ shown k (standing (o' ∷ g' ∷ r' ∷ resulting own d ∷ not_current (current_of own) b ∷ b ∷ []) k)) where
    by_rank : k ≡ 4 → (v ≡ resulting own c) × (a ≡ resulting own d) × (a < v)
    by_rank e =
        let x : v ≡ resulting own c = rw e at value in
        let y : a ≡ resulting own d = rw e at against in
        let l : resulting own d < resulting own c = rw e at decides.lower in
        (x, y, omega arith)

    by_current : k ≡ 5 → (v ≡ 0) × (a ≡ 1) × (current_of own ≡ Some b)
    by_current e =
        let x : v ≡ 1 - not_current (current_of own) p = rw e at value in
        let y : a ≡ 1 - not_current (current_of own) b = rw e at against in
        let l : not_current (current_of own) b < not_current (current_of own) p = rw e at decides.lower in
        let m = at_most_one (current_of own) p in
        (omega (arith, x, l, m), omega (arith, y, l, m), current_is (current_of own) b (omega (arith, l, m)))

    by_position : k ≡ 6 → (v ≡ p) × (a ≡ b) × (b < p)
    by_position e = (rw e at value, rw e at against, rw e at decides.lower)

  -- in edition 1 nothing comes before the rank
  in_first : own.edition ≡ 1 → Decides (criteria (current_of own) b (offer_of own d)) (criteria (current_of own) p (offer_of own c)) k
      → v ≡ shown k (standing (criteria (current_of own) p (offer_of own c)) k) → a ≡ shown k (standing (criteria (current_of own) b (offer_of own d)) k) → OnCriterion own p c b d k v a
  in_first e dec val aga =
      let q = current_of own in
      let x = first_criteria own c q p e in
      let y = first_criteria own d q b e in
      let dec' = subst (λ (l : List ℕ). Decides l (0 ∷ 0 ∷ 0 ∷ resulting own c ∷ not_current q p ∷ p ∷ []) k) y (subst (λ (l : List ℕ). Decides (criteria q b (offer_of own d)) l k) x dec) in
      let val' = subst (λ (l : List ℕ). v ≡ shown k (standing l k)) x val in
      let aga' = subst (λ (l : List ℕ). a ≡ shown k (standing l k)) y aga in
      record {
        one_of_six = six _ _ k refl refl dec';
        edition = λ l. absurd (early k l dec'.lower);
        on_order = λ f. absurd (early k (omega arith) dec'.lower);
        on_grounded = λ f. absurd (early k (omega arith) dec'.lower);
        on_preference = λ f. absurd (early k (omega arith) dec'.lower);
        on_rank = by_rank 0 0 0 0 0 0 dec' val' aga';
        on_current = by_current 0 0 0 0 0 0 dec' val' aga';
        on_position = by_position 0 0 0 0 0 0 dec' val' aga';
      }
    where
      early : (k : ℕ) → k ≤ 3 → standing (0 ∷ 0 ∷ 0 ∷ resulting own d ∷ not_current (current_of own) b ∷ b ∷ []) k < standing (0 ∷ 0 ∷ 0 ∷ resulting own c ∷ not_current (current_of own) p ∷ p ∷ []) k → ⊥
      early zero l h = omega arith
      early (suc zero) l h = omega arith
      early (suc (suc zero)) l h = omega arith
      early (suc (suc (suc zero))) l h = omega arith
      early (suc (suc (suc (suc k)))) l h = omega arith

  -- in edition 2 the three come first, whose ranges bar 11 has tested
  in_second : own.edition ≡ 2 → c.preference ≤ 7 → d.preference ≤ 7 → Decides (criteria (current_of own) b (offer_of own d)) (criteria (current_of own) p (offer_of own c)) k
      → v ≡ shown k (standing (criteria (current_of own) p (offer_of own c)) k) → a ≡ shown k (standing (criteria (current_of own) b (offer_of own d)) k) → OnCriterion own p c b d k v a
  in_second e m n dec val aga =
      let q = current_of own in
      let x = second_criteria own c q p e in
      let y = second_criteria own d q b e in
      let dec' = subst (λ (l : List ℕ). Decides l (c.order ∷ (1 - c.flags / 64 % 2) ∷ (7 - c.preference) ∷ resulting own c ∷ not_current q p ∷ p ∷ []) k) y
      (subst (λ (l : List ℕ). Decides (criteria q b (offer_of own d)) l k) x dec) in
      let val' = subst (λ (l : List ℕ). v ≡ shown k (standing l k)) x val in
      let aga' = subst (λ (l : List ℕ). a ≡ shown k (standing l k)) y aga in
      record {
        one_of_six = six _ _ k refl refl dec';
        edition = λ l. e;
        on_order = λ f. (rw f at val', rw f at aga', ordered (rw f at val') (rw f at aga') (rw f at dec'.lower));
        on_grounded = λ f. grounds c.flags d.flags (rw f at val') (rw f at aga') (rw f at dec'.lower);
        on_preference = λ f. prefers c.preference d.preference m n (rw f at val') (rw f at aga') (rw f at dec'.lower);
        on_rank = by_rank c.order (1 - c.flags / 64 % 2) (7 - c.preference) d.order (1 - d.flags / 64 % 2) (7 - d.preference) dec' val' aga';
        on_current = by_current c.order (1 - c.flags / 64 % 2) (7 - c.preference) d.order (1 - d.flags / 64 % 2) (7 - d.preference) dec' val' aga';
        on_position = by_position c.order (1 - c.flags / 64 % 2) (7 - c.preference) d.order (1 - d.flags / 64 % 2) (7 - d.preference) dec' val' aga';
      }
    where
      ordered : {x y : ℕ} → v ≡ x → a ≡ y → y < x → a < v
      ordered f g l = omega arith

      grounds : (f g : ℕ) → v ≡ 1 - (1 - f / 64 % 2) → a ≡ 1 - (1 - g / 64 % 2) → 1 - g / 64 % 2 < 1 - f / 64 % 2 → (v ≡ f / 64 % 2) × (a ≡ g / 64 % 2) × (v < a)
      grounds f g x y l = (omega arith, omega arith, omega arith)

      prefers : (f g : ℕ) → f ≤ 7 → g ≤ 7 → v ≡ 7 - (7 - f) → a ≡ 7 - (7 - g) → 7 - g < 7 - f → (v ≡ f) × (a ≡ g) × (v < a)
      prefers f g m n x y l = (omega arith, omega arith, omega arith)

-- an unbarred candidate has a root preference in range, in edition 2
preference_in_range : (own : Own) (lent : List ℕ) (c : Candidate) → own.edition ≡ 2 → barred_by_nothing own lent c ≡ true → c.neighbour.preference ≤ 7
preference_in_range own lent c e u = (site_in_range own c.neighbour (admitted own lent c (sym (nothing_bars own lent c) ∙ u)).in_range e).1

-- of a candidate that is beaten, by what is known of it
module _ (own : Own) (cs : List Candidate) (lent : List ℕ) (p b k v a : ℕ) (e : why own cs lent p ≡ beaten b k v a) where
  asked : refused_by (why own cs lent p) ≡ 0
  asked = rw e

  known_edition : bad_edition own ≡ false
  known_edition =
      let (x, u) = neither (bad_own own) _ ((questions_exact own cs lent p).unrefused.0 asked) in
      let (y, t) = neither (too_many (length cs)) _ u in
      let (z, s) = neither (current_past own (length cs)) _ t in
      (neither (bad_edition own) _ s).0

  on_criterion : (c : Candidate) → Beaten own cs lent p c b k v a → (d : Candidate) → get_elem? cs b ≡ some d → OnCriterion own p c.neighbour b d.neighbour k v a
  on_criterion c y d t =
      let f : y.parent ≡ d = same_at cs b y.parent d y.stands t in
      let q = current_of own in
      let u = subst (λ (x : Candidate). barred_by_nothing own lent x ≡ true) f y.parent_unbarred in
      let dec = subst (λ (x : Candidate). Decides (criteria q b (offer_of own x.neighbour)) (criteria q p (offer_of own c.neighbour)) k) f y.decides in
      let aga = subst (λ (x : Candidate). a ≡ shown k (standing (criteria q b (offer_of own x.neighbour)) k)) f y.against in
      ⊎_elim
      (λ x. in_first own p c.neighbour b d.neighbour k v a x dec y.value aga)
      (λ x. in_second own p c.neighbour b d.neighbour k v a x (preference_in_range own lent c x y.unbarred) (preference_in_range own lent d x u) dec y.value aga)
      (edition_is own known_edition)

pub beaten_on_lem : BeatenOn
beaten_on_lem own cs lent p b k v a e c d s t =
    let out : List ℕ = replicate 2056 0 in
    let (c', s', r) = true_reason own cs lent out p (asked own cs lent p b k v a e) (omega arith) in
    let y = subst (λ (x : Candidate). Beaten own cs lent p x b k v a) (same_at cs p c' c s' s) ((r.is_beaten b k v a).0 e).1 in
    on_criterion own cs lent p b k v a e c y d t
