-- The choice: an unbarred candidate that no other precedes. The bits: one for each unbarred candidate.
use mathlib.Core.Path.{◌≡◌, refl, sym, ap, ◌∙◌}
use Prim.Native.Nat.{ℕ, zero, suc, ◌+◌, ◌*◌, ◌/◌, ◌%◌, ◌^◌, ◌≤◌, ◌<◌}
use native.Mathlib.Nat.{add-zero, pow-succ'}
use native.Mathlib.Omega.{arith}
use mathlib.Core.Bool.{Bool, true, false, cond, ◌&&◌, ◌||◌, false≢true, true≢false, or_assoc}
use mathlib.Core.List.{List, [], ◌∷◌, map}
use mathlib.Core.Logic.{◌⊎◌, inl, inr, ⊎_elim}
use mathlib.Core.Option.{some, none-ne-some}
use lib.ListN.{length, get_elem?}
use lib.Count.{ones, ones_in, ones_step}
use lib.Pow.{shr-shr}
use lib.Dec.{ltb, eqb}
use borrow.Author.Tests.{lt-ltb, le-ltb, eq-eqb, ltb-true, ltb-false, eqb-true}
use Rattle.model.specs.Number.{Quantity}
use Rattle.model.specs.declared.Offer.{Offer}
use Rattle.model.specs.Verdict.{Verdict}
use Rattle.model.specs.Verdict.{Unbarred, Barred}
use Rattle.model.specs.Choice.{Choice}
use Rattle.model.specs.Choice.{Nobody, Parent}
use Rattle.model.specs.Number.{is_set, any_of}
use Rattle.model.specs.Reading.{no_place}
use Rattle.model.specs.Verdict.{number_of, is_unbarred}
use Rattle.model.specs.Choice.{criteria, precedes, preferred, after_verdict, choose_from, choose, unbarred_bit, bits_of}

-- ---- the order of criteria

less_or_same : (a b : ℕ) (t : Bool) → ltb a b || eqb a b && t ≡ true → (a < b) ⊎ ((a ≡ b) × (t ≡ true))
less_or_same a b t e = go (ltb a b) refl (eqb a b) refl e
  where
    go : (x : Bool) → ltb a b ≡ x → (y : Bool) → eqb a b ≡ y → x || y && t ≡ true → (a < b) ⊎ ((a ≡ b) × (t ≡ true))
    go true p y q e = inl (ltb-true a b p)
    go false p true q e = inr (eqb-true a b q, e)
    go false p false q e = absurd (false≢true e)

less_precedes : (a b : ℕ) (t : Bool) → a < b → ltb a b || eqb a b && t ≡ true
less_precedes a b t h = rw (lt-ltb a b h)

same_precedes : (a b : ℕ) (t : Bool) → a ≡ b → t ≡ true → ltb a b || eqb a b && t ≡ true
same_precedes a b t h e = let l : b ≤ a = omega arith in rw (le-ltb a b l, eq-eqb a b h, e)

-- what it says that one does not precede another
pub not_preceding : (a b : ℕ) (t : Bool) → ltb a b || eqb a b && t ≡ false → (b ≤ a) × (a ≡ b → t ≡ false)
not_preceding a b t e = go (ltb a b) refl e
  where
    go : (x : Bool) → ltb a b ≡ x → x || eqb a b && t ≡ false → (b ≤ a) × (a ≡ b → t ≡ false)
    go true p e = absurd (true≢false e)
    go false p e = (ltb-false a b p, λ h. rw (eq-eqb a b h) at e)

precedes_trans : (xs ys zs : List ℕ) → precedes xs ys ≡ true → precedes ys zs ≡ true → precedes xs zs ≡ true
unfolding precedes
precedes_trans [] ys zs p q = absurd (false≢true p)
precedes_trans (x ∷ xs) [] zs p q = absurd (false≢true p)
precedes_trans (x ∷ xs) (y ∷ ys) [] p q = absurd (false≢true q)
precedes_trans (x ∷ xs) (y ∷ ys) (z ∷ zs) p q =
    ⊎_elim
    (λ u. ⊎_elim (λ v. less_precedes x z (precedes xs zs) (omega arith)) (λ v. less_precedes x z (precedes xs zs) (let h = v.0 in omega arith)) (less_or_same y z (precedes ys zs) q))
    (λ u. ⊎_elim (λ v. less_precedes x z (precedes xs zs) (let h = u.0 in omega arith)) (λ v. same_precedes x z (precedes xs zs) (u.0 ∙ v.0) (precedes_trans xs ys zs u.1 v.1)) (less_or_same y z (precedes ys zs) q))
    (less_or_same x y (precedes xs ys) p)

precedes_not_self : (xs : List ℕ) → precedes xs xs ≡ false
unfolding precedes
precedes_not_self [] = refl
precedes_not_self (x ∷ xs) = let l : x ≤ x = omega arith in rw (le-ltb x x l, eq-eqb x x refl, precedes_not_self xs)

-- ---- nobody precedes the choice

abbrev pub is_parent : Choice → Bool
is_parent Nobody = false
is_parent (Parent p r) = true

-- an unbarred candidate at k with rank s does not precede the choice
abbrev pub Preferred : Quantity → Choice → ℕ → Offer → Type 0
Preferred q Nobody k s = ⊥
Preferred q (Parent p r) k s = precedes (criteria q k s) (criteria q p r) ≡ false

-- where the new one precedes the old, who does not precede the old does not precede the new
pass_on : (xs new old : List ℕ) → precedes new old ≡ true → precedes xs old ≡ false → precedes xs new ≡ false
pass_on xs new old p q = go (precedes xs new) refl
  where
    go : (b : Bool) → precedes xs new ≡ b → b ≡ false
    go true e = sym (precedes_trans xs new old e p) ∙ q
    go false e = refl

module _ (q : Quantity) (p : ℕ) (r : Offer) where
  preferred_keeps : (b : Choice) (k : ℕ) (s : Offer) → Preferred q b k s → Preferred q (preferred q b p r) k s
  preferred_keeps Nobody k s h = absurd h
  preferred_keeps (Parent o t) k s h = go (precedes (criteria q p r) (criteria q o t)) refl
    where
      go : (b : Bool) → precedes (criteria q p r) (criteria q o t) ≡ b → Preferred q (cond b (Parent p r) (Parent o t)) k s
      go true e = pass_on (criteria q k s) (criteria q p r) (criteria q o t) e h
      go false e = h

  preferred_takes : (b : Choice) → Preferred q (preferred q b p r) p r
  preferred_takes Nobody = precedes_not_self (criteria q p r)
  preferred_takes (Parent o t) = go (precedes (criteria q p r) (criteria q o t)) refl
    where
      go : (b : Bool) → precedes (criteria q p r) (criteria q o t) ≡ b → Preferred q (cond b (Parent p r) (Parent o t)) p r
      go true e = precedes_not_self (criteria q p r)
      go false e = e

  preferred_parent : (b : Choice) → is_parent (preferred q b p r) ≡ true
  preferred_parent Nobody = refl
  preferred_parent (Parent o t) = go (precedes (criteria q p r) (criteria q o t))
    where
      go : (b : Bool) → is_parent (cond b (Parent p r) (Parent o t)) ≡ true
      go true = refl
      go false = refl

  preferred_one : (b : Choice) (o : ℕ) (t : Offer) → preferred q b p r ≡ Parent o t → (b ≡ Parent o t) ⊎ ((o ≡ p) × (Unbarred r ≡ Unbarred t))
  preferred_one Nobody o t e = inr (cc, cc)
  preferred_one (Parent o' t') o t e = go (precedes (criteria q p r) (criteria q o' t')) e
    where
      go : (b : Bool) → cond b (Parent p r) (Parent o' t') ≡ Parent o t → (Parent o' t' ≡ Parent o t) ⊎ ((o ≡ p) × (Unbarred r ≡ Unbarred t))
      go true e = inr (cc, cc)
      go false e = inl e

module _ (q : Quantity) where
  verdict_keeps : (b : Choice) (p : ℕ) (v : Verdict) (k : ℕ) (s : Offer) → Preferred q b k s → Preferred q (after_verdict q b p v) k s
  verdict_keeps b p (Unbarred r) k s h = preferred_keeps q p r b k s h
  verdict_keeps b p (Barred n i) k s h = h

  from_keeps : (vs : List Verdict) (b : Choice) (p k : ℕ) (s : Offer) → Preferred q b k s → Preferred q (choose_from q b p vs) k s
  unfolding choose_from
  from_keeps [] b p k s h = h
  from_keeps (v ∷ vs) b p k s h = from_keeps vs (after_verdict q b p v) (suc p) k s (verdict_keeps b p v k s h)

  from_preferred : (vs : List Verdict) (b : Choice) (p k : ℕ) (s : Offer) → get_elem? vs k ≡ some (Unbarred s) → Preferred q (choose_from q b p vs) (p + k) s
  unfolding choose_from
  from_preferred [] b p k s e = absurd (none-ne-some (Unbarred s) e)
  from_preferred (v ∷ vs) b p zero s e =
      let h : v ≡ Unbarred s = cc in
      rw (add-zero, h) (from_keeps vs (preferred q b p s) (suc p) p s (preferred_takes q p s b))
  from_preferred (v ∷ vs) b p (suc k) s e =
      let z : p + suc k ≡ suc p + k = omega arith in
      rw z (from_preferred vs (after_verdict q b p v) (suc p) k s e)

  -- no unbarred candidate precedes the choice
  pub choose_preferred : (vs : List Verdict) (k : ℕ) (s : Offer) → get_elem? vs k ≡ some (Unbarred s) → Preferred q (choose q vs) k s
  choose_preferred vs k s e = let z : 0 + k ≡ k = omega arith in rw z at (from_preferred vs Nobody 0 k s e)

  verdict_one : (b : Choice) (p : ℕ) (v : Verdict) (o : ℕ) (t : Offer) → after_verdict q b p v ≡ Parent o t → (b ≡ Parent o t) ⊎ ((o ≡ p) × (v ≡ Unbarred t))
  verdict_one b p (Unbarred r) o t e = preferred_one q p r b o t e
  verdict_one b p (Barred n i) o t e = inl e

  from_one : (vs : List Verdict) (b : Choice) (p o : ℕ) (t : Offer) → choose_from q b p vs ≡ Parent o t
      → (b ≡ Parent o t) ⊎ ((k : ℕ) × (o ≡ p + k) × (get_elem? vs k ≡ some (Unbarred t)))
  unfolding choose_from
  from_one [] b p o t e = inl e
  from_one (v ∷ vs) b p o t e =
      ⊎_elim
      (λ x. ⊎_elim (λ y. inl y) (λ y. inr (0, (let h = y.0 in omega arith), ap some y.1)) (verdict_one b p v o t x))
      (λ x. inr (suc x.0, (let h = x.1 in omega arith), x.2))
      (from_one vs (after_verdict q b p v) (suc p) o t e)

  -- the choice is an unbarred candidate
  pub choose_unbarred : (vs : List Verdict) (p : ℕ) (r : Offer) → choose q vs ≡ Parent p r → get_elem? vs p ≡ some (Unbarred r)
  choose_unbarred vs p r e =
      ⊎_elim
      (λ x. absurd (let z : ◌≡◌ {A = ℕ} 0 1 = cc in omega arith))
      (λ x. let h : p ≡ x.0 = (let g = x.1 in omega arith) in rw h x.2)
      (from_one vs Nobody 0 p r e)

  verdict_parent : (b : Choice) (p : ℕ) (v : Verdict) → is_parent (after_verdict q b p v) ≡ is_parent b || is_unbarred v
  verdict_parent Nobody p (Unbarred r) = refl
  verdict_parent (Parent o t) p (Unbarred r) = preferred_parent q p r (Parent o t)
  verdict_parent Nobody p (Barred n i) = refl
  verdict_parent (Parent o t) p (Barred n i) = refl

  from_parent : (vs : List Verdict) (b : Choice) (p : ℕ) → is_parent (choose_from q b p vs) ≡ is_parent b || any_of is_unbarred vs
  unfolding choose_from
  from_parent [] Nobody p = refl
  from_parent [] (Parent o t) p = refl
  from_parent (v ∷ vs) b p =
      from_parent vs (after_verdict q b p v) (suc p) ∙ rw (verdict_parent b p v) (or_assoc (is_parent b) (is_unbarred v) (any_of is_unbarred vs))

  -- there is a choice exactly when some candidate is unbarred
  pub choose_parent : (vs : List Verdict) → is_parent (choose q vs) ≡ any_of is_unbarred vs
  choose_parent vs = from_parent vs Nobody 0

-- ---- the bits and their count

bit_small : (v : Verdict) → unbarred_bit v < 2
bit_small (Unbarred r) = omega arith
bit_small (Barred n i) = omega arith

bit_set : (v : Verdict) → is_set (unbarred_bit v) ≡ is_unbarred v
bit_set (Unbarred r) = refl
bit_set (Barred n i) = refl

half : (b m : ℕ) → b < 2 → (b + 2 * m) / 2 ≡ m
half b m h = omega arith

low : (b m : ℕ) → b < 2 → (b + 2 * m) % 2 ≡ b
low b m h = omega arith

pub bit_at : (vs : List Verdict) (i : ℕ) (v : Verdict) → get_elem? vs i ≡ some v → is_set (bits_of vs / 2 ^ i % 2) ≡ is_unbarred v
unfolding bits_of
bit_at [] i v e = absurd (none-ne-some v e)
bit_at (w ∷ vs) zero v e =
    let h : w ≡ v = cc in
    let z : (unbarred_bit w + 2 * bits_of vs) / 1 % 2 ≡ unbarred_bit w = (let s = bit_small w in omega arith) in
    rw (z, h) (bit_set v)
bit_at (w ∷ vs) (suc i) v e =
    let o : suc i ≡ 1 + i = omega arith in
    let z : (unbarred_bit w + 2 * bits_of vs) / 2 ^ suc i ≡ bits_of vs / 2 ^ i =
    rw (o, ← shr-shr (unbarred_bit w + 2 * bits_of vs) 1 i) (ap (λ m. m / 2 ^ i) (half (unbarred_bit w) (bits_of vs) (bit_small w))) in
    rw z (bit_at vs i v e)

pub bits_below : (vs : List Verdict) → bits_of vs < 2 ^ length vs
unfolding bits_of
bits_below [] = omega arith
bits_below (v ∷ vs) = rw pow-succ' (let h = bits_below vs in let s = bit_small v in omega arith)

-- how many are unbarred
unfoldable pub unbarred_count : List Verdict → ℕ
unbarred_count [] = 0
unbarred_count (v ∷ vs) = unbarred_bit v + unbarred_count vs

pub ones_bits : (vs : List Verdict) → ones (bits_of vs) ≡ unbarred_count vs
unfolding bits_of unbarred_count
ones_bits [] = unfold ones ones_in in refl
ones_bits (v ∷ vs) =
    ones_step (unbarred_bit v + 2 * bits_of vs) ∙ rw (low (unbarred_bit v) (bits_of vs) (bit_small v), half (unbarred_bit v) (bits_of vs) (bit_small v), ones_bits vs)

-- ---- verdicts without their places

abbrev pub placeless : Verdict → Verdict
placeless (Unbarred r) = Unbarred r
placeless (Barred n p) = Barred n no_place

from_placeless : (q : Quantity) (vs : List Verdict) (b : Choice) (n : ℕ) → choose_from q b n (map placeless vs) ≡ choose_from q b n vs
unfolding choose_from
from_placeless q [] b n = refl
from_placeless q (Unbarred r ∷ vs) b n = from_placeless q vs (preferred q b n r) (suc n)
from_placeless q (Barred k p ∷ vs) b n = from_placeless q vs b (suc n)

pub choose-placeless : (q : Quantity) (vs : List Verdict) → choose q (map placeless vs) ≡ choose q vs
choose-placeless q vs = from_placeless q vs Nobody 0

pub bits_placeless : (vs : List Verdict) → bits_of (map placeless vs) ≡ bits_of vs
unfolding bits_of
bits_placeless [] = refl
bits_placeless (Unbarred r ∷ vs) = rw (bits_placeless vs)
bits_placeless (Barred n p ∷ vs) = rw (bits_placeless vs)

pub numbers_placeless : (vs : List Verdict) → map number_of (map placeless vs) ≡ map number_of vs
numbers_placeless [] = refl
numbers_placeless (Unbarred r ∷ vs) = rw (numbers_placeless vs)
numbers_placeless (Barred n p ∷ vs) = rw (numbers_placeless vs)

-- what places play no part in is the same where verdicts differ in their places only
pub without_places : {B : Type 0} (f : List Verdict → B) → ((vs : List Verdict) → f (map placeless vs) ≡ f vs) → (vs vs' : List Verdict)
    → map placeless vs ≡ map placeless vs' → f vs ≡ f vs'
without_places f h vs vs' e = sym (h vs) ∙ ap f e ∙ h vs'
