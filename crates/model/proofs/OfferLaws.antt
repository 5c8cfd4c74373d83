-- What unbarred candidates are compared by: the digits of an offer in each edition, and what it means not to come before another.
use mathlib.Core.Path.{◌≡◌, refl, sym, ◌∙◌}
use Prim.Native.Nat.{ℕ, ◌/◌, ◌%◌, ◌≤◌, ◌<◌}
use native.Mathlib.Omega.{arith}
use mathlib.Core.Bool.{Bool, true, false}
use mathlib.Core.List.{List, [], ◌∷◌}
use lib.Dec.{ltb, eqb}
use borrow.Author.Tests.{eq-eqb, eqb-true, eqb-false, lt-ltb, le-ltb, ltb-true, ltb-false}
use Rattle.model.specs.Number.{Quantity}
use Rattle.model.specs.declared.Offer.{Offer}
use Rattle.model.specs.declared.Own.{Own}
use Rattle.model.specs.declared.Neighbour.{Neighbour}
use Rattle.model.specs.Verdict.{is_second, ahead_of}
use Rattle.model.specs.Choice.{not_current, criteria, precedes}
use Rattle.model.specs.Selection.{NotBehind, Level}
use Rattle.model.proofs.ChoiceLaws.{not_preceding}
use Rattle.model.proofs.ChoosingLaws.{precedes_differ, precedes_same}

-- ---- one number in place of its digits

-- two numbers are compared as their digits are: x and u of a, y and v of b
module _ (a x u b y v : ℕ) (xs ys : List ℕ) (low : x < y → a < b) (high : y < x → b < a) (same : x ≡ y → (u < v → a < b) × (v < u → b < a) × (u ≡ v → a ≡ b)) where
  abbrev Digits : Type 0
  Digits = precedes (x ∷ u ∷ xs) (y ∷ v ∷ ys) ≡ precedes (a ∷ xs) (b ∷ ys)

  -- the digit that differs says which number is lower
  differ : (p q : ℕ) → (p ≡ q → ⊥) → (p < q → a < b) → (q < p → b < a) → ltb p q ≡ precedes (a ∷ xs) (b ∷ ys)
  differ p q h f g = go (ltb p q) refl
    where
      go : (t : Bool) → ltb p q ≡ t → t ≡ precedes (a ∷ xs) (b ∷ ys)
      go true e = let l = f (ltb-true p q e) in sym (lt-ltb a b l) ∙ precedes_differ a b xs ys (λ z. omega arith)
      go false e =
          let m = ltb-false p q e in
          let l = g (omega arith) in
          sym (le-ltb a b (omega arith)) ∙ precedes_differ a b xs ys (λ z. omega arith)

  digits : Digits
  digits = go (eqb x y) (eqb u v) refl refl
    where
      go : (s t : Bool) → eqb x y ≡ s → eqb u v ≡ t → Digits
      go false t p q = let h = eqb-false x y p in sym (precedes_differ _ _ _ _ h) ∙ differ x y h low high
      go true false p q =
          let e = eqb-true x y p in
          let h = eqb-false u v q in
          sym (precedes_same _ _ _ _ e) ∙ sym (precedes_differ _ _ _ _ h) ∙ differ u v h (same e).0 (same e).1
      go true true p q =
          let e = eqb-true x y p in
          let f = eqb-true u v q in
          sym (precedes_same _ _ _ _ e) ∙ sym (precedes_same _ _ _ _ f) ∙ precedes_same a b xs ys ((same e).2 f)

-- the three digits of an offer
by_digits : (a b : ℕ) (xs ys : List ℕ) → precedes (a / 16 ∷ a / 8 % 2 ∷ a % 8 ∷ xs) (b / 16 ∷ b / 8 % 2 ∷ b % 8 ∷ ys) ≡ precedes (a ∷ xs) (b ∷ ys)
by_digits a b xs ys =
    digits (a / 8) (a / 16) (a / 8 % 2) (b / 8) (b / 16) (b / 8 % 2) (a % 8 ∷ xs) (b % 8 ∷ ys) (λ l. omega arith) (λ l. omega arith) (λ e. (λ l. omega arith, λ l. omega arith, λ l. omega arith))
    ∙ digits a (a / 8) (a % 8) b (b / 8) (b % 8) xs ys (λ l. omega arith) (λ l. omega arith) (λ e. (λ l. omega arith, λ l. omega arith, λ l. omega arith))

-- ---- the criteria

-- candidates are compared by offers, then by being the current parent, then by position
pub by_offers : (q : Quantity) (k p : ℕ) (s r : Offer)
    → precedes (s.ahead ∷ s.rank.0 ∷ not_current q k ∷ k ∷ []) (r.ahead ∷ r.rank.0 ∷ not_current q p ∷ p ∷ []) ≡ precedes (criteria q k s) (criteria q p r)
by_offers q k p s r = sym (by_digits s.ahead r.ahead (s.rank.0 ∷ not_current q k ∷ k ∷ []) (r.rank.0 ∷ not_current q p ∷ p ∷ []))

-- b is not above a, and where they are equal, what comes after counts
abbrev pub Then : (a b : ℕ) → Type 0 → Type 0
Then a b T = (b ≤ a) × (a ≡ b → T)

-- the offer r is not behind s, and where they are equal, what comes after counts
abbrev pub ByOffer : (s r : Offer) → Type 0 → Type 0
ByOffer s r T = Then s.ahead r.ahead (Then s.rank.0 r.rank.0 T)

-- k with s does not come before p with r: by the offers, then being the current parent, then position
pub ties : (q : Quantity) (k p : ℕ) (s r : Offer) → precedes (criteria q k s) (criteria q p r) ≡ false → ByOffer s r (Then (not_current q k) (not_current q p) (p ≤ k))
unfolding precedes
ties q k p s r e =
    let (a, f) = not_preceding s.ahead r.ahead _ (by_offers q k p s r ∙ e) in (
      a,
      λ x. let (m, l) = not_preceding s.rank.0 r.rank.0 _ (f x) in (
        m,
        λ w. let (n, o) = not_preceding (not_current q k) (not_current q p) _ (l w) in
            (n, λ i. (not_preceding k p false (o i)).0),
      ),
    )

-- ---- both editions

-- two that are level are compared by the rank
pub level_ahead : (own : Own) (c d : Neighbour) → Level own c d → ahead_of own d ≡ ahead_of own c
unfolding ahead_of
level_ahead own c d l = go (is_second own) refl
  where
    go : (b : Bool) → is_second own ≡ b → ahead_of own d ≡ ahead_of own c
    go true e = let (x, y, z) = l (eqb-true own.edition 2 e) in rw (e, x, y, z)
    go false e = rw e

-- in edition 2 one that is not behind by the digits is not behind
pub not_behind : (own : Own) (c d : Neighbour) → own.edition ≡ 2 → d.preference ≤ 7 → ahead_of own c ≤ ahead_of own d → NotBehind c d
unfolding ahead_of
not_behind own c d e h b =
    let a = rw (eq-eqb own.edition 2 e) at b in
    record { by_order = omega arith; by_ground = λ o. omega arith; by_root = λ o g. omega arith }
