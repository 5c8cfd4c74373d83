-- The first criterion on which two candidates differ, and that the first difference decides.
use mathlib.Core.Path.{◌≡◌, refl, sym, ap, ◌∙◌}
use Prim.Native.Nat.{ℕ, zero, suc, ◌-◌, ◌/◌, ◌%◌}
use native.Mathlib.Omega.{arith}
use mathlib.Core.Bool.{Bool, true, false, cond, not, beq}
use mathlib.Core.List.{List, [], ◌∷◌}
use borrow.Author.Rules.{rules}
use mir.Val.{bool_byte}
use lib.Dec.{eqb}
use borrow.Author.Tests.{eq-eqb, ne_eqb, eqb-true, eqb-false}
use Rattle.model.specs.Number.{Quantity}
use Rattle.model.specs.declared.Offer.{Offer}
use Rattle.model.specs.Choice.{not_current, criteria}
use Rattle.choice.specs.Difference.{behind, first_difference, differ, differ_at, difference_of, ahead_difference}

pub first_differ : (x y : ℕ) (xs ys : List ℕ) → (x ≡ y → ⊥) → first_difference (x ∷ xs) (y ∷ ys) ≡ 1
unfolding first_difference
first_differ x y xs ys h = rw (ne_eqb x y h)

pub first_same : (x y : ℕ) (xs ys : List ℕ) → x ≡ y → first_difference (x ∷ xs) (y ∷ ys) ≡ behind (first_difference xs ys)
unfolding first_difference
first_same x y xs ys h = rw (eq-eqb x y h)

-- numbers whose digits are the same
same_eighths : (a b : ℕ) → a / 16 ≡ b / 16 → a / 8 % 2 ≡ b / 8 % 2 → a / 8 ≡ b / 8
same_eighths a b e f = omega arith

same_digits : (a b : ℕ) → a / 8 ≡ b / 8 → a % 8 ≡ b % 8 → a ≡ b
same_digits a b e f = omega arith

-- numbers that differ, by their digits
pub by_digits : (a b : ℕ) (xs ys : List ℕ) → (a ≡ b → ⊥)
    → ahead_difference a b ≡ (let us = a / 16 ∷ a / 8 % 2 ∷ a % 8 ∷ xs in let vs = b / 16 ∷ b / 8 % 2 ∷ b % 8 ∷ ys in differ_at us vs (first_difference us vs))
unfolding ahead_difference
by_digits a b xs ys h = go (eqb (a / 16) (b / 16)) refl (eqb (a / 8 % 2) (b / 8 % 2)) refl
  where
    us : List ℕ
    us = a / 16 ∷ a / 8 % 2 ∷ a % 8 ∷ xs

    vs : List ℕ
    vs = b / 16 ∷ b / 8 % 2 ∷ b % 8 ∷ ys

    go : (s : Bool) → eqb (a / 16) (b / 16) ≡ s → (t : Bool) → eqb (a / 8 % 2) (b / 8 % 2) ≡ t → ahead_difference a b ≡ differ_at us vs (first_difference us vs)
    go false p t q = rw (p, first_differ (a / 16) (b / 16) (a / 8 % 2 ∷ a % 8 ∷ xs) (b / 8 % 2 ∷ b % 8 ∷ ys) (eqb-false _ _ p))
    go true p false q =
        rw (p, q, first_same (a / 16) (b / 16) (a / 8 % 2 ∷ a % 8 ∷ xs) (b / 8 % 2 ∷ b % 8 ∷ ys) (eqb-true _ _ p), first_differ (a / 8 % 2) (b / 8 % 2) (a % 8 ∷ xs) (b % 8 ∷ ys) (eqb-false _ _ q))
    go true p true q =
        let e : a / 16 ≡ b / 16 = eqb-true _ _ p in
        let f : a / 8 % 2 ≡ b / 8 % 2 = eqb-true _ _ q in
        let g : a % 8 ≡ b % 8 → ⊥ = λ z. h (same_digits a b (same_eighths a b e f) z) in
        rw (p, q, first_same (a / 16) (b / 16) (a / 8 % 2 ∷ a % 8 ∷ xs) (b / 8 % 2 ∷ b % 8 ∷ ys) e, first_same (a / 8 % 2) (b / 8 % 2) (a % 8 ∷ xs) (b % 8 ∷ ys) f, first_differ (a % 8) (b % 8) xs ys g)

-- ---- the criteria of two offers, by the first of ahead, rank, being the current parent and position that differs

module _ (q : Quantity) (p : ℕ) (s : Offer) (b : ℕ) (r : Offer) where
  pub differ_ahead : (s.ahead ≡ r.ahead → ⊥) → ahead_difference s.ahead r.ahead ≡ difference_of q p s b r
  unfolding difference_of
  differ_ahead h = by_digits s.ahead r.ahead (s.rank.0 ∷ not_current q p ∷ p ∷ []) (r.rank.0 ∷ not_current q b ∷ b ∷ []) h

  level : s.ahead ≡ r.ahead → first_difference (criteria q p s) (criteria q b r) ≡ behind (behind (behind (first_difference (s.rank.0 ∷ not_current q p ∷ p ∷ []) (r.rank.0 ∷ not_current q b ∷ b ∷ []))))
  level e = rw (first_same _ _ _ _ (ap (λ n. n / 16) e), first_same _ _ _ _ (ap (λ n. n / 8 % 2) e), first_same _ _ _ _ (ap (λ n. n % 8) e))

  pub differ_rank : s.ahead ≡ r.ahead → (s.rank.0 ≡ r.rank.0 → ⊥) → differ 4 s.rank.0 r.rank.0 ≡ difference_of q p s b r
  unfolding difference_of
  differ_rank e h = rw (level e, first_differ _ _ _ _ h)

  level_rank : s.ahead ≡ r.ahead → s.rank.0 ≡ r.rank.0 → first_difference (criteria q p s) (criteria q b r) ≡ behind (behind (behind (behind (first_difference (not_current q p ∷ p ∷ []) (not_current q b ∷ b ∷ [])))))
  level_rank e f = rw (level e, first_same _ _ _ _ f)

  pub differ_current : s.ahead ≡ r.ahead → s.rank.0 ≡ r.rank.0 → (not_current q p ≡ not_current q b → ⊥) → differ 5 (1 - not_current q p) (1 - not_current q b) ≡ difference_of q p s b r
  unfolding difference_of
  differ_current e f h = rw (level_rank e f, first_differ _ _ _ _ h)

  -- the same by who is the current parent
  pub differ_flags : (x y : Bool) → s.ahead ≡ r.ahead → s.rank.0 ≡ r.rank.0 → cond x 0 1 ≡ not_current q p → cond y 0 1 ≡ not_current q b → not (beq x y) ≡ true
      → differ 5 (bool_byte x) (bool_byte y) ≡ difference_of q p s b r
  differ_flags true false e f m n h = rw (← m, ← n) at (differ_current e f (λ z. let w : ◌≡◌ {A = ℕ} 0 1 = m ∙ z ∙ sym n in omega arith))
  differ_flags false true e f m n h = rw (← m, ← n) at (differ_current e f (λ z. let w : ◌≡◌ {A = ℕ} 1 0 = m ∙ z ∙ sym n in omega arith))
  differ_flags true true e f m n h = search rules
  differ_flags false false e f m n h = search rules

  pub differ_position : s.ahead ≡ r.ahead → s.rank.0 ≡ r.rank.0 → not_current q p ≡ not_current q b → (p ≡ b → ⊥) → differ 6 p b ≡ difference_of q p s b r
  unfolding difference_of
  differ_position e f g h = rw (level_rank e f, first_same _ _ _ _ g, first_differ _ _ _ _ h)

  pub differ_nowhere : s.ahead ≡ r.ahead → s.rank.0 ≡ r.rank.0 → not_current q p ≡ not_current q b → p ≡ b → differ 0 0 0 ≡ difference_of q p s b r
  unfolding difference_of first_difference
  differ_nowhere e f g h = rw (level_rank e f, first_same _ _ _ _ g, first_same _ _ _ _ h)

-- lists that differ nowhere
tails : (x y : ℕ) (xs ys : List ℕ) → first_difference (x ∷ xs) (y ∷ ys) ≡ 0 → (x ≡ y) × (first_difference xs ys ≡ 0)
unfolding first_difference
tails x y xs ys e = go (eqb x y) refl e
  where
    go : (b : Bool) → eqb x y ≡ b → cond b (behind (first_difference xs ys)) 1 ≡ 0 → (x ≡ y) × (first_difference xs ys ≡ 0)
    go true q z = (eqb-true x y q, none (first_difference xs ys) z)
      where
        none : (n : ℕ) → behind n ≡ 0 → n ≡ 0
        none zero z = refl
        none (suc n) z = absurd (omega arith)
    go false q z = absurd (omega arith)

-- candidates that differ nowhere have one position
pub same_position : (q : Quantity) (p : ℕ) (s : Offer) (b : ℕ) (r : Offer) → (difference_of q p s b r).criterion ≡ 0 → p ≡ b
unfolding difference_of
same_position q p s b r e =
    (tails _ _ _ _ (tails _ _ _ _ (tails _ _ _ _ (tails _ _ _ _ (tails _ _ _ _ (tails _ _ _ _ e).1).1).1).1).1).0

pub ruleset differs = (differ_ahead, differ_rank, differ_current, differ_position, differ_nowhere)
