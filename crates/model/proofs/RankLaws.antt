-- Bars 20 and 21 by the resulting rank.
use mathlib.Core.Path.{◌≡◌, refl, sym, ◌∙◌}
use Prim.Native.Nat.{ℕ, ◌+◌, ◌/◌, ◌%◌, ◌≤◌, ◌<◌}
use native.Mathlib.Omega.{arith}
use mathlib.Core.Bool.{Bool, true, false, not, ◌&&◌, ◌||◌}
use lib.Dec.{leb, ltb, eqb}
use borrow.Author.Tests.{eqb-true, le-leb, lt-leb}
use Rattle.model.specs.declared.Own.{Own}
use Rattle.model.specs.declared.Neighbour.{Neighbour}
use Rattle.model.specs.Verdict.{Unbarred, Barred}
use Rattle.model.specs.Number.{is_set, satisfies}
use Rattle.model.specs.Reading.{no_place}
use Rattle.model.specs.Rank.{lowest_of, infinite, resulting, rank_too_high, above_lowest}
use Rattle.model.specs.Verdict.{offer_of, rank_bar, judge_rank}
use Rattle.model.proofs.ConstraintLaws.{satisfies_known}

-- an infinite advertised rank results in one
too_high : (own : Own) (c : Neighbour) → rank_too_high own c ≡ leb infinite (resulting own c)
unfolding rank_too_high resulting
too_high own c = go (eqb c.rank.0 infinite) refl
  where
    go : (b : Bool) → eqb c.rank.0 infinite ≡ b → b || leb infinite (resulting own c) ≡ leb infinite (resulting own c)
    go true e = let q = eqb-true c.rank.0 infinite e in sym (le-leb infinite (resulting own c) (omega arith))
    go false e = refl

-- the verdict by a number that is the resulting rank
module _ (own : Own) (c : Neighbour) (rank : ℕ) (e : rank ≡ resulting own c) where
  too_high_by : rank_too_high own c ≡ leb infinite rank
  too_high_by = too_high own c ∙ rw (← e)

  pub judged_20 : infinite ≤ rank → Barred 20 no_place ≡ judge_rank own c (rank_bar own c)
  unfolding rank_bar
  judged_20 l = rw (too_high_by, le-leb infinite rank l)

  pub judged_21 : rank < infinite → above_lowest own c ≡ true → Barred 21 no_place ≡ judge_rank own c (rank_bar own c)
  unfolding rank_bar
  judged_21 l a = rw (too_high_by, lt-leb infinite rank l, a)

  pub judged_unbarred : rank < infinite → above_lowest own c ≡ false → Unbarred (offer_of own c) ≡ judge_rank own c (rank_bar own c)
  unfolding rank_bar
  judged_unbarred l a = rw (too_high_by, lt-leb infinite rank l, a)

-- bar 21 by the bit that says that L is given
pub by_lowest : (own : Own) (highest rank : ℕ) (c : Neighbour) → highest ≡ own.lowest.0 + own.maxincrease → rank ≡ resulting own c
    → not (eqb own.maxincrease 0) && is_set (own.flags / 8 % 2) && ltb highest rank ≡ above_lowest own c
unfolding above_lowest
by_lowest own highest rank c h e = rw (h, ← e) (go (not (eqb own.maxincrease 0)))
  where
    go : (a : Bool) → a && is_set (own.flags / 8 % 2) && ltb (own.lowest.0 + own.maxincrease) rank ≡ a && satisfies (λ l. ltb (l + own.maxincrease) rank) (lowest_of own)
    go true = satisfies_known (λ l. ltb (l + own.maxincrease) rank) (own.flags / 8 % 2) own.lowest.0
    go false = refl
