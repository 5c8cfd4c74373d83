-- One unbarred candidate before another: the derived order of offer, then being the current parent, then position, is that of the criteria.
use mathlib.Core.Path.{◌≡◌, refl, ◌∙◌}
use Prim.Native.Nat.{ℕ}
use mathlib.Core.Bool.{Bool, true, false, cond, not}
use mathlib.Core.List.{List, [], ◌∷◌}
use lib.Dec.{ltb, eqb}
use Rattle.std.specs.Prelude.{Option, Some, None}
use Rattle.std.proofs.Common.{Ordering, Less, Equal, Greater}
use Rattle.std.specs.Ordering.{is_lt, partial_ordering_then, nat_cmp, bool_cmp, is_some_and}
use Rattle.model.specs.Number.{Quantity}
use Rattle.model.specs.declared.Offer.{Offer}
use Rattle.model.specs.Choice.{not_current, criteria, precedes}
use Rattle.model.proofs.OfferLaws.{by_offers}

-- a comparison says that it is less
abbrev pub Less_by : Option Ordering → Bool
Less_by o = is_some_and is_lt o

-- a number compared first
first : (x y : ℕ) (o : Option Ordering) (xs ys : List ℕ) → Less_by o ≡ precedes xs ys → Less_by (partial_ordering_then (Some (nat_cmp x y)) o) ≡ precedes (x ∷ xs) (y ∷ ys)
unfolding precedes
first x y o xs ys e = go (ltb x y) refl (eqb x y) refl
  where
    go : (s : Bool) → ltb x y ≡ s → (t : Bool) → eqb x y ≡ t → Less_by (partial_ordering_then (Some (nat_cmp x y)) o) ≡ precedes (x ∷ xs) (y ∷ ys)
    go true p t q = rw p refl
    go false p true q = rw (p, q) e
    go false p false q = rw (p, q) refl

last : (x y : ℕ) → Less_by (Some (nat_cmp x y)) ≡ precedes (x ∷ []) (y ∷ [])
unfolding precedes
last x y = go (ltb x y) refl (eqb x y) refl
  where
    go : (s : Bool) → ltb x y ≡ s → (t : Bool) → eqb x y ≡ t → Less_by (Some (nat_cmp x y)) ≡ precedes (x ∷ []) (y ∷ [])
    go true p t q = rw p refl
    go false p true q = rw (p, q) refl
    go false p false q = rw (p, q) refl

-- comparisons one after another, from the left as from the right
regroup : (a b c d : Option Ordering) → partial_ordering_then (partial_ordering_then (partial_ordering_then a b) c) d ≡ partial_ordering_then a (partial_ordering_then b (partial_ordering_then c d))
regroup None b c d = refl
regroup (Some Less) b c d = refl
regroup (Some Greater) b c d = refl
regroup (Some Equal) None c d = refl
regroup (Some Equal) (Some Less) c d = refl
regroup (Some Equal) (Some Greater) c d = refl
regroup (Some Equal) (Some Equal) c d = refl

current : (x y : Bool) → bool_cmp (not x) (not y) ≡ nat_cmp (cond x 0 1) (cond y 0 1)
current true true = refl
current true false = refl
current false true = refl
current false false = refl

pub by_order : (q : Quantity) (k p : ℕ) (s r : Offer) (x y : Bool) → cond x 0 1 ≡ not_current q k → cond y 0 1 ≡ not_current q p
    → Less_by (partial_ordering_then (partial_ordering_then (partial_ordering_then (Some (nat_cmp s.ahead r.ahead)) (Some (nat_cmp s.rank.0 r.rank.0))) (Some (bool_cmp (not x) (not y)))) (Some (nat_cmp k p)))
    ≡ precedes (criteria q k s) (criteria q p r)
by_order q k p s r x y m n =
    rw (regroup (Some (nat_cmp s.ahead r.ahead)) (Some (nat_cmp s.rank.0 r.rank.0)) (Some (bool_cmp (not x) (not y))) (Some (nat_cmp k p)), current x y, m, n)
    (first s.ahead r.ahead _ _ _ (first s.rank.0 r.rank.0 _ _ _ (first (not_current q k) (not_current q p) _ _ _ (last k p)))) ∙ by_offers q k p s r
