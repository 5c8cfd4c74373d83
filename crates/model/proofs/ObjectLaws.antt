-- `split` and `join` undo each other, also with bytes behind.
use mathlib.Core.Path.{◌≡◌, refl, sym, ap, ◌∙◌}
use Prim.Native.Nat.{ℕ, zero, suc, ◌*◌, ◌≤◌}
use native.Mathlib.Nat.{not-suc-le-zero}
use mathlib.Core.Bool.{Bool, true, false, cond}
use mathlib.Core.List.{List, [], ◌∷◌, ◌++◌, append_assoc, append-nil}
use mathlib.Core.Option.{Option, none, some, none-ne-some}
use native.Mathlib.Omega.{arith}
use lib.ListN.{length, take, drop, length-append, take-append-drop, length-drop}
use lib.Seq.{length-take-le, take-append_seam, drop-append_seam}
use lib.Dec.{leb}
use borrow.Author.Tests.{le-leb, leb-true}
use Rattle.model.specs.Object.{Object, object, before, behind, split_up_to, split, join}

-- what a step of `split_up_to` says where it gives objects
step : (n : ℕ) (rest : List ℕ) (o : Object) (r : Option (List Object)) (os : List Object) (b : Bool) → leb n (length rest) ≡ b
    → cond b (before o r) none ≡ some os → (n ≤ length rest) × (t : List Object) × (r ≡ some t) × (os ≡ o ∷ t)
step n rest o none os true q e = absurd (none-ne-some os e)
step n rest o (some t) os true q e = (leb-true n (length rest) q, t, refl, cc)
step n rest o r os false q e = absurd (none-ne-some os e)

join-split_up_to : (k : ℕ) (bs : List ℕ) (os : List Object) → split_up_to k bs ≡ some os → join os ≡ bs
unfolding split_up_to join
join-split_up_to zero [] os e = let q : os ≡ [] = cc in rw q
join-split_up_to zero (t ∷ bs) os e = cc
join-split_up_to (suc k) [] os e = let q : os ≡ [] = cc in rw q
join-split_up_to (suc k) (t ∷ []) os e = cc
join-split_up_to (suc k) (t ∷ f ∷ []) os e = cc
join-split_up_to (suc k) (t ∷ f ∷ m ∷ []) os e = cc
join-split_up_to (suc k) (t ∷ f ∷ m ∷ n ∷ rest) os e =
    let (h, ts, q, s) = step n rest _ _ os (leb n (length rest)) refl e in
    let ih : join ts ≡ drop n rest = join-split_up_to k (drop n rest) ts q in
    rw (s, ih, take-append-drop n rest, length-take-le n rest)

pub join-split : (bs : List ℕ) (os : List Object) → split bs ≡ some os → join os ≡ bs
unfolding split
join-split bs os e = join-split_up_to (length bs) bs os e

-- two limits that are at least the length give the same
split_up_to_enough : (k j : ℕ) (bs : List ℕ) → length bs ≤ k → length bs ≤ j → split_up_to k bs ≡ split_up_to j bs
unfolding split_up_to
split_up_to_enough zero zero bs h i = refl
split_up_to_enough zero (suc j) [] h i = refl
split_up_to_enough zero (suc j) (t ∷ bs) h i = absurd (not-suc-le-zero h)
split_up_to_enough (suc k) zero [] h i = refl
split_up_to_enough (suc k) zero (t ∷ bs) h i = absurd (not-suc-le-zero i)
split_up_to_enough (suc k) (suc j) [] h i = refl
split_up_to_enough (suc k) (suc j) (t ∷ []) h i = refl
split_up_to_enough (suc k) (suc j) (t ∷ f ∷ []) h i = refl
split_up_to_enough (suc k) (suc j) (t ∷ f ∷ m ∷ []) h i = refl
split_up_to_enough (suc k) (suc j) (t ∷ f ∷ m ∷ n ∷ rest) h i =
    rw (split_up_to_enough k j (drop n rest) (rw length-drop (omega arith)) (rw length-drop (omega arith)))

-- `split` unfolded at an object
pub split_step : (t f m n : ℕ) (rest : List ℕ)
    → split (t ∷ f ∷ m ∷ n ∷ rest) ≡ cond (leb n (length rest)) (before (object t f m (take n rest)) (split (drop n rest))) none
unfolding split split_up_to
split_step t f m n rest = rw (split_up_to_enough (suc (suc (suc (length rest)))) (length (drop n rest)) (drop n rest) (rw length-drop (omega arith)) (omega arith))

-- ---- objects end to end, and bytes behind them

pub join-append : (s t : List Object) → join (s ++ t) ≡ join s ++ join t
unfolding join
join-append [] t = refl
join-append (o ∷ s) t = rw (join-append s t, append_assoc o.body (join s) (join t))

before-behind : (o : Object) (s : List Object) (r : Option (List Object)) → before o (behind s r) ≡ behind (o ∷ s) r
before-behind o s none = refl
before-behind o s (some t) = refl

behind_nil : (r : Option (List Object)) → r ≡ behind [] r
behind_nil none = refl
behind_nil (some t) = refl

pub split-append : (s : List Object) (bs : List ℕ) → split (join s ++ bs) ≡ behind s (split bs)
unfolding join
split-append [] bs = behind_nil (split bs)
split-append (o ∷ s) bs =
    let fits : length o.body ≤ length (o.body ++ (join s ++ bs)) = simp length-append (omega arith) in
    rw (append_assoc o.body (join s) bs, split_step o.type o.flags o.mode (length o.body) (o.body ++ (join s ++ bs)), le-leb (length o.body) (length (o.body ++ (join s ++ bs))) fits, take-append_seam o.body (join s ++ bs), drop-append_seam o.body (join s ++ bs), split-append s bs)
    (before-behind o s (split bs))

pub split-join : (os : List Object) → split (join os) ≡ some os
unfolding split split_up_to
split-join os = ap split (sym (append-nil (join os))) ∙ split-append os [] ∙ ap some (append-nil os)

-- an object has four bytes or more
pub join_four : (s : List Object) → 4 * length s ≤ length (join s)
unfolding join
join_four [] = omega arith
join_four (o ∷ s) = let ih = join_four s in omega (arith, length-append o.body (join s))
