-- Options by their size, and what they lead to from an index of a run on.
use mathlib.Core.Path.{◌≡◌, refl}
use Prim.Native.Nat.{ℕ, zero, suc, ◌+◌, ◌≤◌, ◌<◌}
use native.Mathlib.Nat.{not-suc-le-zero}
use native.Mathlib.Omega.{arith}
use mathlib.Core.Bool.{Bool, true, false, cond}
use mathlib.Core.List.{List, [], ◌∷◌}
use lib.ListN.{length, drop, get_or, length-drop, drop_of_length-le}
use lib.Seq.{drop-cons, drop-drop}
use lib.Dec.{leb}
use borrow.Author.Tests.{leb-true}
use Rattle.wire.specs.Entry.{Nothing}
use Rattle.wire.specs.Entry.{option_size, entry_by, entry_up_to, entry_at}

-- ---- the size of the option at the head

-- an option is no longer than what is there
pub size_inside : (s : List ℕ) → option_size s ≤ length s
unfolding option_size
size_inside [] = omega arith
size_inside (zero ∷ s) = omega arith
size_inside (suc t ∷ []) = omega arith
size_inside (suc t ∷ n ∷ s) = go (leb n (length s)) refl
  where
    go : (b : Bool) → leb n (length s) ≡ b → cond b (suc (suc n)) 0 ≤ suc (suc (length s))
    go true e = omega (arith, leb-true n (length s) e)
    go false e = omega arith

-- ---- what options lead to

entry_up_to_enough : (k j : ℕ) (bs : List ℕ) (at : ℕ) → length bs ≤ k → length bs ≤ j → entry_up_to k bs at ≡ entry_up_to j bs at
unfolding entry_up_to
entry_up_to_enough zero zero bs at h i = refl
entry_up_to_enough zero (suc j) [] at h i = refl
entry_up_to_enough zero (suc j) (t ∷ bs) at h i = absurd (not-suc-le-zero h)
entry_up_to_enough (suc k) zero [] at h i = refl
entry_up_to_enough (suc k) zero (t ∷ bs) at h i = absurd (not-suc-le-zero i)
entry_up_to_enough (suc k) (suc j) [] at h i = refl
entry_up_to_enough (suc k) (suc j) (t ∷ bs) at h i = go (option_size (t ∷ bs)) (λ ds n l m. entry_up_to_enough k j ds n l m)
  where
    go : (s : ℕ) → ((ds : List ℕ) (n : ℕ) → length ds ≤ k → length ds ≤ j → entry_up_to k ds n ≡ entry_up_to j ds n)
        → entry_by s t at (entry_up_to k (drop s (t ∷ bs)) (at + s)) ≡ entry_by s t at (entry_up_to j (drop s (t ∷ bs)) (at + s))
    go zero ih = refl
    go (suc s) ih = rw (ih (drop s bs) (at + suc s) (rw length-drop (omega arith)) (rw length-drop (omega arith)))

pub entry_end : (bs : List ℕ) (at : ℕ) → length bs ≤ at → entry_at bs at ≡ Nothing
unfolding entry_at entry_up_to
entry_end bs at h = rw (drop_of_length-le bs h)

-- at the head, and at an option of a run
entry_head : (t : ℕ) (bs : List ℕ) (at : ℕ) → entry_up_to (length (t ∷ bs)) (t ∷ bs) at
    ≡ entry_by (option_size (t ∷ bs)) t at (entry_up_to (length (drop (option_size (t ∷ bs)) (t ∷ bs))) (drop (option_size (t ∷ bs)) (t ∷ bs)) (at + option_size (t ∷ bs)))
unfolding entry_up_to
entry_head t bs at = go (option_size (t ∷ bs))
  where
    go : (s : ℕ) → entry_by s t at (entry_up_to (length bs) (drop s (t ∷ bs)) (at + s)) ≡ entry_by s t at (entry_up_to (length (drop s (t ∷ bs))) (drop s (t ∷ bs)) (at + s))
    go zero = refl
    go (suc s) = rw (entry_up_to_enough (length bs) (length (drop s bs)) (drop s bs) (at + suc s) (rw length-drop (omega arith)) (omega arith))

pub entry_at_lem : (bs : List ℕ) (at : ℕ) → at < length bs
    → entry_at bs at ≡ entry_by (option_size (drop at bs)) (get_or bs at 0) at (entry_at bs (at + option_size (drop at bs)))
unfolding entry_at
entry_at_lem bs at h = rw (← drop-drop (option_size (drop at bs)) at bs, drop-cons bs at 0 h) (entry_head (get_or bs at 0) (drop (suc at) bs) at)
