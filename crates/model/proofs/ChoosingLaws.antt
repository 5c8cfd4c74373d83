-- The choice, the bits and the lists of the answer, a candidate at a time.
use mathlib.Core.Path.{◌≡◌, sym, ap}
use Prim.Native.Nat.{ℕ, suc, ◌+◌, ◌-◌, ◌*◌, ◌/◌, ◌%◌, ◌^◌, ◌≤◌, ◌<◌}
use native.Mathlib.Nat.{add-zero, pow-succ', mul_left_comm}
use native.Mathlib.Omega.{arith}
use mathlib.Core.Bool.{cond, ◌&&◌, or-false, and-false}
use mathlib.Core.List.{List, [], ◌∷◌, ◌++◌}
use lib.ListN.{length, set, replicate, length-append}
use lib.Seq.{append_snoc, set-append_seam}
use lib.Dec.{leb, ltb, eqb}
use borrow.Author.Tests.{le-ltb, eq-eqb, ne_eqb}
use Rattle.model.specs.Number.{Quantity}
use Rattle.model.specs.declared.Own.{Own}
use Rattle.model.specs.Verdict.{Verdict}
use Rattle.model.specs.Choice.{Choice}
use Rattle.model.specs.Choice.{Nobody}
use Rattle.model.specs.Choice.{current_of, current_past, not_current, precedes, after_verdict, choose_from, choose, unbarred_bit, bits_of, sixteen}
use Rattle.model.proofs.ConstraintLaws.{satisfies_known}

-- ---- the current parent

pub current_past_lem : (own : Own) (n : ℕ) → eqb (own.flags / 16 % 2) 1 && leb n own.current ≡ current_past own n
current_past_lem own n = satisfies_known (λ p. leb n p) (own.flags / 16 % 2) own.current

pub current_at : (own : Own) (p : ℕ) → cond (eqb (own.flags / 16 % 2) 1 && eqb own.current p) 0 1 ≡ not_current (current_of own) p
current_at own p = ap (λ t. cond t 0 1) (satisfies_known (λ i. eqb i p) (own.flags / 16 % 2) own.current)

-- ---- the order of criteria

pub precedes_differ : (x y : ℕ) (xs ys : List ℕ) → (x ≡ y → ⊥) → ltb x y ≡ precedes (x ∷ xs) (y ∷ ys)
unfolding precedes
precedes_differ x y xs ys h = rw (ne_eqb x y h) (sym (or-false (ltb x y)))

pub precedes_same : (x y : ℕ) (xs ys : List ℕ) → x ≡ y → precedes xs ys ≡ precedes (x ∷ xs) (y ∷ ys)
unfolding precedes
precedes_same x y xs ys h = let l : y ≤ x = omega arith in rw (le-ltb x y l, eq-eqb x y h)

pub precedes_last : (x y : ℕ) → ltb x y ≡ precedes (x ∷ []) (y ∷ [])
unfolding precedes
precedes_last x y = rw (and-false (eqb x y)) (sym (or-false (ltb x y)))

-- ---- one verdict more

from_snoc : (q : Quantity) (vs : List Verdict) (b : Choice) (p : ℕ) (v : Verdict) → choose_from q b p (vs ++ (v ∷ [])) ≡ after_verdict q (choose_from q b p vs) (p + length vs) v
unfolding choose_from
from_snoc q [] b p v = rw add-zero
from_snoc q (w ∷ vs) b p v = let z : p + suc (length vs) ≡ suc p + length vs = omega arith in rw z (from_snoc q vs (after_verdict q b p w) (suc p) v)

pub choose_snoc : (q : Quantity) (vs : List Verdict) (v : Verdict) → choose q (vs ++ (v ∷ [])) ≡ after_verdict q (choose q vs) (length vs) v
choose_snoc q vs v = let z : 0 + length vs ≡ length vs = omega arith in rw z at (from_snoc q vs Nobody 0 v)

pub bits_snoc : (vs : List Verdict) (v : Verdict) → bits_of (vs ++ (v ∷ [])) ≡ bits_of vs + unbarred_bit v * 2 ^ length vs
unfolding bits_of
bits_snoc [] v = omega arith
bits_snoc (w ∷ vs) v = rw (bits_snoc vs v, pow-succ') (let z = mul_left_comm (unbarred_bit v) 2 (2 ^ length vs) in omega arith)

-- what fills up to sixteen stands behind the numbers already
pub sixteen_same : (x : ℕ) (ns : List ℕ) → length ns < 16 → set (sixteen x ns) (length ns) x ≡ sixteen x ns
sixteen_same x ns h =
    let e : 16 - length ns ≡ suc (16 - (length ns + 1)) = omega arith in
    rw e (set-append_seam ns x (replicate (16 - (length ns + 1)) x) x)

-- what is filled up to sixteen, with one number more
pub sixteen_snoc : (x : ℕ) (ns : List ℕ) (n : ℕ) → length ns < 16 → set (sixteen x ns) (length ns) n ≡ sixteen x (ns ++ (n ∷ []))
sixteen_snoc x ns n h =
    let a : 16 - length ns ≡ suc (15 - length ns) = omega arith in
    let b : 16 - length (ns ++ (n ∷ [])) ≡ 15 - length ns = rw (length-append) (omega arith) in
    rw (a, b, set-append_seam ns x (replicate (15 - length ns) x) n) (sym (append_snoc ns n (replicate (15 - length ns) x)))
