-- Bytes that are put into an output: one run behind another, a byte before others or inside them, and a byte before that is stored last.
use mathlib.Core.Path.{◌≡◌, refl, sym, ap, ◌∙◌}
use Prim.Native.Nat.{ℕ, zero, suc, ◌+◌, ◌<◌}
use native.Mathlib.Nat.{add-zero, add-suc, suc-add}
use native.Mathlib.Numerals.{add-one}
use native.Mathlib.Omega.{arith}
use mathlib.Core.List.{List, [], ◌∷◌, ◌++◌}
use lib.ListN.{length, set, length-set, length-append}
use lib.Seq.{sets, length-sets, set-set, set_comm}
use Rattle.wire.specs.Put.{Put}

-- two runs of stores, one behind the other, are one run
pub sets-append : (l : List ℕ) (i : ℕ) (xs ys : List ℕ) → sets (sets l i xs) (i + length xs) ys ≡ sets l i (xs ++ ys)
sets-append l i [] ys = rw (add-zero i)
sets-append l i (x ∷ xs) ys = rw (add-suc i (length xs), ← suc-add i (length xs)) (sets-append (set l i x) (suc i) xs ys)

-- nothing is put
pub put_nothing : (l : List ℕ) (i : ℕ) → Put l i [] i l
put_nothing l i = record { end = sym (add-zero i); written = refl }

-- a run, and one behind it
pub put_append : {l m k xs ys : List ℕ} {i j n : ℕ} → Put l i xs j m → Put m j ys n k → Put l i (xs ++ ys) n k
put_append {l} {m} {k} {xs} {ys} {i} {j} {n} p q = record {
  end = q.end ∙ ap (λ x. x + length ys) p.end ∙ rw (length-append xs ys) (omega arith);
  written = q.written ∙ rw (p.written, p.end) (sets-append l i xs ys);
}

-- an output keeps its length
pub put_length : {l m xs : List ℕ} {i j : ℕ} → Put l i xs j m → length m ≡ length l
put_length {l} {m} {xs} {i} p = ap length p.written ∙ length-sets l i xs

-- a byte, and others behind it
pub put_cons : {l m t : List ℕ} {j n : ℕ} (i x : ℕ) → j ≡ i + 1 → Put (set l i x) j t n m → Put l i (x ∷ t) n m
put_cons {l} {m} {t} {j} {n} i x e p = record {
  end = p.end ∙ omega (arith, e);
  written = p.written ∙ ap (λ k. sets (set l i x) k t) (e ∙ add-one i);
}

-- a store before a run of stores can come behind it
set-sets : (l : List ℕ) (i j : ℕ) (x : ℕ) (ys : List ℕ) → i < j → set (sets l j ys) i x ≡ sets (set l i x) j ys
set-sets l i j x [] h = refl
set-sets l i j x (y ∷ ys) h = set-sets (set l j y) i (suc j) x ys (omega arith) ∙ ap (λ m. sets m (suc j) ys) (set_comm l j i y x (λ e. omega arith))

-- a store inside a run of stores
set_inside : (l : List ℕ) (i : ℕ) (xs : List ℕ) (k y : ℕ) → k < length xs → set (sets l i xs) (i + k) y ≡ sets l i (set xs k y)
set_inside l i [] k y h = absurd (omega arith)
set_inside l i (x ∷ xs) zero y h =
    rw (add-zero i) (set-sets (set l i x) i (suc i) y xs (omega arith) ∙ ap (λ m. sets m (suc i) xs) (set-set l i x y))
set_inside l i (x ∷ xs) (suc k) y h = rw (add-suc i k, ← suc-add i k) (set_inside (set l i x) (suc i) xs k y (omega arith))

-- a run, one byte of which is stored once more
pub put_inside : {l m t : List ℕ} {i n : ℕ} (k y : ℕ) → k < length t → Put l i t n m → Put l i (set t k y) n (set m (i + k) y)
put_inside {l} {m} {t} {i} {n} k y h p = record {
  end = p.end ∙ ap (λ j. i + j) (sym (length-set t k y));
  written = ap (λ j. set j (i + k) y) p.written ∙ set_inside l i t k y h;
}

-- a byte before others that is stored last
pub put_before : {l m t : List ℕ} {j n : ℕ} (i x : ℕ) → i < j → Put l j t n m → Put (set l i x) j t n (set m i x)
put_before {l} {m} {t} {j} {n} i x h p = record { end = p.end; written = ap (λ k. set k i x) p.written ∙ set-sets l i j x t h }
