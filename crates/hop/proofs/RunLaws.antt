-- Runs of bytes that loops put into an output: the bytes still to be put give the whole.
use mathlib.Core.Path.{◌≡◌, refl, sym, ap, ◌∙◌}
use Prim.Native.Nat.{ℕ, zero, suc, ◌+◌, ◌-◌, ◌*◌, ◌/◌, ◌%◌, ◌≤◌, ◌<◌}
use native.Mathlib.Nat.{add-zero, zero-add, add-suc, div-one}
use native.Mathlib.Numerals.{add-one, add-two, add-three}
use native.Mathlib.Omega.{arith}
use mathlib.Core.List.{List, [], ◌∷◌}
use lib.ListN.{length, get_or, set, take, drop, length-set, length-drop, drop_of_length-le}
use mathlib.Core.Bool.{Bool, true, false, cond}
use lib.Seq.{sets, take_all}
use Rattle.model.specs.Number.{big_endian}
use Rattle.model.specs.Update.{clear_each, count_level, count_colour}
use Rattle.wire.specs.Put.{Put}
use Rattle.wire.proofs.PutLaws.{put_cons, put_append, put_inside}
use Rattle.metric.specs.Next.{counts_in}
use Rattle.metric.specs.Colours.{gains_in, place_of}
use Rattle.metric.proofs.LevelLaws.{step}
use Rattle.metric.proofs.ColourLaws.{step_two, step_lone, counts_at, counts_behind, counts_lone, length_opened, room_at}

-- up to index i of what is put; `rest` gives the bytes from there on
pub record Putting (l : List ℕ) (at : ℕ) (whole : List ℕ) (m : List ℕ) (i : ℕ) (rest : List ℕ) : Type 0 where
  pub same : length m ≡ length l
  pub reached : length whole ≡ i + length rest
  pub so_far : sets l at whole ≡ sets m (at + i) rest

pub putting_first : (l : List ℕ) (at : ℕ) (whole : List ℕ) → Putting l at whole l 0 whole
putting_first l at whole = record { same = refl; reached = sym (zero-add (length whole)); so_far = rw (add-zero at) }

-- one byte more
pub putting_more : {l m whole rest : List ℕ} {at i : ℕ} (x : ℕ) → Putting l at whole m i (x ∷ rest) → Putting l at whole (set m (at + i) x) (i + 1) rest
putting_more {l} {m} {whole} {rest} {at} {i} x p = record {
  same = length-set m (at + i) x ∙ p.same;
  reached = p.reached ∙ omega arith;
  so_far = p.so_far ∙ ap (λ k. sets (set m (at + i) x) k rest) (sym (add-suc at i) ∙ ap (λ k. at + k) (sym (add-one i)));
}

-- no byte more
pub putting_end : {l m whole : List ℕ} {at i : ℕ} → Putting l at whole m i [] → Put l at whole (at + i) m
putting_end {l} {m} {whole} {at} {i} p = record { end = omega (arith, p.reached); written = sym p.so_far }

-- the rest put at once
pub putting_rest : {l m k whole rest : List ℕ} {at i n : ℕ} → Putting l at whole m i rest → Put m (at + i) rest n k → Put l at whole n k
putting_rest {at = at} {i = i} p q = record { end = q.end ∙ omega (arith, p.reached); written = q.written ∙ sym p.so_far }

-- ---- a run of bytes as it stands

-- the next byte of a run
pub putting_next : {l m bs : List ℕ} {at i : ℕ} → Putting l at bs m i (drop i bs) → i < length bs → Putting l at bs (set m (at + i) (get_or bs i 0)) (i + 1) (drop (i + 1) bs)
putting_next {l} {m} {bs} {at} {i} p h =
    putting_more (get_or bs i 0) (rw (step bs i h) at p)

-- no byte left
pub putting_done : {l m bs : List ℕ} {at i : ℕ} → Putting l at bs m i (drop i bs) → i ≤ length bs → length bs ≤ i → Put l at bs (at + length bs) m
putting_done {l} {m} {bs} {at} {i} p h g =
    let e : length bs ≡ i = omega arith in
    rw e (putting_end (rw (drop_of_length-le bs g) at p))

-- ---- two and four bytes

pub put_pair : (l : List ℕ) (at x y : ℕ) → Put l at (x ∷ y ∷ []) (at + 2) (set (set l at x) (at + 1) y)
put_pair l at x y = record { end = refl; written = rw add-one }

pub put_four : (l : List ℕ) (at w x y z : ℕ) → Put l at (w ∷ x ∷ y ∷ z ∷ []) (at + 4) (set (set (set (set l at w) (at + 1) x) (at + 2) y) (at + 3) z)
put_four l at w x y z = record { end = refl; written = rw (add-one, add-two, add-three) }

-- a number in two bytes, and in four
pub two_bytes : (n : ℕ) → n / 256 % 256 ∷ n % 256 ∷ [] ≡ big_endian 2 n
two_bytes n = rw (div-one n)

pub four_bytes : (n : ℕ) → n / 16777216 % 256 ∷ n / 65536 % 256 ∷ n / 256 % 256 ∷ n % 256 ∷ [] ≡ big_endian 4 n
four_bytes n = rw (div-one n)

-- ---- bodies

-- a body whose first two bytes are changed
pub put_two : {l m : List ℕ} {n : ℕ} (b : List ℕ) (at x y : ℕ) → Put (set (set l at x) (at + 1) y) (at + 2) (take (length b - 2) (drop 2 b)) n m → Put l at (x ∷ y ∷ drop 2 b) n m
put_two {l} {m} {n} b at x y p =
    let whole : take (length b - 2) (drop 2 b) ≡ drop 2 b = take_all (length b - 2) (drop 2 b) (rw (length-drop 2 b) (omega arith)) in
    put_cons at x refl (put_cons (at + 1) y (omega arith) (rw whole at p))

-- two bytes more
pub putting_two : {l m whole rest : List ℕ} {at i : ℕ} (x y : ℕ) → Putting l at whole m i (x ∷ y ∷ rest) → Putting l at whole (set (set m (at + i) x) (at + i + 1) y) (i + 2) rest
putting_two {l} {m} {whole} {rest} {at} {i} x y p =
    let d : at + i + 1 ≡ at + (i + 1) = omega arith in
    let e : i + 2 ≡ i + 1 + 1 = omega arith in
    rw (d, e) (putting_more y (putting_more x p))

-- recorded NE: the next sub-object
pub energies_next : {l m : List ℕ} {at i : ℕ} (b : List ℕ) → Putting l at (clear_each b) m i (clear_each (drop i b)) → i + 2 ≤ length b
    → Putting l at (clear_each b) (set (set m (at + i) (get_or b i 0 % 16)) (at + i + 1) (get_or b (i + 1) 0)) (i + 2) (clear_each (drop (i + 2) b))
energies_next {l} {m} {at} {i} b p h = putting_two (get_or b i 0 % 16) (get_or b (i + 1) 0) (rw (step_two b i h) at p)

-- recorded NE: a lone byte at the end
pub energies_lone : {l m : List ℕ} {at i : ℕ} (b : List ℕ) → Putting l at (clear_each b) m i (clear_each (drop i b)) → i < length b → length b - i < 2
    → Put l at (clear_each b) (at + length b) (set m (at + i) (get_or b i 0))
energies_lone {l} {m} {at} {i} b p h g =
    let e : length b ≡ i + 1 = omega arith in
    rw e (putting_end (putting_more (get_or b i 0) (rw (step_lone b i h g) at p)))

-- recorded NE: no byte left
pub energies_done : {l m : List ℕ} {at i : ℕ} (b : List ℕ) → Putting l at (clear_each b) m i (clear_each (drop i b)) → i ≤ length b → length b ≤ i → Put l at (clear_each b) (at + length b) m
energies_done {l} {m} {at} {i} b p h g =
    let e : length b ≡ i = omega arith in
    rw e (putting_end (rw (drop_of_length-le b g) at p))

-- ---- levels of LQL

module _ {l m : List ℕ} {at i : ℕ} (v : ℕ) (s : List ℕ) (p : Putting l at (count_level v s) m i (count_level v (drop i s))) where
  -- there is room for a byte more
  pub level_room : at + length (count_level v s) ≤ length l → at + i < length m
  level_room h = omega (arith, p.same, p.reached, some (drop i s))
    where
      some : (t : List ℕ) → 0 < length (count_level v t)
      some [] = omega arith
      some (x ∷ t) = go (counts_in v x)
        where
          go : (b : Bool) → 0 < length (cond b ((x + 1) ∷ t) (x ∷ count_level v t))
          go true = omega arith
          go false = omega arith

  -- a sub-object that is not counted
  pub level_next : i < length s → counts_in v (get_or s i 0) ≡ false → Putting l at (count_level v s) (set m (at + i) (get_or s i 0)) (i + 1) (count_level v (drop (i + 1) s))
  level_next h e = putting_more (get_or s i 0) (rw (step s i h, e) at p)

  -- the sub-object that is counted, and the rest
  pub level_counted : {k : List ℕ} {n : ℕ} → i < length s → counts_in v (get_or s i 0) ≡ true
      → Put (set m (at + i) (get_or s i 0 + 1)) (at + i + 1) (take (length s - (i + 1)) (drop (i + 1) s)) n k → Put l at (count_level v s) n k
  level_counted {k} {n} h e q =
      let whole : take (length s - (i + 1)) (drop (i + 1) s) ≡ drop (i + 1) s = take_all (length s - (i + 1)) (drop (i + 1) s) (rw (length-drop (i + 1) s) (omega arith)) in
      let d : at + i + 1 ≡ at + (i + 1) = omega arith in
      putting_rest (putting_more (get_or s i 0 + 1) (rw (step s i h, e) at p)) (rw (whole, d) at q)

  -- behind the sub-object that is counted there is room for the rest
  pub level_rest : i < length s → counts_in v (get_or s i 0) ≡ true → at + length (count_level v s) ≤ length l → at + i + 1 + length (take (length s - (i + 1)) (drop (i + 1) s)) ≤ length m
  level_rest h e r =
      let one : count_level v (drop i s) ≡ (get_or s i 0 + 1) ∷ drop (i + 1) s = rw (step s i h, e) in
      let n : length (take (length s - (i + 1)) (drop (i + 1) s)) ≡ length (drop (i + 1) s) = ap length (take_all (length s - (i + 1)) (drop (i + 1) s) (rw (length-drop (i + 1) s) (omega arith))) in
      omega (arith, p.same, p.reached, ap length one, n)

  -- the level added at the end
  pub level_added : length s ≤ i → Put l at (count_level v s) (at + i + 1) (set m (at + i) (v * 32 + 1))
  level_added h =
      let d : at + i + 1 ≡ at + (i + 1) = omega arith in
      rw d (putting_end (putting_more (v * 32 + 1) (rw (drop_of_length-le s h) at p)))

-- ---- sub-objects of colour

even : (n : ℕ) → (n ≡ 1 → ⊥) → n ≤ 1 → n ≡ 0
even zero o h = refl
even (suc n) o h = absurd (o (omega arith))

module _ {l m : List ℕ} {at n p : ℕ} (v : ℕ) (s : List ℕ) (e : p ≡ place_of v s) (q : Put l at s n m) where
  -- one counter changed
  pub colour_counted : p + 2 ≤ length s → Put l at (count_colour v s) n (set m (at + p + 1) (get_or s (p + 1) 0 + 1))
  colour_counted h =
      let d : at + p + 1 ≡ at + (p + 1) = omega arith in
      rw (counts_at v s (omega (arith, e, h)), ← e, d) (put_inside (p + 1) (get_or s (p + 1) 0 + 1) (omega arith) q)

  -- a lone last byte kept
  pub colour_lone : length s < p + 2 → length s % 2 ≡ 1 → Put l at (count_colour v s) n m
  colour_lone h o = rw (counts_lone v s (omega (arith, e, h)) o) q

  -- a sub-object added
  pub colour_added : length s < p + 2 → (length s % 2 ≡ 1 → ⊥) → Put l at (count_colour v s) (n + 2) (set (set m n (v / 4)) (n + 1) (v % 4 * 64 + 1))
  colour_added h o = rw (counts_behind v s (omega (arith, e, h)) (even (length s % 2) o (omega arith))) (put_append q (put_pair m n (v / 4) (v % 4 * 64 + 1)))

-- there is room for the bytes received, and for two more where a sub-object is added
pub colours_fit : (v : ℕ) (s : List ℕ) → length s ≤ length (count_colour v s)
colours_fit v [] = omega arith
colours_fit v (x ∷ []) = omega arith
colours_fit v (x ∷ y ∷ t) = go (gains_in v x y) (colours_fit v t)
  where
    go : (b : Bool) → length t ≤ length (count_colour v t) → suc (suc (length t)) ≤ length (cond b (x ∷ (y + 1) ∷ t) (x ∷ y ∷ count_colour v t))
    go true ih = omega arith
    go false ih = omega arith

pub added_fit : {p : ℕ} (v : ℕ) (s : List ℕ) → p ≡ place_of v s → length s < p + 2 → (length s % 2 ≡ 1 → ⊥) → length (count_colour v s) ≡ length s + 2
added_fit v s e h o = length_opened v s (omega (arith, e, h)) (even (length s % 2) o (omega arith))

-- a counter that gains one stays in its byte
pub gained_byte : {p : ℕ} (v : ℕ) (s : List ℕ) → p ≡ place_of v s → p + 2 ≤ length s → get_or s (p + 1) 0 ≤ 255 → get_or s (p + 1) 0 + 1 ≤ 255
gained_byte {p} v s e h b = let r : get_or s (p + 1) 0 % 64 < 63 = rw e (room_at v s (omega (arith, e, h))) in omega arith
