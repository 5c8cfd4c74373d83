-- Text that is put into an output: one piece behind another, and how long a number is.
use Rattle.std.proofs.Common.{◌≡◌, refl, sym, ap, ◌∙◌, ℕ, ◌+◌, ◌-◌, ◌*◌, ◌/◌, ◌%◌, ◌≤◌, ◌<◌, Bool, true, false, cond, ltb, List, [], ◌∷◌, ◌++◌, length, take, drop, append_assoc, length-append, length-drop, length-take-le, arith}
use Rattle.std.proofs.lemmas.Slice.{take-put_mid, drop-put_mid}
use borrow.Rule.Slice.PartMut.{put_mid, same_len_mid}
use lib.Seq.{drop-drop}
use borrow.Author.Tests.{ltb-true, ltb-false}
use Rattle.model.specs.Listing.{space, digit, decimal}
use Rattle.listing.specs.Line.{digit_at, number_and}
use Rattle.listing.specs.Puts.{Puts}

-- ---- one piece behind another

-- a piece that is copied into the part that it takes
pub puts_part : (l : List ℕ) (i : ℕ) {xs ys : List ℕ} → ys ≡ xs → i + length xs ≤ length l → Puts l i xs (put_mid i (i + length xs - i) l ys) (i + length xs)
puts_part l i {xs} {ys} e h =
    let k : length ys ≡ i + length xs - i = ap length e ∙ omega arith in
    record {
      reached = refl;
      room = same_len_mid i (i + length xs - i) l ys (k ∙ sym (length-take-le (i + length xs - i) (drop i l) (rw (length-drop i l) (omega arith))));
      text = take-put_mid i (i + length xs - i) l ys (i + length xs) (omega (arith, ap length e)) (omega arith) ∙ ap (λ t. take i l ++ t) e;
      rest = drop-put_mid i (i + length xs - i) l ys (i + length xs) (omega arith) (omega arith) k;
    }

pub puts_append : {l m k xs ys : List ℕ} {i j n : ℕ} → Puts l i xs m j → Puts m j ys k n → Puts l i (xs ++ ys) k n
puts_append {l} {m} {k} {xs} {ys} {i} {j} {n} p q =
    record {
      reached = omega (arith, p.reached, q.reached, length-append xs ys);
      room = q.room ∙ p.room;
      text = q.text ∙ ap (λ t. t ++ ys) p.text ∙ append_assoc (take i l) xs ys;
      rest = q.rest ∙ rw q.reached (sym (drop-drop (length ys) j m) ∙ ap (drop (length ys)) p.rest ∙ drop-drop (length ys) j l);
    }

-- a number and a space, and the rest of a line behind them
pub puts_before : {l m k rest : List ℕ} {i j n : ℕ} (a : ℕ) → Puts l i (number_and a space) m j → Puts m j rest k n → Puts l i (decimal a ++ (space ∷ rest)) k n
puts_before {rest = rest} a p q = rw (append_assoc (decimal a) (space ∷ []) rest) at (puts_append p q)

-- ---- a number

-- its digits, from the first that it reaches
decimal-by_digits : (n : ℕ) → n < 1000 → decimal n ≡ (digit_at n 100 ++ digit_at n 10) ++ (digit (n % 10) ∷ [])
unfolding decimal
decimal-by_digits n h = go (ltb n 10) (ltb n 100) refl refl
  where
    digits_by : (a b : Bool) → List ℕ
    digits_by a b = (cond b [] (digit (n / 100 % 10) ∷ []) ++ cond a [] (digit (n / 10 % 10) ∷ [])) ++ (digit (n % 10) ∷ [])

    written : (a b : Bool) → List ℕ
    written a b = cond a (digit n ∷ []) (cond b (digit (n / 10) ∷ digit (n % 10) ∷ []) (digit (n / 100) ∷ digit (n / 10 % 10) ∷ digit (n % 10) ∷ []))

    go : (a b : Bool) → ltb n 10 ≡ a → ltb n 100 ≡ b → written a b ≡ digits_by a b
    go true true p q = let l = ltb-true n 10 p in ap (λ k. digit k ∷ []) (omega arith)
    go true false p q = absurd (let l = ltb-true n 10 p in let m = ltb-false n 100 q in omega arith)
    go false true p q = let m = ltb-true n 100 q in ap (λ k. digit k ∷ digit (n % 10) ∷ []) (omega arith)
    go false false p q = ap (λ k. digit k ∷ digit (n / 10 % 10) ∷ digit (n % 10) ∷ []) (omega arith)

-- and a byte behind them
pub puts_number : {l m k h o : List ℕ} {i j u v w : ℕ} (n e : ℕ) → n < 1000 → Puts l i (digit_at n 100) m j → Puts m j (digit_at n 10) k u
    → Puts k u (digit (n % 10) ∷ []) h v → Puts h v (e ∷ []) o w → Puts l i (number_and n e) o w
puts_number n e b p q r s = rw (decimal-by_digits n b) (puts_append (puts_append (puts_append p q) r) s)

-- a number has three digits at most, one below 10 and two below 20
pub digits : (n : ℕ) → (length (decimal n) ≤ 3) × (10 * length (decimal n) ≤ 10 + n)
unfolding decimal
digits n = go (ltb n 10) (ltb n 100) refl refl
  where
    written : (a b : Bool) → List ℕ
    written a b = cond a (digit n ∷ []) (cond b (digit (n / 10) ∷ digit (n % 10) ∷ []) (digit (n / 100) ∷ digit (n / 10 % 10) ∷ digit (n % 10) ∷ []))

    go : (a b : Bool) → ltb n 10 ≡ a → ltb n 100 ≡ b → (length (written a b) ≤ 3) × (10 * length (written a b) ≤ 10 + n)
    go true b p q = omega arith
    go false true p q = omega (arith, ltb-false n 10 p)
    go false false p q = omega (arith, ltb-false n 100 q)

-- a number and the byte behind it take four bytes at most
pub puts_short : {l m : List ℕ} {i j : ℕ} (n e : ℕ) → Puts l i (number_and n e) m j → j ≤ i + 4
puts_short n e p = omega (arith, p.reached, length-append (decimal n) (e ∷ []), digits n)
