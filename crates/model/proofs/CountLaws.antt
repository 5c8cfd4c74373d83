-- Recorded LQL and colours: the link's value is counted among the sub-objects.
use mathlib.Core.Path.{◌≡◌, refl, sym, ap, ◌∙◌}
use Prim.Native.Nat.{ℕ, zero, suc, ◌+◌, ◌-◌, ◌*◌, ◌/◌, ◌%◌, ◌≤◌}
use native.Mathlib.Omega.{arith}
use mathlib.Core.Bool.{Bool, true, false, cond, ◌&&◌, true≢false}
use mathlib.Core.List.{List, [], ◌∷◌}
use mathlib.Core.Logic.{◌⊎◌, inl, inr}
use mathlib.Core.Option.{some, none-ne-some}
use lib.ListN.{length, get_elem?}
use lib.Dec.{leb, ltb, eqb}
use borrow.Author.Tests.{eq-eqb, eqb-true, ltb-true, ltb-false, leb-true}
use Rattle.model.specs.Object.{lql, colour, kind_of, kind}
use Rattle.model.specs.Table.{Row, row}
use Rattle.model.specs.Reading.{recorded_shape}
use Rattle.model.specs.Constraint.{colour_in}
use Rattle.model.specs.Update.{count_level, counted_body, count_colour, coloured_body, recorded_body, update_object}
use Rattle.model.specs.Counters.{Counter, counter, levels, colours, Gains, Opens, Counts, CountsLevel, CountsColour, RecordsWhole}
use Rattle.model.proofs.BoolLaws.{both}
use Rattle.model.proofs.RunLaws.{run_objects_lem}
use Rattle.model.proofs.TabledLaws.{at_tabled}
use Rattle.model.proofs.ShapeLaws.{colours_even}

-- ---- among sub-objects

-- a sub-object of this value whose counter has room
abbrev has_room : (full v : ℕ) → Counter → Bool
has_room full v s = eqb s.value v && ltb s.count full

-- the first such gains one, else the value with counter 1 is added at the end
abbrev count_in : (full v : ℕ) → List Counter → List Counter
count_in full v [] = counter v 1 ∷ []
count_in full v (s ∷ ss) = cond (has_room full v s) (counter v (s.count + 1) ∷ ss) (s ∷ count_in full v ss)

-- one of this value without room is full
is_full : (full v : ℕ) (s : Counter) (n : ℕ) → has_room full v s ≡ false → s ≡ counter v n → full ≤ n
is_full full v s n e q = go (ltb n full) refl
  where
    go : (b : Bool) → ltb n full ≡ b → full ≤ n
    go false p = ltb-false n full p
    go true p =
        let h : eqb v v && ltb n full ≡ false = rw q at e in
        let k : eqb v v && ltb n full ≡ true = rw (eq-eqb v v refl, p) in
        absurd (true≢false (sym k ∙ h))

-- what is full behind one without room
at_next : (s : Counter) (ss : List Counter) (full v : ℕ) → has_room full v s ≡ false
    → (i n : ℕ) → get_elem? (s ∷ ss) i ≡ some (counter v n) → ((j : ℕ) → i ≡ suc j → get_elem? ss j ≡ some (counter v n) → full ≤ n) → full ≤ n
at_next s ss full v e zero n q f = let w : s ≡ counter v n = cc in is_full full v s n e w
at_next s ss full v e (suc j) n q f = f j refl q

gains_next : (full v : ℕ) (s : Counter) (ss ts : List Counter) → has_room full v s ≡ false → Gains full v ss ts → Gains full v (s ∷ ss) (s ∷ ts)
gains_next full v s ss ts e g = record {
  index = suc g.index;
  count = g.count;
  stands = g.stands;
  room = g.room;
  first = λ i n h q. at_next s ss full v e i n q (λ j w p. g.first j n (omega arith) p);
  gained = ap (λ l. s ∷ l) g.gained;
}

opens_next : (full v : ℕ) (s : Counter) (ss ts : List Counter) → has_room full v s ≡ false → Opens full v ss ts → Opens full v (s ∷ ss) (s ∷ ts)
opens_next full v s ss ts e g =
    record { no_room = λ i n q. at_next s ss full v e i n q (λ j w p. g.no_room j n p); opened = ap (λ l. s ∷ l) g.opened }

counted_in : (full v : ℕ) (ss : List Counter) → Gains full v ss (count_in full v ss) ⊎ Opens full v ss (count_in full v ss)
counted_in full v [] = inr (record { no_room = λ i n q. absurd (none-ne-some (counter v n) q); opened = refl })
counted_in full v (s ∷ ss) = go (has_room full v s) refl (counted_in full v ss)
  where
    after : Bool → List Counter
    after b = cond b (counter v (s.count + 1) ∷ ss) (s ∷ count_in full v ss)

    go : (b : Bool) → has_room full v s ≡ b → Gains full v ss (count_in full v ss) ⊎ Opens full v ss (count_in full v ss)
        → Gains full v (s ∷ ss) (after b) ⊎ Opens full v (s ∷ ss) (after b)
    go true e ih =
        let (p, q) = both (eqb s.value v) (ltb s.count full) e in
        let w = eqb-true s.value v p in
        inl (record {
          index = 0;
          count = s.count;
          stands = ap (λ x. some (counter x s.count)) w;
          room = ltb-true s.count full q;
          first = λ i n h k. absurd (omega arith);
          gained = refl;
        })
    go false e (inl g) = inl (gains_next full v s ss (count_in full v ss) e g)
    go false e (inr g) = inr (opens_next full v s ss (count_in full v ss) e g)

-- ---- bytes of LQL

levels_counted : (v : ℕ) (t : List ℕ) → levels (count_level v t) ≡ count_in 31 v (levels t)
levels_counted v [] =
    let a : (v * 32 + 1) / 32 ≡ v = omega arith in
    let b : (v * 32 + 1) % 32 ≡ 1 = omega arith in
    rw (a, b)
levels_counted v (x ∷ t) = go (eqb (x / 32) v && ltb (x % 32) 31) refl (levels_counted v t)
  where
    go : (b : Bool) → eqb (x / 32) v && ltb (x % 32) 31 ≡ b → levels (count_level v t) ≡ count_in 31 v (levels t)
        → levels (cond b ((x + 1) ∷ t) (x ∷ count_level v t)) ≡ cond b (counter v (x % 32 + 1) ∷ levels t) (counter (x / 32) (x % 32) ∷ count_in 31 v (levels t))
    go true e ih =
        let (p, q) = both (eqb (x / 32) v) (ltb (x % 32) 31) e in
        let w = eqb-true (x / 32) v p in
        let u = ltb-true (x % 32) 31 q in
        let a : (x + 1) / 32 ≡ v = omega arith in
        let d : (x + 1) % 32 ≡ x % 32 + 1 = omega arith in
        rw (a, d)
    go false e ih = rw ih

counted_body_lem : (v : ℕ) (b : List ℕ) → 2 ≤ length b → Counts 31 v levels b (counted_body v b)
counted_body_lem v [] h = absurd (omega arith)
counted_body_lem v (x ∷ t) h = record { reserved = refl; counted = rw (levels_counted v t) (counted_in 31 v (levels t)) }

pub counts_level : CountsLevel
unfolding kind_of update_object recorded_body
counts_level own c o t r h = let k : kind o ≡ lql = rw t in rw (k, r) (counted_body_lem c.lql o.body h)

-- ---- bytes of colours

colours_counted : (v : ℕ) (t : List ℕ) → length t % 2 ≡ 0 → colours (count_colour v t) ≡ count_in 63 v (colours t)
colours_counted v [] h =
    let a : v / 4 * 4 + (v % 4 * 64 + 1) / 64 ≡ v = omega arith in
    let b : (v % 4 * 64 + 1) % 64 ≡ 1 = omega arith in
    rw (a, b)
colours_counted v (x ∷ []) h = absurd (omega arith)
colours_counted v (x ∷ y ∷ t) h = go (eqb (colour_in x y) v && ltb (y % 64) 63) refl (colours_counted v t (omega arith))
  where
    go : (b : Bool) → eqb (colour_in x y) v && ltb (y % 64) 63 ≡ b → colours (count_colour v t) ≡ count_in 63 v (colours t)
        → colours (cond b (x ∷ (y + 1) ∷ t) (x ∷ y ∷ count_colour v t)) ≡ cond b (counter v (y % 64 + 1) ∷ colours t) (counter (colour_in x y) (y % 64) ∷ count_in 63 v (colours t))
    go true e ih =
        let (p, q) = both (eqb (colour_in x y) v) (ltb (y % 64) 63) e in
        let w = eqb-true (colour_in x y) v p in
        let u = ltb-true (y % 64) 63 q in
        let a : x * 4 + (y + 1) / 64 ≡ v = omega arith in
        let d : (y + 1) % 64 ≡ y % 64 + 1 = omega arith in
        rw (a, d)
    go false e ih = rw ih

coloured_body_lem : (v : ℕ) (b : List ℕ) → length b % 2 ≡ 1 → Counts 63 v colours b (coloured_body v b) × (length (coloured_body v b) % 2 ≡ 1)
coloured_body_lem v [] h = absurd (omega arith)
coloured_body_lem v (x ∷ t) h =
    let e = (colours_even v t (omega arith)).0 in
    (record { reserved = refl; counted = rw (colours_counted v t (omega arith)) (counted_in 63 v (colours t)) }, omega (arith, e))

pub counts_colour : CountsColour
unfolding kind_of update_object recorded_body
counts_colour own c o t r h = let k : kind o ≡ colour = rw t in rw (k, r) (coloured_body_lem c.colour o.body h)

-- ---- in a well-formed container

-- the bytes of a body that is as tabled
series_of : (s : Row) (b : List ℕ) → recorded_shape s b ≡ true → (s.lead + s.size ≤ length b) × ((length b - s.lead) % s.size ≡ 0)
series_of s b e =
    let (p, q) = both (leb (s.lead + s.size) (length b)) (eqb ((length b - s.lead) % s.size) 0) e in
    (leb-true (s.lead + s.size) (length b) p, eqb-true ((length b - s.lead) % s.size) 0 q)

pub records_whole : RecordsWhole
unfolding kind_of
records_whole bs os i o w e r = (
  λ t.
      let k : kind o ≡ lql = rw t in
      let shape : recorded_shape (row lql) o.body ≡ true = rw (r, k) at (at_tabled os i o (run_objects_lem bs os w).no_bar e (rw k)) in
      (series_of (row lql) o.body shape).0,
  λ t.
      let k : kind o ≡ colour = rw t in
      let shape : recorded_shape (row colour) o.body ≡ true = rw (r, k) at (at_tabled os i o (run_objects_lem bs os w).no_bar e (rw k)) in
      let (p, q) = series_of (row colour) o.body shape in
      (p, omega (arith, p, q)),
)
