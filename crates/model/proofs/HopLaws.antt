-- One hop of a chain: the value that is passed on for a field of an aggregated metric that gives no leaf answer.
use mathlib.Core.Path.{◌≡◌, refl, sym, ◌∙◌}
use Prim.Native.Nat.{ℕ, zero, suc, ◌+◌, ◌/◌, ◌%◌, ◌≤◌, min, max}
use native.Mathlib.Omega.{arith}
use mathlib.Core.Bool.{Bool, true, false, cond, not, ◌||◌, true≢false, false≢true}
use mathlib.Core.List.{List, [], ◌∷◌}
use lib.ListN.{length, get_or}
use lib.Dec.{ltb, eqb}
use borrow.Author.Tests.{eqb-true, eqb-false, ltb-true, ltb-false}
use Rattle.std.specs.Prelude.{Some, None}
use Rattle.model.specs.declared.Own.{Own}
use Rattle.model.specs.declared.Neighbour.{Neighbour}
use Rattle.model.specs.Number.{is_set, known_if, is_unknown, any_of}
use Rattle.model.specs.Object.{Object, field_a, Kind, node, scalar, nsa, ne, hp, Scalar, throughput, latency, etx, kind_of, kind, aggregated, role}
use Rattle.model.specs.Table.{row, allowed}
use Rattle.model.specs.Constraint.{link_value}
use Rattle.model.specs.Update.{local_value, combine, most_of, update_object, not_allowed, no_energy, no_value, full_count}
use Rattle.model.specs.Exact.{leaf_tests}
use Rattle.model.specs.RoundTrip.{Bytes}
use Rattle.model.specs.ReadBack.{LinkWithin, Whole}
use Rattle.model.specs.Chain.{Hop, Field, aggregator, overload, energy, hops, link, type_at, value_in, local_at, knows, stopped, together}
use Rattle.model.proofs.BoolLaws.{neither}
use Rattle.model.proofs.ListLaws.{none_at}
use Rattle.model.proofs.ByteLaws.{combine_within, byte_at}
use Rattle.model.proofs.ReadBack.{sent, byte1_sent, flags_sent, energy_sent}
use Rattle.model.proofs.SumLaws.{summed}

-- ---- fields

-- the kind of its metric
abbrev pub kind_at_lem : Field → Kind
kind_at_lem aggregator = node nsa
kind_at_lem overload = node nsa
kind_at_lem energy = node ne
kind_at_lem hops = node hp
kind_at_lem (link s) = scalar s

pub kind_at : (f : Field) (o : Object) → o.type ≡ type_at f → kind o ≡ kind_at_lem f
unfolding kind_of
kind_at aggregator o t = rw t
kind_at overload o t = rw t
kind_at energy o t = rw t
kind_at hops o t = rw t
kind_at (link throughput) o t = rw t
kind_at (link latency) o t = rw t
kind_at (link etx) o t = rw t

-- the largest value that has room
abbrev pub most_in : Field → ℕ
most_in aggregator = 1
most_in overload = 1
most_in energy = 255
most_in hops = 255
most_in (link s) = most_of s

-- one of some numbers that are all at most as large
at_most : (most n : ℕ) (ns : List ℕ) → any_of (λ m. ltb most m) ns ≡ false → any_of (eqb n) ns ≡ true → n ≤ most
at_most most n [] h e = absurd (false≢true e)
at_most most n (m ∷ ms) h e = let (l, k) = neither (ltb most m) _ h in go (eqb n m) refl e (ltb-false most m l) (at_most most n ms k)
  where
    go : (b : Bool) → eqb n m ≡ b → b || any_of (eqb n) ms ≡ true → m ≤ most → (any_of (eqb n) ms ≡ true → n ≤ most) → n ≤ most
    go true q e l r = let d = eqb-true n m q in omega arith
    go false q e l r = r e

-- no row allows an A above 2
low : (f : Field) → any_of (λ m. ltb 2 m) (row (kind_at_lem f)).allows ≡ false
low aggregator = refl
low overload = refl
low energy = refl
low hops = refl
low (link throughput) = refl
low (link latency) = refl
low (link etx) = refl

pub up_to_2 : (f : Field) (a : ℕ) → allowed (kind_at_lem f) a ≡ true → a ≤ 2
up_to_2 f a e = at_most 2 a (row (kind_at_lem f)).allows (low f) e

-- HP's row allows 0 alone
pub only_0 : (a : ℕ) → allowed (kind_at_lem hops) a ≡ true → a ≡ 0
only_0 a e = let l = at_most 0 a (row (kind_at_lem hops)).allows refl e in omega arith

-- a value that has room is not stopped
pub stopped_within : (f : Field) (n : ℕ) → n ≤ most_in f → stopped f n ≡ n
stopped_within aggregator n h = refl
stopped_within overload n h = refl
stopped_within energy n h = refl
stopped_within hops n h = refl
stopped_within (link throughput) n h = refl
stopped_within (link latency) n h = refl
stopped_within (link etx) n h = omega arith

-- the one argument: a value that stops at each hop is the whole value, stopped once
pub stops_once : (f : Field) (a y v : ℕ) → v ≤ most_in f → stopped f (together a (stopped f y) v) ≡ stopped f (together a y v)
stops_once aggregator a y v h = refl
stops_once overload a y v h = refl
stops_once energy a y v h = refl
stops_once hops a y v h = refl
stops_once (link throughput) a y v h = refl
stops_once (link latency) a y v h = refl
stops_once (link etx) zero y v h = omega arith
stops_once (link etx) (suc zero) y v h = omega arith
stops_once (link etx) (suc (suc a)) y v h = omega arith

-- ---- what has room

pub local_within : (f : Field) (h : Hop) → h.own.energy ≤ 255 → LinkWithin h.parent.neighbour → local_at f h ≤ most_in f
local_within aggregator h e l = omega arith
local_within overload h e l = omega arith
local_within energy h e l = e
local_within hops h e l = omega arith
local_within (link throughput) h e l = l.throughput
local_within (link latency) h e l = l.latency
local_within (link etx) h e l = l.etx

pub value_within : (f : Field) (bs : List ℕ) (o : Object) → kind o ≡ kind_at_lem f → Whole bs o → Bytes bs → Bytes o.body
    → value_in f o.body ≤ most_in f
value_within aggregator bs o k w b h = omega arith
value_within overload bs o k w b h = omega arith
value_within energy bs o k w b h = byte_at o.body 1 h
value_within hops bs o k w b h = byte_at o.body 1 h
value_within (link s) bs o k w b h = w.received s k b

-- ---- a metric that gives no leaf answer

-- a number that is not unknown has its bit
known_bit : (b v : ℕ) → is_unknown (known_if b v) ≡ false → is_set b ≡ true
known_bit b v e = go (is_set b) e
  where
    go : (t : Bool) → is_unknown (cond t (Some v) None) ≡ false → t ≡ true
    go true e = refl
    go false e = absurd (true≢false e)

-- a byte other than 255 is below it
below_255 : (n : ℕ) → n ≤ 255 → eqb n 255 ≡ false → n + 1 ≤ 255
below_255 n h e = go (ltb n 255) refl
  where
    go : (b : Bool) → ltb n 255 ≡ b → n + 1 ≤ 255
    go true l = let g = ltb-true n 255 l in omega arith
    go false l = let g = ltb-false n 255 l in absurd (eqb-false n 255 e (omega arith))

module _ (h : Hop) (bs : List ℕ) (o : Object) (r : role o ≡ aggregated) (w : Whole bs o)
    (free : any_of (λ t. t o) (leaf_tests h.own h.parent.neighbour) ≡ false) where
  abbrev own : Own
  own = h.own

  abbrev c : Neighbour
  c = h.parent.neighbour

  -- A is one that the type's row allows
  pub allows : allowed (kind o) (field_a o) ≡ true
  allows =
      let e : not (allowed (kind o) (field_a o)) ≡ false = rw r at (none_at (λ t. t o) (leaf_tests own c) 1 not_allowed free refl) in
      go (allowed (kind o) (field_a o)) e
    where
      go : (b : Bool) → not b ≡ false → b ≡ true
      go true e = refl
      go false e = absurd (true≢false e)

  -- the local value is known
  has_value : is_unknown (local_value own c (kind o)) ≡ false
  has_value =
      let e = rw r at (none_at (λ t. t o) (leaf_tests own c) 2 (no_value own c) free refl) in
      (neither (is_unknown (local_value own c (kind o))) (no_energy (kind o) o.body) e).0

  pub known : (f : Field) → kind o ≡ kind_at_lem f → knows f h ≡ true
  unfolding local_value link_value
  known aggregator k = refl
  known overload k = refl
  known energy k = known_bit (own.flags / 4 % 2) own.energy (rw k at has_value)
  known hops k = refl
  known (link throughput) k = known_bit (c.flags / 32 % 2) c.throughput (rw k at has_value)
  known (link latency) k = known_bit (c.flags / 16 % 2) c.latency (rw k at has_value)
  known (link etx) k = known_bit (c.flags / 8 % 2) c.etx (rw k at has_value)

  link_known : (s : Scalar) → knows (link s) h ≡ true → link_value c s ≡ Some (local_at (link s) h)
  unfolding link_value
  link_known throughput e = rw e
  link_known latency e = rw e
  link_known etx e = rw e

  -- node metrics have two bytes
  two : 1 ≤ o.type → o.type ≤ 3 → 2 ≤ length o.body
  two = w.nodes

  -- the value passed on, combined with the local one
  combined : (f : Field) → o.type ≡ type_at f → value_in f o.body ≤ most_in f → local_at f h ≤ most_in f
      → value_in f (update_object own c o).body ≡ combine (field_a o) (most_in f) (value_in f o.body) (local_at f h)
  unfolding local_value
  combined aggregator t x y = (flags_sent own c o (kind_at aggregator o t) r (two (omega arith) (omega arith))).aggregator
  combined overload t x y = (flags_sent own c o (kind_at overload o t) r (two (omega arith) (omega arith))).overload
  combined energy t x y = energy_sent own c o (kind_at energy o t) r (known energy (kind_at energy o t)) (two (omega arith) (omega arith))
  combined hops t x y = byte1_sent own c o hp (kind_at hops o t) r (two (omega arith) (omega arith))
  combined (link s) t x y =
      let k = kind_at (link s) o t in
      let l = link_known s (known (link s) k) in
      sent own c o s (local_at (link s) h) k r l (w.scalars s k) (field_a o) refl (combine_within (field_a o) (most_of s) _ _ x y)

  -- a sum stops nowhere but for ETX; no other field than the count and the links' is added up
  adds : (f : Field) → o.type ≡ type_at f → value_in f o.body ≤ most_in f → local_at f h ≤ most_in f → field_a o ≡ 0
      → min (most_in f) (value_in f o.body + local_at f h) ≡ stopped f (value_in f o.body + local_at f h)
  adds aggregator t x y a = absurd (false≢true (rw (kind_at aggregator o t, a) at allows))
  adds overload t x y a = absurd (false≢true (rw (kind_at overload o t, a) at allows))
  adds energy t x y a = absurd (false≢true (rw (kind_at energy o t, a) at allows))
  adds hops t x y a =
      let l = below_255 (get_or o.body 1 0) x (rw (r, kind_at hops o t) at (none_at (λ t. t o) (leaf_tests own c) 3 full_count free refl)) in
      omega arith
  adds (link throughput) t x y a = sym (rw a at (combined (link throughput) t x y)) ∙ ((summed own c o free r a w.scalars).throughput t).1
  adds (link latency) t x y a = sym (rw a at (combined (link latency) t x y)) ∙ ((summed own c o free r a w.scalars).latency t).1
  adds (link etx) t x y a = refl

  -- combined is together, stopped
  whole : (f : Field) (a x v : ℕ) → x ≤ most_in f → v ≤ most_in f → (a ≡ 0 → min (most_in f) (x + v) ≡ stopped f (x + v))
      → combine a (most_in f) x v ≡ stopped f (together a x v)
  whole f zero x v l m s = s refl
  whole f (suc zero) x v l m s = sym (stopped_within f (max x v) (omega arith))
  whole f (suc (suc a)) x v l m s = sym (stopped_within f (min x v) (omega arith))

  pub record Passed (f : Field) : Type 0 where
    pub value : value_in f (update_object own c o).body ≡ stopped f (together (field_a o) (value_in f o.body) (local_at f h))
    pub within : value_in f (update_object own c o).body ≤ most_in f

  pub passed : (f : Field) → o.type ≡ type_at f → value_in f o.body ≤ most_in f → local_at f h ≤ most_in f → Passed f
  passed f t x y =
      let e = combined f t x y in
      record {
        value = e ∙ whole f (field_a o) _ _ x y (adds f t x y);
        within = rw e (combine_within (field_a o) (most_in f) _ _ x y);
      }
