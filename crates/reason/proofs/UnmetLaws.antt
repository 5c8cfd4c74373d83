-- Bar 19: what was found breaks what a constraint asks that is not met, by its type, and what it says of a flag holds.
use mathlib.Core.Path.{◌≡◌, refl}
use Prim.Native.Nat.{ℕ, ◌+◌, ◌/◌, ◌%◌}
use native.Mathlib.Omega.{arith}
use mathlib.Core.Bool.{Bool, true, false, cond, not, ◌&&◌, ◌||◌, false≢true, true≢false}
use mathlib.Core.List.{List, []}
use mathlib.Core.Option.{some}
use lib.ListN.{get_or, get_elem?}
use lib.Dec.{leb, ltb, eqb}
use borrow.Author.Tests.{ltb-false, leb-false, lt-ltb, le-leb, eqb-false, not-true, not-false}
use Rattle.model.specs.Number.{Quantity}
use Rattle.std.specs.Prelude.{Some, None}
use Rattle.model.specs.declared.Summary.{Summary}
use Rattle.model.specs.declared.Neighbour.{Neighbour}
use Rattle.model.specs.Number.{is_set, known_if, satisfies, number, first_of}
use Rattle.model.specs.Object.{Object, throughput, nsa, kind_of, node, kind, known, standings}
use Rattle.model.specs.Table.{row}
use Rattle.model.specs.Reading.{fixed_shape, object_bar}
use Rattle.model.specs.Constraint.{is_aggregator, is_overloaded, link_value, summary, energy_in, met_included, met_excluded, met_ne, met_colour, has_all, colour_in, met, mandatory, unmet}
use Rattle.model.proofs.BoolLaws.{both}
use Rattle.model.proofs.TypeLaws.{by_type}
use Rattle.model.proofs.TabledLaws.{whole_of, at_tabled}
use Rattle.model.proofs.ConstraintLaws.{mandatory_fixed}
use Rattle.wire.proofs.NumberLaws.{number_in_lem}
use Rattle.reason.specs.declared.findings.Finding.{Finding}
use Rattle.reason.specs.Finding.{finding, nsa_finding, energy_finding, ne_finding, hops_finding, throughput_finding, limit_finding, level_finding, colour_finding, asked_with, object_finding}
use Rattle.reason.specs.Breaks.{breaks, holds_of}

-- ---- tests

-- what is not below reaches it, and what does not reach is below
not_below : (a b : ℕ) → ltb a b ≡ false → leb b a ≡ true
not_below a b e = le-leb b a (ltb-false a b e)

not_reached : (a b : ℕ) → leb a b ≡ false → ltb b a ≡ true
not_reached a b e = lt-ltb b a (leb-false a b e)

-- one of two findings, by a test
by_test : (P : Finding → Type 0) (t : Bool) (f g : Finding) → (t ≡ true → P f) → (t ≡ false → P g) → P (cond t f g)
by_test P true f g h k = h refl
by_test P false f g h k = k refl

-- neither is unset
both_set : (o v : Bool) → not o || not v ≡ false → o && v ≡ true
both_set true v h = not-false v h
both_set false v h = absurd (true≢false h)

-- NSA that is not met, and not for want of an aggregator
overloaded : (a g o v : Bool) → a && not g ≡ false → (not a || g) && (not o || not v) ≡ false → o && v ≡ true
overloaded true false o v k h = absurd (true≢false k)
overloaded true true o v k h = both_set o v h
overloaded false g o v k h = both_set o v h

module _ (c : Neighbour) (s : Summary) (b : List ℕ) where
  -- it breaks what was asked, and what its way says holds
  abbrev pub Right : Finding → Type 0
  Right f = (breaks f ≡ true) × (holds_of c s b f ≡ true)

  -- ---- each type

  -- NSA: a flag, whichever
  nsa_right : met c s (node nsa) b ≡ false → Right (nsa_finding c.flags (get_or b 1 0))
  unfolding breaks holds_of met nsa_finding
  nsa_right h =
      let a = get_or b 1 0 in
      by_test Right (is_set (a / 2 % 2) && not (is_aggregator c.flags)) (finding 15 0 0 0) (finding 16 0 0 0) (λ k. (refl, k))
      (λ k. (refl, overloaded (is_set (a / 2 % 2)) (is_aggregator c.flags) (is_set (a % 2)) (is_overloaded c.flags) k h))

  -- NE: the type, or the energy, by I
  abbrev energy : Quantity
  energy = energy_in c.flags c.energy

  included_right : (type limit : ℕ) (t e : Bool) → eqb c.nodetype type ≡ t → met_included t e energy limit ≡ false
      → Right (cond t (energy_finding c 18 19 type limit) (finding 17 0 type c.nodetype))
  unfolding breaks holds_of energy_finding
  included_right type limit true true q h =
      by_test Right (is_set (c.flags / 4 % 2)) (finding 18 type limit c.energy) (finding 19 type limit 0)
      (λ k. (not_below limit c.energy (rw k at h), refl)) (λ k. (refl, rw k))
  included_right type limit true false q h = absurd (true≢false h)
  included_right type limit false e q h = (rw q, refl)

  excluded_right : (type limit : ℕ) (t e : Bool) → eqb c.nodetype type ≡ t → met_excluded t e energy limit ≡ false
      → Right (cond e (energy_finding c 21 22 type limit) (finding 20 0 type c.nodetype))
  unfolding breaks holds_of energy_finding
  excluded_right type limit true true q h =
      by_test Right (is_set (c.flags / 4 % 2)) (finding 21 type limit c.energy) (finding 22 type limit 0)
      (λ k. (not-false (ltb c.energy limit) (rw k at h), refl)) (λ k. (refl, rw k))
  excluded_right type limit true false q h = (q, refl)
  excluded_right type limit false e q h = absurd (true≢false h)

  ne_right : (f limit : ℕ) → met_ne c.nodetype energy f limit ≡ false → Right (ne_finding c f limit)
  unfolding ne_finding
  ne_right f limit h =
      by_test Right (is_set (f / 8 % 2)) _ _
      (λ i. included_right (f / 2 % 4) limit (eqb c.nodetype (f / 2 % 4)) (is_set (f % 2)) refl (rw i at h))
      (λ i. excluded_right (f / 2 % 4) limit (eqb c.nodetype (f / 2 % 4)) (is_set (f % 2)) refl (rw i at h))

  -- HP
  hops_right : (limit : ℕ) → satisfies (λ v. ltb v limit) s.hops ≡ false → Right (hops_finding s.hops limit)
  unfolding breaks holds_of
  hops_right limit h = go s.hops refl h
    where
      go : (q : Quantity) → s.hops ≡ q → satisfies (λ v. ltb v limit) q ≡ false → Right (hops_finding q limit)
      go (Some v) e h = (not_below v limit h, refl)
      go None e h = (refl, rw e)

  -- throughput
  throughput_right : (n : ℕ) → satisfies (λ v. leb n v) (link_value c throughput) ≡ false → Right (throughput_finding c n)
  unfolding breaks holds_of throughput_finding link_value
  throughput_right n h =
      by_test Right (is_set (c.flags / 32 % 2)) (finding 25 0 n c.throughput) (finding 26 0 n 0)
      (λ k. (not_reached n c.throughput (rw k at h), refl)) (λ k. (refl, rw k))

  -- latency and ETX: of the ways of each, the first two ask for at most so much, and the third tells of a value that is not known
  abbrev AtMost : (way : ℕ) → Type 0
  AtMost w = (x y z : ℕ) → ltb y z ≡ true → Right (finding w x y z)

  abbrev NotKnown : (way bit : ℕ) → Type 0
  NotKnown w bit = (x y z : ℕ) → is_set bit ≡ false → Right (finding w x y z)

  limit_right : (w r n bit v : ℕ) → AtMost w → AtMost (w + 1) → NotKnown (w + 2) bit
      → satisfies (λ v. leb (r + v) n) (known_if bit v) ≡ false → Right (limit_finding w r n bit v)
  unfolding limit_finding
  limit_right w r n bit v alone path unknown h = by_test Right (is_set bit) _ _ known (unknown r n 0)
    where
      known : is_set bit ≡ true → Right (cond (eqb r 0) (finding w r n (r + v)) (finding (w + 1) r n (r + v)))
      known k =
          let over = not_reached (r + v) n (rw k at h) in
          by_test Right (eqb r 0) _ _ (λ z. alone r n (r + v) over) (λ z. path r n (r + v) over)

  -- LQL
  level_right : (a : ℕ) → leb 1 c.lql && leb c.lql (a / 32) ≡ false → Right (level_finding c a)
  unfolding breaks holds_of level_finding
  level_right a h =
      by_test Right (eqb c.lql 0) (finding 34 0 (a / 32) 0) (finding 33 0 (a / 32) c.lql) (λ z. (refl, z))
      (λ z. let n = eqb-false c.lql 0 z in (not_reached c.lql (a / 32) (rw (le-leb 1 c.lql (omega arith)) at h), refl))

  -- colour
  colour_right : (x y : ℕ) → met_colour c.colour x y ≡ false → Right (colour_finding c x y)
  unfolding breaks holds_of colour_finding
  colour_right x y h =
      let asked = colour_in x y in
      by_test Right (is_set (y % 2)) (finding 35 0 asked c.colour) (finding 36 0 asked c.colour)
      (λ i. let lacks : has_all 10 asked c.colour ≡ false = rw i at h in (rw lacks, refl))
      (λ i. (not-false (has_all 10 asked c.colour) (rw i at h), refl))

  -- ---- every type

  abbrev Asked : (type : ℕ) → Type 0
  Asked t = known (kind_of t) ≡ true → fixed_shape (row (kind_of t)) b ≡ true → met c s (kind_of t) b ≡ false
      → Right (asked_with c (hops_finding s.hops (get_or b 1 0)) s.latency s.etx t b)

  asked_latency : Asked 5
  unfolding breaks holds_of kind_of link_value met asked_with
  asked_latency k f h =
      let e = number_in_lem 4 b (whole_of (row (kind_of 5)) b refl f) in
      rw e (limit_right 27 s.latency (number b) (c.flags / 16 % 2) c.latency
      (λ x y z o. (o, refl)) (λ x y z o. (o, refl)) (λ x y z k. (refl, rw k)) h)

  asked_etx : Asked 7
  unfolding breaks holds_of kind_of link_value met asked_with
  asked_etx k f h =
      let e = number_in_lem 2 b (whole_of (row (kind_of 7)) b refl f) in
      rw e (limit_right 30 s.etx (number b) (c.flags / 8 % 2) c.etx
      (λ x y z o. (o, refl)) (λ x y z o. (o, refl)) (λ x y z k. (refl, rw k)) h)

  asked_right : (t : ℕ) → Asked t
  unfolding kind_of met asked_with
  asked_right =
      by_type Asked (λ k f h. absurd (false≢true k))
      (λ k f h. nsa_right h)
      (λ k f h. ne_right (get_or b 0 0) (get_or b 1 0) h)
      (λ k f h. hops_right (get_or b 1 0) h)
      (λ k f h. rw (number_in_lem 4 b (whole_of (row (kind_of 4)) b refl f)) (throughput_right (number b) h))
      asked_latency
      (λ k f h. level_right (get_or b 1 0) h)
      asked_etx
      (λ k f h. colour_right (get_or b 1 0) (get_or b 2 0) h)
      (λ t p k f h. absurd (false≢true (rw p.kind at k)))

-- an object at which bar 19 holds, where none of 15 to 17 does
pub unmet_right : (c : Neighbour) (os : List Object) (i : ℕ) (o : Object) → first_of object_bar (standings [] os) ≡ 0
    → get_elem? os i ≡ some o → unmet c (summary os) o ≡ true
    → Right c (summary os) o.body (object_finding c (summary os) (get_elem? os i))
unmet_right c os i o z e u =
    let s = summary os in
    let (m, n) = both (mandatory o && known (kind o)) (not (met c s (kind o) o.body)) u in
    let (a, k) = both (mandatory o) (known (kind o)) m in
    let f = mandatory_fixed o a (at_tabled os i o z e k) in
    rw e (asked_right c s o.body o.type k f (not-true (met c s (kind o) o.body) n))
