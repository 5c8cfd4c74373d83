-- Demand 1: each number is given exactly when its condition holds and none before it in document 01's order does.
use Rattle.std.specs.Prelude.{◌≡◌, ℕ, ◌+◌, ◌/◌, ◌%◌, ◌≤◌, ◌<◌, Bool, true, false, ◌&&◌, ◌||◌, List, [], ◌∷◌, ◌++◌, map, ◌↔◌, length, get_or, replicate, leb, ltb, eqb}
use Rattle.std.proofs.Math.Option.{some}
use Rattle.std.proofs.Math.ListN.{get_elem?}
use Rattle.model.specs.declared.Offer.{Offer}
use Rattle.model.specs.declared.Answer.{Answer}
use Rattle.model.specs.declared.Own.{Own}
use Rattle.model.specs.declared.Neighbour.{Neighbour}
use Rattle.model.specs.declared.Candidate.{Candidate}
use Rattle.model.specs.Verdict.{Verdict}
use Rattle.model.specs.Verdict.{Unbarred, Barred}
use Rattle.model.specs.Number.{is_set, any_of, number}
use Rattle.model.specs.Object.{Object, bit_o, bit_c, bit_r, field_a, Standing, standings, kind_of, known}
use Rattle.model.specs.Table.{row}
use Rattle.model.specs.Cut.{may_have_tlvs}
use Rattle.model.specs.Reading.{Reading, refused, well_formed, reading, no_place, misframed, runs_past, malformed, repeated, misused}
use Rattle.model.specs.Run.{option_cut, ninth_container, object_cut, read_run}
use Rattle.model.specs.Constraint.{summary, unknown_mandatory, unmet}
use Rattle.model.specs.Rank.{infinite, rank_too_high, above_lowest}
use Rattle.model.specs.Verdict.{bad_numbers, offer_of, run_of, outside, verdict}
use Rattle.model.specs.Update.{unknown_aggregated, not_allowed, no_value, full_count, overflows, too_long}
use Rattle.model.specs.Choice.{bad_own, too_many, current_past, short_output, bad_edition, no_parent, call}
use Rattle.model.specs.Conditions.{some_has, objects_in, container_objects, object_bars, constraint_bars, bars_to_14, bars_to_17, bars_to_19, bars_to_21}
use Rattle.model.specs.Selection.{PreferredParent}

-- none of some conditions holds
abbrev pub NoneOf : List Bool → Type 0
NoneOf bs = any_of (λ b. b) bs ≡ false

-- a condition holds, and none of those before it does
abbrev pub FirstToHold : (before : List Bool) → Bool → Type 0
FirstToHold before b = NoneOf before × (b ≡ true)

-- the first element with a property of the group stands at an index; it has this property, and none of those of a lower number
pub record FirstWith {A : Type 0} (xs : List A) (group lower : List (A → Bool)) (property : A → Bool) (index : ℕ) : Type 0 where
  pub element : A
  pub stands : get_elem? xs index ≡ some element
  pub has : FirstToHold (map (λ t. t element) lower) (property element)
  pub clear : (i : ℕ) (x : A) → i < index → get_elem? xs i ≡ some x → any_of (λ t. t x) group ≡ false

-- ---- refusals 1 to 5

-- `given`: the refusal that a call reports
pub record RefusalExact (own : Own) (count room given : ℕ) : Type 0 where
  pub refusal_1 : (given ≡ 1) ↔ FirstToHold [] (bad_own own)
  pub refusal_2 : (given ≡ 2) ↔ FirstToHold (bad_own own ∷ []) (too_many count)
  pub refusal_3 : (given ≡ 3) ↔ FirstToHold (bad_own own ∷ too_many count ∷ []) (current_past own count)
  pub refusal_4 : (given ≡ 4) ↔ FirstToHold (bad_own own ∷ too_many count ∷ current_past own count ∷ []) (short_output room)
  pub refusal_5 : (given ≡ 5) ↔ FirstToHold (bad_own own ∷ too_many count ∷ current_past own count ∷ short_output room ∷ []) (bad_edition own)
  pub unrefused : (given ≡ 0) ↔ NoneOf (bad_own own ∷ too_many count ∷ current_past own count ∷ short_output room ∷ bad_edition own ∷ [])

-- of every call
abbrev pub RefusalsExact : Type 0
RefusalsExact = (own : Own) (cs : List Candidate) (lent out : List ℕ) → RefusalExact own (length cs) (length out) (call own cs lent out).answer.refusal

-- a refused call: no parent, no rank, all verdicts 0, no bits, count 0, length 0
pub record RefusedAnswer (a : Answer) : Type 0 where
  pub parent : a.parent ≡ no_parent
  pub rank : a.rank.0 ≡ infinite
  pub verdicts : a.verdicts ≡ replicate 16 0
  pub places : a.places ≡ replicate 16 no_place
  pub bits : a.bits ≡ 0
  pub count : a.count ≡ 0
  pub leaf : a.leaf ≡ 0
  pub size : a.size ≡ 0

-- of every refused call
abbrev pub RefusedAnswers : Type 0
RefusedAnswers = (own : Own) (cs : List Candidate) (lent out : List ℕ) → ((call own cs lent out).answer.refusal ≡ 0 → ⊥) → RefusedAnswer (call own cs lent out).answer

-- ---- bars 11 to 23

-- bars 15 to 17 at the object of an index
abbrev pub BarAt : Own → (lent : List ℕ) → Candidate → (lower : List (Standing → Bool)) → (Standing → Bool) → (place : ℕ) → Type 0
BarAt own lent c lower bar place = NoneOf (bars_to_14 own lent c) × FirstWith (standings [] (objects_in (run_of lent c))) object_bars lower bar place

-- bars 18 and 19 at the object of an index
abbrev pub ConstraintAt : Own → (lent : List ℕ) → Candidate → (lower : List (Object → Bool)) → (Object → Bool) → (place : ℕ) → Type 0
ConstraintAt own lent c lower bar place =
    NoneOf (bars_to_17 own lent c)
    × FirstWith (objects_in (run_of lent c)) (constraint_bars c.neighbour (summary (objects_in (run_of lent c)))) lower bar place

-- bars 15 to 17 in a container by itself
abbrev pub ReadingAt : List ℕ → (lower : List (Standing → Bool)) → (Standing → Bool) → (place : ℕ) → Type 0
ReadingAt bs lower bar place = NoneOf (misframed bs ∷ runs_past bs ∷ []) × FirstWith (standings [] (container_objects bs)) object_bars lower bar place

-- bars 15 to 17 in a run by itself
abbrev pub RunAt : List ℕ → (lower : List (Standing → Bool)) → (Standing → Bool) → (place : ℕ) → Type 0
RunAt bs lower bar place = NoneOf (option_cut bs ∷ ninth_container bs ∷ object_cut bs ∷ []) × FirstWith (standings [] (objects_in bs)) object_bars lower bar place

-- when each bar is given, and when none is
module _ (own : Own) (lent : List ℕ) (c : Candidate) where
  abbrev pub When11 : Type 0
  When11 = FirstToHold [] (bad_numbers own c.neighbour)

  abbrev pub When12 : Type 0
  When12 = FirstToHold (bad_numbers own c.neighbour ∷ []) (outside lent c)

  abbrev pub When22 : Type 0
  When22 = FirstToHold (bad_numbers own c.neighbour ∷ outside lent c ∷ []) (option_cut (run_of lent c))

  abbrev pub When23 : Type 0
  When23 = FirstToHold (bad_numbers own c.neighbour ∷ outside lent c ∷ option_cut (run_of lent c) ∷ []) (ninth_container (run_of lent c))

  abbrev pub When14 : Type 0
  When14 = FirstToHold (bad_numbers own c.neighbour ∷ outside lent c ∷ option_cut (run_of lent c) ∷ ninth_container (run_of lent c) ∷ []) (object_cut (run_of lent c))

  abbrev pub When15 : (place : ℕ) → Type 0
  When15 = BarAt own lent c [] malformed

  abbrev pub When16 : (place : ℕ) → Type 0
  When16 = BarAt own lent c (malformed ∷ []) repeated

  abbrev pub When17 : (place : ℕ) → Type 0
  When17 = BarAt own lent c (malformed ∷ repeated ∷ []) misused

  abbrev pub When18 : (place : ℕ) → Type 0
  When18 = ConstraintAt own lent c [] unknown_mandatory

  abbrev pub When19 : (place : ℕ) → Type 0
  When19 = ConstraintAt own lent c (unknown_mandatory ∷ []) (unmet c.neighbour (summary (objects_in (run_of lent c))))

  abbrev pub When20 : Type 0
  When20 = FirstToHold (bars_to_19 own lent c) (rank_too_high own c.neighbour)

  abbrev pub When21 : Type 0
  When21 = FirstToHold (bars_to_19 own lent c ++ (rank_too_high own c.neighbour ∷ [])) (above_lowest own c.neighbour)

  abbrev pub WhenUnbarred : Type 0
  WhenUnbarred = NoneOf (bars_to_21 own lent c)

-- `given`: the verdict on a candidate, with the place of the barring object
pub record VerdictExact (own : Own) (lent : List ℕ) (c : Candidate) (given : Verdict) : Type 0 where
  pub verdict_11 : (given ≡ Barred 11 no_place) ↔ When11 own lent c
  pub verdict_12 : (given ≡ Barred 12 no_place) ↔ When12 own lent c
  pub verdict_22 : (given ≡ Barred 22 no_place) ↔ When22 own lent c
  pub verdict_23 : (given ≡ Barred 23 no_place) ↔ When23 own lent c
  pub verdict_14 : (given ≡ Barred 14 no_place) ↔ When14 own lent c
  pub verdict_15 : (place : ℕ) → (given ≡ Barred 15 place) ↔ When15 own lent c place
  pub verdict_16 : (place : ℕ) → (given ≡ Barred 16 place) ↔ When16 own lent c place
  pub verdict_17 : (place : ℕ) → (given ≡ Barred 17 place) ↔ When17 own lent c place
  pub verdict_18 : (place : ℕ) → (given ≡ Barred 18 place) ↔ When18 own lent c place
  pub verdict_19 : (place : ℕ) → (given ≡ Barred 19 place) ↔ When19 own lent c place
  pub verdict_20 : (given ≡ Barred 20 no_place) ↔ When20 own lent c
  pub verdict_21 : (given ≡ Barred 21 no_place) ↔ When21 own lent c
  pub unbarred : (r : Offer) → (given ≡ Unbarred r) ↔ (WhenUnbarred own lent c × (r ≡ offer_of own c.neighbour))

-- of every candidate
abbrev pub VerdictsExact : Type 0
VerdictsExact = (own : Own) (lent : List ℕ) (c : Candidate) → VerdictExact own lent c (verdict own lent c)

-- `given`: the verdict number that a call reports at a candidate's position
pub record BarExact (own : Own) (lent : List ℕ) (c : Candidate) (given : ℕ) : Type 0 where
  pub bar_11 : (given ≡ 11) ↔ When11 own lent c
  pub bar_12 : (given ≡ 12) ↔ When12 own lent c
  pub bar_22 : (given ≡ 22) ↔ When22 own lent c
  pub bar_23 : (given ≡ 23) ↔ When23 own lent c
  pub never_13 : given ≡ 13 → ⊥
  pub bar_14 : (given ≡ 14) ↔ When14 own lent c
  pub bar_15 : (given ≡ 15) ↔ ((place : ℕ) × When15 own lent c place)
  pub bar_16 : (given ≡ 16) ↔ ((place : ℕ) × When16 own lent c place)
  pub bar_17 : (given ≡ 17) ↔ ((place : ℕ) × When17 own lent c place)
  pub bar_18 : (given ≡ 18) ↔ ((place : ℕ) × When18 own lent c place)
  pub bar_19 : (given ≡ 19) ↔ ((place : ℕ) × When19 own lent c place)
  pub bar_20 : (given ≡ 20) ↔ When20 own lent c
  pub bar_21 : (given ≡ 21) ↔ When21 own lent c
  pub no_bar : (given ≡ 10) ↔ WhenUnbarred own lent c

-- of every candidate of every call that is not refused
abbrev pub BarsExact : Type 0
BarsExact = (own : Own) (cs : List Candidate) (lent out : List ℕ) → (call own cs lent out).answer.refusal ≡ 0
    → (i : ℕ) (c : Candidate) → get_elem? cs i ≡ some c → BarExact own lent c (get_or (call own cs lent out).answer.verdicts i 0)

-- `given`: what reading a container by itself gives, as the listing does; bars 13 to 17
pub record ReadingExact (bs : List ℕ) (given : Reading) : Type 0 where
  pub reading_13 : (given ≡ refused 13 no_place) ↔ FirstToHold [] (misframed bs)
  pub reading_14 : (given ≡ refused 14 no_place) ↔ FirstToHold (misframed bs ∷ []) (runs_past bs)
  pub reading_15 : (place : ℕ) → (given ≡ refused 15 place) ↔ ReadingAt bs [] malformed place
  pub reading_16 : (place : ℕ) → (given ≡ refused 16 place) ↔ ReadingAt bs (malformed ∷ []) repeated place
  pub reading_17 : (place : ℕ) → (given ≡ refused 17 place) ↔ ReadingAt bs (malformed ∷ repeated ∷ []) misused place
  pub well_formed : (os : List Object) → (given ≡ well_formed os)
      ↔ (NoneOf (misframed bs ∷ runs_past bs ∷ some_has object_bars (standings [] (container_objects bs)) ∷ []) × (container_objects bs ≡ os))

-- of any bytes
abbrev pub ReadingsExact : Type 0
ReadingsExact = (bs : List ℕ) → ReadingExact bs (reading bs)

-- `given`: what reading a run by itself gives; bars 22, 23 and 14 to 17
pub record RunExact (bs : List ℕ) (given : Reading) : Type 0 where
  pub run_22 : (given ≡ refused 22 no_place) ↔ FirstToHold [] (option_cut bs)
  pub run_23 : (given ≡ refused 23 no_place) ↔ FirstToHold (option_cut bs ∷ []) (ninth_container bs)
  pub run_14 : (given ≡ refused 14 no_place) ↔ FirstToHold (option_cut bs ∷ ninth_container bs ∷ []) (object_cut bs)
  pub run_15 : (place : ℕ) → (given ≡ refused 15 place) ↔ RunAt bs [] malformed place
  pub run_16 : (place : ℕ) → (given ≡ refused 16 place) ↔ RunAt bs (malformed ∷ []) repeated place
  pub run_17 : (place : ℕ) → (given ≡ refused 17 place) ↔ RunAt bs (malformed ∷ repeated ∷ []) misused place
  pub well_formed : (os : List Object) → (given ≡ well_formed os)
      ↔ (NoneOf (option_cut bs ∷ ninth_container bs ∷ object_cut bs ∷ some_has object_bars (standings [] (objects_in bs)) ∷ []) × (objects_in bs ≡ os))

-- of any bytes
abbrev pub RunsExact : Type 0
RunsExact = (bs : List ℕ) → RunExact bs (read_run bs)

-- known types are 1 to 8
abbrev pub KnownTypes : Type 0
KnownTypes = (type : ℕ) → known (kind_of type) ≡ leb 1 type && leb type 8

-- TLVs can stand in objects of types 1 to 3, by the table as by number
abbrev pub TlvTypes : Type 0
TlvTypes = (type : ℕ) → (row (kind_of type)).tlvs ≡ may_have_tlvs type

-- bar 17 by numbers: a metric of type 1 (NSA) or 3 (HP) with R=1, or of type 6 (LQL) or 8 (colour) with R=0
abbrev pub MisusedTypes : Type 0
MisusedTypes = (es : List Object) (o : Object) → misused (record { earlier = es; object = o })
    ≡ eqb (bit_c o) 0 && ((eqb o.type 1 || eqb o.type 3) && eqb (bit_r o) 1 || (eqb o.type 6 || eqb o.type 8) && eqb (bit_r o) 0)

-- ---- bar 19 by numbers: the limits of a path

-- a metric of a type that is added up along the path: C=0, R=0 and A=0
abbrev pub is_summed : (type : ℕ) → Object → Bool
is_summed t o = eqb o.type t && eqb (bit_c o) 0 && eqb (bit_r o) 0 && eqb (field_a o) 0

-- a mandatory limit of a type among the objects of its container: whether it is not met, where the link's value is known if its bit is 1
pub record PathLimit (os : List Object) (type bit link limit : ℕ) (is_unmet : Bool) : Type 0 where
  -- beside such a metric, before or behind it: the value received and the link's are together, in whole numbers, at most the limit
  pub sum : (i : ℕ) (m : Object) → get_elem? os i ≡ some m → is_summed type m ≡ true → bit ≡ 1 → (is_unmet ≡ false) ↔ (number m.body + link ≤ limit)
  -- beside such a metric, but the link's value is not known
  pub unknown : (i : ℕ) (m : Object) → get_elem? os i ≡ some m → is_summed type m ≡ true → (bit ≡ 1 → ⊥) → is_unmet ≡ true
  -- without one: the link's value is known and at most the limit
  pub link_alone : any_of (is_summed type) os ≡ false → (is_unmet ≡ false) ↔ ((bit ≡ 1) × (link ≤ limit))

-- of latency (type 5) and ETX (type 7), in any well-formed container; a throughput limit (type 4) is the link's, whatever stands beside it
abbrev pub PathLimits : Type 0
PathLimits = (c : Neighbour) (bs : List ℕ) (os : List Object) (l : Object) → read_run bs ≡ well_formed os → bit_c l ≡ 1 → bit_o l ≡ 0
    → (l.type ≡ 5 → PathLimit os 5 (c.flags / 16 % 2) c.latency (number l.body) (unmet c (summary os) l))
    × (l.type ≡ 7 → PathLimit os 7 (c.flags / 8 % 2) c.etx (number l.body) (unmet c (summary os) l))
    × (l.type ≡ 4 → (unmet c (summary os) l ≡ false) ↔ ((c.flags / 32 % 2 ≡ 1) × (number l.body ≤ c.throughput)))

-- ---- leaf answers 31 to 36

-- 36 by numbers: an aggregated metric with A=0 and four bytes of body, of type 4 or 5, whose whole-number sum with the link's throughput
-- or latency, where that is known, is above 4294967295
abbrev pub OverflowTypes : Type 0
OverflowTypes = (c : Neighbour) (o : Object) → overflows c o
    ≡ eqb (bit_c o) 0 && eqb (bit_r o) 0 && eqb (field_a o) 0 && eqb (length o.body) 4
    && (eqb o.type 4 && is_set (c.flags / 32 % 2) && ltb 4294967295 (number o.body + c.throughput)
    || eqb o.type 5 && is_set (c.flags / 16 % 2) && ltb 4294967295 (number o.body + c.latency))

-- the conditions at an object: 31 to 34, then 36
abbrev pub leaf_tests : Own → Neighbour → List (Object → Bool)
leaf_tests own c = unknown_aggregated ∷ not_allowed ∷ no_value own c ∷ full_count ∷ overflows c ∷ []

-- 31 to 34 or 36 at some object: the first that has one of them, and the lowest there
abbrev pub LeafAt : Own → Neighbour → List Object → (lower : List (Object → Bool)) → (Object → Bool) → Type 0
LeafAt own c os lower leaf = (place : ℕ) × FirstWith os (leaf_tests own c) lower leaf place

-- `given`: the leaf number that a call reports for a parent whose container holds these objects
pub record LeafExact (own : Own) (c : Neighbour) (os : List Object) (given : ℕ) : Type 0 where
  pub leaf_31 : (given ≡ 31) ↔ LeafAt own c os [] unknown_aggregated
  pub leaf_32 : (given ≡ 32) ↔ LeafAt own c os (unknown_aggregated ∷ []) not_allowed
  pub leaf_33 : (given ≡ 33) ↔ LeafAt own c os (unknown_aggregated ∷ not_allowed ∷ []) (no_value own c)
  pub leaf_34 : (given ≡ 34) ↔ LeafAt own c os (unknown_aggregated ∷ not_allowed ∷ no_value own c ∷ []) full_count
  pub leaf_36 : (given ≡ 36) ↔ LeafAt own c os (unknown_aggregated ∷ not_allowed ∷ no_value own c ∷ full_count ∷ []) (overflows c)
  pub leaf_35 : (given ≡ 35) ↔ FirstToHold (some_has (leaf_tests own c) os ∷ []) (too_long own c os)
  pub no_leaf : (given ≡ 0) ↔ NoneOf (some_has (leaf_tests own c) os ∷ too_long own c os ∷ [])

-- of every parent that a call names
abbrev pub LeavesExact : Type 0
LeavesExact = (own : Own) (cs : List Candidate) (lent out : List ℕ) → (call own cs lent out).answer.refusal ≡ 0
    → (p : PreferredParent own cs lent (call own cs lent out).answer) → LeafExact own p.candidate.neighbour p.objects (call own cs lent out).answer.leaf
