-- Demand 2: the written container reads back as the received objects, each updated for this hop, no sum wrapped.
use Rattle.std.specs.Prelude.{◌≡◌, eqb, Bool, cond, not, ◌&&◌, ◌||◌, ◌/◌, ◌%◌, ℕ, ◌+◌, ◌≤◌, ◌<◌, min, max, List, map, length, get_or}
use Rattle.std.proofs.Math.Option.{some}
use Rattle.std.proofs.Math.ListN.{get_elem?}
use Rattle.std.specs.Prelude.{Some}
use Rattle.model.specs.declared.Own.{Own}
use Rattle.model.specs.declared.Neighbour.{Neighbour}
use Rattle.model.specs.declared.Candidate.{Candidate}
use Rattle.model.specs.Number.{is_set, is_unknown, number}
use Rattle.model.specs.Object.{Object, bit_p, bit_c, bit_o, bit_r, field_a, field_prec, is_recorded, Scalar, scalar, kind, aggregated, role, throughput, latency, etx, known}
use Rattle.model.specs.Reading.{well_formed}
use Rattle.model.specs.Run.{read_run}
use Rattle.model.specs.Constraint.{link_value}
use Rattle.model.specs.Update.{width_of, most_of, update_object}
use Rattle.model.specs.Choice.{call}
use Rattle.model.specs.Selection.{PreferredParent}
use Rattle.model.specs.RoundTrip.{Bytes}
use Rattle.model.specs.Untouched.{PassedOn, passed_on}

-- the container passed on is well-formed, and holds the parent's objects, each updated
abbrev pub ReadsBack : Type 0
ReadsBack = (own : Own) (cs : List Candidate) (lent out : List ℕ) → PassedOn (call own cs lent out) → (p : PreferredParent own cs lent (call own cs lent out).answer)
    → read_run (passed_on (call own cs lent out)) ≡ well_formed (map (update_object own p.candidate.neighbour) p.objects)

-- header bits as received and as sent on: reserved bits are cleared, O when C=0, R when C=1; P is kept, or set; nothing else changes
pub record HeaderNext (o p : Object) (set_p : Bool) : Type 0 where
  pub type : p.type ≡ o.type
  pub reserved : p.flags / 8 ≡ 0
  pub next_p : bit_p p ≡ cond set_p 1 (bit_p o)
  pub same_c : bit_c p ≡ bit_c o
  pub next_o : bit_o p ≡ cond (is_set (bit_c o)) (bit_o o) 0
  pub next_r : bit_r p ≡ cond (is_set (bit_c o)) 0 (bit_r o)
  pub same_a : field_a p ≡ field_a o
  pub same_prec : field_prec p ≡ field_prec o

-- P is set in a recorded metric of unknown type, and of type 4, 5 or 7 where the link's value is unknown
abbrev pub sets_p : Neighbour → Object → Bool
sets_p c o = is_recorded (role o)
    && (not (known (kind o)) || eqb o.type 4 && is_unknown (link_value c throughput) || eqb o.type 5 && is_unknown (link_value c latency) || eqb o.type 7 && is_unknown (link_value c etx))

-- the header of every object, updated
abbrev pub HeadersNext : Type 0
HeadersNext = (own : Own) (c : Neighbour) (o : Object) → HeaderNext o (update_object own c o) (sets_p c o)

-- a sum that stops at the field's maximum, and below it is the whole-number sum
pub record Sum (most x v sum : ℕ) : Type 0 where
  pub below : x + v ≤ most → sum ≡ x + v
  pub above : most < x + v → sum ≡ most

-- the larger of two values by A=1, the smaller by A=2
pub record Picked (a x v sent : ℕ) : Type 0 where
  pub larger : a ≡ 1 → sent ≡ max x v
  pub smaller : a ≡ 2 → sent ≡ min x v

-- an aggregated scalar metric with the known link value v: the number in the body as updated, by that in the body as received
pub record Aggregates (own : Own) (c : Neighbour) (o : Object) (s : Scalar) (v : ℕ) : Type 0 where
  pub add : field_a o ≡ 0 → Sum (most_of s) (number o.body) v (number (update_object own c o).body)
  pub picked : number o.body ≤ most_of s → v ≤ most_of s → Picked (field_a o) (number o.body) v (number (update_object own c o).body)

-- of every aggregated scalar metric
abbrev pub NoSumWraps : Type 0
NoSumWraps = (own : Own) (c : Neighbour) (o : Object) (s : Scalar) (v : ℕ) → kind o ≡ scalar s → role o ≡ aggregated → link_value c s ≡ Some v
    → length o.body ≡ width_of s → Aggregates own c o s v

-- a throughput (type 4) or latency (type 5) metric as received and as passed on: the whole-number sum with the link's value, which is known
pub record SummedWhole (c : Neighbour) (received sent : Object) : Type 0 where
  pub throughput : received.type ≡ 4 → (c.flags / 32 % 2 ≡ 1) × (number sent.body ≡ number received.body + c.throughput)
  pub latency : received.type ≡ 5 → (c.flags / 16 % 2 ≡ 1) × (number sent.body ≡ number received.body + c.latency)

-- of every one that is aggregated with A=0, by the container that a call passes on
abbrev pub SumsWhole : Type 0
SumsWhole = (own : Own) (cs : List Candidate) (lent out : List ℕ) → PassedOn (call own cs lent out) → (p : PreferredParent own cs lent (call own cs lent out).answer)
    → (ns : List Object) → read_run (passed_on (call own cs lent out)) ≡ well_formed ns
    → (i : ℕ) (o n : Object) → get_elem? p.objects i ≡ some o → get_elem? ns i ≡ some n → role o ≡ aggregated → field_a o ≡ 0
    → SummedWhole p.candidate.neighbour o n

-- the count of an HP metric (type 3) rises by one, up to 255
abbrev pub CountsHop : Type 0
CountsHop = (own : Own) (c : Neighbour) (o : Object) → o.type ≡ 3 → role o ≡ aggregated → field_a o ≡ 0 → 2 ≤ length o.body
    → Sum 255 (get_or o.body 1 0) 1 (get_or (update_object own c o).body 1 0)

-- byte 1 of an aggregated NSA metric as updated: each flag by itself with the own one, and the other six bits 0
pub record FlagsPicked (own : Own) (o : Object) (sent : ℕ) : Type 0 where
  pub aggregator : Picked (field_a o) (get_or o.body 1 0 / 2 % 2) (own.flags / 2 % 2) (sent / 2 % 2)
  pub overload : Picked (field_a o) (get_or o.body 1 0 % 2) (own.flags % 2) (sent % 2)
  pub others : sent / 4 ≡ 0

-- of every aggregated NSA metric (type 1)
abbrev pub PicksFlags : Type 0
PicksFlags = (own : Own) (c : Neighbour) (o : Object) → o.type ≡ 1 → role o ≡ aggregated → 2 ≤ length o.body
    → FlagsPicked own o (get_or (update_object own c o).body 1 0)

-- E_E of an aggregated NE metric (type 2) with the own energy, where that is known (flag 0x04)
abbrev pub PicksEnergy : Type 0
PicksEnergy = (own : Own) (c : Neighbour) (o : Object) → o.type ≡ 2 → role o ≡ aggregated → own.flags / 4 % 2 ≡ 1 → 2 ≤ length o.body
    → Picked (field_a o) (get_or o.body 1 0) own.energy (get_or (update_object own c o).body 1 0)

-- the link's numbers are within their types: 16 bits of ETX, 32 of latency and of throughput
pub record LinkWithin (c : Neighbour) : Type 0 where
  pub etx : c.etx ≤ 65535
  pub latency : c.latency ≤ 4294967295
  pub throughput : c.throughput ≤ 4294967295

-- what these statements ask of an aggregated metric in a container: the bytes of its body; of bytes, and of a link's numbers within
-- their types, that the received value and the link's fit the field
pub record Whole (container : List ℕ) (o : Object) : Type 0 where
  pub nodes : 1 ≤ o.type → o.type ≤ 3 → 2 ≤ length o.body
  pub scalars : (s : Scalar) → kind o ≡ scalar s → length o.body ≡ width_of s
  pub received : (s : Scalar) → kind o ≡ scalar s → Bytes container → number o.body ≤ most_of s
  pub link : (s : Scalar) (c : Neighbour) (v : ℕ) → LinkWithin c → link_value c s ≡ Some v → v ≤ most_of s

-- of every aggregated metric of a well-formed container
abbrev pub AggregatesWhole : Type 0
AggregatesWhole = (bs : List ℕ) (os : List Object) (i : ℕ) (o : Object) → read_run bs ≡ well_formed os → get_elem? os i ≡ some o → role o ≡ aggregated → Whole bs o

-- of bytes and of numbers within their types, bytes are passed on
abbrev pub PassesBytes : Type 0
PassesBytes = (own : Own) (cs : List Candidate) (lent out : List ℕ) → Bytes lent → own.energy ≤ 255 → PassedOn (call own cs lent out) → Bytes (passed_on (call own cs lent out))
