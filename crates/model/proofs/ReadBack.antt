-- The written container reads back as the updated objects; no sum wraps.
use mathlib.Core.Path.{◌≡◌, refl, sym, ◌∙◌}
use Prim.Native.Nat.{ℕ, zero, suc, ◌+◌, ◌*◌, ◌/◌, ◌%◌, ◌^◌, ◌≤◌, ◌<◌, min}
use native.Mathlib.Omega.{arith}
use mathlib.Core.Bool.{true}
use mathlib.Core.List.{List, [], ◌∷◌}
use mathlib.Core.Option.{some}
use lib.ListN.{length, get_or, get_elem?}
use borrow.Author.Tests.{eq-eqb, le-leb}
use Rattle.std.specs.Prelude.{Some}
use Rattle.model.specs.declared.Own.{Own}
use Rattle.model.specs.declared.Neighbour.{Neighbour}
use Rattle.model.specs.Number.{is_set, known_if, number, first_of}
use Rattle.model.specs.Object.{Object, standings, field_a, kind_of, Node, nsa, ne, hp, Scalar, throughput, latency, etx, node, scalar, known, kind, aggregated, role}
use Rattle.model.specs.Table.{row}
use Rattle.model.specs.Reading.{fixed_shape, object_bar}
use Rattle.model.specs.Constraint.{link_value}
use Rattle.model.specs.Update.{local_value, value_or_0, combine, on_two, clear0, combine1, width_of, most_of, aggregated_body, update_object}
use Rattle.model.specs.ReadBack.{ReadsBack, Aggregates, NoSumWraps, CountsHop, Picked, PicksFlags, PicksEnergy, LinkWithin, AggregatesWhole}
use Rattle.model.specs.RoundTrip.{Bytes}
use Rattle.model.proofs.RoundTrip.{number-big_endian, number_below}
use Rattle.model.proofs.TypeLaws.{known_types}
use Rattle.model.proofs.ConstraintLaws.{known_is}
use Rattle.model.proofs.RunLaws.{run_objects_lem}
use Rattle.model.proofs.PackLaws.{reading_packed}
use Rattle.model.proofs.LeafLaws.{fits}
use Rattle.model.proofs.TabledLaws.{at_tabled, base_of, whole_of}
use Rattle.model.proofs.ByteLaws.{combine_within, body_bytes, data_bytes}
use Rattle.model.proofs.UpdateLaws.{scalar-tlvs}
use Rattle.model.proofs.ShapeLaws.{object_bars_update}
use Rattle.model.proofs.OutgoingLaws.{leaf_is, passed_is}

pub reads_back : ReadsBack
reads_back own cs lent out p x =
    let no_bar = (run_objects_lem _ x.objects x.read).no_bar in
    let packs = fits own x.candidate.neighbour x.objects (sym (leaf_is own cs lent out p.unrefused x) ∙ p.no_leaf) in
    rw (passed_is own cs lent out p.unrefused x p.no_leaf) (reading_packed _ packs (object_bars_update own x.candidate.neighbour [] x.objects no_bar))

-- ---- sums

in_field : (s : Scalar) (v : ℕ) → v ≤ most_of s → v < 256 ^ width_of s
in_field throughput v h = omega arith
in_field latency v h = omega arith
in_field etx v h = omega arith

module _ (own : Own) (c : Neighbour) (o : Object) (s : Scalar) (v : ℕ) (k : kind o ≡ scalar s) (r : role o ≡ aggregated) (l : link_value c s ≡ Some v) (w : length o.body ≡ width_of s) where
  -- what is sent is the combined value, where that fits the field
  pub sent : (a : ℕ) → field_a o ≡ a → combine a (most_of s) (number o.body) v ≤ most_of s → number (update_object own c o).body ≡ combine a (most_of s) (number o.body) v
  unfolding update_object local_value aggregated_body
  sent a e h = rw (k, r, l, e, eq-eqb (length o.body) (width_of s) w) (number-big_endian (width_of s) (combine a (most_of s) (number o.body) v) (in_field s _ h))

  aggregates : Aggregates own c o s v
  aggregates = record {
    add = λ e. let m = sent 0 e (omega arith) in record { below = λ h. m ∙ omega arith; above = λ h. m ∙ omega arith };
    picked = λ h g. record { larger = λ e. sent 1 e (omega arith); smaller = λ e. sent 2 e (omega arith) };
  }

pub no_sum_wraps : NoSumWraps
no_sum_wraps = aggregates

-- ---- the count of hops

byte1_on_two : (f g : ℕ → ℕ) (b : List ℕ) → 2 ≤ length b → get_or (on_two f g b) 1 0 ≡ g (get_or b 1 0)
byte1_on_two f g [] h = absurd (omega arith)
byte1_on_two f g (x ∷ []) h = absurd (omega arith)
byte1_on_two f g (x ∷ y ∷ t) h = refl

-- byte 1 of a node metric, combined with the local value
pub byte1_sent : (own : Own) (c : Neighbour) (o : Object) (n : Node) → kind o ≡ node n → role o ≡ aggregated → 2 ≤ length o.body
    → get_or (update_object own c o).body 1 0 ≡ combine1 n (field_a o) (value_or_0 (local_value own c (node n))) (get_or o.body 1 0)
unfolding update_object aggregated_body
byte1_sent own c o n k r h = rw (k, r) (byte1_on_two (clear0 n) (combine1 n (field_a o) (value_or_0 (local_value own c (node n)))) o.body h)

pub counts_hop : CountsHop
unfolding kind_of local_value
counts_hop own c o t r a h =
    let e : get_or (update_object own c o).body 1 0 ≡ min 255 (get_or o.body 1 0 + 1) = byte1_sent own c o hp (rw t) r h ∙ rw a in
    record { below = λ g. e ∙ omega arith; above = λ g. e ∙ omega arith }

-- ---- flags and energy

-- a value that A=1 or A=2 picks
picks : (a most x v sent : ℕ) → sent ≡ combine a most x v → Picked a x v sent
picks a most x v sent e = record { larger = λ q. e ∙ rw q; smaller = λ q. e ∙ rw q }

-- a flag combined with another stays a flag
flag_within : (a x v : ℕ) → combine a 1 (x % 2) (v % 2) ≤ 1
flag_within a x v = combine_within a 1 (x % 2) (v % 2) (omega arith) (omega arith)

-- NSA's flags, each combined with the own one; the other six bits are 0
pub record FlagsSent (own : Own) (o : Object) (sent : ℕ) : Type 0 where
  pub aggregator : sent / 2 % 2 ≡ combine (field_a o) 1 (get_or o.body 1 0 / 2 % 2) (own.flags / 2 % 2)
  pub overload : sent % 2 ≡ combine (field_a o) 1 (get_or o.body 1 0 % 2) (own.flags % 2)
  pub others : sent / 4 ≡ 0

pub flags_sent : (own : Own) (c : Neighbour) (o : Object) → kind o ≡ node nsa → role o ≡ aggregated → 2 ≤ length o.body
    → FlagsSent own o (get_or (update_object own c o).body 1 0)
unfolding local_value
flags_sent own c o k r h =
    let a = field_a o in
    let y = get_or o.body 1 0 in
    let v = own.flags in
    let p : v % 4 / 2 % 2 ≡ v / 2 % 2 = omega arith in
    let q : v % 4 % 2 ≡ v % 2 = omega arith in
    let e : get_or (update_object own c o).body 1 0 ≡ combine a 1 (y / 2 % 2) (v / 2 % 2) * 2 + combine a 1 (y % 2) (v % 2)
    = rw (p, q) at (byte1_sent own c o nsa k r h) in
    let m = flag_within a (y / 2) (v / 2) in
    let n = flag_within a y v in
    record { aggregator = omega (arith, e, m, n); overload = omega (arith, e, m, n); others = omega (arith, e, m, n) }

pub picks_flags : PicksFlags
unfolding kind_of
picks_flags own c o t r h =
    let s = flags_sent own c o (rw t) r h in
    record { aggregator = picks (field_a o) 1 _ _ _ s.aggregator; overload = picks (field_a o) 1 _ _ _ s.overload; others = s.others }

-- E_E combined with the own energy, where that is known
pub energy_sent : (own : Own) (c : Neighbour) (o : Object) → kind o ≡ node ne → role o ≡ aggregated → is_set (own.flags / 4 % 2) ≡ true
    → 2 ≤ length o.body → get_or (update_object own c o).body 1 0 ≡ combine (field_a o) 255 (get_or o.body 1 0) own.energy
unfolding local_value
energy_sent own c o k r l h = byte1_sent own c o ne k r h ∙ rw l

pub picks_energy : PicksEnergy
unfolding kind_of
picks_energy own c o t r l h = picks (field_a o) 255 (get_or o.body 1 0) own.energy _ (energy_sent own c o (rw t) r (eq-eqb (own.flags / 4 % 2) 1 l) h)

-- ---- widths and ranges

-- an aggregated metric of known type has its fixed bytes
fixed : (os : List Object) (i : ℕ) (o : Object) → first_of object_bar (standings [] os) ≡ 0 → get_elem? os i ≡ some o → role o ≡ aggregated → known (kind o) ≡ true
    → fixed_shape (row (kind o)) o.body ≡ true
fixed os i o z e r k = rw r at (at_tabled os i o z e k)

-- types 1 to 3 have two fixed bytes
node_base : (t : ℕ) → 1 ≤ t → t ≤ 3 → (row (kind_of t)).base ≡ 2
unfolding kind_of
node_base zero h l = absurd (omega arith)
node_base (suc zero) h l = refl
node_base (suc (suc zero)) h l = refl
node_base (suc (suc (suc zero))) h l = refl
node_base (suc (suc (suc (suc t)))) h l = absurd (omega arith)

node_known : (t : ℕ) → 1 ≤ t → t ≤ 3 → known (kind_of t) ≡ true
node_known t h l = known_types t ∙ rw (le-leb 1 t h, le-leb t 8 (omega arith))

-- a known value is the number behind its bit
within : (b x v most : ℕ) → x ≤ most → known_if b x ≡ Some v → v ≤ most
within b x v most h e = let (k, q) = known_is b x v e in omega arith

-- a link's value within its type fits the field
link_fits : (s : Scalar) (c : Neighbour) (v : ℕ) → LinkWithin c → link_value c s ≡ Some v → v ≤ most_of s
unfolding link_value
link_fits throughput c v w e = within (c.flags / 32 % 2) c.throughput v 4294967295 w.throughput e
link_fits latency c v w e = within (c.flags / 16 % 2) c.latency v 4294967295 w.latency e
link_fits etx c v w e = within (c.flags / 8 % 2) c.etx v 65535 w.etx e

-- bytes as many as the field has hold a number that fits it
body_fits : (s : Scalar) (b : List ℕ) → Bytes b → length b ≡ width_of s → number b ≤ most_of s
body_fits s b h w = let l : number b < 256 ^ width_of s = rw w at (number_below b h) in omega arith

pub aggregates_whole : AggregatesWhole
aggregates_whole bs os i o w e r =
    let whole = run_objects_lem bs os w in
    let shape = fixed os i o whole.no_bar e r in
    let width : (s : Scalar) → kind o ≡ scalar s → length o.body ≡ width_of s = λ s k. whole_of (row (scalar s)) o.body (scalar-tlvs s) (rw k at (shape (rw k))) in
    record {
      nodes = λ h l. let b = base_of (row (kind o)) o.body (shape (node_known o.type h l)) in omega (arith, node_base o.type h l);
      scalars = width;
      received = λ s k b. body_fits s o.body (body_bytes os i o (data_bytes bs os b whole.objects) e) (width s k);
      link = link_fits;
    }
