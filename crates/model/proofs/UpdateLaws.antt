-- The update for this hop against the cut.
use mathlib.Core.Path.{◌≡◌, refl, ap, ◌∙◌}
use Prim.Native.Nat.{ℕ, zero, suc, ◌*◌, ◌/◌, ◌%◌}
use mathlib.Core.Bool.{Bool, true, false, cond}
use mathlib.Core.List.{List, [], ◌∷◌}
use native.Mathlib.Omega.{arith}
use lib.ListN.{take}
use Rattle.model.specs.declared.Own.{Own}
use Rattle.model.specs.declared.Neighbour.{Neighbour}
use Rattle.model.specs.Number.{first_of}
use Rattle.model.specs.Object.{Object, field_a, Kind, unknown, lql, colour, node, scalar, Node, nsa, ne, hp, Scalar, throughput, latency, etx, known, kind, Role, constraint, recorded, aggregated, role_bits, role_of, role}
use Rattle.model.specs.Table.{row}
use Rattle.model.specs.Update.{local_value, value_or_0, on_two, clear0, clear1, combine1, aggregated_body, constraint_body, adds_nothing, next_body, next_flags, next_mode, update_object, update, no_energy, is_beyond, object_leaf, too_long, leaf_answer}
use Rattle.model.specs.Cut.{cut_body, cut_object, keep_if, cut}
use Rattle.model.proofs.NumberLaws.{first-zero}
use Rattle.model.proofs.TypeLaws.{tlv_types}
use Rattle.model.proofs.LeafLaws.{fits}
use Rattle.model.proofs.CutLaws.{cut_body_whole, cut_body_byte0, cut_body_byte1}
use Rattle.model.proofs.PackLaws.{joined_cut, unpackable-cut}
use Rattle.model.specs.Run.{cut_run, joined_data}
use Rattle.model.specs.Pack.{packed}

-- ---- the role stays

role_at : (f m : ℕ) (p : Bool) (c r : ℕ) → f / 2 % 2 ≡ c → m / 128 % 2 ≡ r → role_of (next_flags (role_bits c r) p f) (next_mode (role_bits c r) m) ≡ role_bits c r
unfolding role_of
role_at f m p (suc c) r e d = let q : f % 8 / 2 % 2 ≡ suc c = omega arith in rw q
role_at f m true zero (suc r) e d = rw d
role_at f m false zero (suc r) e d = let q : f / 4 % 2 * 4 / 2 % 2 ≡ 0 = omega arith in rw (q, d)
role_at f m p zero zero e d = let q : f / 4 % 2 * 4 / 2 % 2 ≡ 0 = omega arith in rw (q, d)

pub role_update : (own : Own) (c : Neighbour) (o : Object) → role (update_object own c o) ≡ role o
unfolding update_object role_of
role_update own c o = role_at o.flags o.mode (adds_nothing c (kind o)) (o.flags / 2 % 2) (o.mode / 128 % 2) refl refl

-- ---- bodies

take-on_two : (f g : ℕ → ℕ) (b : List ℕ) → take 2 (on_two f g b) ≡ on_two f g (take 2 b)
take-on_two f g [] = refl
take-on_two f g (x ∷ []) = refl
take-on_two f g (x ∷ y ∷ t) = refl

node-tlvs : (n : Node) → (row (node n)).tlvs ≡ true
node-tlvs nsa = refl
node-tlvs ne = refl
node-tlvs hp = refl

pub scalar-tlvs : (s : Scalar) → (row (scalar s)).tlvs ≡ false
scalar-tlvs throughput = refl
scalar-tlvs latency = refl
scalar-tlvs etx = refl

constraint_body_cut : (k : Kind) (b : List ℕ) → cond (row k).tlvs (take 2 (constraint_body k b)) (constraint_body k b) ≡ constraint_body k (cond (row k).tlvs (take 2 b) b)
unfolding constraint_body
constraint_body_cut unknown b = refl
constraint_body_cut lql b = refl
constraint_body_cut colour b = refl
constraint_body_cut (node n) b = rw (node-tlvs n) (take-on_two (clear0 n) (clear1 n) b)
constraint_body_cut (scalar s) b = refl

aggregated_body_cut : (k : Kind) (a v : ℕ) (b : List ℕ)
    → cond (row k).tlvs (take 2 (aggregated_body k a v b)) (aggregated_body k a v b) ≡ aggregated_body k a v (cond (row k).tlvs (take 2 b) b)
unfolding aggregated_body
aggregated_body_cut unknown a v b = refl
aggregated_body_cut lql a v b = refl
aggregated_body_cut colour a v b = refl
aggregated_body_cut (node n) a v b = rw (node-tlvs n) (take-on_two (clear0 n) (combine1 n a v) b)
aggregated_body_cut (scalar s) a v b = rw (scalar-tlvs s)

next_body_cut : (own : Own) (c : Neighbour) (k : Kind) (r : Role) (a : ℕ) (b : List ℕ)
    → cut_body r (row k).tlvs (next_body own c k r a b) ≡ next_body own c k r a (cut_body r (row k).tlvs b)
next_body_cut own c k constraint a b = constraint_body_cut k b
next_body_cut own c k recorded a b = refl
next_body_cut own c k aggregated a b = aggregated_body_cut k a (value_or_0 (local_value own c k)) b

update_object_cut : (own : Own) (c : Neighbour) (o : Object) → cut_object (update_object own c o) ≡ update_object own c (cut_object o)
unfolding update_object
update_object_cut own c o = rw (← tlv_types o.type, role_update own c o, next_body_cut own c (kind o) (role o) (field_a o) o.body)

pub update-cut : (own : Own) (c : Neighbour) (os : List Object) → cut (update own c os) ≡ update own c (cut os)
unfolding cut update_object
update-cut own c [] = refl
update-cut own c (o ∷ os) = go (known (kind o)) (update-cut own c os)
  where
    go : (b : Bool) → cut (update own c os) ≡ update own c (cut os)
        → keep_if b (cut_object (update_object own c o)) (cut (update own c os)) ≡ update own c (keep_if b (cut_object o) (cut os))
    go true ih = rw (update_object_cut own c o, ih)
    go false ih = ih

-- the joined data for the next hop, each container cut by itself, is that for the cut objects
pub next_hop_cut : (own : Own) (c : Neighbour) (os : List Object) → joined_data (cut_run (packed (update own c os))) ≡ joined_data (packed (update own c (cut os)))
next_hop_cut own c os = joined_cut (update own c os) ∙ ap (λ x. joined_data (packed x)) (update-cut own c os)

-- ---- leaf answers

no_energy_cut : (r : Role) (k : Kind) (t : Bool) (b : List ℕ) → no_energy k (cut_body r t b) ≡ no_energy k b
no_energy_cut r unknown t b = refl
no_energy_cut r lql t b = refl
no_energy_cut r colour t b = refl
no_energy_cut r (node nsa) t b = refl
no_energy_cut r (node ne) t b = rw cut_body_byte0
no_energy_cut r (node hp) t b = refl
no_energy_cut r (scalar s) t b = refl

is_beyond_cut : (c : Neighbour) (r : Role) (k : Kind) (b : List ℕ) → is_beyond c k (cut_body r (row k).tlvs b) ≡ is_beyond c k b
is_beyond_cut c r unknown b = refl
is_beyond_cut c r lql b = refl
is_beyond_cut c r colour b = refl
is_beyond_cut c r (node n) b = refl
is_beyond_cut c r (scalar s) b = rw (scalar-tlvs s, cut_body_whole r b)

object_leaf_cut : (own : Own) (c : Neighbour) (o : Object) → object_leaf own c (cut_object o) ≡ object_leaf own c o
unfolding object_leaf
object_leaf_cut own c o = rw (← tlv_types o.type, no_energy_cut, cut_body_byte1, is_beyond_cut)

leaves_cut : (own : Own) (c : Neighbour) (os : List Object) → first_of (object_leaf own c) os ≡ 0 → first_of (object_leaf own c) (cut os) ≡ 0
unfolding first_of cut
leaves_cut own c [] e = refl
leaves_cut own c (o ∷ os) e = let (h, t) = first-zero (object_leaf own c o) (first_of (object_leaf own c) os) e in go (known (kind o)) h (leaves_cut own c os t)
  where
    go : (b : Bool) → object_leaf own c o ≡ 0 → first_of (object_leaf own c) (cut os) ≡ 0 → first_of (object_leaf own c) (keep_if b (cut_object o) (cut os)) ≡ 0
    go true h ih = rw (object_leaf_cut own c o, h) ih
    go false h ih = ih

pub leaf_answer-cut : (own : Own) (c : Neighbour) (os : List Object) → leaf_answer own c os ≡ 0 → leaf_answer own c (cut os) ≡ 0
unfolding leaf_answer too_long
leaf_answer-cut own c os e =
    let (h, t) = first-zero (first_of (object_leaf own c) os) _ e in
    rw (leaves_cut own c os h, ← update-cut own c os, unpackable-cut (update own c os) (fits own c os e))
