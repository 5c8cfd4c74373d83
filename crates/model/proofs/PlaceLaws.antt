-- Header bits for the next hop, and the places of what is unknown.
use mathlib.Core.Path.{◌≡◌, refl, sym, ap, subst, ◌∙◌}
use Prim.Native.Nat.{ℕ, zero, suc, ◌/◌, ◌%◌}
use mathlib.Core.Bool.{◌&&◌, and-true, Bool, true, false, not, ◌||◌, or-false}
use mathlib.Core.List.{List, [], ◌∷◌}
use native.Mathlib.Omega.{arith}
use lib.Dec.{eqb}
use lib.ListN.{drop}
use Rattle.model.specs.declared.Own.{Own}
use Rattle.model.specs.declared.Neighbour.{Neighbour}
use Rattle.model.specs.Object.{Object, kind_of, throughput, latency, etx, known, is_recorded, object, field_a, Kind, unknown, lql, colour, node, scalar, kind, Role, constraint, recorded, aggregated, role_bits, role_of, role}
use Rattle.model.specs.Number.{is_unknown}
use Rattle.model.specs.Constraint.{link_value}
use Rattle.model.specs.Table.{row}
use Rattle.model.specs.Update.{local_value, value_or_0, on_two, clear0, clear1, combine1, aggregated_body, constraint_body, recorded_body, adds_nothing, next_body, next_flags, next_mode, update_object, update}
use Rattle.model.specs.ReadBack.{HeaderNext, HeadersNext}
use Rattle.model.specs.Unknown.{Each, nil, cons, Placed}
use Rattle.model.proofs.TypeLaws.{tlv_types}
use Rattle.model.proofs.CutLaws.{unknown_kind}
use Rattle.model.proofs.UpdateLaws.{scalar-tlvs}

-- P beside the cleared reserved bits
bit_p_mod : (f : ℕ) → f % 8 / 4 % 2 ≡ f / 4 % 2
bit_p_mod f = omega arith

-- header bits, by C and R
header_at_lem : (t f m c r : ℕ) (p : Bool) (b b' : List ℕ) → f / 2 % 2 ≡ c → m / 128 % 2 ≡ r
    → HeaderNext (object t f m b) (object t (next_flags (role_bits c r) p f) (next_mode (role_bits c r) m) b') (is_recorded (role_bits c r) && p)
header_at_lem t f m (suc c) r p b b' e d =
    let one : f / 2 % 2 ≡ 1 = omega arith in
    record { type = refl; reserved = omega arith; next_p = bit_p_mod f; same_c = omega arith; next_o = rw one (omega arith); next_r = rw one (omega arith); same_a = omega arith; same_prec = omega arith }
header_at_lem t f m zero (suc r) true b b' e d =
    record { type = refl; reserved = refl; next_p = refl; same_c = sym e; next_o = rw e; next_r = rw e; same_a = refl; same_prec = refl }
header_at_lem t f m zero (suc r) false b b' e d =
    record { type = refl; reserved = omega arith; next_p = omega arith; same_c = omega arith; next_o = rw e (omega arith); next_r = rw e; same_a = refl; same_prec = refl }
header_at_lem t f m zero zero p b b' e d =
    record { type = refl; reserved = omega arith; next_p = omega arith; same_c = omega arith; next_o = rw e (omega arith); next_r = rw e; same_a = refl; same_prec = refl }

-- what this hop adds nothing to, by type numbers
abbrev no_value_for : Neighbour → (type : ℕ) → Bool
no_value_for c t =
    not (known (kind_of t)) || eqb t 4 && is_unknown (link_value c throughput) || eqb t 5 && is_unknown (link_value c latency) || eqb t 7 && is_unknown (link_value c etx)

or_nothing : (b : Bool) → b || false || false ≡ b
or_nothing true = refl
or_nothing false = refl

adds_types : (c : Neighbour) (t : ℕ) → adds_nothing c (kind_of t) ≡ no_value_for c t
unfolding kind_of
adds_types c zero = refl
adds_types c (suc zero) = refl
adds_types c (suc (suc zero)) = refl
adds_types c (suc (suc (suc zero))) = refl
adds_types c (suc (suc (suc (suc zero)))) = sym (or_nothing (is_unknown (link_value c throughput)))
adds_types c (suc (suc (suc (suc (suc zero))))) = sym (or-false (is_unknown (link_value c latency)))
adds_types c (suc (suc (suc (suc (suc (suc zero)))))) = refl
adds_types c (suc (suc (suc (suc (suc (suc (suc zero))))))) = refl
adds_types c (suc (suc (suc (suc (suc (suc (suc (suc zero)))))))) = refl
adds_types c (suc (suc (suc (suc (suc (suc (suc (suc (suc t))))))))) = refl

header : (own : Own) (c : Neighbour) (o : Object) → HeaderNext o (update_object own c o) (is_recorded (role o) && adds_nothing c (kind o))
unfolding update_object role_of
header own c o = header_at_lem o.type o.flags o.mode (o.flags / 2 % 2) (o.mode / 128 % 2) (adds_nothing c (kind o)) o.body _ refl refl

pub headers : HeadersNext
headers own c o = subst (λ b. HeaderNext o (update_object own c o) (is_recorded (role o) && b)) (adds_types c o.type) (header own c o)

pub drop-on_two : (f g : ℕ → ℕ) (b : List ℕ) → drop 2 (on_two f g b) ≡ drop 2 b
drop-on_two f g [] = refl
drop-on_two f g (x ∷ []) = refl
drop-on_two f g (x ∷ y ∷ t) = refl

next_body-unknown : (own : Own) (c : Neighbour) (r : Role) (a : ℕ) (b : List ℕ) → next_body own c unknown r a b ≡ b
unfolding constraint_body recorded_body aggregated_body
next_body-unknown own c constraint a b = refl
next_body-unknown own c recorded a b = refl
next_body-unknown own c aggregated a b = refl

constraint_body-tlvs : (k : Kind) (b : List ℕ) → (row k).tlvs ≡ true → drop 2 (constraint_body k b) ≡ drop 2 b
unfolding constraint_body
constraint_body-tlvs unknown b e = cc
constraint_body-tlvs lql b e = cc
constraint_body-tlvs colour b e = cc
constraint_body-tlvs (node n) b e = drop-on_two (clear0 n) (clear1 n) b
constraint_body-tlvs (scalar s) b e = refl

aggregated_body-tlvs : (k : Kind) (a v : ℕ) (b : List ℕ) → (row k).tlvs ≡ true → drop 2 (aggregated_body k a v b) ≡ drop 2 b
unfolding aggregated_body
aggregated_body-tlvs unknown a v b e = cc
aggregated_body-tlvs lql a v b e = cc
aggregated_body-tlvs colour a v b e = cc
aggregated_body-tlvs (node n) a v b e = drop-on_two (clear0 n) (combine1 n a v) b
aggregated_body-tlvs (scalar s) a v b e = let z = scalar-tlvs s in cc

next_body-tlvs : (own : Own) (c : Neighbour) (k : Kind) (r : Role) (a : ℕ) (b : List ℕ) → (row k).tlvs ≡ true → (r ≡ recorded → ⊥)
    → drop 2 (next_body own c k r a b) ≡ drop 2 b
next_body-tlvs own c k constraint a b e h = constraint_body-tlvs k b e
next_body-tlvs own c k recorded a b e h = absurd (h refl)
next_body-tlvs own c k aggregated a b e h = aggregated_body-tlvs k a (value_or_0 (local_value own c k)) b e

placed : (own : Own) (c : Neighbour) (o : Object) → Placed o (update_object own c o)
unfolding update_object role_of
placed own c o = record {
  type = refl;
  unknown = λ e. record { body = rw (unknown_kind (kind o) e) (next_body-unknown own c (role o) (field_a o) o.body); header = always (unknown_kind (kind o) e) (header own c o) };
  tlvs = λ e. next_body-tlvs own c (kind o) (role o) (field_a o) o.body (tlv_types o.type ∙ e);
}
  where
    always : kind o ≡ unknown → HeaderNext o (update_object own c o) (is_recorded (role o) && adds_nothing c (kind o)) → HeaderNext o (update_object own c o) (is_recorded (role o))
    always k h = subst (HeaderNext o (update_object own c o)) (ap (λ s. is_recorded (role o) && adds_nothing c s) k ∙ and-true (is_recorded (role o))) h

pub update_places : (own : Own) (c : Neighbour) (os : List Object) → Each Placed os (update own c os)
update_places own c [] = nil
update_places own c (o ∷ os) = cons (placed own c o) (update_places own c os)
