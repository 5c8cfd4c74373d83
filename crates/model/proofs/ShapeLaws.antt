-- Updated for this hop, well-formed objects are well-formed.
use mathlib.Core.Path.{◌≡◌, refl, sym, ◌∙◌}
use Prim.Native.Nat.{ℕ, zero, suc, ◌+◌, ◌-◌, ◌/◌, ◌%◌, ◌≤◌}
use native.Mathlib.Omega.{arith}
use mathlib.Core.Bool.{Bool, true, false, cond, ◌&&◌}
use mathlib.Core.List.{List, [], ◌∷◌, ◌++◌}
use lib.ListN.{length, drop, length-append}
use lib.Dec.{leb, ltb, eqb}
use borrow.Author.Tests.{le-leb, eq-eqb, eqb-true}
use Rattle.model.specs.Number.{Quantity}
use Rattle.std.specs.Prelude.{Some, None}
use Rattle.model.specs.declared.Own.{Own}
use Rattle.model.specs.declared.Neighbour.{Neighbour}
use Rattle.model.specs.Number.{any_of, big_endian, first_of}
use Rattle.model.specs.Object.{Object, bit_c, field_a, standings, Kind, unknown, lql, colour, node, scalar, nsa, ne, hp, throughput, latency, etx, known, kind, Role, constraint, recorded, aggregated, role_bits, role_of, role}
use Rattle.model.specs.Table.{row}
use Rattle.model.specs.Reading.{tlvs_fit, shaped, same_use, object_bar}
use Rattle.model.specs.Constraint.{energy_in, link_value, colour_in}
use Rattle.model.specs.Update.{local_value, value_or_0, combine1, on_two, clear0, clear1, aggregated_body, constraint_body, sub_object, clear_each, own_energy, count_level, counted_body, clear_colour, count_colour, coloured_body, recorded_body, adds_nothing, next_body, next_flags, update_object, update}
use Rattle.model.proofs.BoolLaws.{both}
use Rattle.model.proofs.NumberLaws.{first-zero}
use Rattle.model.proofs.RoundTrip.{length-big_endian}
use Rattle.model.proofs.TabledLaws.{bar_free}
use Rattle.model.proofs.UpdateLaws.{role_update}
use Rattle.model.proofs.PlaceLaws.{drop-on_two}

-- ---- lengths

pub length-on_two : (f g : ℕ → ℕ) (b : List ℕ) → length (on_two f g b) ≡ length b
length-on_two f g [] = refl
length-on_two f g (x ∷ []) = refl
length-on_two f g (x ∷ y ∷ t) = refl

pub length-clear_each : (b : List ℕ) → length (clear_each b) ≡ length b
length-clear_each [] = refl
length-clear_each (x ∷ []) = refl
length-clear_each (x ∷ y ∷ t) = rw (length-clear_each t)

pub length-own_energy : (t : ℕ) (q : Quantity) → length (own_energy t q) ≡ 2
length-own_energy t (Some e) = refl
length-own_energy t None = refl

-- ---- bodies

-- two bytes, then TLVs
on_two_shaped : (f g : ℕ → ℕ) (b : List ℕ) → leb 2 (length b) && tlvs_fit (drop 2 b) ≡ true → leb 2 (length (on_two f g b)) && tlvs_fit (drop 2 (on_two f g b)) ≡ true
on_two_shaped f g b e = rw (length-on_two f g b, drop-on_two f g b) e

-- sub-objects of two and of four bytes, with one more or none
subs2 : (n : ℕ) → leb 2 n && eqb ((n - 0) % 2) 0 ≡ true → leb 2 (n + 2) && eqb ((n + 2 - 0) % 2) 0 ≡ true
subs2 n e =
    let (a, b) = both (leb 2 n) (eqb ((n - 0) % 2) 0) e in
    let h = eqb-true ((n - 0) % 2) 0 b in
    rw (le-leb 2 (n + 2) (omega arith), eq-eqb ((n + 2 - 0) % 2) 0 (omega arith))

subs4 : (n : ℕ) → leb 4 n && eqb ((n - 0) % 4) 0 ≡ true → leb 4 (n + 4) && eqb ((n + 4 - 0) % 4) 0 ≡ true
subs4 n e =
    let (a, b) = both (leb 4 n) (eqb ((n - 0) % 4) 0) e in
    let h = eqb-true ((n - 0) % 4) 0 b in
    rw (le-leb 4 (n + 4) (omega arith), eq-eqb ((n + 4 - 0) % 4) 0 (omega arith))

-- a scalar's sub-objects with the local value, if known, behind or before them
behind2 : (b : List ℕ) (q : Quantity) → leb 2 (length b) && eqb ((length b - 0) % 2) 0 ≡ true
    → leb 2 (length (b ++ sub_object 2 q)) && eqb ((length (b ++ sub_object 2 q) - 0) % 2) 0 ≡ true
behind2 b (Some v) e = rw (length-append b (big_endian 2 v), length-big_endian 2 v) (subs2 (length b) e)
behind2 b None e = let z : length (b ++ []) ≡ length b = length-append b [] ∙ omega arith in rw z e

behind4 : (b : List ℕ) (q : Quantity) → leb 4 (length b) && eqb ((length b - 0) % 4) 0 ≡ true
    → leb 4 (length (b ++ sub_object 4 q)) && eqb ((length (b ++ sub_object 4 q) - 0) % 4) 0 ≡ true
behind4 b (Some v) e = rw (length-append b (big_endian 4 v), length-big_endian 4 v) (subs4 (length b) e)
behind4 b None e = let z : length (b ++ []) ≡ length b = length-append b [] ∙ omega arith in rw z e

before4 : (b : List ℕ) (q : Quantity) → leb 4 (length b) && eqb ((length b - 0) % 4) 0 ≡ true
    → leb 4 (length (sub_object 4 q ++ b)) && eqb ((length (sub_object 4 q ++ b) - 0) % 4) 0 ≡ true
before4 b (Some v) e =
    let z : length (big_endian 4 v ++ b) ≡ length b + 4 = length-append (big_endian 4 v) b ∙ rw (length-big_endian 4 v) (omega arith) in
    rw z (subs4 (length b) e)
before4 b None e = e

-- recorded LQL: a byte, then at least one
some_level : (v : ℕ) (t : List ℕ) → 1 ≤ length (count_level v t)
some_level v [] = omega arith
some_level v (x ∷ t) = go (eqb (x / 32) v && ltb (x % 32) 31)
  where
    go : (b : Bool) → 1 ≤ length (cond b ((x + 1) ∷ t) (x ∷ count_level v t))
    go true = omega arith
    go false = omega arith

counted_shaped : (v : ℕ) (b : List ℕ) → leb 2 (length b) && eqb ((length b - 1) % 1) 0 ≡ true
    → leb 2 (length (counted_body v b)) && eqb ((length (counted_body v b) - 1) % 1) 0 ≡ true
counted_shaped v [] e = e
counted_shaped v (x ∷ t) e =
    let h = some_level v t in
    rw (le-leb 2 (suc (length (count_level v t))) (omega arith), eq-eqb ((suc (length (count_level v t)) - 1) % 1) 0 (omega arith))

-- a cleared colour constraint keeps its length
pub length-clear_colour : (b : List ℕ) → length (clear_colour b) ≡ length b
length-clear_colour [] = refl
length-clear_colour (x ∷ []) = refl
length-clear_colour (x ∷ y ∷ []) = refl
length-clear_colour (x ∷ y ∷ z ∷ t) = refl

-- recorded colour: a byte, then sub-objects of two bytes, as many as before or one more
pub colours_even : (v : ℕ) (t : List ℕ) → length t % 2 ≡ 0 → (length (count_colour v t) % 2 ≡ 0) × (2 ≤ length (count_colour v t))
colours_even v [] e = (refl, omega arith)
colours_even v (x ∷ []) e = absurd (omega arith)
colours_even v (x ∷ y ∷ t) e = go (eqb (colour_in x y) v && ltb (y % 64) 63) (colours_even v t (omega arith))
  where
    go : (b : Bool) → (length (count_colour v t) % 2 ≡ 0) × (2 ≤ length (count_colour v t))
        → (length (cond b (x ∷ (y + 1) ∷ t) (x ∷ y ∷ count_colour v t)) % 2 ≡ 0) × (2 ≤ length (cond b (x ∷ (y + 1) ∷ t) (x ∷ y ∷ count_colour v t)))
    go true ih = (e, omega arith)
    go false (p, q) = (omega arith, omega arith)

coloured_shaped : (v : ℕ) (b : List ℕ) → leb 3 (length b) && eqb ((length b - 1) % 2) 0 ≡ true
    → leb 3 (length (coloured_body v b)) && eqb ((length (coloured_body v b) - 1) % 2) 0 ≡ true
coloured_shaped v [] e = e
coloured_shaped v (x ∷ t) e =
    let h = eqb-true ((suc (length t) - 1) % 2) 0 (both (leb 3 (suc (length t))) (eqb ((suc (length t) - 1) % 2) 0) e).1 in
    let (p, q) = colours_even v t (omega arith) in
    rw (le-leb 3 (suc (length (count_colour v t))) (omega arith), eq-eqb ((suc (length (count_colour v t)) - 1) % 2) 0 (omega arith))

-- NE with this node's sub-object
energy_shaped : (t : ℕ) (q : Quantity) (b : List ℕ) → leb 2 (length b) && eqb ((length b - 0) % 2) 0 ≡ true
    → leb 2 (length (clear_each b ++ own_energy t q)) && eqb ((length (clear_each b ++ own_energy t q) - 0) % 2) 0 ≡ true
energy_shaped t q b e =
    let z : length (clear_each b ++ own_energy t q) ≡ length b + 2 = length-append (clear_each b) (own_energy t q) ∙ rw (length-clear_each b, length-own_energy t q) in
    rw z (subs2 (length b) e)

constraint-shaped : (k : Kind) (b : List ℕ) → shaped constraint (row k) b ≡ true → shaped constraint (row k) (constraint_body k b) ≡ true
unfolding constraint_body
constraint-shaped unknown b e = e
constraint-shaped lql b e = rw (length-on_two (λ x. 0) (λ y. y) b) e
constraint-shaped colour b e = rw (length-clear_colour b) e
constraint-shaped (node nsa) b e = on_two_shaped (clear0 nsa) (clear1 nsa) b e
constraint-shaped (node ne) b e = on_two_shaped (clear0 ne) (clear1 ne) b e
constraint-shaped (node hp) b e = on_two_shaped (clear0 hp) (clear1 hp) b e
constraint-shaped (scalar s) b e = e

aggregated-shaped : (k : Kind) (a v : ℕ) (b : List ℕ) → shaped aggregated (row k) b ≡ true → shaped aggregated (row k) (aggregated_body k a v b) ≡ true
unfolding aggregated_body
aggregated-shaped unknown a v b e = e
aggregated-shaped lql a v b e = e
aggregated-shaped colour a v b e = e
aggregated-shaped (node nsa) a v b e = on_two_shaped (clear0 nsa) (combine1 nsa a v) b e
aggregated-shaped (node ne) a v b e = on_two_shaped (clear0 ne) (combine1 ne a v) b e
aggregated-shaped (node hp) a v b e = on_two_shaped (clear0 hp) (combine1 hp a v) b e
aggregated-shaped (scalar throughput) a v b e = rw e
aggregated-shaped (scalar latency) a v b e = rw e
aggregated-shaped (scalar etx) a v b e = rw e

recorded-shaped : (own : Own) (c : Neighbour) (k : Kind) (b : List ℕ) → shaped recorded (row k) b ≡ true → shaped recorded (row k) (recorded_body own c k b) ≡ true
unfolding recorded_body
recorded-shaped own c unknown b e = e
recorded-shaped own c lql b e = counted_shaped c.lql b e
recorded-shaped own c colour b e = coloured_shaped c.colour b e
recorded-shaped own c (node nsa) b e = e
recorded-shaped own c (node ne) b e = energy_shaped own.nodetype (energy_in own.flags own.energy) b e
recorded-shaped own c (node hp) b e = e
recorded-shaped own c (scalar throughput) b e = before4 b (link_value c throughput) e
recorded-shaped own c (scalar latency) b e = behind4 b (link_value c latency) e
recorded-shaped own c (scalar etx) b e = behind2 b (link_value c etx) e

next_shaped : (own : Own) (c : Neighbour) (k : Kind) (r : Role) (a : ℕ) (b : List ℕ) → shaped r (row k) b ≡ true → shaped r (row k) (next_body own c k r a b) ≡ true
next_shaped own c k constraint a b e = constraint-shaped k b e
next_shaped own c k recorded a b e = recorded-shaped own c k b e
next_shaped own c k aggregated a b e = aggregated-shaped k a (value_or_0 (local_value own c k)) b e

-- ---- C stays, and so does what is a repeat

bit_c_at : (f : ℕ) (p : Bool) (c r : ℕ) → f / 2 % 2 ≡ c → next_flags (role_bits c r) p f / 2 % 2 ≡ f / 2 % 2
bit_c_at f p (suc c) r e = omega arith
bit_c_at f true zero (suc r) e = sym e
bit_c_at f false zero (suc r) e = omega arith
bit_c_at f p zero zero e = omega arith

bit_c_update : (own : Own) (c : Neighbour) (o : Object) → bit_c (update_object own c o) ≡ bit_c o
unfolding update_object role_of
bit_c_update own c o = bit_c_at o.flags (adds_nothing c (kind o)) (o.flags / 2 % 2) (o.mode / 128 % 2) refl

same_use_update : (own : Own) (c : Neighbour) (o e : Object) → same_use (update_object own c o) (update_object own c e) ≡ same_use o e
unfolding update_object
same_use_update own c o e = rw (bit_c_update own c o, bit_c_update own c e)

earlier_update : (own : Own) (c : Neighbour) (o : Object) (es : List Object) → any_of (same_use (update_object own c o)) (update own c es) ≡ any_of (same_use o) es
earlier_update own c o [] = refl
earlier_update own c o (e ∷ es) = rw (same_use_update own c o e, earlier_update own c o es)

-- ---- bars 15 to 17

object_bar-update : (own : Own) (c : Neighbour) (es : List Object) (o : Object) → object_bar (record { earlier = es; object = o }) ≡ 0
    → object_bar (record { earlier = update own c es; object = update_object own c o }) ≡ 0
unfolding object_bar update_object
object_bar-update own c es o e = go (known (kind o)) refl e
  where
    go : (b : Bool) → known (kind o) ≡ b → object_bar (record { earlier = es; object = o }) ≡ 0 → object_bar (record { earlier = update own c es; object = update_object own c o }) ≡ 0
    go true p e =
        let (m, s, r) = bar_free es o e p in
        rw (p, role_update own c o, m, next_shaped own c (kind o) (role o) (field_a o) o.body s, earlier_update own c o es, r)
    go false p e = rw p

pub update-append : (own : Own) (c : Neighbour) (es os : List Object) → update own c (es ++ os) ≡ update own c es ++ update own c os
update-append own c [] os = refl
update-append own c (e ∷ es) os = rw (update-append own c es os)

pub object_bars_update : (own : Own) (c : Neighbour) (es os : List Object) → first_of object_bar (standings es os) ≡ 0
    → first_of object_bar (standings (update own c es) (update own c os)) ≡ 0
unfolding first_of standings
object_bars_update own c es [] e = refl
object_bars_update own c es (o ∷ os) e =
    let (h, t) = first-zero (object_bar (record { earlier = es; object = o })) (first_of object_bar (standings (es ++ (o ∷ [])) os)) e in
    rw (object_bar-update own c es o h) (rw (update-append own c es (o ∷ [])) at (object_bars_update own c (es ++ (o ∷ [])) os t))
