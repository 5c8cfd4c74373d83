-- Leaf answers 31 to 36, and the objects updated for this hop.
use Rattle.std.specs.Prelude.{ℕ, zero, suc, ◌+◌, ◌-◌, ◌*◌, ◌/◌, ◌%◌, ◌^◌, min, max, Bool, true, false, cond, not, ◌&&◌, ◌||◌, List, [], ◌∷◌, ◌++◌, map, length, get_or, ltb, eqb}
use Rattle.model.specs.Number.{Quantity}
use Rattle.std.specs.Prelude.{Some, None}
use Rattle.model.specs.declared.Own.{Own}
use Rattle.model.specs.declared.Neighbour.{Neighbour}
use Rattle.model.specs.Number.{is_set, satisfies, is_unknown, number, big_endian, Case, ◌when◌, first_case, first, first_of}
use Rattle.model.specs.Object.{Object, object, field_a, Kind, unknown, lql, colour, node, scalar, Node, nsa, ne, hp, Scalar, throughput, latency, etx, known, kind, Role, constraint, recorded, aggregated, role, is_aggregated, is_constraint, is_hp}
use Rattle.model.specs.Table.{row, allowed}
use Rattle.model.specs.Pack.{unpackable}
use Rattle.model.specs.Constraint.{energy_in, link_value, colour_in}

-- ---- local values

-- what this hop puts into a metric: node metrics use own values, link metrics the link's. NSA's two flags stand as in its body
unfoldable pub local_value : Own → Neighbour → Kind → Quantity
local_value own c unknown = None
local_value own c (node nsa) = Some (own.flags % 4)
local_value own c (node ne) = energy_in own.flags own.energy
local_value own c (node hp) = Some 1
local_value own c (scalar s) = link_value c s
local_value own c lql = Some c.lql
local_value own c colour = Some c.colour

-- a known value; an unknown one is asked for nowhere, since leaf answer 33 comes first
abbrev pub value_or_0 : Quantity → ℕ
value_or_0 (Some v) = v
value_or_0 None = 0

-- ---- aggregated metrics

-- A=0 adds, stopping at the field's maximum; 1 takes the larger, 2 the smaller. A throughput or latency that would stop is asked for
-- nowhere, since leaf answer 36 comes first
abbrev pub combine : (a most received local : ℕ) → ℕ
combine zero most x v = min most (x + v)
combine (suc zero) most x v = max x v
combine (suc (suc a)) most x v = min x v

-- the first two bytes changed, the others kept
abbrev pub on_two : (ℕ → ℕ) → (ℕ → ℕ) → List ℕ → List ℕ
on_two f g [] = []
on_two f g (x ∷ []) = x ∷ []
on_two f g (x ∷ y ∷ t) = f x ∷ g y ∷ t

-- byte 0 of NSA, NE and HP with its reserved bits cleared
abbrev pub clear0 : Node → ℕ → ℕ
clear0 nsa x = 0
clear0 ne x = x % 16
clear0 hp x = 0

-- byte 1 of NSA, NE and HP, combined with the local value: NSA per flag, NE on E_E, HP on the count
abbrev pub combine1 : Node → (a v y : ℕ) → ℕ
combine1 nsa a v y = combine a 1 (y / 2 % 2) (v / 2 % 2) * 2 + combine a 1 (y % 2) (v % 2)
combine1 ne a v y = combine a 255 y v
combine1 hp a v y = combine a 255 y v

-- a field of so many bytes, changed; a body of another length, which no well-formed object has, is kept
abbrev pub on_field : (width : ℕ) → (ℕ → ℕ) → List ℕ → List ℕ
on_field w f b = cond (eqb (length b) w) (big_endian w (f (number b))) b

-- the bytes of a scalar
abbrev pub width_of : Scalar → ℕ
width_of s = (row (scalar s)).base

-- the largest value of a scalar's field
abbrev pub most_of : Scalar → ℕ
most_of s = 256 ^ width_of s - 1

-- the body of an aggregated metric, combined with the local value
unfoldable pub aggregated_body : Kind → (a v : ℕ) → List ℕ → List ℕ
aggregated_body unknown a v b = b
aggregated_body lql a v b = b
aggregated_body colour a v b = b
aggregated_body (node n) a v b = on_two (clear0 n) (combine1 n a v) b
aggregated_body (scalar s) a v b = on_field (width_of s) (λ x. combine a (most_of s) x v) b

-- ---- constraints

-- byte 1 of NSA, NE and HP with its reserved bits cleared
abbrev pub clear1 : Node → ℕ → ℕ
clear1 nsa y = y % 4
clear1 ne y = y
clear1 hp y = y

-- a colour's sub-object in a constraint, its reserved bits cleared
abbrev pub clear_colour : List ℕ → List ℕ
clear_colour [] = []
clear_colour (x ∷ []) = x ∷ []
clear_colour (x ∷ y ∷ []) = x ∷ y ∷ []
clear_colour (x ∷ y ∷ z ∷ t) = 0 ∷ y ∷ (z / 64 * 64 + z % 2) ∷ t

-- the body kept but for the bits cleared
unfoldable pub constraint_body : Kind → List ℕ → List ℕ
constraint_body unknown b = b
constraint_body colour b = clear_colour b
constraint_body lql b = on_two (λ x. 0) (λ y. y) b
constraint_body (node n) b = on_two (clear0 n) (clear1 n) b
constraint_body (scalar s) b = b

-- ---- recorded metrics

-- the local value as a sub-object, where it is known
abbrev pub sub_object : (width : ℕ) → Quantity → List ℕ
sub_object w (Some v) = big_endian w v
sub_object w None = []

-- recorded NE: the upper four bits of every flags byte cleared
abbrev pub clear_each : List ℕ → List ℕ
clear_each [] = []
clear_each (x ∷ []) = x ∷ []
clear_each (x ∷ y ∷ t) = x % 16 ∷ y ∷ clear_each t

-- NE's sub-object of this node: own type, I=0, E and E_E (both 0 if unknown)
abbrev pub own_energy : (nodetype : ℕ) → Quantity → List ℕ
own_energy t (Some e) = (t * 2 + 1) ∷ e ∷ []
own_energy t None = t * 2 ∷ 0 ∷ []

-- a body with its reserved byte cleared, and the sub-objects behind it changed
abbrev pub behind_reserved : (List ℕ → List ℕ) → List ℕ → List ℕ
behind_reserved f [] = []
behind_reserved f (x ∷ t) = 0 ∷ f t

-- LQL: the first sub-object with the link's Val and counter below 31 gains one, else Val with counter 1 is added at the end
abbrev pub count_level : (val : ℕ) → List ℕ → List ℕ
count_level v [] = (v * 32 + 1) ∷ []
count_level v (x ∷ t) = cond (eqb (x / 32) v && ltb (x % 32) 31) ((x + 1) ∷ t) (x ∷ count_level v t)

-- the body of a recorded LQL: byte 0 cleared, the link's level counted
abbrev pub counted_body : (val : ℕ) → List ℕ → List ℕ
counted_body v b = behind_reserved (count_level v) b

-- colours: the first sub-object with the link's colour and a counter below 63 gains one, else the colour with counter 1 is added at the end
abbrev pub count_colour : (colour : ℕ) → List ℕ → List ℕ
count_colour v [] = v / 4 ∷ (v % 4 * 64 + 1) ∷ []
count_colour v (x ∷ []) = x ∷ []
count_colour v (x ∷ y ∷ t) = cond (eqb (colour_in x y) v && ltb (y % 64) 63) (x ∷ (y + 1) ∷ t) (x ∷ y ∷ count_colour v t)

-- the body of a recorded colour: byte 0 cleared, the link's colour counted
abbrev pub coloured_body : (colour : ℕ) → List ℕ → List ℕ
coloured_body v b = behind_reserved (count_colour v) b

-- the local value goes behind the last sub-object, for throughput before the first
unfoldable pub recorded_body : Own → Neighbour → Kind → List ℕ → List ℕ
recorded_body own c unknown b = b
recorded_body own c lql b = counted_body c.lql b
recorded_body own c colour b = coloured_body c.colour b
recorded_body own c (node nsa) b = b
recorded_body own c (node ne) b = clear_each b ++ own_energy own.nodetype (energy_in own.flags own.energy)
recorded_body own c (node hp) b = b
recorded_body own c (scalar throughput) b = sub_object 4 (link_value c throughput) ++ b
recorded_body own c (scalar latency) b = b ++ sub_object 4 (link_value c latency)
recorded_body own c (scalar etx) b = b ++ sub_object 2 (link_value c etx)

-- a recorded metric to which this hop adds nothing: P is set
abbrev pub adds_nothing : Neighbour → Kind → Bool
adds_nothing c unknown = true
adds_nothing c lql = false
adds_nothing c colour = false
adds_nothing c (node n) = false
adds_nothing c (scalar s) = is_unknown (link_value c s)

-- ---- the object for the next hop

-- the body for the next hop
abbrev pub next_body : Own → Neighbour → Kind → Role → (a : ℕ) → List ℕ → List ℕ
next_body own c k constraint a b = constraint_body k b
next_body own c k recorded a b = recorded_body own c k b
next_body own c k aggregated a b = aggregated_body k a (value_or_0 (local_value own c k)) b

-- reserved bits are cleared, and O when C=0
abbrev pub next_flags : Role → (set_p : Bool) → ℕ → ℕ
next_flags constraint p f = f % 8
next_flags recorded p f = cond p 4 (f / 4 % 2 * 4)
next_flags aggregated p f = f / 4 % 2 * 4

-- R is cleared when C=1
abbrev pub next_mode : Role → ℕ → ℕ
next_mode constraint m = m % 128
next_mode recorded m = m
next_mode aggregated m = m

-- an object updated for this hop
unfoldable pub update_object : Own → Neighbour → Object → Object
update_object own c o = object o.type (next_flags (role o) (adds_nothing c (kind o)) o.flags) (next_mode (role o) o.mode) (next_body own c (kind o) (role o) (field_a o) o.body)

-- objects keep their order
abbrev pub update : Own → Neighbour → List Object → List Object
update own c os = map (update_object own c) os

-- ---- leaf answers

-- 31: aggregated metric of unknown type
abbrev pub unknown_aggregated : Object → Bool
unknown_aggregated o = is_aggregated (role o) && not (known (kind o))

-- 32: aggregated, A not allowed for the type
abbrev pub not_allowed : Object → Bool
not_allowed o = is_aggregated (role o) && not (allowed (kind o) (field_a o))

-- NE with E=0
abbrev pub no_energy : Kind → List ℕ → Bool
no_energy unknown b = false
no_energy lql b = false
no_energy colour b = false
no_energy (node nsa) b = false
no_energy (node ne) b = not (is_set (get_or b 0 0 % 2))
no_energy (node hp) b = false
no_energy (scalar s) b = false

-- 33: aggregated: local value unknown, or NE received with E=0
abbrev pub no_value : Own → Neighbour → Object → Bool
no_value own c o = is_aggregated (role o) && (is_unknown (local_value own c (kind o)) || no_energy (kind o) o.body)

-- 34: HP metric count already 255
abbrev pub full_count : Object → Bool
full_count o = not (is_constraint (role o)) && is_hp (kind o) && eqb (get_or o.body 1 0) 255

-- whether a scalar's sum has to fit its field: ETX stops at its maximum (RFC 6551, section 4.3.2)
abbrev pub must_fit : Scalar → Bool
must_fit throughput = true
must_fit latency = true
must_fit etx = false

-- whether the sum with the link's value is beyond the field
abbrev pub is_beyond : Neighbour → Kind → List ℕ → Bool
is_beyond c unknown b = false
is_beyond c lql b = false
is_beyond c colour b = false
is_beyond c (node n) b = false
is_beyond c (scalar s) b = must_fit s && eqb (length b) (width_of s) && satisfies (λ v. ltb (most_of s) (number b + v)) (link_value c s)

-- 36: aggregated throughput or latency, A=0, the sum beyond the field
abbrev pub overflows : Neighbour → Object → Bool
overflows c o = is_aggregated (role o) && eqb (field_a o) 0 && is_beyond c (kind o) o.body

-- 31 to 34 and 36 at an object
abbrev pub leaf_cases : Own → Neighbour → Object → List Case
leaf_cases own c o = 31 when unknown_aggregated o ∷ 32 when not_allowed o ∷ 33 when no_value own c o ∷ 34 when full_count o ∷ 36 when overflows c o ∷ []

-- the lowest of 31 to 34 and 36 at an object
unfoldable pub object_leaf : Own → Neighbour → Object → ℕ
object_leaf own c o = first_case (leaf_cases own c o)

-- 35: a single object too long, or a ninth container
unfoldable pub too_long : Own → Neighbour → List Object → Bool
too_long own c os = unpackable (update own c os)

-- document 01's leaf answer for a parent with these objects; 0 for none
unfoldable pub leaf_answer : Own → Neighbour → List Object → ℕ
leaf_answer own c os = first (first_of (object_leaf own c) os) (first_case (35 when too_long own c os ∷ []))
