-- Bars 18 and 19: the constraints that a candidate does not meet.
use Rattle.std.specs.Prelude.{ℕ, zero, suc, ◌+◌, ◌*◌, ◌/◌, ◌%◌, Bool, true, false, cond, not, ◌&&◌, ◌||◌, List, [], ◌∷◌, get_or, leb, ltb, eqb}
use Rattle.model.specs.Number.{Quantity}
use Rattle.std.specs.Prelude.{Some, None}
use Rattle.model.specs.declared.Summary.{Summary}
use Rattle.model.specs.declared.Neighbour.{Neighbour}
use Rattle.model.specs.Number.{is_set, known_if, satisfies, is_unknown, number, Case, ◌when◌, first_case}
use Rattle.model.specs.Object.{Object, bit_o, field_a, Kind, unknown, lql, colour, node, scalar, nsa, ne, hp, Scalar, throughput, latency, etx, type_of, known, kind, is_constraint, is_aggregated, is_hp, role}

-- ---- what is known of a neighbour

-- flag 0x01
abbrev pub is_overloaded : (flags : ℕ) → Bool
is_overloaded f = is_set (f % 2)

-- flag 0x02
abbrev pub is_aggregator : (flags : ℕ) → Bool
is_aggregator f = is_set (f / 2 % 2)

-- the energy, known by flag 0x04
abbrev pub energy_in : (flags energy : ℕ) → Quantity
energy_in f e = known_if (f / 4 % 2) e

-- the link's value of a scalar metric
unfoldable pub link_value : Neighbour → Scalar → Quantity
link_value c throughput = known_if (c.flags / 32 % 2) c.throughput
link_value c latency = known_if (c.flags / 16 % 2) c.latency
link_value c etx = known_if (c.flags / 8 % 2) c.etx

-- ---- what a container tells the tests of its constraints

-- what the first object with a property tells, wherever it stands; another value where none has it
unfoldable pub from_first : {A : Type 0} → (none : A) → (Object → Bool) → (Object → A) → List Object → A
from_first d p f [] = d
from_first d p f (o ∷ os) = cond (p o) (f o) (from_first d p f os)

-- an HP metric
abbrev pub counts_hops : Object → Bool
counts_hops o = is_hp (kind o) && not (is_constraint (role o))

-- the count of the HP metric
abbrev pub hop_count : List Object → Quantity
hop_count = from_first None counts_hops (λ o. Some (get_or o.body 1 0))

-- an aggregated metric of a scalar type that is added up along the path (A=0)
abbrev pub adds_up : Scalar → Object → Bool
adds_up s o = eqb o.type (type_of s) && is_aggregated (role o) && eqb (field_a o) 0

-- the received value of such a metric; without one, 0, by which no sum grows
abbrev pub path_value : Scalar → List Object → ℕ
path_value s = from_first 0 (adds_up s) (λ o. number o.body)

-- what a container tells the tests of its own constraints
abbrev pub summary : List Object → Summary
summary os = record { hops = hop_count os; latency = path_value latency os; etx = path_value etx os }

-- ---- when a constraint is met

-- NSA: aggregator bit set asks for an aggregating neighbour; overload bit set asks for one not overloaded
abbrev pub met_nsa : (aggregator overloaded : Bool) → (asked : ℕ) → Bool
met_nsa a o asked = (not (is_set (asked / 2 % 2)) || a) && (not (is_set (asked % 2)) || not o)

-- NE, I=1: neighbour's type equals T and, if E=1, its energy is above E_E
abbrev pub met_included : (same_type e : Bool) → Quantity → (limit : ℕ) → Bool
met_included s e energy limit = s && (not e || satisfies (λ v. ltb limit v) energy)

-- NE, I=0: not met exactly if the type equals T and (E=0, or energy is unknown, or below E_E)
abbrev pub met_excluded : (same_type e : Bool) → Quantity → (limit : ℕ) → Bool
met_excluded s e energy limit = not (s && (not e || is_unknown energy || satisfies (λ v. ltb v limit) energy))

-- NE: I (0x08), T (0x06) and E (0x01) of the flags byte
abbrev pub met_ne : (nodetype : ℕ) → Quantity → (flags limit : ℕ) → Bool
met_ne t energy f limit =
    cond (is_set (f / 8 % 2)) (met_included (eqb t (f / 2 % 4)) (is_set (f % 2)) energy limit) (met_excluded (eqb t (f / 2 % 4)) (is_set (f % 2)) energy limit)

-- the colour of a sub-object: ten bits, the upper eight of them in its first byte
abbrev pub colour_in : (x y : ℕ) → ℕ
colour_in x y = x * 4 + y / 64

-- every bit of a colour that is set is set in another, among so many bits
unfoldable pub has_all : (bits asked link : ℕ) → Bool
has_all zero a l = true
has_all (suc k) a l = leb (a % 2) (l % 2) && has_all k (a / 2) (l / 2)

-- colour, I=1: the link has the constraint's colour; I=0: it has not
abbrev pub met_colour : (link x y : ℕ) → Bool
met_colour l x y = cond (is_set (y % 2)) (has_all 10 (colour_in x y) l) (not (has_all 10 (colour_in x y) l))

-- a constraint of a kind, by its body
unfoldable pub met : Neighbour → Summary → Kind → List ℕ → Bool
met c s unknown b = false
met c s (node nsa) b = met_nsa (is_aggregator c.flags) (is_overloaded c.flags) (get_or b 1 0)
met c s (node ne) b = met_ne c.nodetype (energy_in c.flags c.energy) (get_or b 0 0) (get_or b 1 0)
met c s (node hp) b = satisfies (λ v. ltb v (get_or b 1 0)) s.hops
met c s (scalar throughput) b = satisfies (λ v. leb (number b) v) (link_value c throughput)
met c s (scalar latency) b = satisfies (λ v. leb (s.latency + v) (number b)) (link_value c latency)
met c s (scalar etx) b = satisfies (λ v. leb (s.etx + v) (number b)) (link_value c etx)
met c s colour b = met_colour c.colour (get_or b 1 0) (get_or b 2 0)
met c s lql b = leb 1 c.lql && leb c.lql (get_or b 1 0 / 32)

-- ---- bars 18 and 19

-- C=1 is a constraint, mandatory if O=0
abbrev pub mandatory : Object → Bool
mandatory o = is_constraint (role o) && not (is_set (bit_o o))

-- bar 18: mandatory constraint of unknown type
abbrev pub unknown_mandatory : Object → Bool
unknown_mandatory o = mandatory o && not (known (kind o))

-- bar 19: mandatory known constraint not met
abbrev pub unmet : Neighbour → Summary → Object → Bool
unmet c s o = mandatory o && known (kind o) && not (met c s (kind o) o.body)

-- bars 18 and 19 at an object
abbrev pub constraint_cases : Neighbour → Summary → Object → List Case
constraint_cases c s o = 18 when unknown_mandatory o ∷ 19 when unmet c s o ∷ []

-- the lower of 18 and 19 at an object
unfoldable pub constraint_bar : Neighbour → Summary → Object → ℕ
constraint_bar c s o = first_case (constraint_cases c s o)
