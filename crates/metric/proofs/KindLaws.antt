-- Parts of the update by type number, as code tests it.
use mathlib.Core.Path.{◌≡◌, refl, ap}
use Prim.Native.Nat.{ℕ}
use mathlib.Core.Bool.{cond, ◌||◌}
use mathlib.Core.List.{List, [], ◌∷◌, ◌++◌, append-nil}
use lib.Dec.{eqb}
use Rattle.model.specs.declared.Own.{Own}
use Rattle.model.specs.declared.Neighbour.{Neighbour}
use Rattle.model.specs.Object.{Kind, unknown, lql, colour, node, nsa, ne, hp, scalar, throughput, latency, etx, kind_of}
use Rattle.wire.specs.declared.metric_type.MetricType.{MetricType}
use Rattle.wire.specs.declared.metric_type.MetricType.TheVariants as code
use Rattle.wire.specs.MetricType.{kind_in}
use Rattle.model.specs.Constraint.{energy_in}
use Rattle.model.specs.Update.{combine, on_two, on_field, aggregated_body, clear_colour, constraint_body, sub_object, clear_each, own_energy, counted_body, coloured_body, recorded_body}
use Rattle.model.proofs.TypeLaws.{by_type}
use Rattle.metric.specs.Next.{link_of, clear_first, clear_second, combine_second}

-- the type of a kind in the enum of code
abbrev pub type_in : Kind → MetricType
type_in unknown = code.Unknown
type_in (node nsa) = code.NodeState
type_in (node ne) = code.NodeEnergy
type_in (node hp) = code.HopCount
type_in (scalar throughput) = code.Throughput
type_in (scalar latency) = code.Latency
type_in lql = code.LinkQuality
type_in (scalar etx) = code.Etx
type_in colour = code.LinkColour

-- a type is named by its kind
pub named : (m : MetricType) (k : Kind) → kind_in m ≡ k → m ≡ type_in k
named code.Unknown k e = ap type_in e
named code.NodeState k e = ap type_in e
named code.NodeEnergy k e = ap type_in e
named code.HopCount k e = ap type_in e
named code.Throughput k e = ap type_in e
named code.Latency k e = ap type_in e
named code.LinkQuality k e = ap type_in e
named code.Etx k e = ap type_in e
named code.LinkColour k e = ap type_in e

-- ---- values

-- ---- headers

-- ---- leaf answers

-- ---- bodies

on_two_same : (b : List ℕ) → on_two (λ x. x) (λ y. y) b ≡ b
on_two_same [] = refl
on_two_same (x ∷ []) = refl
on_two_same (x ∷ y ∷ t) = refl

-- a constraint's body has its first two bytes cleared, but for colour, which has a third
pub constraint_two : (t : ℕ) (b : List ℕ) → (t ≡ 8 → ⊥) → on_two (clear_first (kind_of t)) (clear_second (kind_of t)) b ≡ constraint_body (kind_of t) b
unfolding kind_of constraint_body
constraint_two t b =
    by_type (λ t. (t ≡ 8 → ⊥) → on_two (clear_first (kind_of t)) (clear_second (kind_of t)) b ≡ constraint_body (kind_of t) b)
    (λ h. on_two_same b) (λ h. refl) (λ h. refl) (λ h. refl) (λ h. on_two_same b) (λ h. on_two_same b) (λ h. refl) (λ h. on_two_same b) (λ h. absurd (h refl)) (λ t p h. rw p.kind (on_two_same b)) t

pub constraint_three : (t : ℕ) (b : List ℕ) → t ≡ 8 → clear_colour b ≡ constraint_body (kind_of t) b
unfolding kind_of constraint_body
constraint_three t b e = rw e

-- the body of an aggregated metric by type
abbrev pub aggregated_by : (t a v : ℕ) → List ℕ → List ℕ
aggregated_by t a v b =
    cond (eqb t 4 || eqb t 5) (on_field 4 (λ x. combine a 4294967295 x v) b)
    (cond (eqb t 7) (on_field 2 (λ x. combine a 65535 x v) b)
    (cond (eqb t 1 || eqb t 2 || eqb t 3) (on_two (clear_first (kind_of t)) (combine_second (kind_of t) a v) b) b))

pub aggregated_by_lem : (t a v : ℕ) (b : List ℕ) → aggregated_by t a v b ≡ aggregated_body (kind_of t) a v b
unfolding kind_of aggregated_body
aggregated_by_lem t a v b = by_type (λ t. aggregated_by t a v b ≡ aggregated_body (kind_of t) a v b) refl refl refl refl refl refl refl refl refl (λ t p. rw (p.four, p.five, p.seven, p.one, p.two, p.three, p.kind)) t

-- the body of a recorded metric by type
abbrev pub recorded_by : Own → Neighbour → (t : ℕ) → List ℕ → List ℕ
recorded_by own c t b =
    cond (eqb t 2) (clear_each b ++ own_energy own.nodetype (energy_in own.flags own.energy))
    (cond (eqb t 6) (counted_body c.lql b)
    (cond (eqb t 8) (coloured_body c.colour b)
    (cond (eqb t 4) (sub_object 4 (link_of c (kind_of t)) ++ b)
    (cond (eqb t 7) (b ++ sub_object 2 (link_of c (kind_of t))) (b ++ sub_object 4 (link_of c (kind_of t)))))))

pub recorded_by_lem : (own : Own) (c : Neighbour) (t : ℕ) (b : List ℕ) → recorded_by own c t b ≡ recorded_body own c (kind_of t) b
unfolding kind_of recorded_body
recorded_by_lem own c t b =
    by_type (λ t. recorded_by own c t b ≡ recorded_body own c (kind_of t) b)
    (append-nil b) (append-nil b) refl (append-nil b) refl refl refl refl refl (λ t p. rw (p.two, p.six, p.eight, p.four, p.seven, p.kind) (append-nil b)) t
