-- The limits of a path: a latency or an ETX tested against the whole way, a throughput against the link.
use mathlib.Core.Path.{◌≡◌, sym, ap, ◌∙◌}
use Prim.Native.Nat.{ℕ, ◌+◌, ◌/◌, ◌%◌, ◌≤◌}
use mathlib.Core.Bool.{Bool, true, false, not, ◌&&◌, and_assoc}
use mathlib.Core.List.{List, []}
use mathlib.Core.Logic.{◌↔◌}
use mathlib.Core.Option.{some}
use native.Mathlib.Omega.{arith}
use native.Mathlib.Nat.{zero-add}
use lib.ListN.{get_elem?}
use lib.Dec.{leb, eqb}
use borrow.Author.Tests.{eqb-true, eq-eqb, ne_eqb, leb-true, le-leb, not-false}
use Rattle.model.specs.declared.Neighbour.{Neighbour}
use Rattle.model.specs.Number.{is_set, number, first_of}
use Rattle.model.specs.Object.{Object, bit_o, bit_c, bit_r, field_a, Scalar, latency, etx, type_of, kind_of, kind, known, role_of, standings}
use Rattle.model.specs.Reading.{object_bar, well_formed}
use Rattle.model.specs.Run.{read_run}
use Rattle.model.specs.Constraint.{adds_up, path_value, summary, met, unmet}
use Rattle.model.specs.Exact.{is_summed, PathLimit, PathLimits}
use Rattle.model.proofs.BoolLaws.{both}
use Rattle.model.proofs.ListLaws.{at_split, any_same}
use Rattle.model.proofs.TypeLaws.{scalar_type, aggregated_bits, constraint_bit}
use Rattle.model.proofs.TabledLaws.{bar_free, among_free}
use Rattle.model.proofs.SummaryLaws.{from_behind, from_none, adds_use, use_fresh}
use Rattle.model.proofs.RunLaws.{run_objects_lem}
use Rattle.model.proofs.ConstraintLaws.{by_throughput, by_latency, by_etx}

-- ---- what is received

-- a metric that is added up, by its bits
summed_is : (s : Scalar) (o : Object) → is_summed (type_of s) o ≡ adds_up s o
unfolding role_of
summed_is s o = rw (aggregated_bits (o.flags / 2 % 2) (o.mode / 128 % 2)) (ap (λ b. b && eqb (field_a o) 0) (and_assoc (eqb o.type (type_of s)) (eqb (bit_c o) 0) (eqb (bit_r o) 0)))

-- the value of the one that stands in a well-formed container
received : (s : Scalar) (os : List Object) (i : ℕ) (m : Object) → first_of object_bar (standings [] os) ≡ 0 → get_elem? os i ≡ some m → adds_up s m ≡ true
    → path_value s os ≡ number m.body
received s os i m z e a =
    let (es, rest, q) = at_split os i m e in
    let free = among_free [] es m rest (ap (λ l. first_of object_bar (standings [] l)) (sym q) ∙ z) in
    let tabled : known (kind m) ≡ true = rw ((adds_use s m a).0, scalar_type s) in
    let fresh = use_fresh (type_of s) (adds_up s) (adds_use s) es m a (bar_free es m free tabled).2 in
    rw q (from_behind 0 (adds_up s) (λ o. number o.body) es m rest fresh a)

-- ---- the test of a limit

-- a value that is known where its bit is 1, against a limit
tested : (bit a n : ℕ) → (not (is_set bit && leb a n) ≡ false) ↔ ((bit ≡ 1) × (a ≤ n))
tested bit a n = (
  λ e. let (k, l) = both (is_set bit) (leb a n) (not-false _ e) in (eqb-true bit 1 k, leb-true a n l),
  λ f. rw (eq-eqb bit 1 f.0, le-leb a n f.1),
)

module _ (s : Scalar) (bs : List ℕ) (os : List Object) (r : read_run bs ≡ well_formed os) (bit v n : ℕ) (u : Bool) (e : u ≡ not (is_set bit && leb (path_value s os + v) n)) where
  limited : PathLimit os (type_of s) bit v n u
  limited = record {
    sum = λ i m at a k.
        let x = received s os i m (run_objects_lem bs os r).no_bar at (sym (summed_is s m) ∙ a) in
        let (f, g) = tested bit (number m.body + v) n in
        rw (e, x) (λ q. (f q).1, λ l. g (k, l));
    unknown = λ i m at a k. rw (e, ne_eqb bit 1 k);
    link_alone = λ none.
        let x = from_none 0 (adds_up s) (λ o. number o.body) os (sym (any_same (is_summed (type_of s)) (adds_up s) (summed_is s) os) ∙ none) in
        rw (e, x, zero-add v) (tested bit v n);
  }

-- a mandatory constraint of a known type is not met
asked : (c : Neighbour) (os : List Object) (l : Object) → bit_c l ≡ 1 → bit_o l ≡ 0 → known (kind l) ≡ true
    → unmet c (summary os) l ≡ not (met c (summary os) (kind l) l.body)
unfolding role_of
asked c os l k o t = rw (constraint_bit (l.flags / 2 % 2) (l.mode / 128 % 2) (omega arith), eq-eqb (bit_c l) 1 k, o, t)

pub path_limits : PathLimits
unfolding met kind_of
path_limits c bs os l r k o = (
  λ t. limited latency bs os r (c.flags / 16 % 2) c.latency (number l.body) _ (asked c os l k o (rw t) ∙ rw (t, by_latency c (path_value latency os) (number l.body))),
  λ t. limited etx bs os r (c.flags / 8 % 2) c.etx (number l.body) _ (asked c os l k o (rw t) ∙ rw (t, by_etx c (path_value etx os) (number l.body))),
  λ t.
      let e : unmet c (summary os) l ≡ not (is_set (c.flags / 32 % 2) && leb (number l.body) c.throughput)
      = asked c os l k o (rw t) ∙ rw (t, by_throughput c (number l.body)) in
      rw e (tested (c.flags / 32 % 2) (number l.body) c.throughput),
)
