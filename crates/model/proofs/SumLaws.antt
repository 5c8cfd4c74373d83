-- What is passed on of throughput and latency is the whole-number sum.
use mathlib.Core.Path.{◌≡◌, refl, sym, ◌∙◌}
use Prim.Native.Nat.{ℕ, ◌+◌}
use mathlib.Core.Bool.{true, false, true≢false}
use mathlib.Core.List.{List}
use mathlib.Core.Option.{some}
use lib.ListN.{length}
use borrow.Author.Tests.{eq-eqb, ltb-false}
use Rattle.model.specs.Number.{Quantity}
use Rattle.std.specs.Prelude.{Some, None}
use Rattle.model.specs.declared.Own.{Own}
use Rattle.model.specs.declared.Neighbour.{Neighbour}
use Rattle.model.specs.declared.Candidate.{Candidate}
use Rattle.model.specs.Number.{known_if, any_of, number}
use Rattle.model.specs.Object.{Object, field_a, kind_of, Scalar, throughput, latency, scalar, kind, aggregated, role}
use Rattle.model.specs.Reading.{well_formed}
use Rattle.model.specs.Run.{read_run}
use Rattle.model.specs.Constraint.{link_value}
use Rattle.model.specs.Update.{local_value, no_value, must_fit, overflows, width_of, most_of, update_object, update}
use Rattle.model.specs.Verdict.{run_of}
use Rattle.model.specs.Choice.{call}
use Rattle.model.specs.Conditions.{some_has}
use Rattle.model.specs.Selection.{PreferredParent}
use Rattle.model.specs.Untouched.{PassedOn, passed_on}
use Rattle.model.specs.Exact.{leaf_tests}
use Rattle.model.specs.ReadBack.{SummedWhole, SumsWhole}
use Rattle.model.proofs.BoolLaws.{neither}
use Rattle.model.proofs.ListLaws.{at_map, none_at}
use Rattle.model.proofs.ConstraintLaws.{known_is}
use Rattle.model.proofs.Readings.{same_objects}
use Rattle.model.proofs.ReadBack.{reads_back, no_sum_wraps, aggregates_whole}
use Rattle.model.proofs.Exact.{leaves}

-- ---- at an object that gives no leaf answer

-- a sum with a value that is known where its bit is 1
known_sum : (b x v y n : ℕ) → known_if b x ≡ Some v → n ≡ y + v → (b ≡ 1) × (n ≡ y + x)
known_sum b x v y n e s = let (k, q) = known_is b x v e in (k, rw q s)

module _ (own : Own) (c : Neighbour) (o : Object) (no_leaf : any_of (λ t. t o) (leaf_tests own c) ≡ false) (r : role o ≡ aggregated) (a : field_a o ≡ 0) where
  -- the link's value is known, and the number passed on is its sum with the one received
  record Whole (s : Scalar) : Type 0 where
    value : ℕ
    is : link_value c s ≡ Some value
    sum : number (update_object own c o).body ≡ number o.body + value

  whole : (s : Scalar) → must_fit s ≡ true → kind o ≡ scalar s → length o.body ≡ width_of s → Whole s
  unfolding local_value
  whole s f k w = go (link_value c s) refl
    where
      go : (q : Quantity) → link_value c s ≡ q → Whole s
      go None e = absurd (true≢false (rw (r, k, e) at (none_at (λ t. t o) (leaf_tests own c) 2 (no_value own c) no_leaf refl)))
      go (Some v) e =
          let n : overflows c o ≡ false = none_at (λ t. t o) (leaf_tests own c) 4 (overflows c) no_leaf refl in
          let h = ltb-false (most_of s) (number o.body + v) (rw (r, a, k, f, e, eq-eqb (length o.body) (width_of s) w) at n) in
          record { value = v; is = e; sum = ((no_sum_wraps own c o s v k r e w).add a).below h }

  -- by the type's number
  pub summed : ((s : Scalar) → kind o ≡ scalar s → length o.body ≡ width_of s) → SummedWhole c o (update_object own c o)
  unfolding kind_of link_value
  summed width = record {
    throughput = λ t. let k : kind o ≡ scalar throughput = rw t in let w = whole throughput refl k (width throughput k) in known_sum _ _ _ _ _ w.is w.sum;
    latency = λ t. let k : kind o ≡ scalar latency = rw t in let w = whole latency refl k (width latency k) in known_sum _ _ _ _ _ w.is w.sum;
  }

-- ---- in the container that a call passes on

module _ (own : Own) (cs : List Candidate) (lent out : List ℕ) (p : PassedOn (call own cs lent out))
    (x : PreferredParent own cs lent (call own cs lent out).answer) where
  -- what is read there is the parent's objects, updated
  pub objects_sent : (ns : List Object) → read_run (passed_on (call own cs lent out)) ≡ well_formed ns
      → ns ≡ update own x.candidate.neighbour x.objects
  objects_sent ns e = same_objects ns _ (sym e ∙ reads_back own cs lent out p x)

  -- none of the parent's objects gives a leaf answer
  pub leaf_free : some_has (leaf_tests own x.candidate.neighbour) x.objects ≡ false
  leaf_free =
      let none = (leaves own cs lent out p.unrefused x).no_leaf.0 p.no_leaf in
      (neither (some_has (leaf_tests own x.candidate.neighbour) x.objects) _ none).0

pub sums_whole : SumsWhole
sums_whole own cs lent out p x ns e i o n s t r a =
    let c = x.candidate.neighbour in
    let free = none_at (λ o. any_of (λ t. t o) (leaf_tests own c)) x.objects i o (leaf_free own cs lent out p x) s in
    let width = (aggregates_whole (run_of lent x.candidate) x.objects i o x.read s r).scalars in
    let is = objects_sent own cs lent out p x ns e in
    let at_i : some n ≡ some (update_object own c o) = sym t ∙ rw is (at_map (update_object own c) x.objects i o s) in
    let same : n ≡ update_object own c o = cc in
    rw same (summed own c o free r a width)
