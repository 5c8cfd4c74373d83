-- Every leaf answer is given exactly when document 01 says, for a parent with given objects.
use mathlib.Core.Path.{◌≡◌, refl, sym, ◌∙◌}
use Prim.Native.Nat.{ℕ, zero, suc, ◌+◌, ◌/◌, ◌%◌}
use lib.ListN.{length}
use lib.Dec.{ltb, eqb}
use native.Mathlib.Omega.{arith}
use mathlib.Core.Bool.{Bool, true, false, ◌&&◌, ◌||◌, and_assoc, and-false, or-false, false≢true, true≢false}
use mathlib.Core.List.{List, [], ◌∷◌, map}
use mathlib.Core.Logic.{◌↔◌}
use Rattle.model.specs.declared.Own.{Own}
use Rattle.model.specs.declared.Neighbour.{Neighbour}
use Rattle.model.specs.Number.{is_set, number, any_of, ◌when◌, first_case, first, first_of, index_of}
use Rattle.model.specs.Object.{Object, field_a, kind_of, role_of}
use Rattle.model.specs.Constraint.{link_value}
use Rattle.model.specs.Update.{unknown_aggregated, not_allowed, no_value, full_count, is_beyond, overflows, leaf_cases, object_leaf, too_long, leaf_answer, update}
use Rattle.model.specs.Pack.{unpackable}
use Rattle.model.specs.Conditions.{some_has}
use Rattle.model.specs.Exact.{FirstToHold, leaf_tests, LeafAt, LeafExact, OverflowTypes}
use Rattle.model.proofs.BoolLaws.{neither}
use Rattle.model.proofs.TypeLaws.{aggregated_bits, by_type}
use Rattle.model.proofs.ConstraintLaws.{satisfies_known}
use Rattle.model.proofs.NumberLaws.{exact, exact_none, is_given, given_case, first_of_all, given_first_of, first_with}

module _ (own : Own) (c : Neighbour) where
  leaf_none : (o : Object) → (object_leaf own c o ≡ 0) ↔ (any_of (λ t. t o) (leaf_tests own c) ≡ false)
  unfolding object_leaf
  leaf_none o = exact_none (leaf_cases own c o) refl

  leaf_given_lem : (o : Object) → is_given (object_leaf own c o) ≡ any_of (λ t. t o) (leaf_tests own c)
  unfolding object_leaf
  leaf_given_lem o = given_case (leaf_cases own c o) refl

  leaf_31 : (o : Object) → (object_leaf own c o ≡ 31) ↔ FirstToHold [] (unknown_aggregated o)
  unfolding object_leaf
  leaf_31 o = exact (leaf_cases own c o) 0 refl

  leaf_32 : (o : Object) → (object_leaf own c o ≡ 32) ↔ FirstToHold (unknown_aggregated o ∷ []) (not_allowed o)
  unfolding object_leaf
  leaf_32 o = exact (leaf_cases own c o) 1 refl

  leaf_33 : (o : Object) → (object_leaf own c o ≡ 33) ↔ FirstToHold (unknown_aggregated o ∷ not_allowed o ∷ []) (no_value own c o)
  unfolding object_leaf
  leaf_33 o = exact (leaf_cases own c o) 2 refl

  leaf_34 : (o : Object) → (object_leaf own c o ≡ 34) ↔ FirstToHold (unknown_aggregated o ∷ not_allowed o ∷ no_value own c o ∷ []) (full_count o)
  unfolding object_leaf
  leaf_34 o = exact (leaf_cases own c o) 3 refl

  leaf_36 : (o : Object) → (object_leaf own c o ≡ 36) ↔ FirstToHold (unknown_aggregated o ∷ not_allowed o ∷ no_value own c o ∷ full_count o ∷ []) (overflows c o)
  unfolding object_leaf
  leaf_36 o = exact (leaf_cases own c o) 4 refl

  -- 31 to 34 and 36 are not 35
  leaf_not_35 : (o : Object) → object_leaf own c o ≡ 35 → ⊥
  unfolding object_leaf
  leaf_not_35 o e = go (unknown_aggregated o) (not_allowed o) (no_value own c o) (full_count o) (overflows c o) e
    where
      go : (x y z w u : Bool) → first_case (31 when x ∷ 32 when y ∷ 33 when z ∷ 34 when w ∷ 36 when u ∷ []) ≡ 35 → ⊥
      go true y z w u e = omega arith
      go false true z w u e = omega arith
      go false false true w u e = omega arith
      go false false false true u e = omega arith
      go false false false false true e = omega arith
      go false false false false false e = omega arith

  -- the number at an object, or 35
  module _ (os : List Object) where
    at_object : (a m : ℕ) (b : Bool) → first a (first_case (35 when b ∷ [])) ≡ suc m → (suc m ≡ 35 → ⊥) → a ≡ suc m
    at_object zero m true e h = absurd (h (sym e))
    at_object zero m false e h = absurd (omega arith)
    at_object (suc a) m b e h = e

    leaf_at : (m : ℕ) (lower : List (Object → Bool)) (leaf : Object → Bool) → (suc m ≡ 35 → ⊥)
        → ((o : Object) → (object_leaf own c o ≡ suc m) ↔ FirstToHold (map (λ t. t o) lower) (leaf o))
        → (leaf_answer own c os ≡ suc m) ↔ LeafAt own c os lower leaf
    unfolding leaf_answer
    leaf_at m lower leaf h has = (
      λ e. let a = at_object (first_of (object_leaf own c) os) m (too_long own c os) e h in
          (index_of (object_leaf own c) os, (first_with (object_leaf own c) os m (leaf_tests own c) lower leaf has leaf_none _).0 (a, refl)),
      λ w. let (x, y) = (first_with (object_leaf own c) os m (leaf_tests own c) lower leaf has leaf_none w.0).1 w.1 in rw x,
    )

    leaves_given : is_given (first_of (object_leaf own c) os) ≡ some_has (leaf_tests own c) os
    leaves_given = given_first_of (object_leaf own c) (λ o. any_of (λ t. t o) (leaf_tests own c)) leaf_given_lem os

    -- where no object gives a number, 35 alone decides
    not_35 : first_of (object_leaf own c) os ≡ 35 → ⊥
    not_35 = first_of_all (λ a. a ≡ 35 → ⊥) (object_leaf own c) (λ e. omega arith) leaf_not_35 os

    only_35 : (a : ℕ) (b : Bool) → (a ≡ 35 → ⊥) → (first a (first_case (35 when b ∷ [])) ≡ 35) ↔ ((is_given a ≡ false) × (b ≡ true))
    only_35 zero true h = (λ e. (refl, refl), λ f. refl)
    only_35 zero false h = (λ e. absurd (omega arith), λ f. absurd (false≢true f.1))
    only_35 (suc a) b h = (λ e. absurd (h e), λ f. absurd (true≢false f.0))

    none_35 : (a : ℕ) (b : Bool) → (first a (first_case (35 when b ∷ [])) ≡ 0) ↔ ((is_given a || (b || false)) ≡ false)
    none_35 zero true = (λ e. absurd (omega arith), λ f. absurd (true≢false f))
    none_35 zero false = (λ e. refl, λ f. refl)
    none_35 (suc a) b = (λ e. absurd (omega arith), λ f. absurd (true≢false f))

    pub leaf_exact : LeafExact own c os (leaf_answer own c os)
    unfolding leaf_answer
    leaf_exact = record {
      leaf_31 = leaf_at 30 [] unknown_aggregated (λ e. omega arith) leaf_31;
      leaf_32 = leaf_at 31 (unknown_aggregated ∷ []) not_allowed (λ e. omega arith) leaf_32;
      leaf_33 = leaf_at 32 (unknown_aggregated ∷ not_allowed ∷ []) (no_value own c) (λ e. omega arith) leaf_33;
      leaf_34 = leaf_at 33 (unknown_aggregated ∷ not_allowed ∷ no_value own c ∷ []) full_count (λ e. omega arith) leaf_34;
      leaf_36 = leaf_at 35 (unknown_aggregated ∷ not_allowed ∷ no_value own c ∷ full_count ∷ []) (overflows c) (λ e. omega arith) leaf_36;
      leaf_35 = (
        λ e. let f = (only_35 (first_of (object_leaf own c) os) (too_long own c os) not_35).0 e in (rw (← leaves_given, f.0), f.1),
        λ f. (only_35 (first_of (object_leaf own c) os) (too_long own c os) not_35).1 (leaves_given ∙ (neither (some_has (leaf_tests own c) os) false f.0).0, f.1),
      );
      no_leaf = (
        λ e. rw (← leaves_given) ((none_35 (first_of (object_leaf own c) os) (too_long own c os)).0 e),
        λ f. (none_35 (first_of (object_leaf own c) os) (too_long own c os)).1 (rw leaves_given f),
      );
    }

-- what is sent fits eight containers
pub fits : (own : Own) (c : Neighbour) (os : List Object) → leaf_answer own c os ≡ 0 → unpackable (update own c os) ≡ false
unfolding too_long
fits own c os e =
    let (a, b) = neither (some_has (leaf_tests own c) os) _ ((leaf_exact own c os).no_leaf.0 e) in
    (neither (too_long own c os) false b).0

-- ---- leaf answer 36 by numbers

beyond_types : (c : Neighbour) (b : List ℕ) (t : ℕ) → is_beyond c (kind_of t) b
    ≡ eqb (length b) 4 && (eqb t 4 && is_set (c.flags / 32 % 2) && ltb 4294967295 (number b + c.throughput)
    || eqb t 5 && is_set (c.flags / 16 % 2) && ltb 4294967295 (number b + c.latency))
unfolding kind_of link_value
beyond_types c b = by_type _ none none none none
    (rw (← satisfies_known (λ v. ltb 4294967295 (number b + v)) (c.flags / 32 % 2) c.throughput, or-false (is_set (c.flags / 32 % 2) && ltb 4294967295 (number b + c.throughput))))
    (rw (← satisfies_known (λ v. ltb 4294967295 (number b + v)) (c.flags / 16 % 2) c.latency))
    none none none (λ t p. rw (p.kind, p.four, p.five) none)
  where
    none : false ≡ eqb (length b) 4 && false
    none = sym (and-false (eqb (length b) 4))

pub overflow_types : OverflowTypes
unfolding role_of
overflow_types c o = rw (aggregated_bits (o.flags / 2 % 2) (o.mode / 128 % 2), beyond_types c o.body o.type)
    (sym (and_assoc (eqb (o.flags / 2 % 2) 0 && eqb (o.mode / 128 % 2) 0 && eqb (field_a o) 0) (eqb (length o.body) 4) _))
