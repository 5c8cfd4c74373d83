-- Leaf answers 31 to 34 and 36, as code tests them.
use mathlib.Core.Path.{◌≡◌, refl, sym, ap, ◌∙◌}
use Prim.Native.Nat.{ℕ, ◌+◌, ◌/◌, ◌%◌, ◌<◌}
use native.Mathlib.Omega.{arith}
use mathlib.Core.Bool.{Bool, true, false, cond, not, ◌&&◌, false≢true}
use mathlib.Core.List.{List}
use lib.ListN.{length}
use lib.Dec.{ltb, eqb}
use borrow.Author.Tests.{le-ltb}
use Rattle.std.specs.Prelude.{Some}
use Rattle.model.specs.declared.Own.{Own}
use Rattle.model.specs.declared.Neighbour.{Neighbour}
use Rattle.model.specs.Number.{number}
use Rattle.model.specs.Object.{object, kind_of, Kind, scalar, role_of, constraint, recorded, aggregated, throughput, latency}
use mathlib.Core.Logic.{◌⊎◌, inl, inr}
use Rattle.model.specs.Update.{is_beyond, object_leaf}
use Rattle.model.proofs.TypeLaws.{by_type}
use Rattle.std.specs.Option.{is_some}
use Rattle.wire.specs.Number.{number_in}
use Rattle.metric.specs.Next.{link_of, full_in, aggregated_leaf}
use Rattle.wire.specs.declared.metric_type.MetricType.{MetricType}
use Rattle.wire.specs.declared.metric_type.MetricType.TheVariants.{Throughput, Latency}
use Rattle.wire.specs.MetricType.{kind_in}
use Rattle.metric.specs.Sums.{sum_in}
use Rattle.metric.proofs.ValueLaws.{sum_past}

-- ---- 36

-- the sum of a body's number, 0 for a body of another width, with a value that fits
past_number : (b : List ℕ) (v : ℕ) → v < 4294967296 → is_some (sum_in 4294967295 (number_in 4 b) v) ≡ not (eqb (length b) 4 && ltb 4294967295 (number b + v))
unfolding number_in
past_number b v h = sum_past 4294967295 (number_in 4 b) v ∙ ap not (go (eqb (length b) 4))
  where
    go : (t : Bool) → ltb 4294967295 (cond t (number b) 0 + v) ≡ t && ltb 4294967295 (number b + v)
    go true = refl
    go false = le-ltb 4294967295 (0 + v) (omega arith)

module _ (c : Neighbour) (b : List ℕ) where
  -- types other than 4 and 5 have no sum that must fit
  pub beyond_other : (t : ℕ) → not (eqb t 4) && not (eqb t 5) ≡ true → false ≡ is_beyond c (kind_of t) b
  unfolding kind_of
  beyond_other = by_type (λ t. not (eqb t 4) && not (eqb t 5) ≡ true → false ≡ is_beyond c (kind_of t) b)
      (λ e. refl) (λ e. refl) (λ e. refl) (λ e. refl) (λ e. absurd (false≢true e)) (λ e. absurd (false≢true e)) (λ e. refl) (λ e. refl) (λ e. refl) (λ t p e. rw p.kind)

  pub beyond_known : {m : MetricType} {k : Kind} (v : ℕ) → kind_in m ≡ k → (m ≡ Throughput) ⊎ (m ≡ Latency) → link_of c k ≡ Some v → v < 4294967296
      → is_some (sum_in 4294967295 (number_in 4 b) v) ≡ not (is_beyond c k b)
  beyond_known {m} {k} v f e l h = past_number b v h ∙ ap not (go k (known_as e) l)
    where
      known_as : (m ≡ Throughput) ⊎ (m ≡ Latency) → (k ≡ scalar throughput) ⊎ (k ≡ scalar latency)
      known_as (inl e) = inl (sym f ∙ ap kind_in e)
      known_as (inr e) = inr (sym f ∙ ap kind_in e)

      go : (k : Kind) → (k ≡ scalar throughput) ⊎ (k ≡ scalar latency) → link_of c k ≡ Some v → eqb (length b) 4 && ltb 4294967295 (number b + v) ≡ is_beyond c k b
      go k (inl e) l = rw e (rw (rw e at l))
      go k (inr e) l = rw e (rw (rw e at l))

-- what does not fit is beyond
pub not_same : (r s : Bool) → not r ≡ not s → r ≡ s
not_same true true e = refl
not_same true false e = cc
not_same false true e = cc
not_same false false e = refl

-- ---- by the role

module _ (own : Own) (c : Neighbour) (t f m : ℕ) (b : List ℕ) where
  pub leaf_constraint : role_of f m ≡ constraint → 0 ≡ object_leaf own c (object t f m b)
  unfolding object_leaf
  leaf_constraint e = rw e

  pub leaf_recorded : role_of f m ≡ recorded → cond (full_in (kind_of t) b) 34 0 ≡ object_leaf own c (object t f m b)
  unfolding object_leaf
  leaf_recorded e = rw e

  pub leaf_aggregated : role_of f m ≡ aggregated → aggregated_leaf own c (kind_of t) (m / 16 % 8) b ≡ object_leaf own c (object t f m b)
  unfolding object_leaf
  leaf_aggregated e = rw e
