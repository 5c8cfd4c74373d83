-- When a constraint is met, by the type and the bits that code tests.
use mathlib.Core.Path.{◌≡◌, refl}
use Prim.Native.Nat.{ℕ, zero, suc, ◌+◌, ◌/◌, ◌%◌}
use mathlib.Core.Bool.{Bool, true, false, cond, not, ◌&&◌, ◌||◌, true≢false, false≢true}
use mathlib.Core.List.{List}
use lib.ListN.{get_or}
use lib.Dec.{leb, ltb, eqb}
use native.Mathlib.Omega.{arith}
use borrow.Author.Tests.{eqb-true, eq-eqb, ne_eqb}
use Rattle.model.specs.Number.{Quantity}
use Rattle.std.specs.Prelude.{Some, None}
use Rattle.model.specs.declared.Neighbour.{Neighbour}
use Rattle.model.specs.declared.Summary.{Summary}
use Rattle.model.specs.Number.{is_set, known_if, satisfies, is_unknown, number}
use Rattle.model.specs.Object.{Object, bit_o, Kind, unknown, lql, colour, node, scalar, throughput, latency, etx, kind_of, kind, known, Role, constraint, recorded, aggregated, role, is_constraint}
use Rattle.model.specs.Table.{row}
use Rattle.model.specs.Reading.{fixed_shape, shaped}
use Rattle.model.specs.Constraint.{is_aggregator, is_overloaded, energy_in, link_value, met_nsa, met_ne, met_colour, met, mandatory}

-- ---- a number that is known where its bit is 1

-- it satisfies a test
pub satisfies_known : (f : ℕ → Bool) (b v : ℕ) → is_set b && f v ≡ satisfies f (known_if b v)
satisfies_known f b v = go (is_set b)
  where
    go : (t : Bool) → t && f v ≡ satisfies f (cond t (Some v) None)
    go true = refl
    go false = refl

-- if it is known, its bit is 1, and it is the number
pub known_is : (b x v : ℕ) → known_if b x ≡ Some v → (b ≡ 1) × (x ≡ v)
known_is b x v e = go (is_set b) refl e
  where
    go : (t : Bool) → is_set b ≡ t → cond t (Some x) None ≡ Some v → (b ≡ 1) × (x ≡ v)
    go true t e = (eqb-true b 1 t, cc)
    go false t e = absurd (let z : ◌≡◌ {A = ℕ} 0 1 = cc in omega arith)

-- it is not known, or satisfies a test
unknown_or : (x : Bool) (f : ℕ → Bool) (b v : ℕ) → x || not (is_set b) || f v ≡ x || is_unknown (known_if b v) || satisfies f (known_if b v)
unknown_or x f b v = go x (is_set b)
  where
    go : (x t : Bool) → x || not t || f v ≡ x || is_unknown (cond t (Some v) None) || satisfies f (cond t (Some v) None)
    go x true = refl
    go true false = refl
    go false false = refl

-- ---- the tests that code makes

-- the link's value
pub by_throughput : (c : Neighbour) (n : ℕ) → is_set (c.flags / 32 % 2) && leb n c.throughput ≡ satisfies (λ v. leb n v) (link_value c throughput)
unfolding link_value
by_throughput c n = satisfies_known (λ v. leb n v) (c.flags / 32 % 2) c.throughput

-- the link's value and one received before it
module _ (c : Neighbour) (x n : ℕ) where
  pub by_latency : is_set (c.flags / 16 % 2) && leb (x + c.latency) n ≡ satisfies (λ v. leb (x + v) n) (link_value c latency)
  unfolding link_value
  by_latency = satisfies_known (λ v. leb (x + v) n) (c.flags / 16 % 2) c.latency

  pub by_etx : is_set (c.flags / 8 % 2) && leb (x + c.etx) n ≡ satisfies (λ v. leb (x + v) n) (link_value c etx)
  unfolding link_value
  by_etx = satisfies_known (λ v. leb (x + v) n) (c.flags / 8 % 2) c.etx

-- NE by I
module _ (c : Neighbour) (f limit : ℕ) where
  -- the neighbour's energy, known or not
  abbrev energy : Quantity
  energy = energy_in c.flags c.energy

  pub by_included : f / 8 % 2 ≡ 1 → eqb c.nodetype (f / 2 % 4) && (not (is_set (f % 2)) || is_set (c.flags / 4 % 2) && ltb limit c.energy) ≡ met_ne c.nodetype energy f limit
  by_included e = rw (eq-eqb (f / 8 % 2) 1 e, satisfies_known (λ v. ltb limit v) (c.flags / 4 % 2) c.energy)

  pub by_excluded : (f / 8 % 2 ≡ 1 → ⊥)
      → not (eqb c.nodetype (f / 2 % 4) && (not (is_set (f % 2)) || not (is_set (c.flags / 4 % 2)) || ltb c.energy limit)) ≡ met_ne c.nodetype energy f limit
  by_excluded e = rw (ne_eqb (f / 8 % 2) 1 e, unknown_or (not (is_set (f % 2))) (λ v. ltb v limit) (c.flags / 4 % 2) c.energy)

-- ---- each type by its number

module _ (c : Neighbour) (s : Summary) (t : ℕ) (b : List ℕ) where
  pub met_nsa_lem : t ≡ 1 → met_nsa (is_aggregator c.flags) (is_overloaded c.flags) (get_or b 1 0) ≡ met c s (kind_of t) b
  unfolding met kind_of
  met_nsa_lem e = rw e

  pub met_ne_lem : t ≡ 2 → met_ne c.nodetype (energy_in c.flags c.energy) (get_or b 0 0) (get_or b 1 0) ≡ met c s (kind_of t) b
  unfolding met kind_of
  met_ne_lem e = rw e

  pub met_hp : t ≡ 3 → satisfies (λ v. ltb v (get_or b 1 0)) s.hops ≡ met c s (kind_of t) b
  unfolding met kind_of
  met_hp e = rw e

  pub met-throughput : (n : ℕ) → t ≡ 4 → n ≡ number b → satisfies (λ v. leb n v) (link_value c throughput) ≡ met c s (kind_of t) b
  unfolding met kind_of
  met-throughput n e q = rw (e, q)

  pub met-latency : (n : ℕ) → t ≡ 5 → n ≡ number b → satisfies (λ v. leb (s.latency + v) n) (link_value c latency) ≡ met c s (kind_of t) b
  unfolding met kind_of
  met-latency n e q = rw (e, q)

  pub met-lql : t ≡ 6 → leb 1 c.lql && leb c.lql (get_or b 1 0 / 32) ≡ met c s (kind_of t) b
  unfolding met kind_of
  met-lql e = rw e

  pub met-etx : (n : ℕ) → t ≡ 7 → n ≡ number b → satisfies (λ v. leb (s.etx + v) n) (link_value c etx) ≡ met c s (kind_of t) b
  unfolding met kind_of
  met-etx n e q = rw (e, q)

  pub met-colour : t ≡ 8 → met_colour c.colour (get_or b 1 0) (get_or b 2 0) ≡ met c s (kind_of t) b
  unfolding met kind_of
  met-colour e = rw e

-- the types that no test names
pub past_known : (t : ℕ) → (t ≡ 1 → ⊥) → (t ≡ 2 → ⊥) → (t ≡ 3 → ⊥) → (t ≡ 4 → ⊥) → (t ≡ 5 → ⊥) → (t ≡ 6 → ⊥) → (t ≡ 7 → ⊥) → (t ≡ 8 → ⊥) → known (kind_of t) ≡ false
unfolding kind_of
past_known zero a b c d e f g h = refl
past_known (suc zero) a b c d e f g h = absurd (a refl)
past_known (suc (suc zero)) a b c d e f g h = absurd (b refl)
past_known (suc (suc (suc zero))) a b c d e f g h = absurd (c refl)
past_known (suc (suc (suc (suc zero)))) a b c d e f g h = absurd (d refl)
past_known (suc (suc (suc (suc (suc zero))))) a b c d e f g h = absurd (e refl)
past_known (suc (suc (suc (suc (suc (suc zero)))))) a b c d e f g h = absurd (f refl)
past_known (suc (suc (suc (suc (suc (suc (suc zero))))))) a b c d e f g h = absurd (g refl)
past_known (suc (suc (suc (suc (suc (suc (suc (suc zero)))))))) a b c d e f g h = absurd (h refl)
past_known (suc (suc (suc (suc (suc (suc (suc (suc (suc t))))))))) a b c d e f g h = refl

-- no constraint of unknown type is met
pub met_unknown : (c : Neighbour) (s : Summary) (t : ℕ) (b : List ℕ) → known (kind_of t) ≡ false → false ≡ met c s (kind_of t) b
unfolding met
met_unknown c s t b e = go (kind_of t) e
  where
    go : (k : Kind) → known k ≡ false → false ≡ met c s k b
    go unknown e = refl
    go lql e = absurd (true≢false e)
    go colour e = absurd (true≢false e)
    go (node n) e = absurd (true≢false e)
    go (scalar x) e = absurd (true≢false e)

-- ---- mandatory constraints

-- the body of a mandatory constraint that is as tabled
pub mandatory_fixed : (o : Object) → mandatory o ≡ true → shaped (role o) (row (kind o)) o.body ≡ true → fixed_shape (row (kind o)) o.body ≡ true
mandatory_fixed o m h = go (role o) m h
  where
    go : (r : Role) → is_constraint r && not (is_set (bit_o o)) ≡ true → shaped r (row (kind o)) o.body ≡ true → fixed_shape (row (kind o)) o.body ≡ true
    go constraint m h = h
    go recorded m h = absurd (false≢true m)
    go aggregated m h = h
