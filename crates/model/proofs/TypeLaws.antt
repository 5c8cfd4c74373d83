-- Types and roles by number: which are known, which metrics bar 17 refuses, which objects tell nothing to the limits of their container.
use mathlib.Core.Path.{◌≡◌, refl, sym, ◌∙◌}
use Prim.Native.Nat.{zero, suc, ℕ, ◌/◌, ◌%◌, ◌≤◌, ◌<◌}
use native.Mathlib.Omega.{arith}
use mathlib.Core.Bool.{Bool, true, false, beq, ◌&&◌, ◌||◌, and-false, false≢true, true≢false, not}
use lib.ListN.{get_or-eq_default}
use lib.Dec.{leb, ltb, eqb}
use borrow.Author.Tests.{lt-leb, eq-eqb, ne_eqb, ltb-true, ltb-false}
use Rattle.model.specs.Number.{is_set}
use Rattle.model.specs.Object.{Object, kind, is_constraint, is_aggregated, is_hp, Kind, unknown, lql, colour, node, scalar, nsa, ne, hp, Scalar, throughput, latency, etx, type_of, kinds, kind_of, known, role_bits, role_of}
use Rattle.model.specs.Table.{row}
use Rattle.model.specs.Reading.{cannot_be}
use Rattle.model.specs.Constraint.{counts_hops, adds_up, unknown_mandatory}
use Rattle.model.specs.Cut.{may_have_tlvs}
use Rattle.model.specs.Unknown.{is_unknown_mandatory}
use Rattle.model.specs.Exact.{KnownTypes, TlvTypes, MisusedTypes}
use Rattle.model.proofs.NumberLaws.{all_below, below_all}

pub beq-true : (a b : Bool) → beq a b ≡ true → a ≡ b
beq-true true true e = refl
beq-true true false e = absurd (false≢true e)
beq-true false true e = absurd (false≢true e)
beq-true false false e = refl

-- a type of 9 or more stands behind the list of kinds
past_kinds : (t : ℕ) → 9 ≤ t → known (kind_of t) ≡ false
unfolding kind_of
past_kinds t h = rw (get_or-eq_default kinds unknown h)

below_9 : all_below 9 (λ t. beq (known (kind_of t)) (leb 1 t && leb t 8)) ≡ true
unfolding kind_of
below_9 = refl

-- two tests of a type agree where they do below 9, by computation, and behind the list of kinds
pub every_type : (f g : ℕ → Bool) → all_below 9 (λ t. beq (f t) (g t)) ≡ true → ((t : ℕ) → 9 ≤ t → f t ≡ g t) → (t : ℕ) → f t ≡ g t
every_type f g h p t = go (ltb t 9) refl
  where
    go : (b : Bool) → ltb t 9 ≡ b → f t ≡ g t
    go true e = beq-true (f t) (g t) (below_all 9 (λ t. beq (f t) (g t)) h t (ltb-true t 9 e))
    go false e = p t (ltb-false t 9 e)

-- a test of every kind, by computation
pub every_kind : (f : Kind → Bool) → all_below 9 (λ t. f (kind_of t)) ≡ true → (k : Kind) → f k ≡ true
unfolding kind_of
every_kind f h unknown = below_all 9 (λ t. f (kind_of t)) h 0 (omega arith)
every_kind f h (node nsa) = below_all 9 (λ t. f (kind_of t)) h 1 (omega arith)
every_kind f h (node ne) = below_all 9 (λ t. f (kind_of t)) h 2 (omega arith)
every_kind f h (node hp) = below_all 9 (λ t. f (kind_of t)) h 3 (omega arith)
every_kind f h (scalar throughput) = below_all 9 (λ t. f (kind_of t)) h 4 (omega arith)
every_kind f h (scalar latency) = below_all 9 (λ t. f (kind_of t)) h 5 (omega arith)
every_kind f h lql = below_all 9 (λ t. f (kind_of t)) h 6 (omega arith)
every_kind f h (scalar etx) = below_all 9 (λ t. f (kind_of t)) h 7 (omega arith)
every_kind f h colour = below_all 9 (λ t. f (kind_of t)) h 8 (omega arith)

pub known_types : KnownTypes
known_types = every_type (λ t. known (kind_of t)) (λ t. leb 1 t && leb t 8) below_9 (λ t l. past_kinds t l ∙ sym (rw (lt-leb t 8 (omega arith)) (and-false (leb 1 t))))

-- TLVs stand in types 1 to 3
tlvs_below : all_below 8 (λ t. beq (row (kind_of t)).tlvs (may_have_tlvs t)) ≡ true
unfolding kind_of
tlvs_below = refl

pub tlv_types : TlvTypes
unfolding kind_of
tlv_types = every_type (λ t. (row (kind_of t)).tlvs) may_have_tlvs tlvs_below
    (λ t l. rw (get_or-eq_default kinds unknown l, lt-leb t 3 (omega arith)) (sym (and-false (leb 1 t))))

-- HP is type 3
hp_below : all_below 9 (λ t. beq (is_hp (kind_of t)) (eqb t 3)) ≡ true
unfolding kind_of
hp_below = refl

pub hp_type : (t : ℕ) → is_hp (kind_of t) ≡ eqb t 3
unfolding kind_of
hp_type = every_type (λ t. is_hp (kind_of t)) (λ t. eqb t 3) hp_below (λ t l. rw (get_or-eq_default kinds unknown l, ne_eqb t 3 (λ q. omega arith)))

-- the type of a scalar is one whose kind it is
pub scalar_type : (s : Scalar) → kind_of (type_of s) ≡ scalar s
unfolding kind_of
scalar_type throughput = refl
scalar_type latency = refl
scalar_type etx = refl

-- ---- an object of another type counts no hops and is not added up

pub no_hops : (o : Object) → (o.type ≡ 3 → ⊥) → counts_hops o ≡ false
no_hops o n = rw (hp_type o.type, ne_eqb o.type 3 n)

pub no_adds : (s : Scalar) (o : Object) → (o.type ≡ type_of s → ⊥) → adds_up s o ≡ false
no_adds s o n = rw (ne_eqb o.type (type_of s) n)

-- among them those of unknown type
pub unknown_hops : (o : Object) → known (kind o) ≡ false → counts_hops o ≡ false
unfolding kind_of
unknown_hops o u = no_hops o (λ q. true≢false (rw q at u))

pub unknown_adds : (s : Scalar) (o : Object) → known (kind o) ≡ false → adds_up s o ≡ false
unknown_adds s o u = no_adds s o (λ q. true≢false (rw (q, scalar_type s) at u))

-- ---- bar 17 by numbers

-- a type that no rule names
no_rule : (t : ℕ) (a b c : Bool) → 9 ≤ t → a && ((eqb t 1 || eqb t 3) && b || (eqb t 6 || eqb t 8) && c) ≡ false
no_rule t a b c h =
    let n : (k : ℕ) → k < 9 → eqb t k ≡ false = λ k g. ne_eqb t k (λ e. omega arith) in
    rw (n 1 (omega arith), n 3 (omega arith), n 6 (omega arith), n 8 (omega arith)) (and-false a)

-- bar 17 by the table, and by the numbers
abbrev tabled : (t c r : ℕ) → Bool
tabled t c r = known (kind_of t) && cannot_be (role_bits c r) (row (kind_of t))

abbrev numbered : (t c r : ℕ) → Bool
numbered t c r = eqb c 0 && ((eqb t 1 || eqb t 3) && eqb r 1 || (eqb t 6 || eqb t 8) && eqb r 0)

-- they agree at every type below 9, by computation over types and bits
agree : all_below 9 (λ t. all_below 2 (λ c. all_below 2 (λ r. beq (tabled t c r) (numbered t c r)))) ≡ true
unfolding kind_of
agree = refl

misused_at : (t c r : ℕ) → c < 2 → r < 2 → tabled t c r ≡ numbered t c r
misused_at t c r h g = go (ltb t 9) refl
  where
    go : (b : Bool) → ltb t 9 ≡ b → tabled t c r ≡ numbered t c r
    go true e =
        let x = below_all 9 (λ t. all_below 2 (λ c. all_below 2 (λ r. beq (tabled t c r) (numbered t c r)))) agree t (ltb-true t 9 e) in
        let y = below_all 2 (λ c. all_below 2 (λ r. beq (tabled t c r) (numbered t c r))) x c h in
        beq-true (tabled t c r) (numbered t c r) (below_all 2 (λ r. beq (tabled t c r) (numbered t c r)) y r g)
    go false e =
        let l = ltb-false t 9 e in
        rw (past_kinds t l) (sym (no_rule t (eqb c 0) (eqb r 1) (eqb r 0) l))

pub misused_types : MisusedTypes
unfolding role_of
misused_types es o = misused_at o.type (o.flags / 2 % 2) (o.mode / 128 % 2) (omega arith) (omega arith)

-- ---- roles by numbers

-- a metric with R=0 has both bits 0
pub aggregated_bits : (c r : ℕ) → is_aggregated (role_bits c r) ≡ eqb c 0 && eqb r 0
aggregated_bits zero zero = refl
aggregated_bits zero (suc r) = sym (ne_eqb (suc r) 0 (λ e. omega arith))
aggregated_bits (suc c) r = rw (ne_eqb (suc c) 0 (λ e. omega arith))

-- a constraint has C=1
pub constraint_bit : (c r : ℕ) → c < 2 → is_constraint (role_bits c r) ≡ eqb c 1
constraint_bit zero zero h = refl
constraint_bit zero (suc r) h = refl
constraint_bit (suc c) r h = sym (eq-eqb (suc c) 1 (omega arith))

-- a bit that is not 1
pub clear_bit : (b : ℕ) → b < 2 → not (is_set b) ≡ eqb b 0
clear_bit zero h = refl
clear_bit (suc b) h = let e : suc b ≡ 1 = omega arith in rw e

-- ---- an unknown mandatory constraint by numbers

pub unknown_mandatory_lem : (o : Object) → is_unknown_mandatory o ≡ unknown_mandatory o
unfolding role_of
unknown_mandatory_lem o =
    rw (known_types o.type, constraint_bit (o.flags / 2 % 2) (o.mode / 128 % 2) (omega arith), clear_bit (o.flags % 2) (omega arith))
    (turn (not (leb 1 o.type && leb o.type 8)) (eqb (o.flags / 2 % 2) 1) (eqb (o.flags % 2) 0))
  where
    turn : (a b c : Bool) → a && b && c ≡ b && c && a
    turn true true true = refl
    turn true true false = refl
    turn true false c = refl
    turn false true true = refl
    turn false true false = refl
    turn false false c = refl

-- a type behind the table is none of its numbers, and of unknown kind
pub record Past (t : ℕ) : Type 0 where
  pub one : eqb t 1 ≡ false
  pub two : eqb t 2 ≡ false
  pub three : eqb t 3 ≡ false
  pub four : eqb t 4 ≡ false
  pub five : eqb t 5 ≡ false
  pub six : eqb t 6 ≡ false
  pub seven : eqb t 7 ≡ false
  pub eight : eqb t 8 ≡ false
  pub kind : kind_of t ≡ unknown

past : (t : ℕ) → 9 ≤ t → Past t
unfolding kind_of
past t h = record {
  one = ne_eqb t 1 (λ e. omega arith);
  two = ne_eqb t 2 (λ e. omega arith);
  three = ne_eqb t 3 (λ e. omega arith);
  four = ne_eqb t 4 (λ e. omega arith);
  five = ne_eqb t 5 (λ e. omega arith);
  six = ne_eqb t 6 (λ e. omega arith);
  seven = ne_eqb t 7 (λ e. omega arith);
  eight = ne_eqb t 8 (λ e. omega arith);
  kind = get_or-eq_default kinds unknown h;
}

-- what holds of each type of the table, and of those behind it, holds of every type
pub by_type : (P : ℕ → Type 0) → P 0 → P 1 → P 2 → P 3 → P 4 → P 5 → P 6 → P 7 → P 8 → ((t : ℕ) → Past t → P t) → (t : ℕ) → P t
by_type P p0 p1 p2 p3 p4 p5 p6 p7 p8 f zero = p0
by_type P p0 p1 p2 p3 p4 p5 p6 p7 p8 f (suc zero) = p1
by_type P p0 p1 p2 p3 p4 p5 p6 p7 p8 f (suc (suc zero)) = p2
by_type P p0 p1 p2 p3 p4 p5 p6 p7 p8 f (suc (suc (suc zero))) = p3
by_type P p0 p1 p2 p3 p4 p5 p6 p7 p8 f (suc (suc (suc (suc zero)))) = p4
by_type P p0 p1 p2 p3 p4 p5 p6 p7 p8 f (suc (suc (suc (suc (suc zero))))) = p5
by_type P p0 p1 p2 p3 p4 p5 p6 p7 p8 f (suc (suc (suc (suc (suc (suc zero)))))) = p6
by_type P p0 p1 p2 p3 p4 p5 p6 p7 p8 f (suc (suc (suc (suc (suc (suc (suc zero))))))) = p7
by_type P p0 p1 p2 p3 p4 p5 p6 p7 p8 f (suc (suc (suc (suc (suc (suc (suc (suc zero)))))))) = p8
by_type P p0 p1 p2 p3 p4 p5 p6 p7 p8 f (suc (suc (suc (suc (suc (suc (suc (suc (suc n))))))))) = f _ (past _ (omega arith))
