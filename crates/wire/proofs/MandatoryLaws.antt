-- The bits of flags, and the mandatory constraints that they show.
use mathlib.Core.Path.{◌≡◌, refl, ap, ◌∙◌}
use Prim.Native.Nat.{ℕ, ◌*◌, ◌/◌, ◌%◌, ◌^◌, ◌<◌}
use native.Mathlib.Omega.{arith}
use mathlib.Core.Bool.{Bool, true, false, not, ◌&&◌, ◌||◌, beq}
use lib.Dec.{eqb}
use lib.Bits.{bit_or}
use borrow.Author.Tests.{eq-eqb, ne_eqb, eqb-true, eqb-false}
use Rattle.model.specs.Number.{any_of}
use Rattle.model.specs.Object.{Object, is_constraint, role_of}
use Rattle.model.specs.Constraint.{mandatory}
use Rattle.model.proofs.NumberLaws.{below_all}
use Rattle.model.proofs.TypeLaws.{beq-true}
use Rattle.model.proofs.ListLaws.{any_same, any_or}
use Rattle.wire.specs.Row.{has_bit}
use Rattle.wire.specs.Mandatory.{mandatory_flags, shows_mandatory}
use Rattle.wire.proofs.HeaderLaws.{constraint_by}
use Rattle.wire.proofs.BitLaws.{shift_one, bit_with}

-- the flags of mandatory constraints are those that are 2 modulo 4
among : (k : ℕ) → k < 32 → any_of (eqb k) mandatory_flags ≡ eqb (k % 4) 2
among k h = beq-true (any_of (eqb k) mandatory_flags) (eqb (k % 4) 2) (below_all 32 (λ k. beq (any_of (eqb k) mandatory_flags) (eqb (k % 4) 2)) refl k h)

by_flags : (f : ℕ) → eqb (f % 32 % 4) 2 ≡ eqb (f / 2 % 2) 1 && not (eqb (f % 2) 1)
by_flags f = go (eqb (f / 2 % 2) 1) (eqb (f % 2) 1) refl refl
  where
    go : (c o : Bool) → eqb (f / 2 % 2) 1 ≡ c → eqb (f % 2) 1 ≡ o → eqb (f % 32 % 4) 2 ≡ c && not o
    go true true p q = let x = eqb-true (f / 2 % 2) 1 p in let y = eqb-true (f % 2) 1 q in ne_eqb (f % 32 % 4) 2 (λ e. omega arith)
    go true false p q = let x = eqb-true (f / 2 % 2) 1 p in let y = eqb-false (f % 2) 1 q in eq-eqb (f % 32 % 4) 2 (two f x y)
      where
        two : (f : ℕ) → f / 2 % 2 ≡ 1 → (f % 2 ≡ 1 → ⊥) → f % 32 % 4 ≡ 2
        two f x y = omega arith
    go false o p q = let x = eqb-false (f / 2 % 2) 1 p in ne_eqb (f % 32 % 4) 2 (λ e. x (omega arith))

-- a mandatory constraint by its flags
pub mandatory_by : (f m : ℕ) → eqb (f % 4) 2 ≡ is_constraint (role_of f m) && not (eqb (f % 2) 1)
mandatory_by f m = let e : f % 4 ≡ f % 32 % 4 = omega arith in rw e (by_flags f ∙ ap (λ b. b && not (eqb (f % 2) 1)) (constraint_by f m))

-- one object more
pub shows_with : (n : ℕ) (o : Object) → shows_mandatory (bit_or n ((1 * 2 ^ (o.flags % 32)) % 4294967296)) ≡ shows_mandatory n || mandatory o
unfolding shows_mandatory
shows_with n o =
    let k = o.flags % 32 in
    rw (shift_one 32 k (omega arith)) (any_same (has_bit (bit_or n (2 ^ k))) (λ j. has_bit n j || eqb k j) (λ j. bit_with n k j) mandatory_flags)
    ∙ any_or (has_bit n) (eqb k) mandatory_flags
    ∙ ap (λ b. any_of (has_bit n) mandatory_flags || b) (among k (omega arith) ∙ by_flags o.flags ∙ ap (λ b. b && not (eqb (o.flags % 2) 1)) (constraint_by o.flags o.mode))
