-- The role of an object by its bits C and R.
use mathlib.Core.Path.{◌≡◌, refl, sym}
use Prim.Native.Nat.{ℕ, zero, suc, ◌/◌, ◌%◌, ◌<◌}
use native.Mathlib.Omega.{arith}
use mathlib.Core.Bool.{true, false, ◌&&◌, false≢true, true≢false}
use lib.Dec.{eqb}
use Rattle.model.specs.Object.{Role, constraint, recorded, aggregated, is_constraint, is_recorded, role_bits, role_of}
use Rattle.model.proofs.TypeLaws.{constraint_bit}

recorded_bits : (c r : ℕ) → c < 2 → r < 2 → eqb c 0 && eqb r 1 ≡ is_recorded (role_bits c r)
recorded_bits zero zero h l = refl
recorded_bits zero (suc zero) h l = refl
recorded_bits zero (suc (suc r)) h l = absurd (omega arith)
recorded_bits (suc zero) r h l = refl
recorded_bits (suc (suc c)) r h l = absurd (omega arith)

-- a constraint has C=1
pub constraint_by : (f m : ℕ) → eqb (f / 2 % 2) 1 ≡ is_constraint (role_of f m)
unfolding role_of
constraint_by f m = sym (constraint_bit (f / 2 % 2) (m / 128 % 2) (omega arith))

-- a recorded metric has C=0 and R=1
pub recorded_by_lem : (f m : ℕ) → eqb (f / 2 % 2) 0 && eqb (m / 128 % 2) 1 ≡ is_recorded (role_of f m)
unfolding role_of
recorded_by_lem f m = recorded_bits (f / 2 % 2) (m / 128 % 2) (omega arith) (omega arith)

-- the role by the tests that code makes
pub role_constraint : (r : Role) → is_constraint r ≡ true → r ≡ constraint
role_constraint constraint e = refl
role_constraint recorded e = absurd (false≢true e)
role_constraint aggregated e = absurd (false≢true e)

pub role_recorded : (r : Role) → is_recorded r ≡ true → r ≡ recorded
role_recorded constraint e = absurd (false≢true e)
role_recorded recorded e = refl
role_recorded aggregated e = absurd (false≢true e)

pub role_aggregated : (r : Role) → is_constraint r ≡ false → is_recorded r ≡ false → r ≡ aggregated
role_aggregated constraint c e = absurd (true≢false c)
role_aggregated recorded c e = absurd (true≢false e)
role_aggregated aggregated c e = refl
