-- A bit set in a number, at any width.
use mathlib.Core.Path.{◌≡◌, refl, sym, ap, ◌∙◌}
use Prim.Native.Nat.{ℕ, zero, suc, ◌+◌, ◌-◌, ◌*◌, ◌/◌, ◌%◌, ◌^◌, ◌<◌}
use native.Mathlib.Nat.{one-mul, div_self, div-eq_of_lt, mul-mod_left, pow-suc}
use native.Mathlib.Omega.{arith}
use mathlib.Core.Bool.{Bool, true, false, ◌||◌, or-false}
use lib.Dec.{eqb, ltb}
use lib.Pow.{pow_pos, pow-lt, pow-add, shl_exact, shl-shr}
use lib.Bits.{bit_or, or_shr, or_mod, or_zero_r}
use borrow.Author.Tests.{eqb-true, eqb-false, ltb-true, ltb-false}
use Rattle.wire.specs.Row.{has_bit}

-- bit j of 2 ^ k
bit_pow : (k j : ℕ) → (k ≡ j → ⊥) → 2 ^ k / 2 ^ j % 2 ≡ 0
bit_pow k j h = go (ltb k j) refl
  where
    above : (d : ℕ) → 2 ^ (suc d + j) / 2 ^ j % 2 ≡ 0
    above d = rw (pow-add 2 (suc d) j, shl-shr (2 ^ suc d) j, pow-suc 2 d) (mul-mod_left (2 ^ d) 2)

    go : (b : Bool) → ltb k j ≡ b → 2 ^ k / 2 ^ j % 2 ≡ 0
    go true e = rw (div-eq_of_lt (pow-lt (ltb-true k j e)))
    go false e =
        let l = ltb-false k j e in
        let d : k ≡ suc (k - suc j) + j = omega arith in
        ap (λ (m : ℕ). 2 ^ m / 2 ^ j % 2) d ∙ above (k - suc j)

-- `1 << k` loses no bit, at any width
pub shift_one : (w k : ℕ) → k < w → (1 * 2 ^ k) % 2 ^ w ≡ 2 ^ k
shift_one w k h = shl_exact 1 k w (omega arith) (omega arith) ∙ one-mul (2 ^ k)

or_bit : (n m j : ℕ) → bit_or n m / 2 ^ j % 2 ≡ bit_or (n / 2 ^ j % 2) (m / 2 ^ j % 2)
or_bit n m j = ap (λ (x : ℕ). x % 2) (or_shr n m j) ∙ or_mod (n / 2 ^ j) (m / 2 ^ j) 1

-- n with bit k has that, and what n has
pub bit_with : (n k j : ℕ) → has_bit (bit_or n (2 ^ k)) j ≡ has_bit n j || eqb k j
unfolding has_bit
bit_with n k j = rw (or_bit n (2 ^ k) j) (go (eqb k j) refl)
  where
    one : (x : ℕ) → x < 2 → eqb (bit_or x 1) 1 ≡ eqb x 1 || true
    one zero h = refl
    one (suc zero) h = refl
    one (suc (suc x)) h = absurd (omega arith)

    go : (b : Bool) → eqb k j ≡ b → eqb (bit_or (n / 2 ^ j % 2) (2 ^ k / 2 ^ j % 2)) 1 ≡ eqb (n / 2 ^ j % 2) 1 || b
    go true e = rw (eqb-true k j e, div_self (pow_pos j)) (one (n / 2 ^ j % 2) (omega arith))
    go false e = rw (bit_pow k j (eqb-false k j e), or_zero_r (n / 2 ^ j % 2)) (sym (or-false (eqb (n / 2 ^ j % 2) 1)))
