-- Reading and writing undo each other.
use mathlib.Core.Path.{◌≡◌, refl, sym, ap, ◌∙◌}
use Prim.Native.Nat.{ℕ, zero, suc, ◌+◌, ◌*◌, ◌/◌, ◌%◌, ◌^◌, ◌≤◌, ◌<◌}
use native.Mathlib.Nat.{mul-le-mul_right, mul-add-div_right, div-eq_of_lt, mod-one, mod-eq_of_lt, pow-succ', add-mul, mul_assoc, add_assoc, one-le-pow}
use native.Mathlib.Omega.{arith}
use mathlib.Core.List.{List, [], ◌∷◌}
use lib.Arith.{mod-mul}
use lib.Dec.{ltb}
use borrow.Author.Tests.{ltb-false}
use lib.ListN.{length}
use Rattle.model.specs.Number.{number_from, number, big_endian}
use Rattle.model.specs.RoundTrip.{Bytes, RoundTrip}
use Rattle.model.proofs.BoolLaws.{neither}
use Rattle.model.proofs.ObjectLaws.{split-join, join-split}
use Rattle.model.proofs.TlvLaws.{tlvs}
use Rattle.model.proofs.RunLaws.{options_join, join_options_lem}
use Rattle.model.proofs.PackLaws.{packed_objects}
use Rattle.model.proofs.ReadingLaws.{reading_objects}

pub length-big_endian : (w v : ℕ) → length (big_endian w v) ≡ w
length-big_endian zero v = refl
length-big_endian (suc w) v = ap suc (length-big_endian w v)

-- the bytes of a number stand for what of it fits them
digits : (v k : ℕ) → v / 256 ^ k % 256 * 256 ^ k + v % 256 ^ k ≡ v % 256 ^ suc k
digits v k = sym (ap (λ (x : ℕ). v % x) (pow-succ' 256 k) ∙ mod-mul v (omega arith) (one-le-pow k 256 (omega arith)))

from_big_endian : (w v n : ℕ) → number_from n (big_endian w v) ≡ n * 256 ^ w + v % 256 ^ w
from_big_endian zero v n = sym (rw mod-one (omega arith))
from_big_endian (suc w) v n =
    from_big_endian w v (n * 256 + v / 256 ^ w % 256)
    ∙ rw (add-mul (n * 256) (v / 256 ^ w % 256) (256 ^ w), mul_assoc n 256 (256 ^ w), ← pow-succ' 256 w, add_assoc, digits v w)

pub number-big_endian : (w v : ℕ) → v < 256 ^ w → number (big_endian w v) ≡ v
unfolding number
number-big_endian w v h = from_big_endian w v 0 ∙ rw (mod-eq_of_lt h) (omega arith)

-- ---- the bytes of a number

-- bytes behind a number keep it above them
from_bytes : (n : ℕ) (bs : List ℕ) → Bytes bs → (k : ℕ) × (number_from n bs ≡ n * 256 ^ length bs + k) × (k < 256 ^ length bs)
from_bytes n [] h = (0, omega arith, omega arith)
from_bytes n (b ∷ bs) h =
    let (p, q) = neither (ltb 255 b) _ h in
    let l : b ≤ 255 = ltb-false 255 b p in
    let (k, e, s) = from_bytes (n * 256 + b) bs q in
    let d : b * 256 ^ length bs ≤ 255 * 256 ^ length bs = mul-le-mul_right (256 ^ length bs) l in
    let w : 256 ^ suc (length bs) ≡ 256 * 256 ^ length bs = pow-succ' 256 (length bs) in
    (b * 256 ^ length bs + k, e ∙ rw (add-mul (n * 256) b (256 ^ length bs), mul_assoc n 256 (256 ^ length bs), ← w) (omega arith), rw w (omega arith))

pub number_below : (bs : List ℕ) → Bytes bs → number bs < 256 ^ length bs
unfolding number
number_below bs h = let (k, e, s) = from_bytes 0 bs h in omega arith

above_bytes : (n : ℕ) (bs : List ℕ) → Bytes bs → number_from n bs / 256 ^ length bs ≡ n
above_bytes n bs h =
    let (k, e, s) = from_bytes n bs h in
    let z : k / 256 ^ length bs ≡ 0 = div-eq_of_lt s in
    rw e (mul-add-div_right (one-le-pow (length bs) 256 (omega arith)) n k ∙ omega arith)

bytes_from_lem : (n : ℕ) (bs : List ℕ) → Bytes bs → big_endian (length bs) (number_from n bs) ≡ bs
bytes_from_lem n [] h = refl
bytes_from_lem n (b ∷ bs) h =
    let (p, q) = neither (ltb 255 b) _ h in
    let l : b ≤ 255 = ltb-false 255 b p in
    let d : (n * 256 + b) % 256 ≡ b = omega arith in
    rw (above_bytes (n * 256 + b) bs q, d, bytes_from_lem (n * 256 + b) bs q)

bytes_number : (bs : List ℕ) → Bytes bs → big_endian (length bs) (number bs) ≡ bs
unfolding number
bytes_number bs h = bytes_from_lem 0 bs h

pub round_trip : RoundTrip
round_trip = record {
  split_join = split-join;
  join_split = join-split;
  container_reading = λ bs os e. sym (reading_objects bs os e).whole;
  options_join = options_join;
  join_options = join_options_lem;
  packed_objects = packed_objects;
  number_bytes = number-big_endian;
  length_bytes = length-big_endian;
  bytes_number = bytes_number;
  tlvs = tlvs;
}
