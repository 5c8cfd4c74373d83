-- Link colours: when a body is as tabled, when a constraint is met, by places and by the operation of code, and what it leaves as.
use mathlib.Core.Path.{◌≡◌, refl, sym, ap, ◌∙◌}
use Prim.Native.Nat.{ℕ, zero, suc, ◌+◌, ◌-◌, ◌*◌, ◌/◌, ◌%◌, ◌^◌, ◌≤◌, ◌<◌, max}
use native.Mathlib.Nat.{pow-suc, div-one}
use native.Mathlib.Omega.{arith}
use mathlib.Core.Bool.{Bool, true, false, not, ◌&&◌, ◌||◌, or-false, true≢false}
use mathlib.Core.List.{List, [], ◌∷◌}
use lib.ListN.{length, get_or}
use lib.Dec.{leb, eqb}
use lib.Bits.{bit_or, or_step, or_zero_l}
use lib.Pow.{shr-shr}
use borrow.Author.Tests.{eq-eqb, ne_eqb, eqb-true, eqb-false, leb-true, leb-false, not-false, not-true}
use Rattle.model.specs.Object.{colour, kind_of, kind, role_bits, role_of}
use Rattle.model.specs.Table.{row}
use Rattle.model.specs.Reading.{fixed_shape, shaped, cannot_be}
use Rattle.model.specs.Constraint.{colour_in, has_all, met_colour, met}
use Rattle.model.specs.Update.{clear_colour, constraint_body, update_object}
use Rattle.model.specs.Colours.{HasColour, LacksColour, ColourShapes, ColourExact, ColourMet, Cleared, ClearsColour}
use Rattle.model.proofs.BoolLaws.{both}
use Rattle.model.proofs.RunLaws.{run_objects_lem}
use Rattle.model.proofs.TabledLaws.{whole_of, at_tabled}

-- ---- bodies

-- whole sub-objects behind one byte
odd : (n : ℕ) → leb 3 n && eqb ((n - 1) % 2) 0 ≡ leb 3 n && eqb (n % 2) 1
odd n = go (leb 3 n) refl
  where
    by_bit : (x y : ℕ) → y + x ≡ 1 → eqb y 0 ≡ eqb x 1
    by_bit x zero e = let q : x ≡ 1 = omega arith in rw q
    by_bit x (suc y) e = let q : x ≡ 0 = omega arith in rw (ne_eqb (suc y) 0 (λ z. omega arith), q)

    go : (b : Bool) → leb 3 n ≡ b → b && eqb ((n - 1) % 2) 0 ≡ b && eqb (n % 2) 1
    go false e = refl
    go true e = let h = leb-true 3 n e in let q : (n - 1) % 2 + n % 2 ≡ 1 = omega arith in by_bit (n % 2) ((n - 1) % 2) q

-- bar 15, by the bits
shape_bits : (c r : ℕ) (b : List ℕ) → c < 2 → r < 2
    → not (cannot_be (role_bits c r) (row colour)) && not (shaped (role_bits c r) (row colour) b)
    ≡ eqb c 1 && not (eqb (length b) 3) || eqb c 0 && eqb r 1 && not (leb 3 (length b) && eqb (length b % 2) 1)
shape_bits zero zero b h g = refl
shape_bits zero (suc zero) b h g = ap not (odd (length b))
shape_bits zero (suc (suc r)) b h g = absurd (omega arith)
shape_bits (suc zero) r b h g = sym (or-false (not (eqb (length b) 3)))
shape_bits (suc (suc c)) r b h g = absurd (omega arith)

pub colour_shapes : ColourShapes
unfolding kind_of role_of
colour_shapes es o t =
    let k : kind o ≡ colour = rw t in
    rw k (shape_bits (o.flags / 2 % 2) (o.mode / 128 % 2) o.body (omega arith) (omega arith))

-- ---- by places

-- a place further up is that of the half
bit_half : (a k : ℕ) → a / 2 ^ suc k % 2 ≡ a / 2 / 2 ^ k % 2
bit_half a k = let s : suc k ≡ 1 + k = omega arith in ap (λ (m : ℕ). a / 2 ^ m % 2) s ∙ ap (λ (x : ℕ). x % 2) (sym (shr-shr a 1 k))

bit_zero : (a : ℕ) → a / 2 ^ 0 % 2 ≡ a % 2
bit_zero a = ap (λ (x : ℕ). x % 2) (div-one a)

-- every bit, among the lowest n
all_at : (n a l : ℕ) → has_all n a l ≡ true → (k : ℕ) → k < n → a / 2 ^ k % 2 ≡ 1 → l / 2 ^ k % 2 ≡ 1
unfolding has_all
all_at zero a l e k h p = absurd (omega arith)
all_at (suc n) a l e zero h p =
    let (x, y) = both (leb (a % 2) (l % 2)) (has_all n (a / 2) (l / 2)) e in
    let u = leb-true (a % 2) (l % 2) x in
    let q = bit_zero a in
    bit_zero l ∙ omega arith
all_at (suc n) a l e (suc k) h p =
    let (x, y) = both (leb (a % 2) (l % 2)) (has_all n (a / 2) (l / 2)) e in
    bit_half l k ∙ all_at n (a / 2) (l / 2) y k (omega arith) (sym (bit_half a k) ∙ p)

-- some bit that is not, among the lowest n
lacks_at : (n a l : ℕ) → has_all n a l ≡ false → (k : ℕ) × (k < n) × (a / 2 ^ k % 2 ≡ 1) × (l / 2 ^ k % 2 ≡ 0)
unfolding has_all
lacks_at zero a l e = absurd (true≢false e)
lacks_at (suc n) a l e = go (leb (a % 2) (l % 2)) refl (has_all n (a / 2) (l / 2)) refl e (lacks_at n (a / 2) (l / 2))
  where
    go : (b : Bool) → leb (a % 2) (l % 2) ≡ b → (d : Bool) → has_all n (a / 2) (l / 2) ≡ d → b && d ≡ false
        → (has_all n (a / 2) (l / 2) ≡ false → (k : ℕ) × (k < n) × (a / 2 / 2 ^ k % 2 ≡ 1) × (l / 2 / 2 ^ k % 2 ≡ 0))
        → (k : ℕ) × (k < suc n) × (a / 2 ^ k % 2 ≡ 1) × (l / 2 ^ k % 2 ≡ 0)
    go false p d q e ih =
        let h = leb-false (a % 2) (l % 2) p in
        (0, omega arith, bit_zero a ∙ omega arith, bit_zero l ∙ omega arith)
    go true p true q e ih = absurd (true≢false e)
    go true p false q e ih = let (k, h, x, y) = ih q in (suc k, omega arith, bit_half a k ∙ x, bit_half l k ∙ y)

-- what one says the other denies
not_both : (a l : ℕ) → HasColour a l → LacksColour a l → ⊥
not_both a l f (k, h, x, y) = let z = f k h x in omega arith

has_of : (a l : ℕ) → HasColour a l → has_all 10 a l ≡ true
has_of a l f = go (has_all 10 a l) refl
  where
    go : (b : Bool) → has_all 10 a l ≡ b → b ≡ true
    go true e = refl
    go false e = absurd (not_both a l f (lacks_at 10 a l e))

lacks_of : (a l : ℕ) → LacksColour a l → has_all 10 a l ≡ false
lacks_of a l f = go (has_all 10 a l) refl
  where
    go : (b : Bool) → has_all 10 a l ≡ b → b ≡ false
    go false e = refl
    go true e = absurd (not_both a l (all_at 10 a l e) f)

pub colour_exact : ColourExact
colour_exact a l = (all_at 10 a l, has_of a l)

-- ---- when a constraint is met

pub colour_met : ColourMet
unfolding kind_of role_of met
colour_met c s o t p q =
    let k : kind o ≡ colour = rw t in
    let a = colour_in (get_or o.body 1 0) (get_or o.body 2 0) in
    let l = c.colour in
    record {
      included = λ i. rw (k, p, q, i) (λ e. all_at 10 a l (not-false (has_all 10 a l) e), λ f. rw (has_of a l f));
      excluded = λ i. rw (k, p, q, i) (λ e. lacks_at 10 a l (not-true (has_all 10 a l) (not-false (not (has_all 10 a l)) e)), λ f. rw (lacks_of a l f));
    }

-- ---- by the operation of code

-- the or of two numbers is the second, by the lowest bit and the rest
step : (a l r : ℕ) → bit_or a l ≡ r * 2 + max (a % 2) (l % 2) → eqb (bit_or a l) l ≡ leb (a % 2) (l % 2) && eqb r (l / 2)
step a l r e = go (leb (a % 2) (l % 2)) refl (eqb r (l / 2)) refl
  where
    go : (b : Bool) → leb (a % 2) (l % 2) ≡ b → (c : Bool) → eqb r (l / 2) ≡ c → eqb (bit_or a l) l ≡ b && c
    go true p true q =
        let x = leb-true (a % 2) (l % 2) p in
        let y = eqb-true r (l / 2) q in
        eq-eqb (bit_or a l) l (omega (arith, e))
    go true p false q = let y = eqb-false r (l / 2) q in ne_eqb (bit_or a l) l (λ z. y (omega (arith, e)))
    go false p c q = let x = leb-false (a % 2) (l % 2) p in ne_eqb (bit_or a l) l (λ z. omega (arith, e))

or_has_all : (k a l : ℕ) → a < 2 ^ k → eqb (bit_or a l) l ≡ has_all k a l
unfolding has_all
or_has_all zero a l h = let z : a ≡ 0 = omega arith in let e : bit_or a l ≡ l = ap (λ x. bit_or x l) z ∙ or_zero_l l in eq-eqb (bit_or a l) l e
or_has_all (suc k) a l h =
    let half : a / 2 < 2 ^ k = halved k a h in
    step a l (bit_or (a / 2) (l / 2)) (or_step a l) ∙ rw (or_has_all k (a / 2) (l / 2) half)
  where
    halved : (k a : ℕ) → a < 2 ^ suc k → a / 2 < 2 ^ k
    halved k a h = let p : 2 ^ suc k ≡ 2 ^ k * 2 = pow-suc 2 k in omega arith

-- the colour in two bytes
has_colour : (l x y : ℕ) → x ≤ 255 → y ≤ 255 → eqb (bit_or (colour_in x y) l) l ≡ has_all 10 (colour_in x y) l
has_colour l x y h g = or_has_all 10 (colour_in x y) l (omega arith)

-- the tests that code makes, by I
pub colour_included : (l x y : ℕ) → x ≤ 255 → y ≤ 255 → y % 2 ≡ 1 → eqb (bit_or (colour_in x y) l) l ≡ met_colour l x y
colour_included l x y h g e = has_colour l x y h g ∙ rw e

pub colour_excluded : (l x y : ℕ) → x ≤ 255 → y ≤ 255 → (y % 2 ≡ 1 → ⊥) → not (eqb (bit_or (colour_in x y) l) l) ≡ met_colour l x y
colour_excluded l x y h g e = rw (ne_eqb (y % 2) 1 e, has_colour l x y h g)

-- ---- what a constraint leaves as

cleared : (b : List ℕ) → length b ≡ 3 → Cleared b (clear_colour b)
cleared [] h = absurd (omega arith)
cleared (x ∷ []) h = absurd (omega arith)
cleared (x ∷ y ∷ []) h = absurd (omega arith)
cleared (x ∷ y ∷ z ∷ t) h = record { bytes = h; reserved = refl; upper = refl; lower = omega arith; reserved5 = omega arith; same_i = omega arith }

pub clears_colour : ClearsColour
unfolding kind_of role_of update_object constraint_body
clears_colour own c bs os i o w e t p =
    let k : kind o ≡ colour = rw t in
    let shape : fixed_shape (row colour) o.body ≡ true = rw (p, k) at (at_tabled os i o (run_objects_lem bs os w).no_bar e (rw k)) in
    rw (k, p) (cleared o.body (whole_of (row colour) o.body refl shape))
