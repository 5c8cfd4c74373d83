-- Bytes fit as TLVs exactly when they are TLVs end to end; and how they do, TLV by TLV.
use mathlib.Core.Path.{◌≡◌, refl}
use Prim.Native.Nat.{ℕ, zero, suc, ◌≤◌}
use native.Mathlib.Nat.{not-suc-le-zero}
use native.Mathlib.Omega.{arith}
use mathlib.Core.Bool.{true, ◌&&◌, false≢true}
use mathlib.Core.List.{List, [], ◌∷◌, ◌++◌}
use mathlib.Core.Logic.{◌↔◌}
use lib.Dec.{leb}
use lib.Seq.{length-take-le, drop-append_seam}
use borrow.Author.Tests.{le-leb, leb-true}
use lib.ListN.{length, take, drop, length-append, length-drop, take-append-drop}
use Rattle.model.specs.Reading.{tlvs_up_to, tlvs_fit}
use Rattle.model.specs.RoundTrip.{Tlv, join_tlvs}
use Rattle.model.proofs.BoolLaws.{both}

few_tlvs : (ts : List Tlv) → length ts ≤ length (join_tlvs ts)
unfolding join_tlvs
few_tlvs [] = omega arith
few_tlvs (t ∷ ts) = let ih = few_tlvs ts in omega (arith, length-append t.value (join_tlvs ts))

join_fits : (ts : List Tlv) (k : ℕ) → length ts ≤ k → tlvs_up_to k (join_tlvs ts) ≡ true
unfolding tlvs_up_to join_tlvs
join_fits [] zero h = refl
join_fits [] (suc k) h = refl
join_fits (t ∷ ts) zero h = absurd (omega arith)
join_fits (t ∷ ts) (suc k) h =
    let l : length t.value ≤ length (t.value ++ join_tlvs ts) = simp length-append (omega arith) in
    rw (le-leb (length t.value) (length (t.value ++ join_tlvs ts)) l, drop-append_seam t.value (join_tlvs ts)) (join_fits ts k (omega arith))

fits_join : (k : ℕ) (bs : List ℕ) → tlvs_up_to k bs ≡ true → (ts : List Tlv) × (join_tlvs ts ≡ bs)
unfolding tlvs_up_to join_tlvs
fits_join zero [] e = ([], refl)
fits_join zero (t ∷ bs) e = absurd (false≢true e)
fits_join (suc k) [] e = ([], refl)
fits_join (suc k) (t ∷ []) e = absurd (false≢true e)
fits_join (suc k) (t ∷ n ∷ bs) e =
    let (p, q) = both (leb n (length bs)) (tlvs_up_to k (drop n bs)) e in
    let (ts, j) = fits_join k (drop n bs) q in
    let l = length-take-le n bs (leb-true n (length bs) p) in
    (record { type = t; value = take n bs } ∷ ts, rw (l, j, take-append-drop n bs))

pub tlvs : (bs : List ℕ) → (tlvs_fit bs ≡ true) ↔ ((ts : List Tlv) × (join_tlvs ts ≡ bs))
unfolding tlvs_fit
tlvs bs = (λ e. fits_join (length bs) bs e, λ w. rw (← w.1) (join_fits w.0 (length (join_tlvs w.0)) (few_tlvs w.0)))

-- ---- a step

-- two limits that are at least the length give the same
tlvs_up_to_enough : (k j : ℕ) (bs : List ℕ) → length bs ≤ k → length bs ≤ j → tlvs_up_to k bs ≡ tlvs_up_to j bs
unfolding tlvs_up_to
tlvs_up_to_enough zero zero bs h i = refl
tlvs_up_to_enough zero (suc j) [] h i = refl
tlvs_up_to_enough zero (suc j) (t ∷ bs) h i = absurd (not-suc-le-zero h)
tlvs_up_to_enough (suc k) zero [] h i = refl
tlvs_up_to_enough (suc k) zero (t ∷ bs) h i = absurd (not-suc-le-zero i)
tlvs_up_to_enough (suc k) (suc j) [] h i = refl
tlvs_up_to_enough (suc k) (suc j) (t ∷ []) h i = refl
tlvs_up_to_enough (suc k) (suc j) (t ∷ n ∷ rest) h i = rw (tlvs_up_to_enough k j (drop n rest) (rw length-drop (omega arith)) (rw length-drop (omega arith)))

-- `tlvs_fit` unfolded at a TLV
pub tlvs_step : (t n : ℕ) (bs : List ℕ) → tlvs_fit (t ∷ n ∷ bs) ≡ leb n (length bs) && tlvs_fit (drop n bs)
unfolding tlvs_fit tlvs_up_to
tlvs_step t n bs = rw (tlvs_up_to_enough (suc (length bs)) (length (drop n bs)) (drop n bs) (rw length-drop (omega arith)) (omega arith))
