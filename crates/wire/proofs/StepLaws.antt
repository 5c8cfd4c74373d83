-- What a step says of a container's bytes, and of the objects from its cursor on.
use mathlib.Core.Path.{◌≡◌, refl, sym, ap, ◌∙◌}
use Prim.Native.Nat.{ℕ, suc, ◌+◌, ◌-◌, ◌≤◌, ◌<◌}
use native.Mathlib.Omega.{arith}
use mathlib.Core.Bool.{Bool, true, false, cond}
use mathlib.Core.List.{List, [], ◌∷◌, ◌++◌, append-nil}
use mathlib.Core.Option.{Option, none, some}
use lib.ListN.{length, drop, get_or, length-drop, take-append-drop, drop_of_length-le}
use lib.Seq.{drop-cons, drop-drop, length-take-le}
use lib.Dec.{leb, ltb}
use borrow.Author.Tests.{lt-leb, leb-true, leb-false, ltb-true, ltb-false}
use Rattle.model.specs.Object.{Object, before, split_up_to, split, join, bytes_of, behind}
use Rattle.model.proofs.ObjectLaws.{split_step, split-append}
use Rattle.wire.specs.declared.objects.Header.{Header}
use Rattle.wire.specs.Step.{Cursor}
use Rattle.wire.specs.Step.{Step}
use Rattle.wire.specs.Step.{Found, CutShort, End}
use Rattle.wire.specs.Step.{header_at, object_at, step_at, object_in}

-- ---- what a step says

-- an object that a step finds: where its header and its body stand
pub record At (bs : List ℕ) (p : Cursor) (h : Header) (start end : ℕ) (n : Cursor) : Type 0 where
  pub header : h ≡ header_at bs p.at
  pub start_at : start ≡ p.at + 4
  pub end_at : end ≡ start + get_or bs (p.at + 3) 0
  pub next_at : n.at ≡ end
  pub within : end ≤ length bs

-- the step by its three tests
abbrev tested : (ended short over : Bool) → List ℕ → Cursor → Step
tested a b c bs p = cond a End (cond b CutShort (cond c CutShort (object_at bs p.at (get_or bs (p.at + 3) 0))))

found_by : (bs : List ℕ) (p : Cursor) (h : Header) (start end : ℕ) (n : Cursor) (a b c : Bool)
    → leb (length bs) p.at ≡ a → ltb (length bs) (p.at + 4) ≡ b → ltb (length bs) (p.at + 4 + get_or bs (p.at + 3) 0) ≡ c
    → tested a b c bs p ≡ Found h start end n → At bs p h start end n
found_by bs p h start end n true b c ha hb hc e = absurd (let z : ◌≡◌ {A = ℕ} 0 1 = cc in omega arith)
found_by bs p h start end n false true c ha hb hc e = absurd (let z : ◌≡◌ {A = ℕ} 0 1 = cc in omega arith)
found_by bs p h start end n false false true ha hb hc e = absurd (let z : ◌≡◌ {A = ℕ} 0 1 = cc in omega arith)
found_by bs p h start end n false false false ha hb hc e =
    let s : start ≡ p.at + 4 = cc in
    let d : end ≡ p.at + 4 + get_or bs (p.at + 3) 0 = cc in
    let q : n ≡ record { at = p.at + 4 + get_or bs (p.at + 3) 0 } = cc in
    record {
      header = cc;
      start_at = s;
      end_at = omega arith;
      next_at = ap (λ x. x.at) q ∙ sym d;
      within = omega (arith, leb-false (length bs) p.at ha, ltb-false (length bs) (p.at + 4) hb, ltb-false (length bs) (p.at + 4 + get_or bs (p.at + 3) 0) hc);
    }

pub found : (bs : List ℕ) (p : Cursor) {h : Header} {start end : ℕ} {n : Cursor} → step_at bs p ≡ Found h start end n → At bs p h start end n
unfolding step_at
found bs p {h} {start} {end} {n} e = found_by bs p h start end n _ _ _ refl refl refl e

ended_by : (bs : List ℕ) (p : Cursor) (a b c : Bool) → leb (length bs) p.at ≡ a → tested a b c bs p ≡ End → length bs ≤ p.at
ended_by bs p true b c ha e = leb-true (length bs) p.at ha
ended_by bs p false true c ha e = absurd (let z : ◌≡◌ {A = ℕ} 0 1 = cc in omega arith)
ended_by bs p false false true ha e = absurd (let z : ◌≡◌ {A = ℕ} 0 1 = cc in omega arith)
ended_by bs p false false false ha e = absurd (let z : ◌≡◌ {A = ℕ} 0 1 = cc in omega arith)

pub header_at_lem : (bs : List ℕ) (at : ℕ) → at + 4 ≤ length bs
    → drop at bs ≡ get_or bs at 0 ∷ get_or bs (at + 1) 0 ∷ get_or bs (at + 2) 0 ∷ get_or bs (at + 3) 0 ∷ drop (at + 4) bs
header_at_lem bs at h =
    let e1 : suc at ≡ at + 1 = omega arith in
    let e2 : suc (at + 1) ≡ at + 2 = omega arith in
    let e3 : suc (at + 2) ≡ at + 3 = omega arith in
    let e4 : suc (at + 3) ≡ at + 4 = omega arith in
    rw (drop-cons bs at 0 (omega arith), e1, drop-cons bs (at + 1) 0 (omega arith), e2, drop-cons bs (at + 2) 0 (omega arith), e3, drop-cons bs (at + 3) 0 (omega arith), e4)

-- one to three bytes are no header
few : (bs : List ℕ) → 0 < length bs → length bs < 4 → split bs ≡ none
unfolding split split_up_to
few [] h l = absurd (omega arith)
few (a ∷ []) h l = refl
few (a ∷ b ∷ []) h l = refl
few (a ∷ b ∷ c ∷ []) h l = refl
few (a ∷ b ∷ c ∷ d ∷ bs) h l = absurd (omega arith)

over : (bs : List ℕ) (at : ℕ) → at + 4 ≤ length bs → length bs < at + 4 + get_or bs (at + 3) 0 → split (drop at bs) ≡ none
over bs at h l =
    let past : length (drop (at + 4) bs) < get_or bs (at + 3) 0 = rw length-drop (omega arith) in
    rw (header_at_lem bs at h, split_step (get_or bs at 0) (get_or bs (at + 1) 0) (get_or bs (at + 2) 0) (get_or bs (at + 3) 0) (drop (at + 4) bs), lt-leb (get_or bs (at + 3) 0) (length (drop (at + 4) bs)) past)

short_by : (bs : List ℕ) (p : Cursor) (a b c : Bool) → leb (length bs) p.at ≡ a → ltb (length bs) (p.at + 4) ≡ b
    → ltb (length bs) (p.at + 4 + get_or bs (p.at + 3) 0) ≡ c → tested a b c bs p ≡ CutShort → split (drop p.at bs) ≡ none
short_by bs p true b c ha hb hc e = absurd (let z : ◌≡◌ {A = ℕ} 0 1 = cc in omega arith)
short_by bs p false true c ha hb hc e =
    let m = leb-false (length bs) p.at ha in
    let l = ltb-true (length bs) (p.at + 4) hb in
    few (drop p.at bs) (rw length-drop (omega arith)) (rw length-drop (omega arith))
short_by bs p false false true ha hb hc e =
    over bs p.at (omega (arith, leb-false (length bs) p.at ha, ltb-false (length bs) (p.at + 4) hb)) (ltb-true (length bs) (p.at + 4 + get_or bs (p.at + 3) 0) hc)
short_by bs p false false false ha hb hc e = absurd (let z : ◌≡◌ {A = ℕ} 0 1 = cc in omega arith)

-- ---- the objects from a cursor on

-- the bytes from a cursor where an object stands are those of the object, and those behind it
pub bytes_at : (bs : List ℕ) (p : Cursor) {h : Header} {start end : ℕ} {n : Cursor} → step_at bs p ≡ Found h start end n
    → bytes_of (object_in bs h start end) ++ drop n.at bs ≡ drop p.at bs
bytes_at bs p {h} {start} {end} {n} e =
    let f = found bs p e in
    let at = p.at in
    let size = get_or bs (at + 3) 0 in
    let d : end - start ≡ size = omega (arith, f.end_at) in
    let m : n.at ≡ at + 4 + size = omega (arith, f.start_at, f.end_at, f.next_at) in
    let fits : size ≤ length (drop (at + 4) bs) = rw length-drop (omega (arith, f.within, f.start_at, f.end_at)) in
    rw (f.header, d, f.start_at, m, header_at_lem bs at (omega (arith, f.within, f.start_at, f.end_at)), ← drop-drop size (at + 4) bs, length-take-le size (drop (at + 4) bs) fits, take-append-drop size (drop (at + 4) bs))

-- a step that finds an object
pub split_found : (bs : List ℕ) (p : Cursor) {h : Header} {start end : ℕ} {n : Cursor} → step_at bs p ≡ Found h start end n
    → split (drop p.at bs) ≡ before (object_in bs h start end) (split (drop n.at bs))
unfolding join
split_found bs p {h} {start} {end} {n} e =
    let o = object_in bs h start end in
    let one : join (o ∷ []) ++ drop n.at bs ≡ drop p.at bs = rw (append-nil o.body) (bytes_at bs p e) in
    ap split (sym one) ∙ split-append (o ∷ []) (drop n.at bs) ∙ go o (split (drop n.at bs))
  where
    go : (o : Object) (r : Option (List Object)) → behind (o ∷ []) r ≡ before o r
    go o none = refl
    go o (some t) = refl

-- a step that is cut short
pub split_short : (bs : List ℕ) (p : Cursor) → step_at bs p ≡ CutShort → split (drop p.at bs) ≡ none
unfolding step_at
split_short bs p e = short_by bs p _ _ _ refl refl refl e

-- a step at the end
pub split_end : (bs : List ℕ) (p : Cursor) → step_at bs p ≡ End → split (drop p.at bs) ≡ some []
unfolding step_at split split_up_to
split_end bs p e =
    let l : length bs ≤ p.at = ended_by bs p (leb (length bs) p.at) (ltb (length bs) (p.at + 4)) (ltb (length bs) (p.at + 4 + get_or bs (p.at + 3) 0)) refl e in
    rw (drop_of_length-le bs l)

-- the bytes from a cursor on: every object makes them fewer
abbrev pub left : List ℕ → Cursor → ℕ
left bs p = length bs - p.at

-- an object ends behind its start, in the container, and what is left behind it is less
pub step_inside : (bs : List ℕ) (p : Cursor) {h : Header} {start end : ℕ} {n : Cursor} → step_at bs p ≡ Found h start end n
    → (start ≤ end) × ((end ≤ length bs) × (left bs n < left bs p))
step_inside bs p e = let f = found bs p e in omega (arith, f.start_at, f.end_at, f.next_at, f.within)
