-- What a well-formed container is.
use mathlib.Core.Path.{◌≡◌, refl, sym, ◌∙◌}
use Prim.Native.Nat.{ℕ, zero, suc, ◌-◌, ◌≤◌}
use mathlib.Core.Bool.{Bool, true, false, cond, not, ◌||◌}
use mathlib.Core.List.{List, [], ◌∷◌}
use mathlib.Core.Option.{Option, none, some}
use native.Mathlib.Omega.{arith}
use lib.ListN.{length, drop, get_or}
use lib.Dec.{ltb, eqb}
use borrow.Author.Tests.{not-false, eqb-true, eq-eqb, le-ltb}
use Rattle.model.specs.Number.{first_of}
use Rattle.model.specs.Object.{Object, join, container, standings}
use Rattle.model.specs.Reading.{no_place, misframed, data_objects, object_bar, refused, well_formed, read_as, read_objects, reading}
use Rattle.model.proofs.BoolLaws.{neither}
use Rattle.model.proofs.ObjectLaws.{split-join, join-split}

-- what a reading says that gives objects
pub record ReadAs (bs : List ℕ) (os : List Object) : Type 0 where
  pub whole : bs ≡ container os
  pub objects : data_objects bs ≡ some os
  pub no_bar : first_of object_bar (standings [] os) ≡ 0

misframed_at : (a d : ℕ) (bs : List ℕ) → misframed (a ∷ d ∷ bs) ≡ not (eqb a 2) || not (eqb d (length bs))
unfolding misframed
misframed_at a d bs =
    let s : ltb (suc (suc (length bs))) 2 ≡ false = le-ltb (suc (suc (length bs))) 2 (omega arith) in
    let l : suc (suc (length bs)) - 2 ≡ length bs = omega arith in
    rw (s, l)

pub framed : (bs : List ℕ) → misframed bs ≡ false → bs ≡ 2 ∷ length (drop 2 bs) ∷ drop 2 bs
unfolding misframed
framed [] e = cc
framed (a ∷ []) e = cc
framed (a ∷ d ∷ bs) e =
    let (p, q) = neither (not (eqb a 2)) (not (eqb d (length bs))) (sym (misframed_at a d bs) ∙ e) in
    let x = eqb-true a 2 (not-false (eqb a 2) p) in
    let y = eqb-true d (length bs) (not-false (eqb d (length bs)) q) in
    cc

-- a frame has no more bytes than its byte 1 says
pub frame_short : (bs ds : List ℕ) → bs ≡ 2 ∷ length ds ∷ ds → get_or bs 1 0 ≤ 255 → (length ds ≤ 255) × (length bs ≤ 257)
frame_short bs ds w l =
    let s : get_or bs 1 0 ≡ length ds = rw w in
    let t : length bs ≡ suc (suc (length ds)) = rw w in
    omega arith

pub framed_short : (bs : List ℕ) → misframed bs ≡ false → get_or bs 1 0 ≤ 255 → length bs ≤ 257
framed_short bs e l = (frame_short bs (drop 2 bs) (framed bs e) l).1

read_as_objects : (n p : ℕ) (ts os : List Object) → read_as n p ts ≡ well_formed os → (n ≡ 0) × (ts ≡ os)
read_as_objects zero p ts os e = (refl, cc)
read_as_objects (suc n) p ts os e = (cc, cc)

read_objects_lem : (r : Option (List Object)) (os : List Object) → read_objects r ≡ well_formed os → (r ≡ some os) × (first_of object_bar (standings [] os) ≡ 0)
read_objects_lem none os e = (cc, cc)
read_objects_lem (some ts) os e = let (z, s) = read_as_objects (first_of object_bar (standings [] ts)) _ ts os e in (cc, rw (← s) z)

pub reading_objects : (bs : List ℕ) (os : List Object) → reading bs ≡ well_formed os → ReadAs bs os
unfolding reading
reading_objects bs os e = go (misframed bs) refl e
  where
    go : (b : Bool) → misframed bs ≡ b → cond b (refused 13 no_place) (read_objects (data_objects bs)) ≡ well_formed os → ReadAs bs os
    go true q e = record { whole = cc; objects = cc; no_bar = cc }
    go false q e =
        let (s, z) = read_objects_lem (data_objects bs) os e in
        let j : join os ≡ drop 2 bs = join-split (drop 2 bs) os s in
        record { whole = rw j (framed bs q); objects = s; no_bar = z }

pub container_objects_lem : (os : List Object) → data_objects (container os) ≡ some os
container_objects_lem os = split-join os

pub reading-container : (os : List Object) → first_of object_bar (standings [] os) ≡ 0 → reading (container os) ≡ well_formed os
unfolding reading
reading-container os z = rw (misframed_at 2 (length (join os)) (join os), eq-eqb (length (join os)) (length (join os)) refl, split-join os, z)
