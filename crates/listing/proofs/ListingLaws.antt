-- The text of what was read.
use mathlib.Core.Path.{◌≡◌, refl, sym, ap, ◌∙◌}
use Prim.Native.Nat.{ℕ, suc, ◌+◌, ◌-◌, ◌≤◌}
use native.Mathlib.Omega.{arith}
use mathlib.Core.Bool.{Bool, true, false, cond}
use mathlib.Core.List.{List, [], ◌∷◌, ◌++◌}
use lib.ListN.{length, take, drop, get_or, length-append, length-drop, take-append-drop}
use lib.Seq.{take_all, get_or-take, length-take-le}
use lib.Dec.{ltb}
use borrow.Author.Tests.{le-ltb, ltb-true, ltb-false}
use Rattle.model.specs.Object.{Object, join}
use Rattle.model.specs.Reading.{misframed, data_objects, reading}
use Rattle.model.specs.Reading as model
use Rattle.model.specs.RoundTrip.{Bytes}
use Rattle.model.specs.Listing.{newline, decimal, line, object_lines, refused_word, listing_of, listing}
use Rattle.model.proofs.ByteLaws.{first_byte}
use Rattle.model.proofs.ReadingLaws.{frame_short, framed_short, reading_objects}
use Rattle.wire.specs.Front.{front}
use Rattle.wire.specs.Reading.{Refused, WellFormed, reading_of}
use Rattle.wire.proofs.FrontLaws.{split-front}
use Rattle.listing.specs.declared.ShortOutput.{ShortOutput}
use Rattle.std.proofs.Common.{Result, Ok}
use Rattle.listing.specs.Listed.{text_room, too_short, listed, listed_in, TextFits, ListingOfFront}
use Rattle.model.specs.declared.Summary.{Summary}
use Rattle.listing.specs.Puts.{Puts}
use Rattle.listing.proofs.PutLaws.{digits}
use Rattle.listing.proofs.LineLaws.{lines_room}

-- byte 1 of a well-formed container is the length of its data
data_short : (bs : List ℕ) (os : List Object) → reading bs ≡ model.well_formed os → get_or bs 1 0 ≤ 255 → (length (join os) ≤ 255) × (length bs ≤ 257)
data_short bs os e l = frame_short bs (join os) (reading_objects bs os e).whole l

-- any text fits, where byte 1 is a byte
text_short : (bs : List ℕ) → get_or bs 1 0 ≤ 255 → length (listing bs) ≤ text_room
unfolding listing
text_short bs l = go (reading bs) refl
  where
    go : (m : model.Reading) → reading bs ≡ m → length (listing_of m) ≤ text_room
    go (model.refused n p) e = omega (arith, length-append (decimal n) (newline ∷ []), digits n)
    go (model.well_formed os) e = omega (arith, lines_room os, data_short bs os e l)

-- byte 1 of bytes is a byte
byte_one : (bs : List ℕ) → Bytes bs → get_or bs 1 0 ≤ 255
byte_one [] h = omega arith
byte_one (a ∷ []) h = omega arith
byte_one (a ∷ b ∷ bs) h = (first_byte b bs (first_byte a (b ∷ bs) h).1).0

pub text_fits : TextFits
text_fits bs h = text_short bs (byte_one bs h)

-- the objects of a container that code reads as well-formed
well_formed_lem : (bs : List ℕ) {count : ℕ} {k : Bool} {told : Summary} → reading_of (reading bs) ≡ WellFormed count k told → (os : List Object) × (reading bs ≡ model.well_formed os)
well_formed_lem bs {count} {k} {told} e = go (reading bs) refl e
  where
    go : (m : model.Reading) → reading bs ≡ m → reading_of m ≡ WellFormed count k told → (os : List Object) × (reading bs ≡ model.well_formed os)
    go (model.refused n p) f e = absurd (let z : ◌≡◌ {A = ℕ} 0 1 = cc in omega arith)
    go (model.well_formed os) f e = (os, f)

-- they stand behind its first two bytes, and their lines are its text
pub record WellRead (bs ds : List ℕ) : Type 0 where
  pub framed : 2 ≤ length bs
  pub few : length (join (front ds)) ≤ 255
  pub text : object_lines (front ds) ≡ listing bs

pub well_read : (bs : List ℕ) {count : ℕ} {k : Bool} {told : Summary} → reading_of (reading bs) ≡ WellFormed count k told → get_or bs 1 0 ≤ 255
    → WellRead bs (take (length bs - 2) (drop 2 bs))
unfolding listing
well_read bs e l =
    let (os, r) = well_formed_lem bs e in
    let a = reading_objects bs os r in
    let s : length bs ≡ suc (suc (length (join os))) = ap length a.whole in
    let d : take (length bs - 2) (drop 2 bs) ≡ drop 2 bs = take_all (length bs - 2) (drop 2 bs) (rw length-drop (omega arith)) in
    let f : front (take (length bs - 2) (drop 2 bs)) ≡ os = rw d (split-front (drop 2 bs) os a.objects).0 in
    record { framed = omega arith; few = rw f (data_short bs os r l).0; text = rw (f, r) refl }

-- the text of a container that code reads as refused
pub refused_text : (bs : List ℕ) {output left : List ℕ} {n place r : ℕ} → reading_of (reading bs) ≡ Refused n place
    → Puts output 0 (refused_word ++ line n []) left r → Puts output 0 (listing bs) left r
unfolding listing
refused_text bs {output} {left} {n} {place} {r} e q = go (reading bs) refl e
  where
    go : (m : model.Reading) → reading bs ≡ m → reading_of m ≡ Refused n place → Puts output 0 (listing_of (reading bs)) left r
    go (model.refused k p) f e = let s : k ≡ n = cc in rw (f, s) q
    go (model.well_formed os) f e = absurd (let z : ◌≡◌ {A = ℕ} 0 1 = cc in omega arith)

-- a container's text, put into an output with room for any, is the answer and what is left of the output
pub listed_by : (bs output : List ℕ) {left : List ℕ} {r : ℕ} → text_room ≤ length output → get_or bs 1 0 ≤ 255 → Puts output 0 (listing bs) left r
    → (Ok r ≡ listed bs (length output)) × (left ≡ listed_in bs output)
unfolding listed listed_in
listed_by bs output {left} {r} l m p =
    let size : r ≡ length (listing bs) = omega (arith, p.reached) in
    let all : left ≡ listing bs ++ drop (length (listing bs)) output = sym (take-append-drop r left) ∙ rw (p.text, p.rest, size) refl in
    rw (le-ltb (length output) text_room l) (ap Ok size, all)

-- a text that is answered lies in the output
pub listed_inside : (bs output left : List ℕ) {r : Result ℕ ShortOutput} {size : ℕ} → r ≡ listed bs (length output) → r ≡ Ok size → left ≡ listed_in bs output → size ≤ length left
unfolding listed listed_in
listed_inside bs output left {r} {size} e t w = go (ltb (length output) text_room) (sym e ∙ t) w
  where
    go : (b : Bool) → cond b too_short (Ok (length (listing bs))) ≡ Ok size → left ≡ cond b output (listing bs ++ drop (length (listing bs)) output) → size ≤ length left
    go true q w = absurd (let z : ◌≡◌ {A = ℕ} 0 1 = cc in omega arith)
    go false q w =
        let s : length (listing bs) ≡ size = cc in
        let n : length left ≡ length (listing bs) + length (drop (length (listing bs)) output) = ap length w ∙ length-append (listing bs) (drop (length (listing bs)) output) in
        omega arith

-- ---- inputs that no container is as long as

long_misframed : (bs : List ℕ) → 258 ≤ length bs → get_or bs 1 0 ≤ 255 → misframed bs ≡ true
long_misframed bs l b = go (misframed bs) refl
  where
    go : (m : Bool) → misframed bs ≡ m → m ≡ true
    go true e = refl
    go false e = absurd (let s = framed_short bs e b in omega arith)

long_listing : (bs : List ℕ) → misframed bs ≡ true → listing bs ≡ refused_word ++ line 13 []
unfolding listing reading
long_listing bs m = rw m

pub listing_of_front : ListingOfFront
listing_of_front bs h = go (ltb (length bs) 258) refl
  where
    go : (b : Bool) → ltb (length bs) 258 ≡ b → listing (take 258 bs) ≡ listing bs
    go true e = ap listing (take_all 258 bs (let l = ltb-true (length bs) 258 e in omega arith))
    go false e =
        let l = ltb-false (length bs) 258 e in
        let b = byte_one bs h in
        let n : length (take 258 bs) ≡ 258 = length-take-le 258 bs l in
        let f : misframed (take 258 bs) ≡ true = long_misframed (take 258 bs) (omega arith) (rw (get_or-take 258 bs 1 0 (omega arith)) b) in
        long_listing (take 258 bs) f ∙ sym (long_listing bs (long_misframed bs l b))
