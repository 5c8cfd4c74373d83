-- The lines of objects: how long they are, and those of the objects that are listed so far.
use mathlib.Core.Path.{◌≡◌, refl, sym, ◌∙◌}
use Prim.Native.Nat.{ℕ, ◌+◌, ◌*◌, ◌≤◌, ◌<◌}
use native.Mathlib.Omega.{arith}
use mathlib.Core.List.{List, [], ◌∷◌, ◌++◌, append_assoc, append-nil}
use lib.ListN.{length, length-append}
use Rattle.model.specs.Object.{Object, join, bit_c, bit_o, bit_r, field_a, field_prec}
use Rattle.model.specs.Listing.{line, object_line, object_lines}
use Rattle.listing.specs.Listed.{text_room}
use Rattle.listing.specs.Puts.{Puts}
use Rattle.listing.proofs.PutLaws.{puts_append, digits}

-- ---- how long they are

-- an object's line takes at most 17 bytes for each four of the object
line_room : (t c o r a p n : ℕ) → c < 2 → o < 2 → r < 2 → a < 8 → p < 16 → 4 * length (line t (c ∷ o ∷ r ∷ a ∷ p ∷ n ∷ [])) ≤ 17 * (4 + n)
line_room t c o r a p n hc ho hr ha hp = simp length-append (omega (arith, digits t, digits c, digits o, digits r, digits a, digits p, digits n))

object_room : (o : Object) → 4 * length (object_line o) ≤ 17 * (4 + length o.body)
unfolding object_line
object_room o =
    line_room o.type (bit_c o) (bit_o o) (bit_r o) (field_a o) (field_prec o) (length o.body) (omega arith) (omega arith) (omega arith) (omega arith) (omega arith)

-- and so do the lines of objects
pub lines_room : (os : List Object) → 4 * length (object_lines os) ≤ 17 * length (join os)
unfolding object_lines join
lines_room [] = omega arith
lines_room (o ∷ os) = omega (arith, object_room o, lines_room os, length-append (object_line o) (object_lines os), length-append o.body (join os))

-- ---- the objects that are listed so far

-- so much of the text of objects is put, and these are left
pub record Lines (os left : List Object) (output : List ℕ) (used : ℕ) (now : List ℕ) : Type 0 where
  pub text : List ℕ
  pub whole : object_lines os ≡ text ++ object_lines left
  pub room : 4 * used + 17 * length (join left) ≤ 17 * length (join os)
  pub put : Puts output 0 text now used

pub lines_none : (os : List Object) (output : List ℕ) → Lines os os output 0 output
lines_none os output = record { text = []; whole = refl; room = omega arith; put = record { reached = refl; room = refl; text = refl; rest = refl } }

-- one object more
pub lines_more : {os left : List Object} {o : Object} {output now more : List ℕ} {used end : ℕ} → Lines os (o ∷ left) output used now
    → Puts now used (object_line o) more end → Lines os left output end more
unfolding object_lines join
lines_more {os} {left} {o} w q = record {
  text = w.text ++ object_line o;
  whole = w.whole ∙ sym (append_assoc w.text (object_line o) (object_lines left));
  room = omega (arith, w.room, q.reached, object_room o, length-append o.body (join left));
  put = puts_append w.put q;
}

-- there is room for its line, and a byte holds the length of its body
pub lines_fit : {os left : List Object} {o : Object} {output now : List ℕ} {used : ℕ} → Lines os (o ∷ left) output used now → length (join os) ≤ 255
    → text_room ≤ length output → (used + 28 ≤ length now) × (length o.body ≤ 255)
unfolding join
lines_fit {os} {left} {o} w h l = omega (arith, w.room, w.put.room, length-append o.body (join left))

-- all are listed
pub lines_all : {os : List Object} {output now : List ℕ} {used : ℕ} → Lines os [] output used now → Puts output 0 (object_lines os) now used
unfolding object_lines
lines_all w = rw (w.whole, append-nil w.text) w.put
