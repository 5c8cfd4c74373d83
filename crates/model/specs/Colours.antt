-- Link colours by numbers (type 8; RFC 6551, section 4.4). In bytes x, y of a sub-object the colour is x * 4 + y / 64, ten flag bits; in a
-- constraint I is the lowest bit of y.
use Rattle.std.specs.Prelude.{◌≡◌, ℕ, ◌+◌, ◌*◌, ◌/◌, ◌%◌, ◌^◌, ◌<◌, Bool, true, false, not, ◌&&◌, ◌||◌, List, ◌↔◌, length, get_or, leb, eqb}
use Rattle.std.proofs.Math.Option.{some}
use Rattle.std.proofs.Math.ListN.{get_elem?}
use Rattle.model.specs.declared.Own.{Own}
use Rattle.model.specs.declared.Neighbour.{Neighbour}
use Rattle.model.specs.declared.Summary.{Summary}
use Rattle.model.specs.Object.{Object, bit_o, bit_c, bit_r}
use Rattle.model.specs.Reading.{well_formed, malformed}
use Rattle.model.specs.Run.{read_run}
use Rattle.model.specs.Constraint.{has_all, unmet}
use Rattle.model.specs.Update.{update_object}

-- bar 15: a constraint has exactly 3 bytes, a recorded metric 1 and 2 for each of one or more sub-objects; an aggregated one is not tested
abbrev pub ColourShapes : Type 0
ColourShapes = (es : List Object) (o : Object) → o.type ≡ 8 → malformed (record { earlier = es; object = o })
    ≡ eqb (bit_c o) 1 && not (eqb (length o.body) 3)
    || eqb (bit_c o) 0 && eqb (bit_r o) 1 && not (leb 3 (length o.body) && eqb (length o.body % 2) 1)

-- ---- when a constraint is met

-- a bit of a number, the lowest at place 0
abbrev pub bit_at : (number place : ℕ) → ℕ
bit_at n k = n / 2 ^ k % 2

-- every bit that is set in the colour asked for is set in the link's
abbrev pub HasColour : (asked link : ℕ) → Type 0
HasColour a l = (k : ℕ) → k < 10 → bit_at a k ≡ 1 → bit_at l k ≡ 1

-- some bit that is set in the colour asked for is not set in the link's
abbrev pub LacksColour : (asked link : ℕ) → Type 0
LacksColour a l = (k : ℕ) × (k < 10) × (bit_at a k ≡ 1) × (bit_at l k ≡ 0)

-- the test of two colours says the former
abbrev pub ColourExact : Type 0
ColourExact = (a l : ℕ) → (has_all 10 a l ≡ true) ↔ HasColour a l

-- a mandatory constraint, whether it is not met: I=1 asks for a link that has the colour, I=0 for one that lacks it
pub record ColourAsked (asked i link : ℕ) (is_unmet : Bool) : Type 0 where
  pub included : i ≡ 1 → (is_unmet ≡ false) ↔ HasColour asked link
  pub excluded : i ≡ 0 → (is_unmet ≡ false) ↔ LacksColour asked link

-- of every object of type 8 with C=1 and O=0, by bytes 1 and 2 of its body
abbrev pub ColourMet : Type 0
ColourMet = (c : Neighbour) (s : Summary) (o : Object) → o.type ≡ 8 → bit_c o ≡ 1 → bit_o o ≡ 0
    → ColourAsked (get_or o.body 1 0 * 4 + get_or o.body 2 0 / 64) (get_or o.body 2 0 % 2) c.colour (unmet c s o)

-- ---- what a constraint leaves as

-- its body as received and as sent on: byte 0 and the five reserved bits are cleared, nothing else
pub record Cleared (received sent : List ℕ) : Type 0 where
  pub bytes : length sent ≡ 3
  pub reserved : get_or sent 0 0 ≡ 0
  pub upper : get_or sent 1 0 ≡ get_or received 1 0
  pub lower : get_or sent 2 0 / 64 ≡ get_or received 2 0 / 64
  pub reserved5 : get_or sent 2 0 / 2 % 32 ≡ 0
  pub same_i : get_or sent 2 0 % 2 ≡ get_or received 2 0 % 2

-- of every constraint of type 8 in a well-formed container
abbrev pub ClearsColour : Type 0
ClearsColour = (own : Own) (c : Neighbour) (bs : List ℕ) (os : List Object) (i : ℕ) (o : Object) → read_run bs ≡ well_formed os → get_elem? os i ≡ some o
    → o.type ≡ 8 → bit_c o ≡ 1 → Cleared o.body (update_object own c o).body
