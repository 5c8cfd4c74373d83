-- The duplicate test: which uses of known types were seen, as the bits of a number. Bar 16 reads it and no earlier object.
use Rattle.std.specs.Prelude.{◌≡◌, ℕ, ◌+◌, ◌-◌, ◌*◌, ◌^◌, ◌<◌, Bool, true, cond, ◌&&◌, List, [], ◌∷◌, leb, eqb, Result, Ok, Err}
use Rattle.std.specs.Int.Bits.{bit_or}
use Rattle.model.specs.declared.verdicts.ObjectBar.{ObjectBar}
use Rattle.model.specs.Bars.{object_bar_number}
use Rattle.model.specs.Number.{any_of, ◌when◌, first_case}
use Rattle.model.specs.Object.{Object, bit_c, Standing, kind, known}
use Rattle.model.specs.Reading.{malformed, misused, same_use, repeated, object_bar}
use Rattle.wire.specs.Row.{has_bit}

-- the index of the bit for a use: two bits for each type from 1 on, by C
abbrev pub use_index : Object → ℕ
use_index o = (o.type - 1) * 2 + bit_c o

-- the bit of an object's use is 1; an unknown type has no bit
abbrev pub has_use : (seen : ℕ) → Object → Bool
has_use n o = known (kind o) && has_bit n (use_index o)

-- the bits, with that of one object more; an unknown type leaves them as they are
abbrev pub with_use : (seen : ℕ) → Object → ℕ
with_use n o = cond (known (kind o)) (bit_or n (2 ^ use_index o)) n

-- the bits behind objects, from those before them on
unfoldable pub seen_from : (seen : ℕ) → List Object → ℕ
seen_from n [] = n
seen_from n (o ∷ os) = seen_from (with_use n o) os

-- the bits behind a container's first objects
abbrev pub seen_after : (earlier : List Object) → ℕ
seen_after es = seen_from 0 es

-- the number of a bar at an object in the Result of code; 0 for none
abbrev pub bar_in : Result Unit ObjectBar → ℕ
bar_in (Ok u) = 0
bar_in (Err b) = object_bar_number b

-- an object without others before it
abbrev pub alone : Object → Standing
alone o = record { earlier = []; object = o }

-- the lowest of 15, 16 and 17 at an object, by one bit in place of the objects before it
unfoldable pub bar_by : (seen : Bool) → Object → ℕ
bar_by s o = first_case (15 when malformed (alone o) ∷ 16 when (known (kind o) && s) ∷ 17 when misused (alone o) ∷ [])

-- an object that has bit k: one of known type, whose use has that index
abbrev pub sets_bit : (k : ℕ) → Object → Bool
sets_bit k o = known (kind o) && eqb (use_index o) k

-- each bit is 1 exactly where an object that has it stands before; so unknown types set none
abbrev pub BitsExact : Type 0
BitsExact = (es : List Object) (k : ℕ) → has_bit (seen_after es) k ≡ any_of (sets_bit k) es

-- an object behind others, and the bits that they left
pub record SeenAt (es : List Object) (o : Object) : Type 0 where
  -- a known type's bit is 1 exactly where an object of its type and C stands before
  pub exact : known (kind o) ≡ true → has_bit (seen_after es) (use_index o) ≡ any_of (same_use o) es
  -- bar 16 holds exactly where the bit is 1
  pub repeat : repeated (record { earlier = es; object = o }) ≡ has_use (seen_after es) o
  -- the lowest of 15 to 17 reads that bit and no earlier object
  pub bar : object_bar (record { earlier = es; object = o }) ≡ bar_by (has_use (seen_after es) o) o

-- at every object
abbrev pub SeenExact : Type 0
SeenExact = (es : List Object) (o : Object) → SeenAt es o

-- a type from 1 to 8
abbrev pub has_room : Object → Bool
has_room o = leb 1 o.type && leb o.type 8

-- the uses of types 1 to 8 have sixteen bits, and no two of them share one
abbrev pub BitsApart : Type 0
BitsApart = (o : Object) → has_room o ≡ true
    → (use_index o < 16) × ((e : Object) → has_room e ≡ true → same_use o e ≡ eqb (use_index e) (use_index o))
