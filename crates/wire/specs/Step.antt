-- What stands at a cursor of a container.
use Rattle.std.specs.Prelude.{ℕ, ◌+◌, ◌-◌, List, cond, length, take, drop, get_or, leb, ltb}
use Rattle.model.specs.Object.{Object, object}
use Rattle.wire.specs.declared.objects.Header.{Header}

-- a place between two objects of a container
pub record Cursor : Type 0 where
  pub at : ℕ

-- what stands there: an object, by the indices where its body begins and ends, and the place behind it; one that is cut short; or nothing more
pub data Step : Type 0 where
  Found : Header → (start end : ℕ) → (next : Cursor) → Step
  CutShort : Step
  End : Step

-- behind byte 0x02 and the data length
abbrev pub first_cursor : Cursor
first_cursor = record { at = 2 }

-- the header whose bytes begin at an index
abbrev pub header_at : List ℕ → (at : ℕ) → Header
header_at bs at = record { mctype = get_or bs at 0; flags = get_or bs (at + 1) 0; mode = get_or bs (at + 2) 0 }

-- an object with four bytes of header, the last of which is the length of the body behind it
abbrev pub object_at : List ℕ → (at size : ℕ) → Step
object_at bs at size = Found (header_at bs at) (at + 4) (at + 4 + size) (record { at = at + 4 + size })

-- nothing more; a header or a body that runs past the end; or an object
unfoldable pub step_at : List ℕ → Cursor → Step
step_at bs p =
    cond (leb (length bs) p.at) End
    (cond (ltb (length bs) (p.at + 4)) CutShort
    (cond (ltb (length bs) (p.at + 4 + get_or bs (p.at + 3) 0)) CutShort
    (object_at bs p.at (get_or bs (p.at + 3) 0))))

-- the object with a header and a body
abbrev pub object_of : Header → (body : List ℕ) → Object
object_of h b = object h.mctype h.flags h.mode b

-- the object whose body is the container's bytes from start to end
abbrev pub object_in : List ℕ → Header → (start end : ℕ) → Object
object_in bs h start end = object_of h (take (end - start) (drop start bs))
