-- The model's row of a type, as code has it.
use Rattle.std.specs.Prelude.{◌≡◌, ℕ, ◌+◌, ◌/◌, ◌%◌, ◌^◌, Bool, List, [], ◌∷◌}
use Rattle.model.specs.Number.{is_set}
use Rattle.model.specs.Object.{Kind, kind_of}
use Rattle.model.specs.Table.{row, allowed}
use Rattle.wire.specs.declared.table.Row.{Row}

-- bit k of a number is 1
unfoldable pub has_bit : (n k : ℕ) → Bool
has_bit n k = is_set (n / 2 ^ k % 2)

-- numbers as the bits of a mask
abbrev pub mask_of : List ℕ → ℕ
mask_of [] = 0
mask_of (a ∷ rest) = 2 ^ a + mask_of rest

-- the row of a kind, its allowed A as a mask
abbrev pub row_in : Kind → Row
row_in k = record { base = (row k).base; tlvs = (row k).tlvs; records = (row k).records; lead = (row k).lead; size = (row k).size; allows = mask_of (row k).allows }

-- the row of a type
unfoldable pub row_for : (type : ℕ) → Row
row_for t = row_in (kind_of t)

-- bit a of a type's mask is 1 exactly where the model's table allows A = a
abbrev pub MasksExact : Type 0
MasksExact = (type a : ℕ) → has_bit (row_for type).allows a ≡ allowed (kind_of type) a
