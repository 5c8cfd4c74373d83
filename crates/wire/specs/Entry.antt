-- What the options of a run lead to: the step from one container to the next.
use Rattle.std.specs.Prelude.{ℕ, zero, suc, ◌+◌, List, [], ◌∷◌, cond, ◌&&◌, length, drop, leb, ltb, eqb}
use Rattle.wire.specs.Step.{Cursor}

-- what options lead to: a container with data, by the place before its first object and the index behind its last byte; an option that is
-- cut short; or nothing more
pub data Entry : Type 0 where
  Into : (first : Cursor) → (end : ℕ) → Entry
  Short : Entry
  Nothing : Entry

-- the number of bytes of the option at the head: Pad1, or type, length and data; 0 where it is cut short
unfoldable pub option_size : List ℕ → ℕ
option_size [] = 0
option_size (zero ∷ bs) = 1
option_size (suc t ∷ []) = 0
option_size (suc t ∷ n ∷ bs) = cond (leb n (length bs)) (suc (suc n)) 0

-- the index behind an option by its own index and its size; 0 where it is cut short
abbrev pub behind_by : (at size : ℕ) → ℕ
behind_by at zero = 0
behind_by at (suc s) = at + suc s

-- by the size and the type of the option at an index: cut short; a container with data; or what options behind it lead to
abbrev pub entry_by : (size type at : ℕ) → (behind : Entry) → Entry
entry_by zero t at e = Short
entry_by (suc s) t at e = cond (eqb t 2 && ltb (at + 2) (at + suc s)) (Into (record { at = at + 2 }) (at + suc s)) e

-- what options lead to, of which the first stands at an index; `limit` bounds their number
unfoldable pub entry_up_to : (limit : ℕ) → List ℕ → (at : ℕ) → Entry
entry_up_to zero bs at = Nothing
entry_up_to (suc k) [] at = Nothing
entry_up_to (suc k) (t ∷ bs) at =
    entry_by (option_size (t ∷ bs)) t at (entry_up_to k (drop (option_size (t ∷ bs)) (t ∷ bs)) (at + option_size (t ∷ bs)))

-- what the options of a run lead to from an index on: the next container with data, an option that is cut short, or nothing
unfoldable pub entry_at : List ℕ → (from : ℕ) → Entry
unfolding entry_up_to
entry_at bs at = entry_up_to (length (drop at bs)) (drop at bs) at
