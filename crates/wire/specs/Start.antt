-- Where a walk over a run starts.
use Rattle.std.specs.Prelude.{List, ℕ, cond, length}
use Rattle.model.specs.Reading.{misframed}
use Rattle.wire.specs.Step.{Cursor, first_cursor}

-- a cursor, and the end of the container that it stands in
pub record Start : Type 0 where
  pub cursor : Cursor
  pub end : ℕ

-- in a run that is one whole container, before its first object; else before the first option
unfoldable pub start_of : List ℕ → Start
start_of bs = cond (misframed bs) (record { cursor = record { at = 0 }; end = 0 }) (record { cursor = first_cursor; end = length bs })
