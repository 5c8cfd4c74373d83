-- Where a walk by steps over a run starts.
use mathlib.Core.Path.{◌≡◌, refl}
use Prim.Native.Nat.{ℕ}
use mathlib.Core.List.{List}
use mathlib.Core.Bool.{Bool, true, false, cond}
use lib.ListN.{length, take}
use Rattle.model.specs.Reading.{misframed}
use Rattle.wire.specs.Step.{step_at, first_cursor}
use Rattle.wire.specs.Start.{Start, start_of}

-- behind the frame of a run that is not one container there is nothing before the walk's first end, 0
pub start_step : (run : List ℕ) (t : Start) → t ≡ start_of run → step_at (take t.end run) t.cursor ≡ step_at (take t.end run) first_cursor
unfolding start_of step_at
start_step run t e = rw e (go (misframed run))
  where
    go : (b : Bool) → let t = cond {A = Start} b (record { cursor = record { at = 0 }; end = 0 }) (record { cursor = first_cursor; end = length run }) in step_at (take t.end run) t.cursor ≡ step_at (take t.end run) first_cursor
    go true = refl
    go false = refl
