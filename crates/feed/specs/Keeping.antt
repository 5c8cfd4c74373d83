-- What a step makes of the state and of the lent buffer.
use Rattle.std.specs.Prelude.{◌≡◌, ℕ, List}
use Rattle.feed.specs.declared.bytes.Fed.{Fed}
use Rattle.feed.specs.declared.bytes.Keeper.{Keeper}

-- such a state, and such bytes in the same buffer
pub record Becomes (old new : Keeper) (fed : Fed) (kept : List ℕ) : Type 0 where
  pub state : new.fed ≡ fed
  pub bytes : new.kept.now ≡ kept
  pub same : new.kept.ghost_name ≡ old.kept.ghost_name
