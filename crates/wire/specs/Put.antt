-- Bytes that are put into an output.
use Rattle.std.specs.Prelude.{◌≡◌, ℕ, ◌+◌, List, length}
use Rattle.std.proofs.lemmas.List.Edits.{sets}

-- bytes are put into an output at an index: the index behind them, and the output as it is left
pub record Put (output : List ℕ) (at : ℕ) (bytes : List ℕ) (behind : ℕ) (left : List ℕ) : Type 0 where
  pub end : behind ≡ at + length bytes
  pub written : left ≡ sets output at bytes
