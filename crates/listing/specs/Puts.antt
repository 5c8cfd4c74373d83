-- Inside the crate: bytes that are put behind the text at the start of an output.
use Rattle.std.specs.Prelude.{◌≡◌, ℕ, ◌+◌, List, ◌++◌, length, take, drop}

-- behind the first used bytes of an output come these bytes, and the rest stays
pub record Puts (output : List ℕ) (used : ℕ) (bytes : List ℕ) (left : List ℕ) (end : ℕ) : Type 0 where
  pub reached : end ≡ used + length bytes
  pub room : length left ≡ length output
  pub text : take end left ≡ take used output ++ bytes
  pub rest : drop end left ≡ drop end output
