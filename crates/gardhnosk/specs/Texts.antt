-- The length of a text as C receives it.
use Rattle.std.specs.Prelude.{ℕ, Result, Ok, Err}
use Rattle.listing.specs.declared.ShortOutput.{ShortOutput}

-- the length of a listing; 2^64 - 1 where the output is too short
abbrev pub size_of : Result ℕ ShortOutput → ℕ
size_of (Ok n) = n
size_of (Err short) = 18446744073709551615
