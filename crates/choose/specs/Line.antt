-- What is left of a line while its words are read.
use Rattle.std.specs.Prelude.{◌≤◌, length}
use Rattle.choose.specs.declared.line.Rest.{Rest}

-- no more is left than before
abbrev pub NoMoreLeft : (before after : Rest) → Type 0
NoMoreLeft before after = length after.bytes.now ≤ length before.bytes.now
