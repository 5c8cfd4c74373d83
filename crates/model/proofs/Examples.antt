-- Document 01's boundary examples, computed.
use mathlib.Core.Path.{refl}
use Rattle.model.specs.Examples.{Examples}
use Rattle.model.proofs.Computed.{model}

pub examples : Examples
unfolding model
examples = record { calls = refl; texts = refl }
