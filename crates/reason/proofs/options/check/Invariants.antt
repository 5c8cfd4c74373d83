use mathlib.Core.Path.{◌≡◌}
use Prim.Native.Nat.{◌-◌}
use lib.ListN.{length}
use Rattle.reason.specs.Finding.{cut_option_finding}
use Rattle.reason.specs.Options.{cut_option_at}
use Rattle.reason.proofs.options.check.Given as goal

abbrev pub invariant-loop-at : goal.invariant-loop-at
invariant-loop-at l = cut_option_at l.run l.at ≡ cut_option_finding l.run

abbrev pub decreases-loop-at : goal.decreases-loop-at
decreases-loop-at l = length l.run - l.at
