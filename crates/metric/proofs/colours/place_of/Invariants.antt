use Prim.Native.Nat.{◌+◌}
use mathlib.Core.Path.{◌≡◌}
use lib.ListN.{length}
use Rattle.metric.specs.Colours.{place_of}
use Rattle.metric.proofs.colours.place_of.Given as goal

abbrev pub invariant-loop-rest : goal.invariant-loop-rest
invariant-loop-rest l = (l.at + place_of l.colour l.rest ≡ place_of l.colour l.subs) × (l.at + length l.rest ≡ length l.subs)

abbrev pub decreases-loop-rest : goal.decreases-loop-rest
decreases-loop-rest l = length l.rest
