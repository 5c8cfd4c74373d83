use Rattle.std.proofs.Common.{◌<◌}
use Rattle.choose.proofs.constraints.TransmissionsDisplay.fmt.Given as goal

abbrev pub invariant-loop : goal.invariant-loop
invariant-loop g l = l.left < 128
