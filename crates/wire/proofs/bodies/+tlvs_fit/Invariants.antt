use Rattle.std.proofs.Common.{length}
use Rattle.wire.proofs.bodies.+tlvs_fit.Given as goal

abbrev pub decreases-tlvs_fit : goal.decreases-tlvs_fit
decreases-tlvs_fit l = length l.tlvs.now
