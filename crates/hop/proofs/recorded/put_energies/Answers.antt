use Rattle.hop.proofs.RunLaws.{energies_lone}
use Rattle.hop.proofs.recorded.put_energies.Goals as goal

pub returns-then-n-i-lt2 : goal.returns-then-n-i-lt2
returns-then-n-i-lt2 c = energies_lone _ c.loop-i.invariant.1 c.loop-i-test.true c.if-n-i-lt2.true
