use Rattle.wire.proofs.ReadLaws.{AtPass, InPass}
use Rattle.wire.proofs.container.read_objects.Given as goal

abbrev pub invariant-loop-object : goal.invariant-loop-object
invariant-loop-object l = InPass l.fn.run l.containers.rest.now l.objects.rest.now l.gathered

abbrev pub invariant-loop-data : goal.invariant-loop-data
invariant-loop-data l = AtPass l.fn.run l.containers.rest.now l.gathered
