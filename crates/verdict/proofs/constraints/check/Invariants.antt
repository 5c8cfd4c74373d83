use Rattle.verdict.proofs.PassLaws.{AtPass, InPass}
use Rattle.verdict.proofs.constraints.check.Given as goal

abbrev pub invariant-loop-data : goal.invariant-loop-data
invariant-loop-data l = AtPass l.neighbour l.summary l.run l.containers.rest.now l.place

abbrev pub invariant-loop-object : goal.invariant-loop-object
invariant-loop-object l = InPass l.neighbour l.summary l.run l.containers.rest.now l.objects.rest.now l.place
