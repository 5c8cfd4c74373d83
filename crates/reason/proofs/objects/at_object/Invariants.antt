use Rattle.reason.proofs.WalkLaws.{Seeks, SeeksIn}
use Rattle.reason.proofs.objects.at_object.Given as goal

abbrev pub invariant-loop-data : goal.invariant-loop-data
invariant-loop-data l = Seeks l.run l.containers.rest.now l.place l.left

abbrev pub invariant-loop-object : goal.invariant-loop-object
invariant-loop-object l = SeeksIn l.run l.containers.rest.now l.objects.rest.now l.place l.left
