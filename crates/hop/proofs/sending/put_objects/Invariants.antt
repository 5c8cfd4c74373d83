use mathlib.Core.Path.{◌≡◌}
use mathlib.Core.Bool.{false}
use mathlib.Core.List.{List}
use mathlib.Core.Option.{some}
use Rattle.model.specs.Object.{Object}
use Rattle.model.specs.Run.{run_objects}
use Rattle.model.specs.Pack.{unpackable}
use Rattle.model.specs.Update.{update}
use Rattle.hop.proofs.SendLaws.{AtPut, InPut}
use Rattle.hop.proofs.sending.put_objects.Given as goal

abbrev pub invariant-loop-object : goal.invariant-loop-object
invariant-loop-object l = (os : List Object) → run_objects l.fn.run ≡ some os → unpackable (update l.hop.own l.hop.neighbour os) ≡ false
    → InPut l.hop.own l.hop.neighbour l.fn.out os l.containers.rest.now l.objects.rest.now l.place l.out l.array

abbrev pub invariant-loop-data : goal.invariant-loop-data
invariant-loop-data l = (os : List Object) → run_objects l.fn.run ≡ some os → unpackable (update l.hop.own l.hop.neighbour os) ≡ false
    → AtPut l.hop.own l.hop.neighbour l.fn.out os l.containers.rest.now l.place l.out l.array
