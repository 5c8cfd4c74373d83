use Rattle.model.specs.Run.{read_run}
use Rattle.reason.proofs.WalkLaws.{refused_unmet, read_unmet, read_formed}
use Rattle.reason.proofs.objects.unmet.Goals as goal

pub at_object-requires : goal.at_object-requires
at_object-requires c = read_formed _ c.in-Ok.ensures

pub returns-in-Ok : goal.returns-in-Ok
returns-in-Ok c = read_unmet c.args.neighbour (read_run c.args.run.now) c.args.place c.in-Ok.ensures c.at_object.ensures

pub returns-in-Err : goal.returns-in-Err
returns-in-Err c = refused_unmet c.args.neighbour (read_run c.args.run.now) c.args.place c.in-Err.ensures
