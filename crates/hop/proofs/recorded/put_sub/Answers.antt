use Rattle.hop.proofs.BodyLaws.{sub_room}
use Rattle.hop.proofs.recorded.put_sub.Goals as goal

pub put_number-requires-clause-room : goal.put_number-requires-clause-room
put_number-requires-clause-room g c = sub_room c.args.at g.row.WIDTH c.args.q c.in-Some.is c.requires.room
