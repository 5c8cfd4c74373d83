use Rattle.hop.proofs.BuildLaws.{room_told}
use Rattle.hop.proofs.sending.has_room.Goals as goal

pub returns : goal.returns
returns c = let a = c.args in λ own. room_told own a.neighbour a.object.header a.object.body.now a.at _ (c.growth.ensures.result_len own)
