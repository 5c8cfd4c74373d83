use Rattle.hop.proofs.BodyLaws.{low_bytes}
use Rattle.hop.proofs.bytes.put_number.Goals as goal

pub returns : goal.returns
returns g c = rw (← low_bytes g.row.WIDTH c.args.n c.requires.width, ← c.to_be_bytes-bytes.ensures) c.put_in_place.ensures
