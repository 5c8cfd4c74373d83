use Rattle.wire.proofs.FrameLaws.{framed_short, framed_by}
use Rattle.wire.proofs.containers.is_framed.Goals as goal

pub returns-in_default : goal.returns-in_default
returns-in_default c = framed_short _ c.in_default.len_below

pub returns-in-len2-up : goal.returns-in-len2-up
returns-in-len2-up c = framed_by _ c.in-len2-up.len_at_least
