-- What is kept of parts, computed.
use mathlib.Core.Path.{refl}
use Rattle.model.specs.Run.{concat}
use Rattle.feed.specs.Step.{more, stored, closed, closed_in, gone, gone_in, begun, begun_in, stepped, stepped_in, fed_bytes, fed_bytes_in, fed, fed_in}
use Rattle.feed.specs.Parts.{fed_parts}
use Rattle.feed.specs.Rows.{FeedRows}

pub feed_rows : FeedRows
unfolding concat more stored closed closed_in gone gone_in begun begun_in stepped stepped_in fed_bytes fed_bytes_in fed fed_in fed_parts
feed_rows = record { bytes_kept = refl; states_behind = refl; all_room = refl; any_state = refl; any_buffer = refl }
