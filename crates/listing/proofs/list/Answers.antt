use Rattle.std.proofs.Common.{refl, sym, ap, ◌∙◌, ◌≤◌, length, arith, rules}
use borrow.Author.Tests.{lt-ltb}
use Rattle.wire.specs.Reading.{reading_in}
use Rattle.listing.specs.Listed.{listed, listed_in}
use Rattle.listing.proofs.ListingLaws.{well_read, refused_text, listed_by}
use Rattle.listing.proofs.list.Goals as goal

pub returns-then-out-lt-TEXT_ROOM : goal.returns-then-out-lt-TEXT_ROOM
unfolding listed listed_in
returns-then-out-lt-TEXT_ROOM c = rw (lt-ltb _ _ c.if-out-lt-TEXT_ROOM.true) (record { value = refl; written = refl })

pub returns-in-Err : goal.returns-in-Err
returns-in-Err c =
    let byte = c.type_inv.container 1 in
    let put = refused_text _ (sym c.read.ensures ∙ ap reading_in c.in-Err.is) (rw c.number.ensures at c.refused.ensures.put) in
    let all = listed_by _ _ c.if-out-lt-TEXT_ROOM.false (omega arith) put in
    record { value = all.0; written = search rules ∙ all.1 }

pub slice_bounds-put_lines-count : goal.slice_bounds-put_lines-count
slice_bounds-put_lines-count c =
    let byte = c.type_inv.container 1 in
    (well_read _ (sym c.read.ensures ∙ ap reading_in c.in-Ok.is) (omega arith)).framed

pub slice_bounds-put_lines-start : goal.slice_bounds-put_lines-start
slice_bounds-put_lines-start c =
    let byte = c.type_inv.container 1 in
    let framed : 2 ≤ length c.args.container.now = (well_read _ (sym c.read.ensures ∙ ap reading_in c.in-Ok.is) (omega arith)).framed in
    search rules

pub put_lines-requires : goal.put_lines-requires
put_lines-requires c =
    let byte = c.type_inv.container 1 in
    let read = well_read _ (sym c.read.ensures ∙ ap reading_in c.in-Ok.is) (omega arith) in
    record { few = read.few; text_room_in_bounds = c.if-out-lt-TEXT_ROOM.false; unused = refl }

pub returns-in-Ok : goal.returns-in-Ok
returns-in-Ok c =
    let byte = c.type_inv.container 1 in
    let read = well_read _ (sym c.read.ensures ∙ ap reading_in c.in-Ok.is) (omega arith) in
    let all = listed_by _ _ c.if-out-lt-TEXT_ROOM.false (omega arith) (rw read.text at c.put_lines.ensures.put) in
    record { value = all.0; written = search rules ∙ all.1 }
