use Rattle.model.proofs.ShapeLaws.{length-clear_each, length-own_energy}
use Rattle.wire.proofs.PutLaws.{put_append}
use Rattle.hop.proofs.BodyLaws.{recorded_energy, recorded_levels, recorded_colours, recorded_before, recorded_2, recorded_4, recorded_room, room_first, room_second}
use Rattle.model.specs.Constraint.{energy_in}
use Rattle.model.specs.Update.{clear_each, own_energy, sub_object}
use Rattle.hop.proofs.recorded.put_recorded.Goals as goal

pub put_energies-end-requires : goal.put_energies-end-requires
put_energies-end-requires c =
    let args = c.args in
    let parts = recorded_energy args.hop.own args.hop.neighbour args.mctype args.body.now c.if-mctype-eq2.true in
    rw (length-clear_each args.body.now) at (room_first args.at (clear_each args.body.now) (own_energy args.hop.own.nodetype (energy_in args.hop.own.flags args.hop.own.energy)) parts c.requires.body_in_bounds)

pub put_own_energy-requires : goal.put_own_energy-requires
put_own_energy-requires c =
    let args = c.args in
    let parts = recorded_energy args.hop.own args.hop.neighbour args.mctype args.body.now c.if-mctype-eq2.true in
    let sub = own_energy args.hop.own.nodetype (energy_in args.hop.own.flags args.hop.own.energy) in
    rw (length-own_energy args.hop.own.nodetype (energy_in args.hop.own.flags args.hop.own.energy)) at (room_second args.at (clear_each args.body.now) sub parts c.requires.body_in_bounds c.put_energies-end.ensures)

pub returns-then-mctype-eq2 : goal.returns-then-mctype-eq2
returns-then-mctype-eq2 c = rw (recorded_energy _ _ _ _ c.if-mctype-eq2.true) (put_append c.put_energies-end.ensures c.put_own_energy.ensures)

pub put_counted-requires : goal.put_counted-requires
put_counted-requires c = record { level_bound = c.args.hop.level_fits; body_in_bounds = rw (recorded_levels _ _ _ _ c.if-mctype-eq2.false c.if-mctype-eq6.true) at c.requires.body_in_bounds }

pub returns-then-mctype-eq6 : goal.returns-then-mctype-eq6
returns-then-mctype-eq6 c = rw (recorded_levels _ _ _ _ c.if-mctype-eq2.false c.if-mctype-eq6.true) c.put_counted.ensures

pub put_coloured-requires : goal.put_coloured-requires
put_coloured-requires c = record { colour_bound = c.args.hop.colour_fits; body_in_bounds = rw (recorded_colours _ _ _ _ c.if-mctype-eq2.false c.if-mctype-eq6.false c.if-mctype-eq8.true) at c.requires.body_in_bounds }

pub returns-then-mctype-eq8 : goal.returns-then-mctype-eq8
returns-then-mctype-eq8 c = rw (recorded_colours _ _ _ _ c.if-mctype-eq2.false c.if-mctype-eq6.false c.if-mctype-eq8.true) c.put_coloured.ensures

pub put_sub-end-requires-clause-room : goal.put_sub-end-requires-clause-room
put_sub-end-requires-clause-room c =
    let args = c.args in
    room_first args.at (sub_object 4 c.link_value-q.result) args.body.now (recorded_before args.hop.own _ _ _ c.if-mctype-eq2.false c.if-mctype-eq6.false c.if-mctype-eq8.false c.link_value-q.ensures c.if-mctype-eq4.true) c.requires.body_in_bounds

pub put_bytes-requires : goal.put_bytes-requires
put_bytes-requires c =
    let args = c.args in
    room_second args.at (sub_object 4 c.link_value-q.result) args.body.now (recorded_before args.hop.own _ _ _ c.if-mctype-eq2.false c.if-mctype-eq6.false c.if-mctype-eq8.false c.link_value-q.ensures c.if-mctype-eq4.true) c.requires.body_in_bounds c.put_sub-end.ensures

pub returns-then-mctype-eq4 : goal.returns-then-mctype-eq4
returns-then-mctype-eq4 c =
    rw (recorded_before _ _ _ _ c.if-mctype-eq2.false c.if-mctype-eq6.false c.if-mctype-eq8.false c.link_value-q.ensures c.if-mctype-eq4.true) (put_append c.put_sub-end.ensures c.put_bytes.ensures)

pub put_bytes-end-requires : goal.put_bytes-end-requires
put_bytes-end-requires c = recorded_room c.args.hop.own _ _ _ _ c.if-mctype-eq2.false c.if-mctype-eq6.false c.if-mctype-eq8.false c.link_value-q.ensures c.if-mctype-eq4.false c.requires.body_in_bounds

pub put_sub-requires-clause-room : goal.put_sub-requires-clause-room
put_sub-requires-clause-room c =
    let args = c.args in
    room_second args.at args.body.now (sub_object 2 c.link_value-q.result) (recorded_2 args.hop.own _ _ _ c.if-mctype-eq2.false c.if-mctype-eq6.false c.if-mctype-eq8.false c.link_value-q.ensures c.if-mctype-eq4.false c.if-mctype-eq7.true) c.requires.body_in_bounds c.put_bytes-end.ensures

pub returns-then-mctype-eq7 : goal.returns-then-mctype-eq7
returns-then-mctype-eq7 c =
    rw (recorded_2 _ _ _ _ c.if-mctype-eq2.false c.if-mctype-eq6.false c.if-mctype-eq8.false c.link_value-q.ensures c.if-mctype-eq4.false c.if-mctype-eq7.true) (put_append c.put_bytes-end.ensures c.put_sub.ensures)

pub put_sub-requires-2-clause-room : goal.put_sub-requires-2-clause-room
put_sub-requires-2-clause-room c =
    let args = c.args in
    room_second args.at args.body.now (sub_object 4 c.link_value-q.result) (recorded_4 args.hop.own _ _ _ c.if-mctype-eq2.false c.if-mctype-eq6.false c.if-mctype-eq8.false c.link_value-q.ensures c.if-mctype-eq4.false c.if-mctype-eq7.false) c.requires.body_in_bounds c.put_bytes-end.ensures

pub returns : goal.returns
returns c =
    rw (recorded_4 _ _ _ _ c.if-mctype-eq2.false c.if-mctype-eq6.false c.if-mctype-eq8.false c.link_value-q.ensures c.if-mctype-eq4.false c.if-mctype-eq7.false) (put_append c.put_bytes-end.ensures c.put_sub-2.ensures)
