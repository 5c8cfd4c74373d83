use Prim.Native.Nat.{◌+◌}
use native.Mathlib.Omega.{arith}
use lib.ListN.{length-set}
use Rattle.wire.proofs.PutLaws.{put_length}
use Rattle.metric.proofs.ColourLaws.{place_within}
use Rattle.hop.proofs.RunLaws.{colour_counted, colour_lone, colour_added, colours_fit, added_fit, gained_byte}
use Rattle.hop.proofs.colours.put_colours.Goals as goal

pub put_bytes-end-requires : goal.put_bytes-end-requires
put_bytes-end-requires c = omega (arith, c.requires.subs_in_bounds, colours_fit c.args.colour c.args.subs.now)

pub overflow_add-place : goal.overflow_add-place
overflow_add-place c =
    let args = c.args in
    omega (arith, c.place_of-place.ensures, place_within args.colour args.subs.now)

pub overflow_add-out-then-place-subs : goal.overflow_add-out-then-place-subs
overflow_add-out-then-place-subs c =
    let args = c.args in
    let byte = c.type_inv.subs (c.place_of-place.result + 1) in
    omega (arith, gained_byte args.colour args.subs.now c.place_of-place.ensures c.if-place-subs.true (omega (arith, byte)))

pub bounds-out-at : goal.bounds-out-at
bounds-out-at c =
    let put = c.put_bytes-end.ensures in
    omega (arith, put_length put, c.requires.subs_in_bounds, colours_fit c.args.colour c.args.subs.now, c.if-place-subs.true)

pub returns-then-place-subs : goal.returns-then-place-subs
returns-then-place-subs c = colour_counted _ _ c.place_of-place.ensures c.put_bytes-end.ensures c.if-place-subs.true

pub returns-then-subs-eq1 : goal.returns-then-subs-eq1
returns-then-subs-eq1 c = colour_lone _ _ c.place_of-place.ensures c.put_bytes-end.ensures c.if-place-subs.false c.if-subs-eq1.true

pub bounds-out-end : goal.bounds-out-end
bounds-out-end c =
    let put = c.put_bytes-end.ensures in
    let n = added_fit c.args.colour c.args.subs.now c.place_of-place.ensures c.if-place-subs.false c.if-subs-eq1.false in
    omega (arith, put.end, put_length put, c.requires.subs_in_bounds, n)

pub bounds-out-end-2 : goal.bounds-out-end-2
bounds-out-end-2 c =
    let put = c.put_bytes-end.ensures in
    let n = added_fit c.args.colour c.args.subs.now c.place_of-place.ensures c.if-place-subs.false c.if-subs-eq1.false in
    simp length-set (omega (arith, put.end, put_length put, c.requires.subs_in_bounds, n))

pub returns : goal.returns
returns c = colour_added _ _ c.place_of-place.ensures c.put_bytes-end.ensures c.if-place-subs.false c.if-subs-eq1.false
