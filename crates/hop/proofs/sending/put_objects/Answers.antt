use borrow.Author.Rules.{rules}
use Rattle.hop.proofs.SendLaws.{put_start, put_ready, put_into, put_room, put_onward, put_out, put_close, placed, placed_one}
use Rattle.hop.proofs.sending.put_objects.Goals as goal

pub loop-data-init : goal.loop-data-init
loop-data-init c = λ os q u. let w = put_start c.args.hop.own c.args.hop.neighbour c.args.out.now os c.args.run.now c.args.array.now q u c.requires.array_len.0 c.requires.array_len.1 in search (rules, w)

pub loop-object-init : goal.loop-object-init
loop-object-init c = λ os q u. let w = put_into _ _ _ _ _ _ _ _ _ _ (c.loop-data.invariant os q u) c.in-Some.ensures.steps.0 c.in-Some.ensures.steps.1 in search (rules, w)

pub open_for-opened-requires : goal.open_for-opened-requires
open_for-opened-requires c =
    let f = c.requires.fits in
    let w = c.loop-object.invariant f.objects f.whole f.packs in
    let ready = put_ready _ _ _ _ w.builds f.packs c.requires.array_len.2 in
    record { le_at = ready.0; at_in_bounds = ready.1 }

pub put_object-requires : goal.put_object-requires
put_object-requires c =
    let f = c.requires.fits in
    let w = c.loop-object.invariant f.objects f.whole f.packs in
    let room = put_room _ _ _ _ _ _ _ _ _ _ w _ c.in-Some-next.ensures.steps.0 c.in-Some-next.ensures.steps.1 _ _ _ _ c.open_for-opened.ensures f.one in
    record { body_in_bounds = room.0; out_len_bound = room.1 }

pub loop-object-preserved : goal.loop-object-preserved
loop-object-preserved c = λ os q u.
    let w = c.loop-object.invariant os q u in
    put_onward _ _ _ _ _ _ _ _ _ _ w _ c.in-Some-next.ensures.steps.0 c.in-Some-next.ensures.steps.1 _ _ _ _ c.open_for-opened.ensures (placed_one c.requires.fits os q) _ _ c.put_object.ensures

pub loop-data-preserved : goal.loop-data-preserved
loop-data-preserved c = λ os q u. put_out _ _ _ _ _ _ _ _ _ _ (c.loop-object.invariant os q u) c.in_default-next.ensures.steps.0.0 c.in_default-next.ensures.steps.1

pub flush-requires : goal.flush-requires
flush-requires c =
    let f = c.requires.fits in
    let w = c.loop-data.invariant f.objects f.whole f.packs in
    let ready = put_ready _ _ _ _ w.builds f.packs c.requires.array_len.2 in
    record { le_at = ready.0; at_in_bounds = ready.1 }

pub returns : goal.returns
returns c =
    let f = c.requires.fits in
    let w = c.loop-data.invariant f.objects f.whole f.packs in
    placed _ f (put_close _ _ _ _ _ _ _ _ _ w c.in_default.ensures.steps.0.0 c.in_default.ensures.steps.1 c.flush.ensures.put)
