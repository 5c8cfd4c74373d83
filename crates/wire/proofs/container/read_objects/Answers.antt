use mathlib.Core.Path.{refl}
use native.Mathlib.Omega.{arith}
use borrow.Author.Rules.{rules}
use Rattle.wire.proofs.ReadLaws.{pass_start, pass_into, pass_out, pass_cut, pass_room, pass_onward, pass_fits, pass_barred, pass_count, pass_whole}
use Rattle.wire.proofs.container.read_objects.Goals as goal

pub loop-data-init : goal.loop-data-init
loop-data-init c = let w = pass_start c.args.run.now _ c.new-gathered.ensures in search (rules, w)

pub loop-object-init : goal.loop-object-init
loop-object-init c = let w = pass_into _ _ _ _ _ c.loop-data.invariant c.in-Some.ensures.steps.0 c.in-Some.ensures.steps.1 in search (rules, w)

pub add-requires : goal.add-requires
add-requires c = pass_room _ _ _ _ _ _ c.loop-object.invariant c.in-Some-next.ensures.steps.0 c.in-Some-next.ensures.steps.1 (search rules)

pub first_bar-requires-clause-fits : goal.first_bar-requires-clause-fits
first_bar-requires-clause-fits c =
    let w = c.loop-object.invariant in
    let b = c.in-Err.ensures _ w.gathers in
    pass_fits _ _ _ _ _ _ w c.in-Some-next.ensures.steps.0 c.in-Some-next.ensures.steps.1 _ _ b refl (λ i. omega (arith, c.type_inv.run i)) c.requires.few

pub returns-in-Err : goal.returns-in-Err
returns-in-Err c =
    let w = c.loop-object.invariant in
    let b = c.in-Err.ensures _ w.gathers in
    let e = pass_barred _ _ _ _ _ _ w c.in-Some-next.ensures.steps.0 c.in-Some-next.ensures.steps.1 _ _ b refl in
    search (rules, e)

pub loop-object-preserved : goal.loop-object-preserved
loop-object-preserved c =
    let w = c.loop-object.invariant in
    pass_onward _ _ _ _ _ _ w c.in-Some-next.ensures.steps.0 c.in-Some-next.ensures.steps.1 _ (c.in-Ok.ensures _ w.gathers)

pub returns-then-not-is_done : goal.returns-then-not-is_done
returns-then-not-is_done c = pass_cut _ _ _ _ _ c.loop-object.invariant c.in_default-next.ensures.steps.1 (search rules)

pub loop-data-preserved : goal.loop-data-preserved
loop-data-preserved c = pass_out _ _ _ _ _ c.loop-object.invariant c.in_default-next.ensures.steps.0.0 c.in_default-next.ensures.steps.1 (search rules)

pub overflow_cast-result : goal.overflow_cast-result
overflow_cast-result c =
    let n = pass_count _ _ _ _ c.loop-data.invariant c.in_default.ensures.steps.0.0 c.in_default.ensures.steps.1 c.requires.whole (λ i. omega (arith, c.type_inv.run i)) c.requires.few in
    search (rules, n)

pub returns : goal.returns
returns c =
    let e = pass_whole _ _ _ _ c.loop-data.invariant c.in_default.ensures.steps.0.0 c.in_default.ensures.steps.1 c.requires.whole in
    search (rules, e)
