use mathlib.Core.Path.{ap}
use Rattle.metric.specs.Leaf.{leaf_number}
use Rattle.model.specs.Update.{update, update_object}
use Rattle.wire.specs.Front.{seen}
use Rattle.hop.proofs.PlanLaws.{plan_leaf, plan_next, object_bytes}
use Rattle.hop.proofs.plan.plan_object.Goals as goal

pub returns-in-Ok-clause-planned : goal.returns-in-Ok-clause-planned
returns-in-Ok-clause-planned c = λ es q.
    let a = c.args in
    let e = object_bytes a.own a.neighbour a.object.header a.object.body.now _ (c.growth.ensures.result_len a.own) in
    plan_next a.own a.neighbour es a.object.header a.object.body.now a.p q _ (c.pack_object-filled.ensures.packed (update a.own a.neighbour es) (update_object a.own a.neighbour (seen a.object)) e) (ap leaf_number c.in-Ok.is) c.object_leaf-leaf.ensures

pub returns-in-Err-clause-planned : goal.returns-in-Err-clause-planned
returns-in-Err-clause-planned c = λ es q.
    let a = c.args in
    let e = object_bytes a.own a.neighbour a.object.header a.object.body.now _ (c.growth.ensures.result_len a.own) in
    plan_leaf a.own a.neighbour es a.object.header a.object.body.now a.p q _ (c.pack_object-filled.ensures.packed (update a.own a.neighbour es) (update_object a.own a.neighbour (seen a.object)) e) c.in-Err.is
