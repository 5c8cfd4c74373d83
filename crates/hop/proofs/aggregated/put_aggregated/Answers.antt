use Prim.Native.Nat.{◌≤◌}
use native.Mathlib.Omega.{arith}
use borrow.Author.Rules.{rules}
use Rattle.hop.proofs.BodyLaws.{node_value, aggregated_4, aggregated_2, aggregated_node, aggregated_kept}
use Rattle.hop.proofs.aggregated.put_aggregated.Goals as goal

pub returns-then-t : goal.returns-then-t
returns-then-t c = aggregated_4 _ _ _ c.local_or_0-v.ensures c.if-t.true c.put_field_4.ensures

pub returns-then-t-eq7 : goal.returns-then-t-eq7
returns-then-t-eq7 c = aggregated_2 _ _ _ c.local_or_0-v.ensures c.if-t.false c.if-t-eq7.true c.put_field_2.ensures

pub overflow_cast-v : goal.overflow_cast-v
overflow_cast-v c =
    let args = c.args in
    let byte : args.hop.own.energy ≤ 255 = search rules in
    omega (arith, c.local_or_0-v.ensures, node_value args.hop.own args.hop.neighbour args.header.mctype byte c.if-t-2.true)

pub returns-then-t-2 : goal.returns-then-t-2
returns-then-t-2 c = aggregated_node _ _ _ c.local_or_0-v.ensures c.if-t.false c.if-t-eq7.false c.if-t-2.true c.put_node.ensures

pub returns : goal.returns
returns c = aggregated_kept _ _ _ c.local_or_0-v.ensures c.if-t.false c.if-t-eq7.false c.if-t-2.false c.put_bytes.ensures
