use native.Mathlib.Omega.{arith}
use lib.ListN.{length-set}
use Rattle.hop.proofs.PlanLaws.{length_object}
use Rattle.hop.proofs.SendLaws.{object_put}
use Rattle.hop.proofs.sending.put_object.Goals as goal

pub put_body-end-requires : goal.put_body-end-requires
put_body-end-requires c = record { body_in_bounds = simp length-set (omega (arith, length_object c.args.hop.own c.args.hop.neighbour c.args.object.header c.args.object.body.now)) }

pub overflow_cast-out : goal.overflow_cast-out
overflow_cast-out c = omega (arith, c.put_body-end.ensures.end, length_object c.args.hop.own c.args.hop.neighbour c.args.object.header c.args.object.body.now, c.requires.body_in_bounds, c.requires.out_len_bound)

pub returns : goal.returns
returns c = object_put c.args.hop.own _ c.args.object.header _ _ c.next_flags.ensures c.next_mode.ensures c.put_body-end.ensures
