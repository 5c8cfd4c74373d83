use Rattle.std.proofs.Common.{rules, arith, ◌<◌, length}
use Rattle.wire.specs.Front.{front}
use Rattle.wire.proofs.FrontLaws.{front_short, front_four, front_found}
use Rattle.wire.proofs.objects.ObjectsIterator.next.Goals as goal

pub returns-in_default-clause-steps : goal.returns-in_default-clause-steps
returns-in_default-clause-steps c = let (e, l) = front_short _ c.in_default.len_below in ((e, e), l)

pub returns-then-rest-size-clause-steps : goal.returns-then-rest-size-clause-steps
returns-then-rest-size-clause-steps c =
    let (e, l) = front_four _ c.in-len4-up.len_at_least in search (rules, e, l)

pub returns-clause-steps : goal.returns-clause-steps
returns-clause-steps c =
    let (e, l) = front_found _ c.in-len4-up.len_at_least (search rules) in
    rw (c.split_at.ensures.front, c.split_at.ensures.back) (e, l)

pub returns-clause-goes : goal.returns-clause-goes
returns-clause-goes c =
    let (e, l) = front_found _ c.in-len4-up.len_at_least (search rules) in
    let shorter : length (front c.split_at.result.1.now) < length (front c.args.self.now.rest.now) = rw (c.split_at.ensures.back, e) (omega arith) in
    search (rules, shorter)
