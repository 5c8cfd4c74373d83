use Rattle.std.proofs.Common.{rules, arith, ◌≡◌, ◌<◌, ◌∷◌, length}
use Rattle.wire.specs.Options.{data_front}
use Rattle.wire.proofs.OptionLaws.{behind_unpadded, option_short, option_two, option_found}
use Rattle.wire.proofs.containers.ContainersIterator.next.Goals as goal

pub returns-in_default-clause-steps : goal.returns-in_default-clause-steps
returns-in_default-clause-steps c =
    let b = behind_unpadded c.loop-self.self.rest.now _ c.unpadded-self.ensures in
    let (e, l) = option_short _ c.in_default.len_below b.head in
    search (rules, b.items, b.left, e, l)

pub returns-then-rest-size-clause-steps : goal.returns-then-rest-size-clause-steps
returns-then-rest-size-clause-steps c =
    let b = behind_unpadded c.loop-self.self.rest.now _ c.unpadded-self.ensures in
    let (e, l) = option_two _ c.in-len2-up.len_at_least b.head in
    search (rules, b.items, b.left, e, l)

pub returns-then-kind-eq-CONTAINER-clause-steps : goal.returns-then-kind-eq-CONTAINER-clause-steps
returns-then-kind-eq-CONTAINER-clause-steps c =
    let b = behind_unpadded c.loop-self.self.rest.now _ c.unpadded-self.ensures in
    let (e, l) = option_found _ c.in-len2-up.len_at_least b.head (search rules) in
    search (rules, b.items, b.left, e, l)

pub returns-then-kind-eq-CONTAINER-clause-goes : goal.returns-then-kind-eq-CONTAINER-clause-goes
returns-then-kind-eq-CONTAINER-clause-goes c =
    let b = behind_unpadded c.loop-self.self.rest.now _ c.unpadded-self.ensures in
    let (e, l) = option_found _ c.in-len2-up.len_at_least b.head (search rules) in
    let q : data_front c.args.self.now.rest.now ≡ c.split_at.result.0.now ∷ data_front c.split_at.result.1.now = search (rules, b.items, e) in
    let shorter : length (data_front c.split_at.result.1.now) < length (data_front c.args.self.now.rest.now) = rw q (omega arith) in
    search (rules, shorter)

pub loop-self-preserved : goal.loop-self-preserved
loop-self-preserved c =
    let b = behind_unpadded c.loop-self.self.rest.now _ c.unpadded-self.ensures in
    let (e, l) = option_found _ c.in-len2-up.len_at_least b.head (search rules) in
    search (rules, b.items, b.left, e, l)
