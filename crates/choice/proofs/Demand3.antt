-- Demand 3 of what a call returns.
use mathlib.Core.Path.{◌≡◌}
use Rattle.model.specs.Choice.{Result, call}
use Rattle.model.proofs.Unknown.{demand3}
use Rattle.choice.specs.Given.{given}
use Rattle.choice.specs.Demand3.{Demand3OfCall}

pub result_is : (r s : Result) → r.answer ≡ s.answer → r.output ≡ s.output → r ≡ s
result_is r s a o = let e : ◌≡◌ {A = Result} (record { answer = r.answer; output = r.output }) (record { answer = s.answer; output = s.output }) = rw (a, o) in e

pub demand3_of_call : Demand3OfCall
demand3_of_call own cs cs' n lent lent' out out' r r' x x' beside taken room =
    let e = result_is r (call own (given cs n) lent out) x.answer x.output in
    let e' = result_is r' (call own (given cs' n) lent' out') x'.answer x'.output in
    rw (e, e') (demand3 own (given cs n) (given cs' n) lent lent' out out' beside (rw e at taken) room)
