-- Demand 3 of the function that runs: what it returns and what it leaves in the output.
use Rattle.std.specs.Prelude.{◌≡◌, ℕ, List, length}
use Rattle.model.specs.declared.Own.{Own}
use Rattle.model.specs.declared.Candidate.{Candidate}
use Rattle.model.specs.Choice.{Result, call}
use Rattle.model.specs.Unknown.{Each, CutBeside, Demand3}
use Rattle.choice.specs.Given.{given}

-- what `call` ensures of the answer it returns and the output as it leaves it
pub record Returned (own : Own) (array : List Candidate) (count : ℕ) (lent out : List ℕ) (r : Result) : Type 0 where
  pub answer : r.answer ≡ (call own (given array count) lent out).answer
  pub output : r.output ≡ (call own (given array count) lent out).output

-- whatever two calls return, the first not refused and the second over its runs, cut, meets demand 3
abbrev pub Demand3OfCall : Type 0
Demand3OfCall = (own : Own) (cs cs' : List Candidate) (n : ℕ) (lent lent' out out' : List ℕ) (r r' : Result)
    → Returned own cs n lent out r → Returned own cs' n lent' out' r' → Each (CutBeside lent lent') (given cs n) (given cs' n)
    → r.answer.refusal ≡ 0 → length out' ≡ length out → Demand3 own (given cs n) (given cs' n) lent lent' r r'
