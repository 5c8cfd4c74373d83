-- What holds along a whole path, of the function that runs: each node's result is what it returned and left in the output.
use Rattle.std.specs.Prelude.{◌≡◌, ℕ, List}
use Rattle.model.specs.declared.Candidate.{Candidate}
use Rattle.model.specs.Chain.{Hop, Along, Rises}
use Rattle.model.specs.ThreeHops.{Three}
use Rattle.choice.specs.Given.{given}
use Rattle.choice.specs.Demand3.{Returned}

-- a hop's candidates are the first of an array, with which the function was called, and its result is what that call ensures
pub record Called (h : Hop) : Type 0 where
  pub array : List Candidate
  pub count : ℕ
  pub first : h.candidates ≡ given array count
  pub returned : Returned h.own array count h.lent h.out h.result

-- the theorem, whatever the nodes' calls return
abbrev pub AlongPathOfCall : Type 0
AlongPathOfCall = Along Called

abbrev pub RankRisesOfCall : Type 0
RankRisesOfCall = Rises Called

-- a chain of three nodes by such calls
abbrev pub ThreeHopsOfCall : Type 0
ThreeHopsOfCall = Three Called
