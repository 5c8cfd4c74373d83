-- What holds along a whole path, of what calls return.
use mathlib.Core.Path.{◌≡◌, ◌∙◌}
use native.Mathlib.Omega.{arith}
use mathlib.Core.List.{List}
use lib.ListN.{length}
use lib.Seq.{take_all}
use Rattle.model.specs.declared.Candidate.{Candidate}
use Rattle.model.specs.Choice.{call}
use Rattle.model.specs.Chain.{Hop, ByDefinition}
use Rattle.model.proofs.Chain.{along_path_of, rank_rises_of}
use Rattle.model.proofs.ThreeHops.{three_hops_of}
use Rattle.choice.specs.Given.{given}
use Rattle.choice.specs.Chain.{Called, AlongPathOfCall, RankRisesOfCall, ThreeHopsOfCall}
use Rattle.choice.proofs.GivenLaws.{given_within}
use Rattle.choice.proofs.Demand3.{result_is}

-- what a call ensures is what its definition says
by_definition : (h : Hop) → Called h → ByDefinition h
by_definition h x =
    let r = call h.own (given x.array x.count) h.lent h.out in
    rw x.first (result_is h.result r x.returned.answer x.returned.output)

pub along_path_of_call : AlongPathOfCall
along_path_of_call = along_path_of Called by_definition

pub rank_rises_of_call : RankRisesOfCall
rank_rises_of_call = rank_rises_of Called by_definition

-- candidates are given by an array of just these
all_given : (cs : List Candidate) → given cs (length cs) ≡ cs
all_given cs = given_within cs (length cs) (omega arith) ∙ take_all (length cs) cs (omega arith)

called : (h : Hop) → ByDefinition h → Called h
called h e = record {
  array = h.candidates;
  count = length h.candidates;
  first = rw (all_given h.candidates);
  returned = record { answer = rw (all_given h.candidates, e); output = rw (all_given h.candidates, e) };
}

pub three_hops_of_call : ThreeHopsOfCall
three_hops_of_call = three_hops_of Called called
