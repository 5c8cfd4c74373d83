use Rattle.model.specs.Verdict.{Barred, verdict_of}
use Rattle.model.specs.Choice.{choice_in}
use Rattle.model.specs.Reading.{no_place}
use Rattle.choice.specs.Given.{blank}
use Rattle.reason.proofs.WhyLaws.{Asks}
use Rattle.reason.proofs.ask.Given as goal

abbrev pub invariant-loop-i : goal.invariant-loop-i
invariant-loop-i l = Asks l.own l.lent l.candidate-items l.position l.i blank (Barred 13 no_place) (choice_in l.best) (verdict_of l.asked)
