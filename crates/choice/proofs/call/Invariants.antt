use Rattle.model.specs.Choice.{choice_in}
use Rattle.choice.proofs.PassLaws.{Pass}
use Rattle.choice.proofs.call.Given as goal

abbrev pub invariant-loop-i : goal.invariant-loop-i
invariant-loop-i l = Pass l.own l.lent l.candidate-items l.i l.answer (choice_in l.best)
