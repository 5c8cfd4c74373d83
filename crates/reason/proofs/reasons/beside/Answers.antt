use mathlib.Core.Path.{sym, ap}
use Rattle.model.specs.Choice.{current_of}
use Rattle.choice.proofs.DifferenceLaws.{same_position}
use Rattle.reason.proofs.reasons.beside.Goals as goal

pub returns-in-None-first_difference : goal.returns-in-None-first_difference
returns-in-None-first_difference c = absurd (c.if-parent-candidate.false (sym (same_position (current_of c.args.own) c.args.candidate.position c.args.candidate.offer c.in-Some.parent.position c.in-Some.parent.offer (sym (ap (λ d. d.criterion) c.in-None-first_difference.ensures)))))
