use mathlib.Core.Path.{refl, ◌∙◌}
use Rattle.wire.proofs.BodyLaws.{fixed_base}
use Rattle.wire.proofs.bodies.is_fixed.Goals as goal

pub returns-then-body-base : goal.returns-then-body-base
returns-then-body-base c = fixed_base _ c.args.body.now (c.if-body-base.true ∙ rw c.row-row.ensures refl)
