use native.Mathlib.Omega.{arith}
use Rattle.model.proofs.ColourLaws.{colour_included, colour_excluded}
use Rattle.verdict.proofs.constraints.meets_colour.Goals as goal

pub returns-then-low-eq1 : goal.returns-then-low-eq1
returns-then-low-eq1 c =
    colour_included c.args.neighbour.now.colour c.args.high c.args.low (omega (arith, c.ranges.high)) (omega (arith, c.ranges.low)) c.if-low-eq1.true

pub returns-else-low-eq1 : goal.returns-else-low-eq1
returns-else-low-eq1 c =
    colour_excluded c.args.neighbour.now.colour c.args.high c.args.low (omega (arith, c.ranges.high)) (omega (arith, c.ranges.low)) c.if-low-eq1.false
