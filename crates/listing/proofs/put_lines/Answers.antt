use Rattle.std.proofs.Common.{◌∙◌}
use Rattle.listing.proofs.LineLaws.{lines_fit, lines_more, lines_all}
use Rattle.listing.proofs.put_lines.Goals as goal

pub line-requires : goal.line-requires
line-requires c =
    let fit = lines_fit (rw c.in-Some.ensures.steps.0 at c.loop-object.invariant.1) c.requires.few c.requires.text_room_in_bounds in
    record { room = fit.0; short = fit.1 }

pub loop-object-preserved : goal.loop-object-preserved
loop-object-preserved c =
    (c.line.ensures.same_output ∙ c.loop-object.invariant.0, lines_more (rw c.in-Some.ensures.steps.0 at c.loop-object.invariant.1) c.line.ensures.put)

pub returns-clause-put : goal.returns-clause-put
returns-clause-put c = lines_all (rw c.in-None.ensures.steps.0.0 at c.loop-object.invariant.1)
