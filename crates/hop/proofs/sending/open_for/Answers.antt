use mathlib.Core.Path.{sym, ◌∙◌}
use native.Mathlib.Omega.{arith}
use borrow.Author.Tests.{leb-true, leb-false}
use Rattle.model.specs.Update.{update_object}
use Rattle.wire.specs.Front.{seen}
use Rattle.hop.proofs.BuildLaws.{builds_next, builds_lone}
use Rattle.hop.proofs.sending.open_for.Goals as goal

pub returns-then-not-many : goal.returns-then-not-many
returns-then-not-many c = λ own l whole rest n one p. (p, builds_lone (update_object own c.args.neighbour (seen c.args.object)) rest p (one c.if-not-many.true))

pub returns-then-has_room : goal.returns-then-has_room
returns-then-has_room c = λ own l whole rest n one p. (p, leb-true _ _ (sym (c.has_room.ensures own) ∙ c.if-has_room.true))

pub returns : goal.returns
returns c = λ own l whole rest n one p.
    (builds_next (update_object own c.args.neighbour (seen c.args.object)) p n (leb-false _ _ (sym (c.has_room.ensures own) ∙ c.if-has_room.false)) c.flush.ensures.put c.flush.ensures.framed, omega arith)
