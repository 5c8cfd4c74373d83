use mathlib.Core.Path.{◌≡◌}
use borrow.Author.Rules.{rules}
use Rattle.model.specs.Choice.{current_of}
use Rattle.choice.proofs.DifferenceLaws.{differ_flags}
use Rattle.choice.proofs.differences.first_difference.Goals as goal

pub returns-then-current-other_current : goal.returns-then-current-other_current
returns-then-current-other_current c =
    let level : c.args.one.offer.rank.0 ≡ c.args.other.offer.rank.0 = search rules in
    rw c.on.ensures (differ_flags (current_of c.args.own) c.args.one.position c.args.one.offer c.args.other.position c.args.other.offer _ _ c.if-one-other.false level c.is_current-current.ensures c.is_current-other_current.ensures c.if-current-other_current.true)
