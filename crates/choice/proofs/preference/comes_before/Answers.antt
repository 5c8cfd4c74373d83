use mathlib.Core.Path.{◌∙◌}
use Rattle.model.specs.Choice.{current_of}
use Rattle.choice.proofs.PreferenceLaws.{by_order}
use Rattle.choice.proofs.preference.comes_before.Goals as goal

pub returns : goal.returns
returns c =
    c.lt.ensures ∙ by_order (current_of c.args.own) c.args.one.position c.args.other.position c.args.one.offer c.args.other.offer c.is_current.result c.is_current-2.result c.is_current.ensures c.is_current-2.ensures
