use mathlib.Core.Path.{sym, ◌∙◌}
use borrow.Author.Rules.{rules}
use Rattle.metric.proofs.LeafLaws.{beyond_known, not_same}
use Rattle.metric.proofs.leaves.is_beyond.Goals as goal

pub returns-in-Throughput : goal.returns-in-Throughput
returns-in-Throughput c =
    let v = beyond_known _ _ _ c.from.ensures c.in-Throughput.is (sym c.in-Some.ensures) (search rules) in
    not_same _ _ (sym c.is_none.ensures ∙ rw (c.add.ensures, c.number_4.ensures) v)
