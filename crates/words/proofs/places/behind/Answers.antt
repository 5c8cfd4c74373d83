use Rattle.std.proofs.Common.{rules, tests, ◌+◌, ◌∙◌, ap, drop}
use Rattle.std.proofs.lemmas.Iterator.{YieldsList-from_slice}
use Rattle.std.proofs.lemmas.Iterator.Adapters.{YieldsList-from_skip}
use Rattle.std.proofs.lemmas.Iterator.Consumers.{count_from_yields_List}
use Rattle.std.proofs.lemmas.Iterator.Search.{YieldsList-from_take_while}
use Rattle.std.proofs.lemmas.List.Folds.{length-prefix_len}
use Rattle.words.specs.Places.{behind}
use Rattle.words.proofs.places.behind.Goals as goal

pub returns-clause-value : goal.returns-clause-value
unfolding behind
returns-clause-value g c = λ test is.
    ap (λ n. c.args.from + n)
    (count_from_yields_List c.take_while.result _ c.count.ensures.ran
    (YieldsList-from_take_while _ test (YieldsList-from_skip c.args.from (YieldsList-from_slice c.args.text.now cc) cc)
    c.take_while.ensures.closure c.take_while.ensures.done (λ x b q k. search (rules, tests, is)))
    ∙ length-prefix_len test (drop c.args.from c.args.text.now))
