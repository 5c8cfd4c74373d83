use Rattle.std.proofs.Common.{ℕ, Bool, List, ◌||◌, ◌≡◌, refl, rules, tests}
use mathlib.Core.Path.{◌∙◌}
use Rattle.std.proofs.lemmas.Iterator.{YieldsList-from_slice}
use Rattle.std.proofs.lemmas.Iterator.Search.{any_from_yields_List}
use Rattle.std.proofs.lemmas.List.Recursion.{same_from_clauses}
use Rattle.std.specs.List.{list_any}
use Rattle.model.specs.Number.{any_of}
use Rattle.metric.specs.Next.{counts_in}
use Rattle.metric.proofs.levels.is_counted.Goals as goal

same : (f : ℕ → Bool) (xs : List ℕ) → list_any f xs ≡ any_of f xs
same f = same_from_clauses (list_any f) (any_of f) (λ x r. f x || r) refl (λ _ _. refl) (λ _ _. refl)

pub returns : goal.returns
returns c =
    let xs = c.args.subs.now in
    any_from_yields_List (counts_in c.args.level) _ _ c.any.result c.any.ensures.ran (YieldsList-from_slice xs cc) (λ x b q k. search (rules, tests)) ∙ same (counts_in c.args.level) xs
