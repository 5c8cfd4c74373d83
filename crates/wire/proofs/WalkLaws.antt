-- The walk over a container's objects, step by step.
use mathlib.Core.Path.{◌≡◌, refl, sym}
use Prim.Native.Nat.{ℕ, zero, suc, ◌<◌}
use native.Mathlib.Nat.{not-suc-le-zero}
use native.Mathlib.Omega.{arith}
use mathlib.Core.List.{List}
use lib.ListN.{length, drop}
use Rattle.model.specs.Object.{split}
use Rattle.wire.specs.Step.{Cursor}
use Rattle.wire.specs.Step.{Step}
use Rattle.wire.specs.Step.{Found, CutShort, End}
use Rattle.wire.specs.Step.{first_cursor, step_at}
use Rattle.wire.specs.Walk.{after, walk_up_to, walk, Walks}
use Rattle.wire.proofs.StepLaws.{left, step_inside, split_found, split_short, split_end}

-- ---- the walk, and the model's objects

walk_split : (k : ℕ) (bs : List ℕ) (p : Cursor) → left bs p < k → walk_up_to k bs p ≡ split (drop p.at bs)
unfolding walk_up_to
walk_split zero bs p h = absurd (not-suc-le-zero h)
walk_split (suc k) bs p h = go (step_at bs p) refl (λ n l. walk_split k bs n l)
  where
    go : (s : Step) → step_at bs p ≡ s → ((n : Cursor) → left bs n < k → walk_up_to k bs n ≡ split (drop n.at bs))
        → after bs s (λ n. walk_up_to k bs n) ≡ split (drop p.at bs)
    go (Found h₁ start end n) e ih = rw (ih n (omega (arith, step_inside bs p e))) (sym (split_found bs p e))
    go CutShort e ih = sym (split_short bs p e)
    go End e ih = sym (split_end bs p e)

pub walks : Walks
unfolding walk
walks bs = walk_split (suc (length bs)) bs first_cursor (omega arith)
