-- Every refusal is given exactly when document 01 says.
use mathlib.Core.Path.{◌≡◌, refl}
use Prim.Native.Nat.{ℕ, zero, suc}
use mathlib.Core.List.{List}
use lib.ListN.{length}
use Rattle.model.specs.declared.Own.{Own}
use Rattle.model.specs.declared.Candidate.{Candidate}
use Rattle.model.specs.Choice.{refusal_cases, refusal, Result, unless_refused, call}
use Rattle.model.specs.Exact.{RefusalExact, RefusalsExact, RefusedAnswer, RefusedAnswers}
use Rattle.model.proofs.NumberLaws.{exact, exact_none}

refused_is : (n : ℕ) (r : Result) (out : List ℕ) → r.answer.refusal ≡ 0 → (unless_refused n r out).answer.refusal ≡ n
refused_is zero r out e = e
refused_is (suc n) r out e = refl

pub refusal_is : (own : Own) (cs : List Candidate) (lent out : List ℕ) → (call own cs lent out).answer.refusal ≡ refusal own (length cs) (length out)
unfolding call
refusal_is own cs lent out = refused_is (refusal own (length cs) (length out)) _ out refl

pub refused_answers : RefusedAnswers
unfolding call
refused_answers own cs lent out h = go (refusal own (length cs) (length out)) _ refl h
  where
    go : (n : ℕ) (r : Result) → r.answer.refusal ≡ 0 → ((unless_refused n r out).answer.refusal ≡ 0 → ⊥) → RefusedAnswer (unless_refused n r out).answer
    go zero r e h = absurd (h e)
    go (suc n) r e h = record { parent = refl; rank = refl; verdicts = refl; places = refl; bits = refl; count = refl; leaf = refl; size = refl }

refusal_exact : (own : Own) (n m : ℕ) → RefusalExact own n m (refusal own n m)
unfolding refusal
refusal_exact own n m = record {
  refusal_1 = exact (refusal_cases own n m) 0 refl;
  refusal_2 = exact (refusal_cases own n m) 1 refl;
  refusal_3 = exact (refusal_cases own n m) 2 refl;
  refusal_4 = exact (refusal_cases own n m) 3 refl;
  refusal_5 = exact (refusal_cases own n m) 4 refl;
  unrefused = exact_none (refusal_cases own n m) refl;
}

-- every refusal, of every call
pub refusals : RefusalsExact
refusals own cs lent out = rw (refusal_is own cs lent out) (refusal_exact own (length cs) (length out))
