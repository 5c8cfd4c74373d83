-- Demand 1: what a call leaves of the lent output.
use Rattle.std.specs.Prelude.{◌≡◌, ℕ, ◌≤◌, true, false, List, map, ltb, length, take, drop}
use Rattle.model.specs.Number.{any_of}
use Rattle.model.specs.Run.{option, join_options}
use Rattle.model.specs.declared.Own.{Own}
use Rattle.model.specs.declared.Candidate.{Candidate}
use Rattle.model.specs.Choice.{Result, call}
use Rattle.model.specs.Selection.{has_parent}

-- document 01's word: a container is passed on if there is a parent and the leaf number is 0
pub record PassedOn (r : Result) : Type 0 where
  pub unrefused : r.answer.refusal ≡ 0
  pub parent : has_parent r.answer ≡ true
  pub no_leaf : r.answer.leaf ≡ 0

-- it is the output bytes up to the reported length
abbrev pub passed_on : Result → List ℕ
passed_on r = take r.answer.size r.output

-- what a call leaves of the output
pub record Untouched (out : List ℕ) (r : Result) : Type 0 where
  -- a refused call, a call with no candidate unbarred and a leaf answer leave the output as it was
  pub refused : (r.answer.refusal ≡ 0 → ⊥) → (r.output ≡ out) × (r.answer.size ≡ 0)
  pub nobody : has_parent r.answer ≡ false → (r.output ≡ out) × (r.answer.size ≡ 0)
  pub leaf : (r.answer.leaf ≡ 0 → ⊥) → (r.output ≡ out) × (r.answer.size ≡ 0)
  -- otherwise only the first bytes change, and are one to eight containers with at most 255 bytes of data each
  pub written : PassedOn r → (ds : List (List ℕ)) × (passed_on r ≡ join_options (map (option 1) ds)) × (any_of (λ d. ltb 255 (length d)) ds ≡ false) × (1 ≤ length ds) × (length ds ≤ 8)
  pub length_all : PassedOn r → length (passed_on r) ≡ r.answer.size
  pub rest : drop r.answer.size r.output ≡ drop r.answer.size out
  pub size : length r.output ≡ length out

-- of every call
abbrev pub UntouchedHolds : Type 0
UntouchedHolds = (own : Own) (cs : List Candidate) (lent out : List ℕ) → Untouched out (call own cs lent out)
