-- Why a candidate is the parent, or is not.
use Rattle.std.specs.Prelude.{ℕ, zero, suc, Bool, cond, List, [], ◌∷◌, length, leb, eqb}
use Rattle.std.proofs.Math.Option.{Option, none, some}
use Rattle.std.proofs.Math.ListN.{get_elem?}
use Rattle.model.specs.Number.{Quantity}
use Rattle.model.specs.declared.Own.{Own}
use Rattle.model.specs.declared.Offer.{Offer}
use Rattle.model.specs.declared.Candidate.{Candidate}
use Rattle.model.specs.Verdict.{Verdict}
use Rattle.model.specs.Verdict.{Unbarred, Barred}
use Rattle.model.specs.Choice.{Choice}
use Rattle.model.specs.Choice.{Nobody, Parent}
use Rattle.model.specs.Number.{Case, ◌when◌, first_case}
use Rattle.model.specs.Reading.{no_place}
use Rattle.model.specs.Verdict.{verdict}
use Rattle.model.specs.Choice.{bad_own, too_many, current_past, bad_edition, current_of, no_parent, choice_of}
use Rattle.choice.specs.Difference.{Differing, difference_of}
use Rattle.reason.specs.declared.reasons.Reason.{Reason}

-- the reason: the question is refused; the candidate is the parent; it is barred; or the parent is better on a criterion, with what the two have there
pub data Why : Type 0 where
  refused : (number : ℕ) → Why
  chosen : Why
  barred : (number place : ℕ) → Why
  beaten : (parent criterion value against : ℕ) → Why

-- ---- refusals

-- 6: position not below the count
abbrev pub position_past : (count position : ℕ) → Bool
position_past n p = leb n p

-- those of a call but for 4, since no output is lent; then 6
abbrev pub why_cases : Own → (count position : ℕ) → List Case
why_cases own n p = 1 when bad_own own ∷ 2 when too_many n ∷ 3 when current_past own n ∷ 5 when bad_edition own ∷ 6 when position_past n p ∷ []

-- the refusal of a question; 0 for none
unfoldable pub why_refusal : Own → (count position : ℕ) → ℕ
why_refusal own n p = first_case (why_cases own n p)

-- ---- the reason

-- beaten by the candidate at a position, on the first criterion on which they differ
abbrev pub beaten_on : (parent : ℕ) → Differing → Why
beaten_on b d = beaten b d.criterion d.value d.against

-- an unbarred candidate beside the choice, which names a parent then
unfoldable pub beside_choice : (current : Quantity) → Choice → (position : ℕ) → Offer → Why
beside_choice q Nobody p s = chosen
beside_choice q (Parent b r) p s = cond (eqb b p) chosen (beaten_on b (difference_of q p s b r))

-- by the candidate's verdict
unfoldable pub by_verdict : (current : Quantity) → Choice → (position : ℕ) → Verdict → Why
by_verdict q ch p (Unbarred s) = beside_choice q ch p s
by_verdict q ch p (Barred n i) = barred n i

-- of the candidate at a position, if there is one
abbrev pub why_at : Own → List Candidate → (lent : List ℕ) → (position : ℕ) → Option Candidate → Why
why_at own cs lent p none = refused 6
why_at own cs lent p (some c) = by_verdict (current_of own) (choice_of own cs lent) p (verdict own lent c)

-- a refusal takes the place of the reason
abbrev pub unless_refused : (refusal : ℕ) → Why → Why
unless_refused zero w = w
unless_refused (suc n) w = refused (suc n)

-- why the candidate at a position is the parent, or is not
unfoldable pub why : Own → List Candidate → (lent : List ℕ) → (position : ℕ) → Why
why own cs lent p = unless_refused (why_refusal own (length cs) p) (why_at own cs lent p (get_elem? cs p))

-- ---- the reason as code has it

-- what a kind does not have is 0, no place or no parent
abbrev pub reason_of : Why → Reason
reason_of (refused n) = record { refusal = n; kind = 0; number = 0; parent = no_parent; criterion = 0; place = no_place; value = 0; against = 0 }
reason_of chosen = record { refusal = 0; kind = 1; number = 0; parent = no_parent; criterion = 0; place = no_place; value = 0; against = 0 }
reason_of (barred n i) = record { refusal = 0; kind = 2; number = n; parent = no_parent; criterion = 0; place = i; value = 0; against = 0 }
reason_of (beaten b k v a) = record { refusal = 0; kind = 3; number = 0; parent = b; criterion = k; place = no_place; value = v; against = a }
