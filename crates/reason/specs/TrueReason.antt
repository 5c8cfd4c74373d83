-- Request 7: the reason is the true first one, and the named criterion the first of the edition's on which the two differ.
use Rattle.std.specs.Prelude.{◌≡◌, ℕ, suc, ◌/◌, ◌%◌, ◌≤◌, ◌<◌, true, List, [], ◌∷◌, ◌↔◌, length, get_or, leb}
use Rattle.std.proofs.Math.Option.{some}
use Rattle.std.proofs.Math.ListN.{get_elem?}
use Rattle.std.specs.Prelude.{Some}
use Rattle.model.specs.declared.Own.{Own}
use Rattle.model.specs.declared.Neighbour.{Neighbour}
use Rattle.model.specs.declared.Candidate.{Candidate}
use Rattle.model.specs.Verdict.{Barred}
use Rattle.model.specs.Rank.{resulting}
use Rattle.model.specs.Verdict.{offer_of, verdict}
use Rattle.model.specs.Choice.{bad_own, too_many, current_past, bad_edition, current_of, criteria, call}
use Rattle.model.specs.Conditions.{barred_by_nothing}
use Rattle.model.specs.Exact.{NoneOf, FirstToHold}
use Rattle.choice.specs.Difference.{standing, shown}
use Rattle.reason.specs.Why.{Why, refused, chosen, barred, beaten, why}

-- ---- refusals

-- the number by which a question is refused; 0 for a reason
abbrev pub refused_by : Why → ℕ
refused_by (refused n) = n
refused_by chosen = 0
refused_by (barred n i) = 0
refused_by (beaten b k v a) = 0

-- `given`: the refusal of a question about a position; 1, 2, 3 and 5 as of a call, then 6, position not below the count
pub record QuestionExact (own : Own) (count position given : ℕ) : Type 0 where
  pub refusal_1 : (given ≡ 1) ↔ FirstToHold [] (bad_own own)
  pub refusal_2 : (given ≡ 2) ↔ FirstToHold (bad_own own ∷ []) (too_many count)
  pub refusal_3 : (given ≡ 3) ↔ FirstToHold (bad_own own ∷ too_many count ∷ []) (current_past own count)
  pub never_4 : given ≡ 4 → ⊥
  pub refusal_5 : (given ≡ 5) ↔ FirstToHold (bad_own own ∷ too_many count ∷ current_past own count ∷ []) (bad_edition own)
  pub refusal_6 : (given ≡ 6) ↔ FirstToHold (bad_own own ∷ too_many count ∷ current_past own count ∷ bad_edition own ∷ []) (leb count position)
  pub unrefused : (given ≡ 0) ↔ NoneOf (bad_own own ∷ too_many count ∷ current_past own count ∷ bad_edition own ∷ leb count position ∷ [])

-- of every question
abbrev pub QuestionsExact : Type 0
QuestionsExact = (own : Own) (cs : List Candidate) (lent : List ℕ) (p : ℕ) → QuestionExact own (length cs) p (refused_by (why own cs lent p))

-- ---- reasons

-- two lists of criteria differ first at place k, from 1, and the parent's number there is lower
pub record Decides (parents asked : List ℕ) (k : ℕ) : Type 0 where
  pub before : (j : ℕ) → suc j < k → get_or parents j 0 ≡ get_or asked j 0
  pub lower : standing parents k < standing asked k

-- candidate c at position p is beaten by the parent at position b on criterion k, where it has v and the parent has a
pub record Beaten (own : Own) (cs : List Candidate) (lent : List ℕ) (p : ℕ) (c : Candidate) (b k v a : ℕ) : Type 0 where
  pub unbarred : barred_by_nothing own lent c ≡ true
  pub another : b ≡ p → ⊥
  pub parent : Candidate
  pub stands : get_elem? cs b ≡ some parent
  pub parent_unbarred : barred_by_nothing own lent parent ≡ true
  pub decides : Decides (criteria (current_of own) b (offer_of own parent.neighbour)) (criteria (current_of own) p (offer_of own c.neighbour)) k
  pub value : v ≡ shown k (standing (criteria (current_of own) p (offer_of own c.neighbour)) k)
  pub against : a ≡ shown k (standing (criteria (current_of own) b (offer_of own parent.neighbour)) k)

-- `given`: the reason at the position of a candidate; exactly one of the three, beside the call of the same inputs with any output that has room
pub record ReasonTrue (own : Own) (cs : List Candidate) (lent out : List ℕ) (p : ℕ) (c : Candidate) (given : Why) : Type 0 where
  pub is_chosen : (given ≡ chosen) ↔ ((call own cs lent out).answer.parent ≡ p)
  pub is_barred : (n i : ℕ) → (given ≡ barred n i) ↔ (verdict own lent c ≡ Barred n i)
  pub is_beaten : (b k v a : ℕ) → (given ≡ beaten b k v a) ↔ (((call own cs lent out).answer.parent ≡ b) × Beaten own cs lent p c b k v a)
  pub is_told : (n : ℕ) → given ≡ refused n → ⊥

-- of every question that is not refused
abbrev pub TrueReason : Type 0
TrueReason = (own : Own) (cs : List Candidate) (lent out : List ℕ) (p : ℕ) → refused_by (why own cs lent p) ≡ 0 → 2056 ≤ length out
    → (c : Candidate) × (get_elem? cs p ≡ some c) × ReasonTrue own cs lent out p c (why own cs lent p)

-- ---- the criteria by number, and both values by the candidates' own numbers

-- what is told of criterion k, on which candidate c at position p loses to the parent d at position b: what the two have, v and a, and that a is the better
pub record OnCriterion (own : Own) (p : ℕ) (c : Neighbour) (b : ℕ) (d : Neighbour) (k v a : ℕ) : Type 0 where
  pub one_of_six : (1 ≤ k) × (k ≤ 6)
  pub edition : k ≤ 3 → own.edition ≡ 2
  pub on_order : k ≡ 1 → (v ≡ c.order) × (a ≡ d.order) × (a < v)
  pub on_grounded : k ≡ 2 → (v ≡ c.flags / 64 % 2) × (a ≡ d.flags / 64 % 2) × (v < a)
  pub on_preference : k ≡ 3 → (v ≡ c.preference) × (a ≡ d.preference) × (v < a)
  pub on_rank : k ≡ 4 → (v ≡ resulting own c) × (a ≡ resulting own d) × (a < v)
  pub on_current : k ≡ 5 → (v ≡ 0) × (a ≡ 1) × (current_of own ≡ Some b)
  pub on_position : k ≡ 6 → (v ≡ p) × (a ≡ b) × (b < p)

-- of every candidate that is beaten
abbrev pub BeatenOn : Type 0
BeatenOn = (own : Own) (cs : List Candidate) (lent : List ℕ) (p b k v a : ℕ) → why own cs lent p ≡ beaten b k v a
    → (c d : Candidate) → get_elem? cs p ≡ some c → get_elem? cs b ≡ some d → OnCriterion own p c.neighbour b d.neighbour k v a
