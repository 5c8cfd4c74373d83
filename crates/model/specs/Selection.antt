-- Demand 2: the choice of a parent, and what a call that is not refused reports.
use Rattle.std.specs.Prelude.{◌≡◌, ℕ, ◌+◌, ◌/◌, ◌%◌, ◌^◌, ◌≤◌, ◌<◌, Bool, true, false, cond, not, List, [], ◌∷◌, length, get_or, eqb}
use Rattle.std.proofs.Math.Option.{some}
use Rattle.std.proofs.Math.ListN.{get_elem?}
use Rattle.std.specs.Int.Count.{ones}
use Rattle.std.specs.Prelude.{Some}
use Rattle.model.specs.declared.Own.{Own}
use Rattle.model.specs.declared.Neighbour.{Neighbour}
use Rattle.model.specs.declared.Candidate.{Candidate}
use Rattle.model.specs.declared.Answer.{Answer}
use Rattle.model.specs.Number.{is_set, any_of}
use Rattle.model.specs.Object.{Object}
use Rattle.model.specs.Reading.{no_place, well_formed}
use Rattle.model.specs.Run.{read_run}
use Rattle.model.specs.Rank.{infinite, resulting}
use Rattle.model.specs.Verdict.{run_of, verdict, number_of, place_of}
use Rattle.model.specs.Conditions.{barred_by_nothing}
use Rattle.model.specs.Choice.{current_of, no_parent, call}

-- a parent is named
abbrev pub has_parent : Answer → Bool
has_parent a = not (eqb a.parent no_parent)

-- how many numbers of a list are n
unfoldable pub occurrences : (n : ℕ) → List ℕ → ℕ
occurrences n [] = 0
occurrences n (m ∷ ms) = cond (eqb m n) 1 0 + occurrences n ms

-- one is not behind another: by the lower interface order, then by flag 0x40, grounded, then by the higher root preference
pub record NotBehind (c d : Neighbour) : Type 0 where
  pub by_order : c.order ≤ d.order
  pub by_ground : c.order ≡ d.order → d.flags / 64 % 2 ≤ c.flags / 64 % 2
  pub by_root : c.order ≡ d.order → c.flags / 64 % 2 ≡ d.flags / 64 % 2 → d.preference ≤ c.preference

-- in edition 2 two are level where they are equal in these three; in edition 1 any two are
abbrev pub Level : Own → Neighbour → Neighbour → Type 0
Level own c d = own.edition ≡ 2 → (c.order ≡ d.order) × (c.flags / 64 % 2 ≡ d.flags / 64 % 2) × (c.preference ≡ d.preference)

-- what holds of the parent that an answer names
pub record PreferredParent (own : Own) (cs : List Candidate) (lent : List ℕ) (a : Answer) : Type 0 where
  pub candidate : Candidate
  pub stands : get_elem? cs a.parent ≡ some candidate
  pub unbarred : barred_by_nothing own lent candidate ≡ true
  pub objects : List Object
  pub read : read_run (run_of lent candidate) ≡ well_formed objects
  pub rank : a.rank.0 ≡ resulting own candidate.neighbour
  pub finite : a.rank.0 < infinite
  pub rises : candidate.neighbour.rank.0 < a.rank.0
  -- in edition 2 it is behind no unbarred candidate by what comes before the rank
  pub ahead : own.edition ≡ 2 → (i : ℕ) (d : Candidate) → get_elem? cs i ≡ some d → barred_by_nothing own lent d ≡ true → NotBehind candidate.neighbour d.neighbour
  -- no unbarred candidate that is level with it has a lower resulting rank
  pub least : (i : ℕ) (d : Candidate) → get_elem? cs i ≡ some d → barred_by_nothing own lent d ≡ true → Level own candidate.neighbour d.neighbour
      → a.rank.0 ≤ resulting own d.neighbour
  -- a tie goes to the current parent if it is among them, then to the lower position
  pub tie_current : (i : ℕ) (d : Candidate) → get_elem? cs i ≡ some d → barred_by_nothing own lent d ≡ true → Level own candidate.neighbour d.neighbour
      → resulting own d.neighbour ≡ a.rank.0 → current_of own ≡ Some i → a.parent ≡ i
  pub tie_position : (i : ℕ) (d : Candidate) → get_elem? cs i ≡ some d → barred_by_nothing own lent d ≡ true → Level own candidate.neighbour d.neighbour
      → resulting own d.neighbour ≡ a.rank.0 → (current_of own ≡ Some a.parent → ⊥) → a.parent ≤ i

-- what a call reports that is not refused
pub record Selection (own : Own) (cs : List Candidate) (lent : List ℕ) (a : Answer) : Type 0 where
  -- a parent is chosen exactly when some candidate is barred by nothing
  pub exists : has_parent a ≡ any_of (barred_by_nothing own lent) cs
  pub parent : has_parent a ≡ true → PreferredParent own cs lent a
  pub nobody : has_parent a ≡ false → (a.rank.0 ≡ infinite) × (a.leaf ≡ 0) × (a.size ≡ 0)
  -- each candidate's verdict; positions past the count have 0
  pub verdict_at : (i : ℕ) (c : Candidate) → get_elem? cs i ≡ some c
      → (get_or a.verdicts i 0 ≡ number_of (verdict own lent c)) × (get_or a.places i no_place ≡ place_of (verdict own lent c))
  pub verdict_past : (i : ℕ) → length cs ≤ i → (get_or a.verdicts i 0 ≡ 0) × (get_or a.places i no_place ≡ no_place)
  pub sixteen : (length a.verdicts ≡ 16) × (length a.places ≡ 16)
  -- one bit per candidate tells who is unbarred, and no other bit is set
  pub bit_at : (i : ℕ) (c : Candidate) → get_elem? cs i ≡ some c → is_set (a.bits / 2 ^ i % 2) ≡ barred_by_nothing own lent c
  pub bit_past : a.bits < 2 ^ length cs
  -- the number reported is the count of those bits, and of the verdicts 10
  pub count_bits : a.count ≡ ones a.bits
  pub count_verdicts : a.count ≡ occurrences 10 a.verdicts

-- of every call that is not refused
abbrev pub SelectionHolds : Type 0
SelectionHolds = (own : Own) (cs : List Candidate) (lent out : List ℕ) → (call own cs lent out).answer.refusal ≡ 0 → Selection own cs lent (call own cs lent out).answer
