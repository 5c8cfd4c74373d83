-- Editions 1 and 2: refusal 5, bar 11, what candidates are compared by; edition 1 reads nothing of what edition 2 added to a candidate.
use Rattle.std.specs.Prelude.{◌≡◌, ℕ, ◌-◌, ◌/◌, ◌%◌, ◌≤◌, false, List, [], ◌∷◌, map, ◌↔◌, length}
use Rattle.model.specs.Number.{Quantity}
use Rattle.model.specs.declared.Own.{Own}
use Rattle.model.specs.declared.Neighbour.{Neighbour}
use Rattle.model.specs.declared.Candidate.{Candidate}
use Rattle.model.specs.Rank.{resulting}
use Rattle.model.specs.Verdict.{out_of_range, bad_numbers, offer_of}
use Rattle.model.specs.Choice.{bad_own, too_many, current_past, short_output, not_current, criteria, call}
use Rattle.model.specs.Exact.{NoneOf}

-- refusal 5: none of 1 to 4, and the edition is not 1 and not 2
abbrev pub EditionRefused : Type 0
EditionRefused = (own : Own) (cs : List Candidate) (lent out : List ℕ)
    → ((call own cs lent out).answer.refusal ≡ 5)
    ↔ (NoneOf (bad_own own ∷ too_many (length cs) ∷ current_past own (length cs) ∷ short_output (length out) ∷ []) × (own.edition ≡ 1 → ⊥) × (own.edition ≡ 2 → ⊥))

-- bar 11 in edition 1
abbrev pub FirstRanges : Type 0
FirstRanges = (own : Own) (c : Neighbour) → own.edition ≡ 1 → bad_numbers own c ≡ out_of_range c

-- bar 11 in edition 2: its condition does not hold exactly where the one of edition 1 does not, and order and preference are 7 at most
abbrev pub SecondRanges : Type 0
SecondRanges = (own : Own) (c : Neighbour) → own.edition ≡ 2 → (bad_numbers own c ≡ false) ↔ ((out_of_range c ≡ false) × (c.order ≤ 7) × (c.preference ≤ 7))

-- what edition 1 compares: nothing before the rank
abbrev pub FirstCriteria : Type 0
FirstCriteria = (own : Own) (c : Neighbour) (q : Quantity) (p : ℕ) → own.edition ≡ 1
    → criteria q p (offer_of own c) ≡ 0 ∷ 0 ∷ 0 ∷ resulting own c ∷ not_current q p ∷ p ∷ []

-- what edition 2 compares, by the neighbour's own numbers and flag 0x40
abbrev pub SecondCriteria : Type 0
SecondCriteria = (own : Own) (c : Neighbour) (q : Quantity) (p : ℕ) → own.edition ≡ 2
    → criteria q p (offer_of own c) ≡ c.order ∷ (1 - c.flags / 64 % 2) ∷ (7 - c.preference) ∷ resulting own c ∷ not_current q p ∷ p ∷ []

-- a neighbour without interface order, root preference and flag 0x40, grounded, or a flag above it, which nothing reads
abbrev pub first_only : Neighbour → Neighbour
first_only c = record {
  rank = c.rank;
  sp = c.sp;
  rf = c.rf;
  sr = c.sr;
  nodetype = c.nodetype;
  flags = c.flags % 64;
  energy = c.energy;
  lql = c.lql;
  etx = c.etx;
  latency = c.latency;
  throughput = c.throughput;
  colour = c.colour;
  order = 0;
  preference = 0;
}

-- a candidate without them
abbrev pub without_second : Candidate → Candidate
without_second c = record { neighbour = first_only c.neighbour; start = c.start; size = c.size }

-- in edition 1, two calls whose candidates differ in these only give the same answer and output
abbrev pub FirstEdition : Type 0
FirstEdition = (own : Own) (cs cs' : List Candidate) (lent out : List ℕ) → own.edition ≡ 1 → map without_second cs ≡ map without_second cs'
    → call own cs lent out ≡ call own cs' lent out
