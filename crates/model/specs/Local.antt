-- Document 01: unless the call is refused, a verdict depends only on own numbers, that candidate's, its container's bytes and, for bar 12, the length of the lent run.
use Rattle.std.specs.Prelude.{◌≡◌, ℕ, ◌+◌, ◌≤◌, List, length, take, drop, get_or, ltb}
use Rattle.std.proofs.Math.Option.{some}
use Rattle.std.proofs.Math.ListN.{get_elem?}
use Rattle.model.specs.declared.Own.{Own}
use Rattle.model.specs.declared.Candidate.{Candidate}
use Rattle.model.specs.Reading.{no_place}
use Rattle.model.specs.Choice.{call}

-- two candidates, each in its own lent run, with the same numbers, both inside or both not, and if inside with the same bytes
pub record Alike (lent lent' : List ℕ) (c c' : Candidate) : Type 0 where
  pub numbers : c.neighbour ≡ c'.neighbour
  pub inside : ltb (length lent) (c.start + c.size) ≡ ltb (length lent') (c'.start + c'.size)
  pub bytes : c.start + c.size ≤ length lent → take c.size (drop c.start lent) ≡ take c'.size (drop c'.start lent')

-- in any two calls by one node that are not refused, two such candidates get the same verdict, whatever stands beside them
abbrev pub Local : Type 0
Local = (own : Own) (cs cs' : List Candidate) (lent lent' out out' : List ℕ)
    → (call own cs lent out).answer.refusal ≡ 0 → (call own cs' lent' out').answer.refusal ≡ 0
    → (i i' : ℕ) (c c' : Candidate) → get_elem? cs i ≡ some c → get_elem? cs' i' ≡ some c' → Alike lent lent' c c'
    → (get_or (call own cs lent out).answer.verdicts i 0 ≡ get_or (call own cs' lent' out').answer.verdicts i' 0)
    × (get_or (call own cs lent out).answer.places i no_place ≡ get_or (call own cs' lent' out').answer.places i' no_place)
