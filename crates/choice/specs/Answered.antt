-- Inside the crate: the answers that a call makes.
use Rattle.std.specs.Prelude.{ℕ, List, []}
use Rattle.std.specs.Int.Count.{ones}
use Rattle.model.specs.declared.Rank.{Rank}
use Rattle.model.specs.declared.Answer.{Answer}
use Rattle.model.specs.Rank.{infinite}
use Rattle.model.specs.Choice.{no_parent, refused_by}
use Rattle.hop.specs.Sent.{Sent}

-- the answer of a refused call
abbrev pub refused_answer : (number : ℕ) → Answer
refused_answer n = (refused_by n []).answer

-- no rank
abbrev pub no_rank : Rank
no_rank = record { 0 = infinite }

-- the answer before the candidates are judged, and of those judged so far
abbrev pub judged_answer : (verdicts places : List ℕ) → (bits : ℕ) → Answer
judged_answer vs ps b = record {
  refusal = 0;
  parent = no_parent;
  rank = no_rank;
  verdicts = vs;
  places = ps;
  bits = b;
  count = 0;
  leaf = 0;
  size = 0;
}

-- nothing is sent on, and no leaf answer is given
abbrev pub nothing : Sent
nothing = record { leaf = 0; size = 0 }

-- the answer of a call that is not refused
abbrev pub answer_with : (parent : ℕ) → Rank → (verdicts places : List ℕ) → (bits : ℕ) → Sent → Answer
answer_with p r vs ps b s = record {
  refusal = 0;
  parent = p;
  rank = r;
  verdicts = vs;
  places = ps;
  bits = b;
  count = ones b;
  leaf = s.leaf;
  size = s.size;
}
