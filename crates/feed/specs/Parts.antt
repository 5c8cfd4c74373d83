-- A run that is fed in parts is the run that came whole: to the reading, to every verdict, and to every call.
use Rattle.std.specs.Prelude.{◌≡◌, ℕ, suc, ◌≤◌, false, List, [], ◌∷◌, length, take, drop}
use Rattle.model.specs.declared.Own.{Own}
use Rattle.model.specs.declared.Candidate.{Candidate}
use Rattle.model.specs.RoundTrip.{Bytes}
use Rattle.model.specs.Run.{read_run, concat}
use Rattle.model.specs.Verdict.{run_of, outside, verdict}
use Rattle.model.specs.Choice.{call}
use Rattle.model.specs.Unknown.{Each}
use Rattle.feed.specs.declared.bytes.Fed.{Fed}
use Rattle.feed.specs.Step.{state, fed, fed_in}

-- the state and the buffer behind parts, each of which was fed by one call
pub record Kept : Type 0 where
  pub now : Fed
  pub buffer : List ℕ

unfoldable pub fed_parts : (parts : List (List ℕ)) → Fed → List ℕ → Kept
fed_parts [] s l = record { now = s; buffer = l }
fed_parts (p ∷ ps) s l = fed_parts ps (fed s p (length l)) (fed_in s p l)

-- behind all parts of a run, from all zeros on
abbrev pub fed_run : (parts : List (List ℕ)) → (buffer : List ℕ) → Kept
fed_run ps l = fed_parts ps (state 0 0 0 0 0) l

-- the bytes that are kept
abbrev pub kept_of : Kept → List ℕ
kept_of k = take k.now.size k.buffer

-- ---- the bytes kept

-- they lie in the buffer, never more than 2,059, and are read as all that was fed, wherever it was split
pub record Keeps (parts : List (List ℕ)) (k : Kept) : Type 0 where
  pub size : length (kept_of k) ≡ k.now.size
  pub room : k.now.size ≤ 2059
  pub reads : read_run (kept_of k) ≡ read_run (concat parts)

-- of any parts, between any two of which a call may be made
abbrev pub FedReads : Type 0
FedReads = (parts : List (List ℕ)) (buffer : List ℕ) → Bytes (concat parts) → 2059 ≤ length buffer → Keeps parts (fed_run parts buffer)

-- ---- verdicts and calls

-- how the run of a second candidate came: whole, as the first's, or in parts that are the first's
pub data Came (whole : List ℕ) : List ℕ → Type 0 where
  as_it_is : Came whole whole
  in_parts : (parts : List (List ℕ)) (buffer : List ℕ) → Bytes (concat parts) → 2059 ≤ length buffer → concat parts ≡ whole
      → Came whole (kept_of (fed_run parts buffer))

-- two candidates of the same numbers, both inside their lent bytes or both not, and if inside with the same run
pub record FedBeside (lent lent' : List ℕ) (c c' : Candidate) : Type 0 where
  pub numbers : c'.neighbour ≡ c.neighbour
  pub inside : outside lent' c' ≡ outside lent c
  pub came : outside lent c ≡ false → Came (run_of lent c) (run_of lent' c')

-- the verdict, and all of a call, answer and output, are the same
pub record FedInParts : Type 0 where
  pub verdicts : (own : Own) (lent lent' : List ℕ) (c c' : Candidate) → FedBeside lent lent' c c' → verdict own lent' c' ≡ verdict own lent c
  pub calls : (own : Own) (cs cs' : List Candidate) (lent lent' out : List ℕ) → Each (FedBeside lent lent') cs cs' → call own cs' lent' out ≡ call own cs lent out

-- ---- a buffer that is too short

-- it is told by phase 255, which stays, and neither it nor the bytes kept change
pub record ToldShort (s : Fed) (part buffer : List ℕ) : Type 0 where
  pub told : (fed s part (length buffer)).phase ≡ 255
  pub kept : (fed s part (length buffer)).size ≡ s.size
  pub untouched : fed_in s part buffer ≡ buffer

-- of a short buffer, and of any buffer behind one
pub record ShortTold : Type 0 where
  pub short : (s : Fed) (part buffer : List ℕ) → suc (length buffer) ≤ 2059 → ToldShort s part buffer
  pub stays : (s : Fed) (part buffer : List ℕ) → s.phase ≡ 255 → ToldShort s part buffer

-- ---- any state

-- the buffer keeps its length, and no byte from index 2,059 on changes, whatever the numbers of the state
abbrev pub StaysInRoom : Type 0
StaysInRoom = (s : Fed) (part buffer : List ℕ) → (length (fed_in s part buffer) ≡ length buffer) × (drop 2059 (fed_in s part buffer) ≡ drop 2059 buffer)
