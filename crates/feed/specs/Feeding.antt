-- A run fed in parts: the type 2 options of what was fed so far are kept, as a run that reads as all of it.
use Rattle.std.specs.Prelude.{ℕ, zero, suc, ◌-◌, cond, List, [], ◌∷◌, ◌++◌, length, take, ltb, eqb}

-- what becomes of the option in hand: dropped; kept as an empty container, for the ninth; kept whole
pub data Keep : Type 0 where
  dropped emptied whole : Keep

-- where the last byte stands: between options; behind a type byte; or in an option of which some bytes are missing
pub data Phase : Type 0 where
  between : Phase
  typed : Keep → Phase
  within : Keep → (missing : ℕ) → Phase

-- what was fed: the phase, the containers so far (nine for more), and the bytes kept
pub record Feeding : Type 0 where
  pub phase : Phase
  pub count : ℕ
  pub kept : List ℕ

-- from its parts
abbrev pub fed : Phase → ℕ → List ℕ → Feeding
fed p n k = record { phase = p; count = n; kept = k }

-- a type 2 option is kept whole, the ninth as an empty container
abbrev pub keep_of : (t count : ℕ) → Keep
keep_of t n = cond (eqb t 1) (cond (ltb n 8) whole (cond (eqb n 8) emptied dropped)) dropped

-- an option that is complete; of one that is dropped the type byte was kept until here
abbrev pub closed : Keep → ℕ → List ℕ → Feeding
closed dropped n k = fed between n (take (length k - 1) k)
closed emptied n k = fed between (suc n) (k ++ (0 ∷ []))
closed whole n k = fed between (suc n) k

-- an option of which so many bytes are missing
abbrev pub goes_on : Keep → (missing : ℕ) → ℕ → List ℕ → Feeding
goes_on p zero n k = closed p n k
goes_on p (suc m) n k = fed (within p (suc m)) n k

-- a byte of an option's length or data
abbrev pub kept_with : Keep → List ℕ → (b : ℕ) → List ℕ
kept_with dropped k b = k
kept_with emptied k b = k
kept_with whole k b = k ++ (b ∷ [])

-- a byte between options: Pad1, or a type byte, which is kept
abbrev pub begins : (b : ℕ) → ℕ → List ℕ → Feeding
begins zero n k = fed between n k
begins (suc t) n k = fed (typed (keep_of t n)) n (k ++ (suc t ∷ []))

-- by where it stands
abbrev pub feed_at : Phase → ℕ → List ℕ → (b : ℕ) → Feeding
feed_at between n k b = begins b n k
feed_at (typed p) n k b = goes_on p b n (kept_with p k b)
feed_at (within p m) n k b = goes_on p (m - 1) n (kept_with p k b)

-- one byte more, of any state
unfoldable pub feed_byte : Feeding → (b : ℕ) → Feeding
feed_byte s b = feed_at s.phase s.count s.kept b

-- one part more
unfoldable pub feed : Feeding → List ℕ → Feeding
feed s [] = s
feed s (b ∷ bs) = feed (feed_byte s b) bs

-- before the first part
abbrev pub unfed : Feeding
unfed = fed between 0 []
