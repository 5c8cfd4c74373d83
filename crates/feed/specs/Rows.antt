-- What is kept of parts, on each side of each boundary.
use Rattle.std.specs.Prelude.{ℕ, List, [], ◌∷◌, ◌++◌, replicate}
use Rattle.model.specs.Run.{concat}
use Rattle.model.specs.Samples.{Example, ◌gives◌, Holds}
use Rattle.feed.specs.Step.{state, fed, fed_in}
use Rattle.feed.specs.Parts.{fed_run, kept_of}
use Rattle.feed.specs.declared.bytes.Fed.{Fed}

-- a buffer that has just room
abbrev pub buffer : List ℕ
buffer = replicate 2059 0xEE

-- the bytes kept of parts
abbrev pub kept_bytes : (parts : List (List ℕ)) → List ℕ
kept_bytes ps = kept_of (fed_run ps buffer)

-- the numbers of the state behind parts: size, phase, keep, missing, count
abbrev pub numbers_of : Fed → List ℕ
numbers_of s = s.size ∷ s.phase ∷ s.keep ∷ s.missing ∷ s.count ∷ []

abbrev pub state_behind : (parts : List (List ℕ)) → List ℕ
state_behind ps = numbers_of (fed_run ps buffer).now

-- the same bytes so many times
abbrev pub times : (count : ℕ) → List ℕ → List ℕ
times n bs = concat (replicate n bs)

abbrev pub empty : List ℕ
empty = 0x02 ∷ 0x00 ∷ []

-- ---- rows

-- one part
abbrev pub one : List ℕ → List (List ℕ)
one bs = bs ∷ []

abbrev pub bytes : List (Example (List (List ℕ)) (List ℕ))
bytes =
    -- nothing; Pad1; PadN with nothing missing, and with one byte missing: its type byte
    [] gives []
    ∷ one [] gives []
    ∷ one (0x00 ∷ 0x00 ∷ []) gives []
    ∷ one (0x01 ∷ []) gives (0x01 ∷ [])
    ∷ one (0x01 ∷ 0x00 ∷ []) gives []
    ∷ one (0x01 ∷ 0x02 ∷ 0xAA ∷ []) gives (0x01 ∷ [])
    ∷ one (0x01 ∷ 0x02 ∷ 0xAA ∷ 0xBB ∷ []) gives []
    -- another option, whose data looks like a container
    ∷ one (0x05 ∷ 0x02 ∷ 0x02 ∷ []) gives (0x05 ∷ [])
    ∷ one (0x05 ∷ 0x02 ∷ 0x02 ∷ 0x00 ∷ []) gives []
    -- a container: type, length, data
    ∷ one (0x02 ∷ []) gives (0x02 ∷ [])
    ∷ one (0x02 ∷ 0x02 ∷ []) gives (0x02 ∷ 0x02 ∷ [])
    ∷ one (0x02 ∷ 0x02 ∷ 0xAA ∷ []) gives (0x02 ∷ 0x02 ∷ 0xAA ∷ [])
    ∷ one (0x02 ∷ 0x02 ∷ 0xAA ∷ 0xBB ∷ []) gives (0x02 ∷ 0x02 ∷ 0xAA ∷ 0xBB ∷ [])
    ∷ one (0x02 ∷ 0x00 ∷ []) gives (0x02 ∷ 0x00 ∷ [])
    -- between others
    ∷ one (0x00 ∷ 0x02 ∷ 0x01 ∷ 0xAA ∷ 0x03 ∷ 0x01 ∷ 0xBB ∷ 0x02 ∷ 0x00 ∷ 0x01 ∷ []) gives (0x02 ∷ 0x01 ∷ 0xAA ∷ 0x02 ∷ 0x00 ∷ 0x01 ∷ [])
    -- split anywhere, empty parts too
    ∷ ((0x02 ∷ []) ∷ (0x02 ∷ 0xAA ∷ []) ∷ [] ∷ (0xBB ∷ []) ∷ []) gives (0x02 ∷ 0x02 ∷ 0xAA ∷ 0xBB ∷ [])
    ∷ ((0x05 ∷ []) ∷ (0x02 ∷ []) ∷ (0x02 ∷ []) ∷ (0x00 ∷ 0x02 ∷ []) ∷ (0x01 ∷ []) ∷ (0xAA ∷ []) ∷ []) gives (0x02 ∷ 0x01 ∷ 0xAA ∷ [])
    -- the eighth is kept whole, the ninth as an empty one, with or without data; behind it none
    ∷ one (times 7 empty ++ 0x02 ∷ 0x01 ∷ 0xAA ∷ []) gives (times 7 empty ++ 0x02 ∷ 0x01 ∷ 0xAA ∷ [])
    ∷ one (times 8 empty ++ 0x02 ∷ 0x01 ∷ 0xAA ∷ []) gives times 9 empty
    ∷ one (times 9 empty) gives times 9 empty
    ∷ one (times 10 empty) gives times 9 empty
    ∷ one (times 12 (0x02 ∷ 0x01 ∷ 0xAA ∷ [])) gives (times 8 (0x02 ∷ 0x01 ∷ 0xAA ∷ []) ++ empty)
    -- the ninth and the tenth while they are incomplete
    ∷ one (times 8 empty ++ 0x02 ∷ 0x05 ∷ 0xAA ∷ []) gives (times 8 empty ++ 0x02 ∷ [])
    ∷ one (times 9 empty ++ 0x02 ∷ 0x05 ∷ 0xAA ∷ []) gives (times 9 empty ++ 0x02 ∷ [])
    ∷ []

abbrev pub states : List (Example (List (List ℕ)) (List ℕ))
states =
    [] gives (0 ∷ 0 ∷ 0 ∷ 0 ∷ 0 ∷ [])
    -- behind a type byte: whole, dropped
    ∷ one (0x02 ∷ []) gives (1 ∷ 1 ∷ 2 ∷ 0 ∷ 0 ∷ [])
    ∷ one (0x03 ∷ []) gives (1 ∷ 1 ∷ 0 ∷ 0 ∷ 0 ∷ [])
    -- in an option, and behind it
    ∷ one (0x02 ∷ 0xFF ∷ []) gives (2 ∷ 2 ∷ 2 ∷ 255 ∷ 0 ∷ [])
    ∷ one (0x02 ∷ 0x02 ∷ 0xAA ∷ []) gives (3 ∷ 2 ∷ 2 ∷ 1 ∷ 0 ∷ [])
    ∷ one (0x02 ∷ 0x02 ∷ 0xAA ∷ 0xBB ∷ []) gives (4 ∷ 0 ∷ 0 ∷ 0 ∷ 1 ∷ [])
    ∷ one (0x03 ∷ 0x02 ∷ 0xAA ∷ []) gives (1 ∷ 2 ∷ 0 ∷ 1 ∷ 0 ∷ [])
    ∷ one (0x03 ∷ 0x02 ∷ 0xAA ∷ 0xBB ∷ []) gives (0 ∷ 0 ∷ 0 ∷ 0 ∷ 0 ∷ [])
    -- the ninth, the tenth, and as many as there are
    ∷ one (times 8 empty ++ 0x02 ∷ []) gives (17 ∷ 1 ∷ 1 ∷ 0 ∷ 8 ∷ [])
    ∷ one (times 9 empty) gives (18 ∷ 0 ∷ 0 ∷ 0 ∷ 9 ∷ [])
    ∷ one (times 9 empty ++ 0x02 ∷ []) gives (19 ∷ 1 ∷ 0 ∷ 0 ∷ 9 ∷ [])
    ∷ one (times 300 empty) gives (18 ∷ 0 ∷ 0 ∷ 0 ∷ 9 ∷ [])
    ∷ []

-- eight full containers, an empty one and a type byte: no room is left, and none is needed
abbrev pub fullest : List (Example (List (List ℕ)) (List ℕ))
fullest = one (times 8 (0x02 ∷ 0xFF ∷ replicate 255 0xAA) ++ empty ++ 0x03 ∷ []) gives (2059 ∷ 1 ∷ 0 ∷ 0 ∷ 9 ∷ []) ∷ []

-- ---- any state, and short buffers

-- a state, a part and a buffer
pub record Feed : Type 0 where
  pub before : Fed
  pub part : List ℕ
  pub room : ℕ

abbrev pub feed_of : Fed → List ℕ → (room : ℕ) → Feed
feed_of s p n = record { before = s; part = p; room = n }

abbrev pub state_after : Feed → List ℕ
state_after f = numbers_of (fed f.before f.part f.room)

abbrev pub buffer_after : Feed → List ℕ
buffer_after f = fed_in f.before f.part (replicate f.room 0xEE)

abbrev pub odd : List (Example Feed (List ℕ))
odd =
    -- a buffer of 2,058 bytes, and of 2,059; behind a short one
    feed_of (state 0 0 0 0 0) (0x02 ∷ 0x00 ∷ []) 2058 gives (0 ∷ 255 ∷ 0 ∷ 0 ∷ 0 ∷ [])
    ∷ feed_of (state 0 0 0 0 0) (0x02 ∷ 0x00 ∷ []) 2059 gives (2 ∷ 0 ∷ 0 ∷ 0 ∷ 1 ∷ [])
    ∷ feed_of (state 3 2 2 1 0) [] 0 gives (3 ∷ 255 ∷ 2 ∷ 1 ∷ 0 ∷ [])
    ∷ feed_of (state 3 255 2 1 0) (0xAA ∷ []) 2059 gives (3 ∷ 255 ∷ 2 ∷ 1 ∷ 0 ∷ [])
    -- another phase is between options
    ∷ feed_of (state 5 3 9 9 0) (0x00 ∷ []) 2059 gives (5 ∷ 0 ∷ 0 ∷ 0 ∷ 0 ∷ [])
    ∷ feed_of (state 5 254 9 9 0) (0x02 ∷ []) 2059 gives (6 ∷ 1 ∷ 2 ∷ 0 ∷ 0 ∷ [])
    -- nothing is missing, nothing is kept, more containers than there can be, another way to keep
    ∷ feed_of (state 5 2 0 0 0) (0xAA ∷ []) 2059 gives (4 ∷ 0 ∷ 0 ∷ 0 ∷ 0 ∷ [])
    ∷ feed_of (state 0 2 0 1 0) (0xAA ∷ []) 2059 gives (0 ∷ 0 ∷ 0 ∷ 0 ∷ 0 ∷ [])
    ∷ feed_of (state 5 2 255 1 255) (0xAA ∷ []) 2059 gives (6 ∷ 0 ∷ 0 ∷ 0 ∷ 255 ∷ [])
    ∷ feed_of (state 5 0 0 0 255) (0x02 ∷ []) 2059 gives (6 ∷ 1 ∷ 0 ∷ 0 ∷ 255 ∷ [])
    -- no room is left: the number of bytes kept stays
    ∷ feed_of (state 2058 0 0 0 0) (0x02 ∷ 0x02 ∷ []) 2059 gives (2059 ∷ 2 ∷ 2 ∷ 2 ∷ 0 ∷ [])
    ∷ feed_of (state 2059 0 0 0 0) (0x02 ∷ []) 2100 gives (2059 ∷ 1 ∷ 2 ∷ 0 ∷ 0 ∷ [])
    ∷ feed_of (state 65535 2 2 200 0) (0xAA ∷ 0xBB ∷ []) 2100 gives (65535 ∷ 2 ∷ 2 ∷ 198 ∷ 0 ∷ [])
    ∷ []

abbrev pub untouched : List (Example Feed (List ℕ))
untouched =
    feed_of (state 0 0 0 0 0) (0x02 ∷ 0x00 ∷ []) 2058 gives replicate 2058 0xEE
    ∷ feed_of (state 2059 0 0 0 0) (0x02 ∷ []) 2100 gives replicate 2100 0xEE
    ∷ feed_of (state 65535 2 2 200 0) (0xAA ∷ []) 2100 gives replicate 2100 0xEE
    ∷ feed_of (state 2058 0 0 0 0) (0x02 ∷ []) 2100 gives (replicate 2058 0xEE ++ 0x02 ∷ replicate 41 0xEE)
    ∷ []

-- every row holds
pub record FeedRows : Type 0 where
  pub bytes_kept : Holds kept_bytes bytes
  pub states_behind : Holds state_behind states
  pub all_room : Holds state_behind fullest
  pub any_state : Holds state_after odd
  pub any_buffer : Holds buffer_after untouched
