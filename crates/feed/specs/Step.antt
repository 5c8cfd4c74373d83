-- One byte of a run, by numbers: the state that C holds, and the lent buffer.
use Rattle.std.specs.Prelude.{ℕ, ◌+◌, ◌-◌, cond, List, [], ◌∷◌, length, set, ltb, eqb}
use Rattle.feed.specs.declared.bytes.Fed.{Fed}

-- a state from its numbers
abbrev pub state : (size phase keep missing count : ℕ) → Fed
state z p k m n = record { size = z; phase = p; keep = k; missing = m; count = n }

-- what becomes of an option: 2 kept whole, 1 kept as an empty container, 0 dropped
abbrev pub keep_number : (type count : ℕ) → ℕ
keep_number t n = cond (eqb t 2) (cond (ltb n 8) 2 (cond (eqb n 8) 1 0)) 0

-- one byte more is kept, where there is room
unfoldable pub more : Fed → Fed
more s = cond (ltb s.size 2059) (state (s.size + 1) s.phase s.keep s.missing s.count) s

unfoldable pub stored : Fed → (byte : ℕ) → List ℕ → List ℕ
stored s b l = cond (ltb s.size 2059) (set l s.size b) l

-- one container more, of at most nine
abbrev pub one_more : (count : ℕ) → ℕ
one_more n = cond (ltb n 9) (n + 1) n

-- an option that is complete: a dropped one's type byte is taken back, an emptied one gets its length, 0
unfoldable pub closed : Fed → Fed
closed s =
    cond (eqb s.keep 0) (state (s.size - 1) 0 0 0 s.count)
    (cond (eqb s.keep 1) (state (more s).size 0 0 0 (one_more s.count))
    (state s.size 0 0 0 (one_more s.count)))

unfoldable pub closed_in : Fed → List ℕ → List ℕ
closed_in s l = cond (eqb s.keep 1) (stored s 0 l) l

-- an option of which so many bytes are missing
abbrev pub goes_on : Fed → (missing : ℕ) → Fed
goes_on s m = cond (eqb m 0) (closed s) (state s.size 2 s.keep m s.count)

abbrev pub goes_on_in : Fed → (missing : ℕ) → List ℕ → List ℕ
goes_on_in s m l = cond (eqb m 0) (closed_in s l) l

-- a byte of an option's length or data, behind which so many bytes are missing: kept where the option is kept whole
unfoldable pub gone : Fed → (missing : ℕ) → Fed
gone s m = cond (ltb 1 s.keep) (goes_on (more s) m) (goes_on s m)

unfoldable pub gone_in : Fed → (missing byte : ℕ) → List ℕ → List ℕ
gone_in s m b l = cond (ltb 1 s.keep) (goes_on_in (more s) m (stored s b l)) (goes_on_in s m l)

-- a byte between options: Pad1, or a type byte, which is kept
unfoldable pub begun : Fed → (byte : ℕ) → Fed
begun s b = cond (eqb b 0) (state s.size 0 0 0 s.count) (state (more s).size 1 (keep_number b s.count) 0 s.count)

unfoldable pub begun_in : Fed → (byte : ℕ) → List ℕ → List ℕ
begun_in s b l = cond (eqb b 0) l (stored s b l)

-- one byte more
unfoldable pub stepped : Fed → (byte : ℕ) → Fed
stepped s b = cond (eqb s.phase 1) (gone s b) (cond (eqb s.phase 2) (gone s (s.missing - 1)) (begun s b))

unfoldable pub stepped_in : Fed → (byte : ℕ) → List ℕ → List ℕ
stepped_in s b l = cond (eqb s.phase 1) (gone_in s b b l) (cond (eqb s.phase 2) (gone_in s (s.missing - 1) b l) (begun_in s b l))

-- the bytes of a part, one behind another
unfoldable pub fed_bytes : Fed → List ℕ → Fed
fed_bytes s [] = s
fed_bytes s (b ∷ bs) = fed_bytes (stepped s b) bs

unfoldable pub fed_bytes_in : Fed → List ℕ → List ℕ → List ℕ
fed_bytes_in s [] l = l
fed_bytes_in s (b ∷ bs) l = fed_bytes_in (stepped s b) bs (stepped_in s b l)

-- a buffer that is too short is told by phase 255, which stays; then nothing is stored
unfoldable pub fed : Fed → (part : List ℕ) → (room : ℕ) → Fed
fed s bs n = cond (ltb n 2059) (state s.size 255 s.keep s.missing s.count) (cond (eqb s.phase 255) s (fed_bytes s bs))

unfoldable pub fed_in : Fed → (part : List ℕ) → List ℕ → List ℕ
fed_in s bs l = cond (ltb (length l) 2059) l (cond (eqb s.phase 255) l (fed_bytes_in s bs l))
