-- The bytes of a part, one behind another.
use mathlib.Core.Path.{◌≡◌, refl, ap, ◌∙◌}
use Prim.Native.Nat.{ℕ, ◌+◌, ◌≤◌, ◌<◌}
use native.Mathlib.Omega.{arith}
use mathlib.Core.Bool.{cond}
use mathlib.Core.List.{List, [], ◌∷◌, ◌++◌}
use lib.ListN.{length, take, drop, set, get_or, length-set}
use lib.Seq.{drop-set-lt, take-set-lt}
use lib.Dec.{ltb}
use Rattle.std.proofs.lemmas.Bool.Decides.{nat_tests}
use Rattle.std.proofs.lemmas.List.{take_all, take_more, take-append-drop}
use Rattle.feed.specs.declared.bytes.Fed.{Fed}
use Rattle.feed.specs.declared.bytes.Keeper.{Keeper}
use Rattle.feed.specs.Step.{stored, closed_in, gone_in, begun_in, stepped, stepped_in, fed_bytes, fed_bytes_in, fed_in}
use Rattle.feed.specs.Keeping.{Becomes}

-- ---- the length of the buffer stays

pub stored-length : (s : Fed) (b : ℕ) (l : List ℕ) → length (stored s b l) ≡ length l
unfolding stored
stored-length s b l = grind (arith, nat_tests, length-set)

pub stepped_length : (s : Fed) (b : ℕ) (l : List ℕ) → length (stepped_in s b l) ≡ length l
unfolding stepped_in begun_in gone_in closed_in
stepped_length s b l = grind (arith, nat_tests, stored-length)

bytes_length : (bs : List ℕ) (s : Fed) (l : List ℕ) → length (fed_bytes_in s bs l) ≡ length l
unfolding fed_bytes_in
bytes_length [] s l = refl
bytes_length (b ∷ bs) s l = bytes_length bs (stepped s b) (stepped_in s b l) ∙ stepped_length s b l

pub fed_length : (s : Fed) (bs l : List ℕ) → length (fed_in s bs l) ≡ length l
unfolding fed_in
fed_length s bs l = grind (arith, nat_tests, bytes_length bs s l)

-- ---- what lies behind the room for what is kept stays

set_behind : (n i b : ℕ) (l : List ℕ) → drop n (cond (ltb i n) (set l i b) l) ≡ drop n l
set_behind n i b l = grind (arith, nat_tests, drop-set-lt)

stored_behind : (s : Fed) (b : ℕ) (l : List ℕ) → drop 2059 (stored s b l) ≡ drop 2059 l
unfolding stored
stored_behind s b l = set_behind 2059 s.size b l

stepped_behind : (s : Fed) (b : ℕ) (l : List ℕ) → drop 2059 (stepped_in s b l) ≡ drop 2059 l
unfolding stepped_in begun_in gone_in closed_in
stepped_behind s b l = grind (arith, nat_tests, stored_behind)

bytes_behind : (bs : List ℕ) (s : Fed) (l : List ℕ) → drop 2059 (fed_bytes_in s bs l) ≡ drop 2059 l
unfolding fed_bytes_in
bytes_behind [] s l = refl
bytes_behind (b ∷ bs) s l = bytes_behind bs (stepped s b) (stepped_in s b l) ∙ stepped_behind s b l

pub fed_behind : (s : Fed) (bs l : List ℕ) → drop 2059 (fed_in s bs l) ≡ drop 2059 l
unfolding fed_in
fed_behind s bs l = grind (arith, nat_tests, bytes_behind bs s l)

-- ---- what is kept in a buffer is kept in its room

set_front : (n i b : ℕ) (l : List ℕ) → take n (cond (ltb i n) (set l i b) l) ≡ cond (ltb i n) (set (take n l) i b) (take n l)
set_front n i b l = grind (arith, nat_tests, take-set-lt)

stored_front : (s : Fed) (b : ℕ) (l : List ℕ) → take 2059 (stored s b l) ≡ stored s b (take 2059 l)
unfolding stored
stored_front s b l = set_front 2059 s.size b l

stepped_front : (s : Fed) (b : ℕ) (l : List ℕ) → take 2059 (stepped_in s b l) ≡ stepped_in s b (take 2059 l)
unfolding stepped_in begun_in gone_in closed_in
stepped_front s b l = grind (arith, nat_tests, stored_front)

bytes_front : (bs : List ℕ) (s : Fed) (l : List ℕ) → take 2059 (fed_bytes_in s bs l) ≡ fed_bytes_in s bs (take 2059 l)
unfolding fed_bytes_in
bytes_front [] s l = refl
bytes_front (b ∷ bs) s l = bytes_front bs (stepped s b) (stepped_in s b l) ∙ ap (fed_bytes_in (stepped s b) bs) (stepped_front s b l)

-- so the room and what lies behind it make the buffer
pub bytes_in_room : (bs : List ℕ) (s : Fed) (l : List ℕ) → fed_bytes_in s bs (take 2059 l) ++ drop 2059 l ≡ fed_bytes_in s bs l
bytes_in_room bs s l = rw (← bytes_front bs s l, ← bytes_behind bs s l) (take-append-drop 2059 (fed_bytes_in s bs l))

-- ---- a pass over a part

fed_bytes_snoc : (bs : List ℕ) (s : Fed) (b : ℕ) → fed_bytes s (bs ++ b ∷ []) ≡ stepped (fed_bytes s bs) b
unfolding fed_bytes
fed_bytes_snoc [] s b = refl
fed_bytes_snoc (x ∷ bs) s b = fed_bytes_snoc bs (stepped s x) b

fed_bytes_in_snoc : (bs : List ℕ) (s : Fed) (b : ℕ) (l : List ℕ) → fed_bytes_in s (bs ++ b ∷ []) l ≡ stepped_in (fed_bytes s bs) b (fed_bytes_in s bs l)
unfolding fed_bytes fed_bytes_in
fed_bytes_in_snoc [] s b l = refl
fed_bytes_in_snoc (x ∷ bs) s b l = fed_bytes_in_snoc bs (stepped s x) b (stepped_in s x l)

-- the bytes before an index are fed
abbrev pub FedUpTo : (part : List ℕ) (i : ℕ) (old new : Keeper) → Type 0
FedUpTo part i old new = Becomes old new (fed_bytes old.fed (take i part)) (fed_bytes_in old.fed (take i part) old.kept.now)

pub fed_none : (part : List ℕ) (k : Keeper) → FedUpTo part 0 k k
unfolding fed_bytes fed_bytes_in
fed_none part k = record { state = refl; bytes = refl; same = refl }

pub fed_one_more : (part : List ℕ) (i : ℕ) (old now new : Keeper) → FedUpTo part i old now → i < length part
    → Becomes now new (stepped now.fed (get_or part i 0)) (stepped_in now.fed (get_or part i 0) now.kept.now) → FedUpTo part (i + 1) old new
fed_one_more part i old now new f h b =
    let t : take (i + 1) part ≡ take i part ++ get_or part i 0 ∷ [] = take_more part i 0 h in
    record {
      state = rw (t, fed_bytes_snoc (take i part) old.fed (get_or part i 0), ← f.state) b.state;
      bytes = rw (t, fed_bytes_in_snoc (take i part) old.fed (get_or part i 0) old.kept.now, ← f.state, ← f.bytes) b.bytes;
      same = b.same ∙ f.same;
    }

pub fed_all : (part : List ℕ) (i : ℕ) (old new : Keeper) → FedUpTo part i old new → length part ≤ i → Becomes old new (fed_bytes old.fed part) (fed_bytes_in old.fed part old.kept.now)
fed_all part i old new f h = rw (take_all i part h) at f
