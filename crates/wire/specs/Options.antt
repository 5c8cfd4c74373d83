-- The options in front of bytes that are whole, and the bytes behind them: what the iterator over containers yields and leaves.
use Rattle.std.specs.Prelude.{◌≡◌, ℕ, zero, suc, cond, List, [], ◌∷◌, length, take, drop, leb, Option}
use Rattle.std.specs.Option.{MatchOption}
use denote.Ref.{Bor}
use Rattle.model.specs.Run.{RplOption, pad1, option, options, containers}
use Rattle.wire.specs.declared.containers.Containers.{Containers}
use Rattle.wire.specs.Front.{whole}

-- how many bytes 0 are in front
unfoldable pub pads : List ℕ → ℕ
pads [] = 0
pads (zero ∷ bs) = suc (pads bs)
pads (suc b ∷ bs) = 0

-- the whole options in front; `limit` bounds their number
unfoldable pub options_front_up_to : (limit : ℕ) → List ℕ → List RplOption
options_front_up_to zero bs = []
options_front_up_to (suc k) [] = []
options_front_up_to (suc k) (zero ∷ bs) = pad1 ∷ options_front_up_to k bs
options_front_up_to (suc k) (suc t ∷ []) = []
options_front_up_to (suc k) (suc t ∷ n ∷ bs) = cond (leb n (length bs)) (option t (take n bs) ∷ options_front_up_to k (drop n bs)) []

unfoldable pub options_front : List ℕ → List RplOption
unfolding options_front_up_to
options_front bs = options_front_up_to (length bs) bs

-- the bytes behind them
unfoldable pub options_left_up_to : (limit : ℕ) → List ℕ → List ℕ
options_left_up_to zero bs = bs
options_left_up_to (suc k) [] = []
options_left_up_to (suc k) (zero ∷ bs) = options_left_up_to k bs
options_left_up_to (suc k) (suc t ∷ []) = suc t ∷ []
options_left_up_to (suc k) (suc t ∷ n ∷ bs) = cond (leb n (length bs)) (options_left_up_to k (drop n bs)) (suc t ∷ n ∷ bs)

unfoldable pub options_left : List ℕ → List ℕ
unfolding options_left_up_to
options_left bs = options_left_up_to (length bs) bs

-- the data of the containers among them
unfoldable pub data_front : List ℕ → List (List ℕ)
unfolding options_front
data_front bs = containers (options_front bs)

-- each container leaves what was left; behind the last one it is all that there is
abbrev pub LeavesOptions : Containers → Option (Bor (List ℕ)) → Containers → Type 0
LeavesOptions s r t = MatchOption r (options_left s.rest.now ≡ t.rest.now) (λ d. options_left s.rest.now ≡ options_left t.rest.now)

-- bytes are a run of options exactly where the options in front leave nothing
abbrev pub OptionsExact : Type 0
OptionsExact = (bs : List ℕ) → options bs ≡ whole (options_front bs) (options_left bs)
