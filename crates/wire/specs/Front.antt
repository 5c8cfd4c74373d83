-- The objects in front of bytes that are whole, and the bytes behind them: what the iterator over objects yields and leaves.
use Rattle.std.specs.Prelude.{◌≡◌, ℕ, zero, suc, Bool, true, false, cond, List, [], ◌∷◌, length, take, drop, leb, Option}
use Rattle.std.specs.Option.{MatchOption}
use Rattle.std.proofs.Math.Option as math
use Rattle.model.specs.Object.{Object, object, split}
use Rattle.wire.specs.declared.objects.Object as walked
use Rattle.wire.specs.declared.objects.Objects.{Objects}
use Rattle.wire.specs.Step.{object_of}

-- the object that a view shows
abbrev pub seen : walked.Object → Object
seen o = object_of o.header o.body.now

-- the whole objects in front; `limit` bounds their number
unfoldable pub front_up_to : (limit : ℕ) → List ℕ → List Object
front_up_to zero bs = []
front_up_to (suc k) [] = []
front_up_to (suc k) (t ∷ []) = []
front_up_to (suc k) (t ∷ f ∷ []) = []
front_up_to (suc k) (t ∷ f ∷ m ∷ []) = []
front_up_to (suc k) (t ∷ f ∷ m ∷ n ∷ rest) = cond (leb n (length rest)) (object t f m (take n rest) ∷ front_up_to k (drop n rest)) []

unfoldable pub front : List ℕ → List Object
unfolding front_up_to
front bs = front_up_to (length bs) bs

-- the bytes behind them
unfoldable pub left_up_to : (limit : ℕ) → List ℕ → List ℕ
left_up_to zero bs = bs
left_up_to (suc k) [] = []
left_up_to (suc k) (t ∷ []) = t ∷ []
left_up_to (suc k) (t ∷ f ∷ []) = t ∷ f ∷ []
left_up_to (suc k) (t ∷ f ∷ m ∷ []) = t ∷ f ∷ m ∷ []
left_up_to (suc k) (t ∷ f ∷ m ∷ n ∷ rest) = cond (leb n (length rest)) (left_up_to k (drop n rest)) (t ∷ f ∷ m ∷ n ∷ rest)

unfoldable pub left : List ℕ → List ℕ
unfolding left_up_to
left bs = left_up_to (length bs) bs

-- nothing is left
abbrev pub ends_at : List ℕ → Bool
ends_at [] = true
ends_at (b ∷ bs) = false

-- what is in front, where nothing is left behind it
abbrev pub whole : {A : Type 0} → List A → (left : List ℕ) → math.Option (List A)
whole xs [] = math.some xs
whole xs (b ∷ bs) = math.none

-- each object leaves what was left; behind the last one it is all that there is
abbrev pub LeavesObjects : Objects → Option walked.Object → Objects → Type 0
LeavesObjects s r t = MatchOption r (left s.rest.now ≡ t.rest.now) (λ o. left s.rest.now ≡ left t.rest.now)

-- bytes are split exactly where the objects in front leave nothing
abbrev pub FrontExact : Type 0
FrontExact = (bs : List ℕ) → split bs ≡ whole (front bs) (left bs)
