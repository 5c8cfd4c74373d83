-- The options in front of bytes: by the first of them, and against the model's.
use Rattle.std.proofs.Common.{◌≡◌, refl, sym, ◌∙◌, ℕ, zero, suc, ◌+◌, ◌-◌, ◌<◌, ◌≤◌, Bool, true, false, cond, List, [], ◌∷◌, length, take, drop, slice_index_or, arith, length-drop}
use Rattle.std.specs.Prelude.{leb, eqb, not, position, nat_lt}
use Rattle.std.specs.Prelude as code
use Rattle.std.specs.Option.{unwrap_or}
use Rattle.std.specs.List.{position_or_len}
use borrow.Author.Tests.{ne_eqb}
use Rattle.std.proofs.lemmas.Bool.{ltb-false}
use Rattle.std.proofs.lemmas.List.Sums.{prefix_len-le-length}
use Rattle.std.proofs.lemmas.List.Recursion.{is_position_or_len}
use Rattle.std.proofs.lemmas.List.{take_all}
use Rattle.std.proofs.Math.Option.{none}
use Rattle.model.specs.Cut.{keep_if}
use Rattle.model.specs.Run.{RplOption, pad1, option, leading, options_up_to, options, containers, containers_in, option_cut}
use Rattle.model.specs.Reading.{is_none}
use Rattle.wire.specs.Front.{whole, ends_at}
use Rattle.wire.specs.Options.{pads, options_front_up_to, options_front, options_left_up_to, options_left, data_front, OptionsExact}
use Rattle.wire.proofs.RunWalkLaws.{containers_by}

enough : (k j : ℕ) (bs : List ℕ) → length bs ≤ k → length bs ≤ j
    → (options_front_up_to k bs ≡ options_front_up_to j bs) × (options_left_up_to k bs ≡ options_left_up_to j bs)
unfolding options_front_up_to options_left_up_to
enough zero zero bs h i = (refl, refl)
enough zero (suc j) [] h i = (refl, refl)
enough zero (suc j) (t ∷ bs) h i = absurd (omega arith)
enough (suc k) zero [] h i = (refl, refl)
enough (suc k) zero (t ∷ bs) h i = absurd (omega arith)
enough (suc k) (suc j) [] h i = (refl, refl)
enough (suc k) (suc j) (zero ∷ bs) h i = let (a, b) = enough k j bs (omega arith) (omega arith) in (rw a, b)
enough (suc k) (suc j) (suc t ∷ []) h i = (refl, refl)
enough (suc k) (suc j) (suc t ∷ n ∷ bs) h i =
    let (a, b) = enough k j (drop n bs) (rw length-drop (omega arith)) (rw length-drop (omega arith)) in (rw a, rw b)

pad : (bs : List ℕ) → (data_front (0 ∷ bs) ≡ data_front bs) × (options_left (0 ∷ bs) ≡ options_left bs)
unfolding data_front containers options_front options_front_up_to options_left options_left_up_to
pad bs = (refl, refl)

-- the padding in front holds no container
pub pads_over : (bs : List ℕ) → (data_front (drop (pads bs) bs) ≡ data_front bs) × (options_left (drop (pads bs) bs) ≡ options_left bs)
unfolding pads
pads_over [] = (refl, refl)
pads_over (zero ∷ bs) = let (a, b) = pads_over bs in let (c, d) = pad bs in (rw c a, rw d b)
pads_over (suc b ∷ bs) = (refl, refl)

-- what stands behind it is no padding
pub pads_behind : (bs : List ℕ) → slice_index_or (drop (pads bs) bs) 0 0 ≡ 0 → length (drop (pads bs) bs) ≡ 0
unfolding pads
pads_behind [] e = refl
pads_behind (zero ∷ bs) e = pads_behind bs e
pads_behind (suc b ∷ bs) e = absurd (omega arith)

-- their number is the place of the first other byte
pub pads_place : (bs : List ℕ) (r : code.Option ℕ) → r ≡ position (λ b. not (eqb b 0)) bs → unwrap_or r (length bs) ≡ pads bs
unfolding pads
pads_place bs r e = rw e (go (nat_lt n (length bs)) refl ∙ sym (is_position_or_len pads p refl step bs))
  where
    p : ℕ → Bool
    p b = not (eqb b 0)

    n : ℕ
    n = position_or_len p bs

    step : (x : ℕ) (xs : List ℕ) → pads (x ∷ xs) ≡ cond (p x) 0 (1 + pads xs)
    step zero xs = omega arith
    step (suc x) xs = rw (ne_eqb (suc x) 0 (λ e. omega arith))

    go : (b : Bool) → nat_lt n (length bs) ≡ b → unwrap_or (cond b (code.Some n) code.None) (length bs) ≡ n
    go true h = refl
    go false h = omega (arith, ltb-false n (length bs) h, prefix_len-le-length (λ x. not (p x)) bs)

-- both, of what is left behind the padding as a slice has it
pub record Behind (bs : List ℕ) (d : List ℕ) : Type 0 where
  pub items : data_front d ≡ data_front bs
  pub left : options_left d ≡ options_left bs
  pub head : slice_index_or d 0 0 ≡ 0 → length d ≡ 0
  pub size : length d ≤ length bs

pub behind_pads : (bs : List ℕ) (p : ℕ) → p ≡ pads bs → Behind bs (take (length bs - p) (drop p bs))
behind_pads bs p e =
    let (a, b) = pads_over bs in
    rw (take_all (length bs - p) (drop p bs) (rw length-drop (omega arith)), e)
    (record { items = a; left = b; head = pads_behind bs; size = rw length-drop (omega arith) })

pub behind_unpadded : (bs d : List ℕ) → d ≡ drop (pads bs) bs → Behind bs d
behind_unpadded bs d e =
    let (a, b) = pads_over bs in
    rw e (record { items = a; left = b; head = pads_behind bs; size = rw length-drop (omega arith) })

-- where no padding is in front
pub pads_none : (bs : List ℕ) → (slice_index_or bs 0 0 ≡ 0 → length bs ≡ 0) → bs ≡ drop (pads bs) bs
unfolding pads
pads_none [] z = refl
pads_none (zero ∷ bs) z = absurd (omega (arith, z refl))
pads_none (suc b ∷ bs) z = refl

pub option_short : (bs : List ℕ) → length bs < 2 → (slice_index_or bs 0 0 ≡ 0 → length bs ≡ 0) → (data_front bs ≡ []) × (options_left bs ≡ bs)
unfolding data_front containers options_front options_front_up_to options_left options_left_up_to
option_short [] h z = (refl, refl)
option_short (zero ∷ []) h z = absurd (omega (arith, z refl))
option_short (suc t ∷ []) h z = (refl, refl)
option_short (t ∷ n ∷ bs) h z = absurd (omega arith)

step : (t n : ℕ) (bs : List ℕ)
    → (data_front (suc t ∷ n ∷ bs) ≡ cond (leb n (length bs)) (keep_if (eqb (suc t) 2) (take n bs) (data_front (drop n bs))) [])
    × (options_left (suc t ∷ n ∷ bs) ≡ cond (leb n (length bs)) (options_left (drop n bs)) (suc t ∷ n ∷ bs))
unfolding data_front options_front options_front_up_to options_left options_left_up_to containers
step t n bs =
    let (a, b) = enough (suc (length bs)) (length (drop n bs)) (drop n bs) (rw length-drop (omega arith)) (omega arith) in
    (rw a (go (leb n (length bs))), rw b)
  where
    go : (b : Bool) → containers (cond b (option t (take n bs) ∷ options_front_up_to (length (drop n bs)) (drop n bs)) [])
        ≡ cond b (keep_if (eqb (suc t) 2) (take n bs) (containers (options_front_up_to (length (drop n bs)) (drop n bs)))) []
    go true = containers_by (suc t) (take n bs) (options_front_up_to (length (drop n bs)) (drop n bs))
    go false = refl

pub option_two : (bs : List ℕ) → 2 ≤ length bs → (slice_index_or bs 0 0 ≡ 0 → length bs ≡ 0)
    → (data_front bs ≡ cond (leb (slice_index_or bs 1 0) (length (drop 2 bs))) (keep_if (eqb (slice_index_or bs 0 0) 2) (take (slice_index_or bs 1 0) (drop 2 bs)) (data_front (drop (slice_index_or bs 1 0) (drop 2 bs)))) [])
    × (options_left bs ≡ cond (leb (slice_index_or bs 1 0) (length (drop 2 bs))) (options_left (drop (slice_index_or bs 1 0) (drop 2 bs))) bs)
option_two [] h z = absurd (omega arith)
option_two (t ∷ []) h z = absurd (omega arith)
option_two (zero ∷ n ∷ bs) h z = absurd (omega (arith, z refl))
option_two (suc t ∷ n ∷ bs) h z = step t n bs

-- a whole option in front, its data and the rest as a pattern on the slice has them
pub option_found : (bs : List ℕ) → 2 ≤ length bs → (slice_index_or bs 0 0 ≡ 0 → length bs ≡ 0) → slice_index_or bs 1 0 ≤ length (drop 2 bs)
    → (data_front bs ≡ keep_if (eqb (slice_index_or bs 0 0) 2) (take (slice_index_or bs 1 0) (take (length bs - 2) (drop 2 bs))) (data_front (drop (slice_index_or bs 1 0) (take (length bs - 2) (drop 2 bs)))))
    × (options_left bs ≡ options_left (drop (slice_index_or bs 1 0) (take (length bs - 2) (drop 2 bs))))
option_found bs h z i = let (a, b) = option_two bs h z in rw (take_all (length bs - 2) (drop 2 bs) (rw length-drop (omega arith))) (search (a, b, i, arith))

-- ---- the model's options

one_more : (o : RplOption) (f : List RplOption) (l : List ℕ) → leading o (whole f l) ≡ whole (o ∷ f) l
one_more o f [] = refl
one_more o f (b ∷ bs) = refl

exact_up_to : (k : ℕ) (bs : List ℕ) → options_up_to k bs ≡ whole (options_front_up_to k bs) (options_left_up_to k bs)
unfolding options_up_to options_front_up_to options_left_up_to
exact_up_to zero [] = refl
exact_up_to zero (t ∷ bs) = refl
exact_up_to (suc k) [] = refl
exact_up_to (suc k) (zero ∷ bs) = rw (exact_up_to k bs) (one_more pad1 (options_front_up_to k bs) (options_left_up_to k bs))
exact_up_to (suc k) (suc t ∷ []) = refl
exact_up_to (suc k) (suc t ∷ n ∷ bs) = go (exact_up_to k (drop n bs)) (leb n (length bs))
  where
    go : options_up_to k (drop n bs) ≡ whole (options_front_up_to k (drop n bs)) (options_left_up_to k (drop n bs)) → (b : Bool) → cond b (leading (option t (take n bs)) (options_up_to k (drop n bs))) none
        ≡ whole (cond b (option t (take n bs) ∷ options_front_up_to k (drop n bs)) []) (cond b (options_left_up_to k (drop n bs)) (suc t ∷ n ∷ bs))
    go ih true = rw ih (one_more (option t (take n bs)) (options_front_up_to k (drop n bs)) (options_left_up_to k (drop n bs)))
    go ih false = refl

pub options_exact : OptionsExact
unfolding options options_front options_left
options_exact bs = exact_up_to (length bs) bs

-- where no option is cut short, the data in front are those of all of the run's containers
pub data_exact : (bs : List ℕ) → options_left bs ≡ [] → containers_in bs ≡ data_front bs
unfolding data_front
data_exact bs l = rw (options_exact bs, l) refl

pub cut_exact : (bs : List ℕ) → option_cut bs ≡ not (ends_at (options_left bs))
cut_exact bs = rw (options_exact bs) (go (options_left bs))
  where
    go : (l : List ℕ) → is_none (whole (options_front bs) l) ≡ not (ends_at l)
    go [] = refl
    go (b ∷ l) = refl
