-- Options and their bytes; the cut of a run.
use mathlib.Core.Path.{◌≡◌, refl, sym, ap, ◌∙◌}
use Prim.Native.Nat.{ℕ, zero, suc, ◌+◌, ◌*◌, ◌≤◌}
use native.Mathlib.Nat.{not-suc-le-zero}
use mathlib.Core.Bool.{Bool, true, false, cond}
use mathlib.Core.List.{List, [], ◌∷◌, ◌++◌, map, append_assoc, append-nil}
use mathlib.Core.Option.{Option, none, some, none-ne-some}
use native.Mathlib.Omega.{arith}
use lib.ListN.{length, take, drop, get_or, length-append, take-append-drop, length-drop}
use lib.Seq.{length-take-le, take-length, drop-length, take-append_seam, drop-append_seam, get_or-drop}
use lib.Dec.{leb, ltb}
use borrow.Author.Tests.{le-leb, leb-true, ltb-false}
use Rattle.model.specs.Number.{first_of}
use Rattle.model.specs.Object.{Object, split, join, standings}
use Rattle.model.specs.Reading.{no_place, misframed, data_objects, reading, refused, well_formed, read_as, read_objects, object_bar, is_none}
use Rattle.model.specs.Cut.{keep_if, cut, cut_data}
use Rattle.model.specs.Runs.{OneContainer}
use Rattle.model.proofs.ObjectLaws.{split-join, join-split, join-append, join_four}
use Rattle.model.proofs.ReadingLaws.{framed}
use Rattle.model.proofs.CutLaws.{object_bars_cut, cut-append}
use Rattle.model.specs.Run.{RplOption, pad1, option, join_options, leading, options_up_to, options, is_container, containers, joined, objects_of, joined_objects, run_objects, option_cut, ninth_container, read_run, cut_option, cut_run, concat, joined_data}

-- two limits that are at least the length give the same
options_up_to_enough : (k j : ℕ) (bs : List ℕ) → length bs ≤ k → length bs ≤ j → options_up_to k bs ≡ options_up_to j bs
unfolding options_up_to
options_up_to_enough zero zero bs h i = refl
options_up_to_enough zero (suc j) [] h i = refl
options_up_to_enough zero (suc j) (t ∷ bs) h i = absurd (not-suc-le-zero h)
options_up_to_enough (suc k) zero [] h i = refl
options_up_to_enough (suc k) zero (t ∷ bs) h i = absurd (not-suc-le-zero i)
options_up_to_enough (suc k) (suc j) [] h i = refl
options_up_to_enough (suc k) (suc j) (zero ∷ bs) h i = rw (options_up_to_enough k j bs (omega arith) (omega arith))
options_up_to_enough (suc k) (suc j) (suc t ∷ []) h i = refl
options_up_to_enough (suc k) (suc j) (suc t ∷ n ∷ bs) h i =
    rw (options_up_to_enough k j (drop n bs) (rw length-drop (omega arith)) (rw length-drop (omega arith)))

-- `options` unfolded
pub options_pad : (bs : List ℕ) → options (0 ∷ bs) ≡ leading pad1 (options bs)
unfolding options options_up_to
options_pad bs = refl

pub options_step : (t n : ℕ) (bs : List ℕ) → options (suc t ∷ n ∷ bs) ≡ cond (leb n (length bs)) (leading (option t (take n bs)) (options (drop n bs))) none
unfolding options options_up_to
options_step t n bs = rw (options_up_to_enough (suc (length bs)) (length (drop n bs)) (drop n bs) (rw length-drop (omega arith)) (omega arith))

-- options before those of a run
abbrev pub following : List RplOption → Option (List RplOption) → Option (List RplOption)
following s none = none
following s (some t) = some (s ++ t)

leading-following : (o : RplOption) (s : List RplOption) (r : Option (List RplOption)) → leading o (following s r) ≡ following (o ∷ s) r
leading-following o s none = refl
leading-following o s (some t) = refl

following_nil : (r : Option (List RplOption)) → r ≡ following [] r
following_nil none = refl
following_nil (some t) = refl

pub options-append : (s : List RplOption) (bs : List ℕ) → options (join_options s ++ bs) ≡ following s (options bs)
unfolding join_options
options-append [] bs = following_nil (options bs)
options-append (pad1 ∷ s) bs = rw (options_pad (join_options s ++ bs), options-append s bs) (leading-following pad1 s (options bs))
options-append (option t d ∷ s) bs =
    let fits : length d ≤ length (d ++ (join_options s ++ bs)) = simp length-append (omega arith) in
    rw (append_assoc d (join_options s) bs, options_step t (length d) (d ++ (join_options s ++ bs)), le-leb (length d) (length (d ++ (join_options s ++ bs))) fits, take-append_seam d (join_options s ++ bs), drop-append_seam d (join_options s ++ bs), options-append s bs)
    (leading-following (option t d) s (options bs))

pub options_join : (os : List RplOption) → options (join_options os) ≡ some os
unfolding options options_up_to
options_join os = ap options (sym (append-nil (join_options os))) ∙ options-append os [] ∙ ap some (append-nil os)

-- options that were read are those that were written
joined_up_to : (k : ℕ) (bs : List ℕ) (os : List RplOption) → options_up_to k bs ≡ some os → join_options os ≡ bs
unfolding options_up_to join_options
joined_up_to zero [] os e = let q : os ≡ [] = cc in rw q
joined_up_to zero (b ∷ bs) os e = absurd (none-ne-some os e)
joined_up_to (suc k) [] os e = let q : os ≡ [] = cc in rw q
joined_up_to (suc k) (zero ∷ bs) os e = go (options_up_to k bs) (joined_up_to k bs) e
  where
    go : (r : Option (List RplOption)) → ((ps : List RplOption) → r ≡ some ps → join_options ps ≡ bs) → leading pad1 r ≡ some os → join_options os ≡ 0 ∷ bs
    go none ih e = absurd (none-ne-some os e)
    go (some ps) ih e = let q : os ≡ pad1 ∷ ps = cc in rw (q, ih ps refl)
joined_up_to (suc k) (suc t ∷ []) os e = absurd (none-ne-some os e)
joined_up_to (suc k) (suc t ∷ n ∷ bs) os e = test (leb n (length bs)) refl (joined_up_to k (drop n bs)) e
  where
    go : n ≤ length bs → (r : Option (List RplOption)) → ((ps : List RplOption) → r ≡ some ps → join_options ps ≡ drop n bs)
        → leading (option t (take n bs)) r ≡ some os → join_options os ≡ suc t ∷ n ∷ bs
    go l none ih e = absurd (none-ne-some os e)
    go l (some ps) ih e = let q : os ≡ option t (take n bs) ∷ ps = cc in rw (q, ih ps refl, length-take-le n bs l, take-append-drop n bs)

    test : (b : Bool) → leb n (length bs) ≡ b → ((ps : List RplOption) → options_up_to k (drop n bs) ≡ some ps → join_options ps ≡ drop n bs)
        → cond b (leading (option t (take n bs)) (options_up_to k (drop n bs))) none ≡ some os → join_options os ≡ suc t ∷ n ∷ bs
    test true h ih e = go (leb-true n (length bs) h) (options_up_to k (drop n bs)) ih e
    test false h ih e = absurd (none-ne-some os e)

pub join_options_lem : (bs : List ℕ) (os : List RplOption) → options bs ≡ some os → join_options os ≡ bs
unfolding options
join_options_lem bs os e = joined_up_to (length bs) bs os e

-- ---- the joined objects

-- what joined objects say that are whole
joined_whole : (r s : Option (List Object)) (os : List Object) → joined r s ≡ some os → (a : List Object) × (b : List Object) × (r ≡ some a) × (s ≡ some b) × (os ≡ a ++ b)
joined_whole none s os e = absurd (none-ne-some os e)
joined_whole (some a) none os e = absurd (none-ne-some os e)
joined_whole (some a) (some b) os e = (a, b, refl, refl, cc)

-- their bytes are the containers' data, joined
concat-join : (ds : List (List ℕ)) (os : List Object) → objects_of ds ≡ some os → join os ≡ concat ds
unfolding objects_of concat join
concat-join [] os e = let q : os ≡ [] = cc in rw q
concat-join (d ∷ ds) os e =
    let (a, b, p, q, s) = joined_whole (split d) (objects_of ds) os e in
    rw (s, join-append a b, join-split d a p, concat-join ds b q)

-- a run that has objects has options
pub run-options : (bs : List ℕ) (os : List Object) → run_objects bs ≡ some os → (run : List RplOption) × (options bs ≡ some run) × (objects_of (containers run) ≡ some os)
run-options bs os e = go (options bs) refl e
  where
    go : (r : Option (List RplOption)) → options bs ≡ r → joined_objects r ≡ some os → (run : List RplOption) × (options bs ≡ some run) × (objects_of (containers run) ≡ some os)
    go none q e = absurd (none-ne-some os e)
    go (some run) q e = (run, q, e)

pub joined_objects_lem : (bs : List ℕ) (os : List Object) → run_objects bs ≡ some os → join os ≡ joined_data bs
joined_objects_lem bs os e = let (run, q, o) = run-options bs os e in rw q (concat-join (containers run) os o)

-- ---- the cut

pub containers_cut : (os : List RplOption) → containers (map cut_option os) ≡ map (λ d. cut_data (split d)) (containers os)
unfolding containers
containers_cut [] = refl
containers_cut (pad1 ∷ os) = containers_cut os
containers_cut (option t d ∷ os) = go (is_container t) (containers_cut os)
  where
    go : (b : Bool) → containers (map cut_option os) ≡ map (λ d. cut_data (split d)) (containers os)
        → keep_if b (cond b (cut_data (split d)) d) (containers (map cut_option os)) ≡ map (λ d. cut_data (split d)) (keep_if b d (containers os))
    go true ih = rw ih
    go false ih = ih

pub objects_of-cut : (ds : List (List ℕ)) (os : List Object) → objects_of ds ≡ some os → objects_of (map (λ d. cut_data (split d)) ds) ≡ some (cut os)
unfolding objects_of cut
objects_of-cut [] os e = let q : os ≡ [] = cc in rw q
objects_of-cut (d ∷ ds) os e = let (a, b, p, q, s) = joined_whole (split d) (objects_of ds) os e in go a b p s (objects_of-cut ds b q)
  where
    go : (a b : List Object) → split d ≡ some a → os ≡ a ++ b → objects_of (map (λ d. cut_data (split d)) ds) ≡ some (cut b)
        → joined (split (cut_data (split d))) (objects_of (map (λ d. cut_data (split d)) ds)) ≡ some (cut os)
    go a b p s ih = rw (p, split-join (cut a), ih, s, cut-append a b)

length-map_cut : (ds : List (List ℕ)) → length (map (λ d. cut_data (split d)) ds) ≡ length ds
length-map_cut [] = refl
length-map_cut (d ∷ ds) = ap suc (length-map_cut ds)

-- what a reading says that gives objects
pub record ReadAs (bs : List ℕ) (os : List Object) : Type 0 where
  pub run : List RplOption
  pub options_are : options bs ≡ some run
  pub few : ninth_container bs ≡ false
  pub objects : run_objects bs ≡ some os
  pub no_bar : first_of object_bar (standings [] os) ≡ 0

read_as_objects : (n p : ℕ) (ts os : List Object) → read_as n p ts ≡ well_formed os → (n ≡ 0) × (ts ≡ os)
read_as_objects zero p ts os e = (refl, cc)
read_as_objects (suc n) p ts os e = (cc, cc)

read_objects_lem : (r : Option (List Object)) (os : List Object) → read_objects r ≡ well_formed os → (r ≡ some os) × (first_of object_bar (standings [] os) ≡ 0)
read_objects_lem none os e = (cc, cc)
read_objects_lem (some ts) os e = let (z, s) = read_as_objects (first_of object_bar (standings [] ts)) _ ts os e in (cc, rw (← s) z)

pub run_objects_lem : (bs : List ℕ) (os : List Object) → read_run bs ≡ well_formed os → ReadAs bs os
unfolding read_run
run_objects_lem bs os e = go (options bs) refl (ninth_container bs) refl e
  where
    go : (r : Option (List RplOption)) → options bs ≡ r → (b : Bool) → ninth_container bs ≡ b
        → cond (is_none r) (refused 22 no_place) (cond b (refused 23 no_place) (read_objects (run_objects bs))) ≡ well_formed os → ReadAs bs os
    go none q b f e = record { run = []; options_are = cc; few = cc; objects = cc; no_bar = cc }
    go (some run) q true f e = record { run = run; options_are = q; few = cc; objects = cc; no_bar = cc }
    go (some run) q false f e = let (s, z) = read_objects_lem (run_objects bs) os e in record { run = run; options_are = q; few = f; objects = s; no_bar = z }

-- a run whose options are whole
pub reading_options : (run : List RplOption) (os : List Object) → ltb 8 (length (containers run)) ≡ false → objects_of (containers run) ≡ some os → first_of object_bar (standings [] os) ≡ 0
    → read_run (join_options run) ≡ well_formed os
unfolding read_run
reading_options run os f e z = rw (options_join run, f, e, z)

-- a well-formed run, cut, is well-formed and holds the cut objects
pub run_cut : (bs : List ℕ) (os : List Object) → read_run bs ≡ well_formed os → read_run (cut_run bs) ≡ well_formed (cut os)
unfolding cut_run cut
run_cut bs os e =
    let r = run_objects_lem bs os e in
    go r.run r.options_are r.few r.objects r.no_bar
  where
    go : (run : List RplOption) → options bs ≡ some run → ninth_container bs ≡ false → run_objects bs ≡ some os → first_of object_bar (standings [] os) ≡ 0 → read_run (cut_run bs) ≡ well_formed (cut os)
    go run q few objects z =
        let f : ltb 8 (length (containers run)) ≡ false = rw q at few in
        let o : objects_of (containers run) ≡ some os = rw q at objects in
        rw q (reading_options (map cut_option run) (cut os) (rw (containers_cut run, length-map_cut (containers run)) f) (rw (containers_cut run) (objects_of-cut (containers run) os o)) (object_bars_cut [] os z))

-- ---- a run that is one container

pub joined_nil : (r : Option (List Object)) → joined r (some []) ≡ r
joined_nil none = refl
joined_nil (some os) = ap some (append-nil os)

pub framed_options : (bs : List ℕ) → misframed bs ≡ false → options bs ≡ some (option 1 (drop 2 bs) ∷ [])
unfolding options options_up_to
framed_options bs e = ap options (framed bs e) ∙ go (drop 2 bs)
  where
    go : (ds : List ℕ) → options (2 ∷ length ds ∷ ds) ≡ some (option 1 ds ∷ [])
    go ds = options_step 1 (length ds) ds ∙ rw (le-leb (length ds) (length ds) (omega arith), take-length ds, drop-length ds)

-- its objects are those of its data
pub framed_run : (bs : List ℕ) → misframed bs ≡ false → run_objects bs ≡ data_objects bs
unfolding containers objects_of
framed_run bs e = rw (framed_options bs e) (joined_nil (data_objects bs))

-- it has neither bar 22 nor 23
pub framed_clear : (bs : List ℕ) → misframed bs ≡ false → (option_cut bs ≡ false) × (ninth_container bs ≡ false)
unfolding containers
framed_clear bs e = rw (framed_options bs e) (refl, refl)

pub one_container : OneContainer
unfolding read_run reading
one_container bs e = let (a, b) = framed_clear bs e in rw (a, b, e, framed_run bs e)

-- ---- how many objects a run has

-- a container's length is a byte
short_data : (os : List RplOption) → ((i : ℕ) → get_or (join_options os) i 0 ≤ 255) → length (concat (containers os)) ≤ 255 * length (containers os)
unfolding join_options containers concat
short_data [] h = omega arith
short_data (pad1 ∷ os) h = short_data os (λ i. h (suc i))
short_data (option t d ∷ os) h = go (is_container t) (h 1) (short_data os (λ i. rw behind (h (suc (suc (length d + i))))))
  where
    behind : (i : ℕ) → get_or (join_options os) i 0 ≡ get_or (d ++ join_options os) (length d + i) 0
    behind i = rw (← get_or-drop (length d) (d ++ join_options os) i 0, drop-append_seam d (join_options os))

    go : (b : Bool) → length d ≤ 255 → length (concat (containers os)) ≤ 255 * length (containers os)
        → length (concat (keep_if b d (containers os))) ≤ 255 * length (keep_if b d (containers os))
    go true l ih = rw length-append (omega arith)
    go false l ih = ih

-- eight containers of 255 bytes have few objects
pub few_objects : (bs : List ℕ) (os : List Object) → ((i : ℕ) → get_or bs i 0 ≤ 255) → ninth_container bs ≡ false → run_objects bs ≡ some os → length os ≤ 510
few_objects bs os h f e =
    let (run, q, o) = run-options bs os e in
    let few : length (containers run) ≤ 8 = ltb-false 8 (length (containers run)) (rw q at f) in
    let bytes : (i : ℕ) → get_or (join_options run) i 0 ≤ 255 = rw (join_options_lem bs run q) h in
    omega (arith, join_four os, ap length (concat-join (containers run) os o), short_data run bytes)
