-- A run of RPL options (RFC 6550, section 6.7), and the containers in it.
use Rattle.std.specs.Prelude.{ℕ, zero, suc, Bool, cond, List, [], ◌∷◌, ◌++◌, map, length, take, drop, leb, ltb, eqb}
use Rattle.std.proofs.Math.Option.{Option, none, some}
use Rattle.model.specs.Object.{Object, split}
use Rattle.model.specs.Reading.{no_place, Reading, refused, read_objects, is_none}
use Rattle.model.specs.Cut.{keep_if, cut_data}

-- an option: Pad1, a single byte 0; or one of type t + 1 with its data, whose length is a byte before them
pub data RplOption : Type 0 where
  pad1 : RplOption
  option : (t : ℕ) → List ℕ → RplOption

-- the bytes of an option
abbrev pub option_bytes : RplOption → List ℕ
option_bytes pad1 = 0 ∷ []
option_bytes (option t d) = suc t ∷ length d ∷ d

-- options end to end
unfoldable pub join_options : List RplOption → List ℕ
join_options [] = []
join_options (o ∷ os) = option_bytes o ++ join_options os

-- an option before those of the rest, if the rest has its options whole
abbrev pub leading : RplOption → Option (List RplOption) → Option (List RplOption)
leading o none = none
leading o (some os) = some (o ∷ os)

-- the options that stand end to end in a run; none where one is cut short at its end. `limit` bounds their number
unfoldable pub options_up_to : (limit : ℕ) → List ℕ → Option (List RplOption)
options_up_to zero [] = some []
options_up_to zero (b ∷ bs) = none
options_up_to (suc k) [] = some []
options_up_to (suc k) (zero ∷ bs) = leading pad1 (options_up_to k bs)
options_up_to (suc k) (suc t ∷ []) = none
options_up_to (suc k) (suc t ∷ n ∷ bs) = cond (leb n (length bs)) (leading (option t (take n bs)) (options_up_to k (drop n bs))) none

-- the options of a run, which has no more options than bytes
unfoldable pub options : List ℕ → Option (List RplOption)
unfolding options_up_to
options bs = options_up_to (length bs) bs

-- type 2, the DAG Metric Container
abbrev pub is_container : (t : ℕ) → Bool
is_container t = eqb t 1

-- the data of every type 2 option, in order
unfoldable pub containers : List RplOption → List (List ℕ)
containers [] = []
containers (pad1 ∷ os) = containers os
containers (option t d ∷ os) = keep_if (is_container t) d (containers os)

-- data end to end
unfoldable pub concat : List (List ℕ) → List ℕ
concat [] = []
concat (d ∷ ds) = d ++ concat ds

-- objects before others, if both are whole
abbrev pub joined : Option (List Object) → Option (List Object) → Option (List Object)
joined none r = none
joined (some os) none = none
joined (some os) (some ps) = some (os ++ ps)

-- the objects of containers, joined: none where a header or body runs past the end of its container
unfoldable pub objects_of : List (List ℕ) → Option (List Object)
objects_of [] = some []
objects_of (d ∷ ds) = joined (split d) (objects_of ds)

-- the options that are there
abbrev pub options_in : Option (List RplOption) → List RplOption
options_in none = []
options_in (some os) = os

-- the data of a run's containers
abbrev pub containers_in : List ℕ → List (List ℕ)
containers_in bs = containers (options_in (options bs))

-- the joined objects of options that are whole
abbrev pub joined_objects : Option (List RplOption) → Option (List Object)
joined_objects none = none
joined_objects (some os) = objects_of (containers os)

-- the joined objects of a run; none where an option is cut short, or an object
abbrev pub run_objects : List ℕ → Option (List Object)
run_objects bs = joined_objects (options bs)

-- bar 22: an option cut short at the end
abbrev pub option_cut : List ℕ → Bool
option_cut bs = is_none (options bs)

-- bar 23: a ninth container
abbrev pub ninth_container : List ℕ → Bool
ninth_container bs = ltb 8 (length (containers_in bs))

-- bar 14: a header or body runs past the end of its container
abbrev pub object_cut : List ℕ → Bool
object_cut bs = is_none (run_objects bs)

-- bar 22, then 23, then 14, then the first object with 15, 16 or 17 (lowest number)
unfoldable pub read_run : List ℕ → Reading
read_run bs = cond (option_cut bs) (refused 22 no_place) (cond (ninth_container bs) (refused 23 no_place) (read_objects (run_objects bs)))

-- each type 2 option is cut by itself, the others stay
abbrev pub cut_option : RplOption → RplOption
cut_option pad1 = pad1
cut_option (option t d) = option t (cond (is_container t) (cut_data (split d)) d)

-- a run, cut
unfoldable pub cut_run : List ℕ → List ℕ
cut_run bs = join_options (map cut_option (options_in (options bs)))

-- the data of all containers of a run, joined
abbrev pub joined_data : List ℕ → List ℕ
joined_data bs = concat (containers_in bs)
