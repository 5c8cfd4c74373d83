-- What the two iterators find in a run, as one: the run's joined objects, which are those of the walk by steps and entries. Where these stand: what
-- is in front and what is left are the bytes.
use Rattle.std.specs.Prelude.{◌≡◌, ℕ, cond, List, [], ◌∷◌, ◌++◌, map, drop, None}
use Rattle.std.specs.Iterator.{Yields, YieldsThen}
use Rattle.std.proofs.Math.Option.{Option, none, some}
use denote.Ref.{Bor}
use Rattle.model.specs.Object.{Object, join}
use Rattle.model.specs.Reading.{data_objects}
use Rattle.model.specs.Run.{join_options, joined, run_objects}
use Rattle.wire.specs.declared.objects.Object as walked
use Rattle.wire.specs.declared.objects.Objects.{Objects}
use Rattle.wire.specs.declared.containers.Containers.{Containers}
use Rattle.wire.specs.contracts.objects.ObjectsIterator.TheImpl as objects
use Rattle.wire.specs.contracts.containers.ContainersIterator.TheImpl as containers
use Rattle.wire.specs.Front.{seen, front, left, ends_at, whole}
use Rattle.wire.specs.Options.{options_front, options_left, data_front}
use Rattle.wire.specs.Walk.{walk, run_walk}

-- ---- all calls of `next`, by its own members

-- calls that come to an end have given the whole objects in front, and leave the bytes behind them
abbrev pub ObjectsYield : Type 0
ObjectsYield = (s t : Objects) (os : List walked.Object) → YieldsThen objects.ghosts.next_gives s os None t
    → (map seen os ≡ front s.rest.now) × (t.rest.now ≡ left s.rest.now)

-- and so have they of containers: the data of those among the whole options in front
abbrev pub ContainersYield : Type 0
ContainersYield = (s t : Containers) (ds : List (Bor (List ℕ))) → YieldsThen containers.ghosts.next_gives s ds None t
    → (map (λ d. d.now) ds ≡ data_front s.rest.now) × (t.rest.now ≡ options_left s.rest.now)

-- ---- both as one

-- the objects in front in each of the data, joined; none where something is left in one
unfoldable pub yielded_in : List (List ℕ) → Option (List Object)
yielded_in [] = some []
yielded_in (d ∷ ds) = joined (whole (front d) (left d)) (yielded_in ds)

-- those in the containers in front in a run; none where something is left of the run
unfoldable pub yielded : List ℕ → Option (List Object)
yielded run = cond (ends_at (options_left run)) (yielded_in (data_front run)) none

-- what is yielded behind a frame are the container's objects
abbrev pub DataYields : Type 0
DataYields = (bs : List ℕ) → whole (front (drop 2 bs)) (left (drop 2 bs)) ≡ data_objects bs

-- what is yielded in a run are the run's joined objects
abbrev pub RunYields : Type 0
RunYields = (run : List ℕ) → yielded run ≡ run_objects run

-- in a container and in a run they are the objects that steps and entries find
abbrev pub YieldsAsWalked : Type 0
YieldsAsWalked = (bs : List ℕ) → (whole (front (drop 2 bs)) (left (drop 2 bs)) ≡ walk bs) × (yielded bs ≡ run_walk bs)

-- ---- where it stands

-- the objects in front and what is left are the bytes, so that each object begins where those before it end
abbrev pub FrontBytes : Type 0
FrontBytes = (bs : List ℕ) → join (front bs) ++ left bs ≡ bs

-- so too after any calls of `next`: what they gave and what is left by then
abbrev pub ObjectsStand : Type 0
ObjectsStand = (s t : Objects) (os : List walked.Object) → Yields objects.ghosts.next_gives s os t → join (map seen os) ++ t.rest.now ≡ s.rest.now

-- the options in front, of which some are containers, and what is left are the bytes
abbrev pub OptionsBytes : Type 0
OptionsBytes = (bs : List ℕ) → join_options (options_front bs) ++ options_left bs ≡ bs
