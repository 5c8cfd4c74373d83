-- Runs of options: beside one container, with options that are stepped over, and packed by next-fit.
use Rattle.std.specs.Prelude.{◌≡◌, ℕ, suc, ◌+◌, ◌≤◌, ◌<◌, Bool, false, List, [], ◌∷◌, ◌++◌, map, length, eqb}
use Rattle.std.proofs.Math.Option.{some}
use Rattle.std.proofs.Math.ListN.{get_elem?}
use Rattle.model.specs.declared.Own.{Own}
use Rattle.model.specs.declared.Candidate.{Candidate}
use Rattle.model.specs.Number.{any_of}
use Rattle.model.specs.Object.{Object, split, join, bytes_of, container}
use Rattle.model.specs.Reading.{misframed, well_formed, reading}
use Rattle.model.specs.Run.{RplOption, pad1, option, option_bytes, join_options, read_run}
use Rattle.model.specs.Pack.{packed}
use Rattle.model.specs.Choice.{call}
use Rattle.model.specs.Untouched.{PassedOn, passed_on}

-- a run that is one container reads as that container by itself
abbrev pub OneContainer : Type 0
OneContainer = (bs : List ℕ) → misframed bs ≡ false → read_run bs ≡ reading bs

-- objects that fit one container are written as one
abbrev pub OnePacked : Type 0
OnePacked = (os : List Object) → length (join os) ≤ 255 → packed os ≡ container os

-- an option that is a container: of type 2
abbrev pub is_container_option : RplOption → Bool
is_container_option pad1 = false
is_container_option (option t d) = eqb (suc t) 2

-- a run without a container, an empty one too, reads as one empty container
abbrev pub NoContainer : Type 0
NoContainer = (os : List RplOption) → any_of is_container_option os ≡ false → (read_run (join_options os) ≡ read_run (2 ∷ 0 ∷ [])) × (read_run (join_options os) ≡ well_formed [])

-- an option that is no container changes nothing, whatever stands before it and behind it
abbrev pub Skips : Type 0
Skips = (before : List RplOption) (o : RplOption) (behind : List ℕ) → is_container_option o ≡ false
    → read_run (join_options before ++ (option_bytes o ++ behind)) ≡ read_run (join_options before ++ behind)

-- of two neighbouring containers the second begins with an object that had no room in the first
abbrev pub OpensLate : (first second : List ℕ) → Type 0
OpensLate d e = (o : Object) × (rest : List Object) × (split e ≡ some (o ∷ rest)) × (255 < length d + length (bytes_of o))

-- in the bytes that a call passes on
abbrev pub NextFit : Type 0
NextFit = (own : Own) (cs : List Candidate) (lent out : List ℕ) → PassedOn (call own cs lent out)
    → (ds : List (List ℕ)) → passed_on (call own cs lent out) ≡ join_options (map (option 1) ds)
    → (i : ℕ) (d e : List ℕ) → get_elem? ds i ≡ some d → get_elem? ds (suc i) ≡ some e → OpensLate d e
