-- Inside the crate: containers being put, each built in the array and copied to the output when it is closed.
use Rattle.std.specs.Prelude.{◌≡◌, ℕ, ◌+◌, ◌≤◌, Bool, false, List, ◌∷◌, ◌++◌, length, get_or}
use Rattle.std.proofs.Math.Option.{some}
use Rattle.model.specs.declared.Own.{Own}
use Rattle.model.specs.declared.Neighbour.{Neighbour}
use Rattle.model.specs.Object.{Object, join, bytes_of}
use Rattle.model.specs.Run.{run_objects}
use Rattle.model.specs.Pack.{pack_from, packed, unpackable}
use Rattle.model.specs.Update.{update, update_object}
use Rattle.wire.specs.Put.{Put}
use Rattle.hop.specs.declared.sending.Place.{Place}
use Rattle.hop.specs.Planned.{bytes_in}

-- the joined objects of a run are whole, and there is room for them for the next hop: in one container where there are not many
pub record Fits (own : Own) (c : Neighbour) (run : List ℕ) (many : Bool) : Type 0 where
  pub objects : List Object
  pub whole : run_objects run ≡ some objects
  pub packs : unpackable (update own c objects) ≡ false
  pub one : many ≡ false → length (packed (update own c objects)) ≤ 257

-- containers being put: bytes of the closed ones are in the output, the objects that the open one holds are in the array behind its
-- frame, which begins with 2; with the objects still to be put they give the whole
pub record Builds (output whole : List ℕ) (place : Place) (left array : List ℕ) (rest : List Object) : Type 0 where
  pub front : List ℕ
  pub held : List Object
  pub gives : whole ≡ front ++ bytes_in (pack_from held rest)
  pub closed : Put output 0 front place.done left
  pub short : length (join held) ≤ 255
  pub before : List ℕ
  pub long : length before ≡ 257
  pub begins : get_or before 0 0 ≡ 2
  pub built : Put before 2 (join held) place.at array

-- containers being put, from one place, output and array to another, where an object has room in the array; one container has it at once
abbrev pub OpensFor : Neighbour → Object → (many : Bool) → (before : Place) → (out array : List ℕ) → (behind : Place) → (left array_left : List ℕ) → Type 0
OpensFor c o many p m a q m' a' =
    (own : Own) (l whole : List ℕ) (rest : List Object) → length (bytes_of (update_object own c o)) ≤ 255 → (many ≡ false → length whole ≤ 257)
    → Builds l whole p m a (update_object own c o ∷ rest) → Builds l whole q m' a' (update_object own c o ∷ rest) × (q.at + length (bytes_of (update_object own c o)) ≤ 257)
