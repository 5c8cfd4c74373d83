-- Inside the crate: objects by containers, before a byte is written.
use Rattle.std.specs.Prelude.{◌≡◌, ℕ, ◌*◌, ◌≤◌, List, ◌++◌, map, ltb, length}
use Rattle.model.specs.declared.Own.{Own}
use Rattle.model.specs.declared.Neighbour.{Neighbour}
use Rattle.model.specs.Number.{first_of}
use Rattle.model.specs.Object.{Object, join}
use Rattle.model.specs.Run.{join_options}
use Rattle.model.specs.Pack.{pack_from, pack, container_option, unpackable}
use Rattle.model.specs.Update.{update, object_leaf}
use Rattle.hop.specs.declared.plan.Filled.{Filled}
use Rattle.hop.specs.declared.plan.Planned.{Planned}
use Rattle.metric.specs.Leaf.{leaf_number}

-- the bytes of containers
abbrev pub bytes_in : List (List Object) → List ℕ
bytes_in gs = join_options (map container_option gs)

-- numbers that can be counted on with, whatever the objects
pub record Small (f : Filled) : Type 0 where
  pub few : f.closed ≤ 7
  pub room : f.fill ≤ 256
  pub short : f.frame ≤ 257 * f.closed

-- objects packed: the containers that are closed and the objects that the open one holds, whatever comes behind; their numbers
pub record Packs (f : Filled) (os : List Object) : Type 0 where
  pub groups : List (List Object)
  pub held : List Object
  pub so_far : (rest : List Object) → pack (os ++ rest) ≡ groups ++ pack_from held rest
  pub closed : f.closed ≡ length groups
  pub frame : f.frame ≡ length (bytes_in groups)
  pub fill : f.fill ≡ length (join held)

-- whether there is no room for objects, and their packing if there is
pub record Fills (f : Filled) (os : List Object) : Type 0 where
  pub over : ltb 255 f.fill ≡ unpackable os
  pub packs : f.fill ≤ 255 → Packs f os

-- the first of 31 to 34 and 36 among objects, and their packing for the next hop
pub record Plans (own : Own) (c : Neighbour) (p : Planned) (es : List Object) : Type 0 where
  pub leaf : leaf_number p.leaf ≡ first_of (object_leaf own c) es
  pub fills : Fills p.filled (update own c es)
