-- Objects by containers: a new one is opened only when the next object would pass 255 bytes.
use Rattle.std.specs.Prelude.{ℕ, ◌+◌, Bool, cond, ◌||◌, List, [], ◌∷◌, ◌++◌, map, length, leb, ltb}
use Rattle.model.specs.Number.{any_of}
use Rattle.model.specs.Object.{Object, join, bytes_of}
use Rattle.model.specs.Run.{RplOption, option, join_options}

-- the containers for objects behind those that the open container holds
unfoldable pub pack_from : (held : List Object) → List Object → List (List Object)
pack_from es [] = es ∷ []
pack_from es (o ∷ os) = cond (leb (length (join es) + length (bytes_of o)) 255) (pack_from (es ++ (o ∷ [])) os) (es ∷ pack_from (o ∷ []) os)

-- the containers for objects: one at least
abbrev pub pack : List Object → List (List Object)
pack os = pack_from [] os

-- a container as an option
abbrev pub container_option : List Object → RplOption
container_option os = option 1 (join os)

-- the bytes of the containers for objects
unfoldable pub packed : List Object → List ℕ
packed os = join_options (map container_option (pack os))

-- an object too long for any container
abbrev pub is_overlong : Object → Bool
is_overlong o = ltb 255 (length (bytes_of o))

-- 35: a single object too long, or a ninth container
unfoldable pub unpackable : List Object → Bool
unpackable os = any_of is_overlong os || ltb 8 (length (pack os))
