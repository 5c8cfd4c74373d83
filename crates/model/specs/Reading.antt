-- Bars 13 to 17: which containers are well-formed.
use Rattle.std.specs.Prelude.{ℕ, zero, suc, ◌+◌, ◌-◌, ◌%◌, Bool, true, false, cond, not, ◌&&◌, ◌||◌, List, [], ◌∷◌, length, drop, get_or, leb, ltb, eqb}
use Rattle.std.proofs.Math.Option.{Option, none, some}
use Rattle.model.specs.Number.{any_of, Case, ◌when◌, first_case, first_of, index_of}
use Rattle.model.specs.Object.{Object, bit_c, split, Standing, standings, known, kind, Role, constraint, recorded, aggregated, role}
use Rattle.model.specs.Table.{Row, row}

-- the place of a bar that is at no object
abbrev pub no_place : ℕ
no_place = 65535

-- bar 13: under 2 bytes, byte 0 not 2, or D not length minus 2
unfoldable pub misframed : List ℕ → Bool
misframed bs = ltb (length bs) 2 || not (eqb (get_or bs 0 0) 2) || not (eqb (get_or bs 1 0) (length bs - 2))

-- the objects of a container's data
abbrev pub data_objects : List ℕ → Option (List Object)
data_objects bs = split (drop 2 bs)

-- nothing is there
abbrev pub is_none {ℓ} : {A : Type ℓ} → Option A → Bool
is_none none = true
is_none (some x) = false

-- bar 14: a header or body runs past the end
abbrev pub runs_past : List ℕ → Bool
runs_past bs = is_none (data_objects bs)

-- no TLV overruns the bytes, and no byte is left over; `limit` bounds the number of TLVs
unfoldable pub tlvs_up_to : (limit : ℕ) → List ℕ → Bool
tlvs_up_to zero [] = true
tlvs_up_to zero (t ∷ bs) = false
tlvs_up_to (suc k) [] = true
tlvs_up_to (suc k) (t ∷ []) = false
tlvs_up_to (suc k) (t ∷ n ∷ bs) = leb n (length bs) && tlvs_up_to k (drop n bs)

-- of bytes, which have no more TLVs than bytes
unfoldable pub tlvs_fit : List ℕ → Bool
unfolding tlvs_up_to
tlvs_fit bs = tlvs_up_to (length bs) bs

-- the fixed body, with TLVs behind it where the type has them
abbrev pub fixed_shape : Row → List ℕ → Bool
fixed_shape r b = cond r.tlvs (leb r.base (length b) && tlvs_fit (drop r.base b)) (eqb (length b) r.base)

-- one sub-object or more
abbrev pub recorded_shape : Row → List ℕ → Bool
recorded_shape r b = leb (r.lead + r.size) (length b) && eqb ((length b - r.lead) % r.size) 0

-- the body is as tabled
abbrev pub shaped : Role → Row → List ℕ → Bool
shaped constraint r b = fixed_shape r b
shaped recorded r b = recorded_shape r b
shaped aggregated r b = fixed_shape r b

-- a list without elements
abbrev pub is_empty : List ℕ → Bool
is_empty [] = true
is_empty (x ∷ xs) = false

-- a metric that its type cannot be: recorded, or aggregated by any A
abbrev pub cannot_be : Role → Row → Bool
cannot_be constraint r = false
cannot_be recorded r = not r.records
cannot_be aggregated r = is_empty r.allows

-- bar 17: metric NSA or HP with R=1, or LQL with R=0
abbrev pub misused : Standing → Bool
misused s = known (kind s.object) && cannot_be (role s.object) (row (kind s.object))

-- bar 15: known type, body not as tabled, or a TLV overruns; not tested where bar 17 holds
abbrev pub malformed : Standing → Bool
malformed s = known (kind s.object) && not (misused s) && not (shaped (role s.object) (row (kind s.object)) s.object.body)

-- the same type with the same C
abbrev pub same_use : Object → Object → Bool
same_use o e = eqb e.type o.type && eqb (bit_c e) (bit_c o)

-- bar 16: known type already seen with this C
abbrev pub repeated : Standing → Bool
repeated s = known (kind s.object) && any_of (same_use s.object) s.earlier

-- bars 15 to 17 at an object
abbrev pub object_cases : Standing → List Case
object_cases s = 15 when malformed s ∷ 16 when repeated s ∷ 17 when misused s ∷ []

-- the lowest of 15, 16 and 17 at an object
unfoldable pub object_bar : Standing → ℕ
object_bar s = first_case (object_cases s)

-- a container that is read: refused by a bar, with the index of its object; or well-formed by itself, with its objects
pub data Reading : Type 0 where
  refused : (number place : ℕ) → Reading
  well_formed : List Object → Reading

-- the first object's bar, if there is one
abbrev pub read_as : (number place : ℕ) → List Object → Reading
read_as zero p os = well_formed os
read_as (suc n) p os = refused (suc n) p

-- objects that are whole, or bar 14
abbrev pub read_objects : Option (List Object) → Reading
read_objects none = refused 14 no_place
read_objects (some os) = read_as (first_of object_bar (standings [] os)) (index_of object_bar (standings [] os)) os

-- bar 13, then 14, then the first object with 15, 16 or 17 (lowest number)
unfoldable pub reading : List ℕ → Reading
reading bs = cond (misframed bs) (refused 13 no_place) (read_objects (data_objects bs))
