-- Document 01's cut: the objects of a container without those of unknown type, and without TLVs.
use Rattle.std.specs.Prelude.{ℕ, Bool, true, false, cond, ◌&&◌, List, [], ◌∷◌, take, leb}
use Rattle.std.proofs.Math.Option.{Option, none, some}
use Rattle.model.specs.Object.{Object, object, join, known, kind, Role, constraint, recorded, aggregated, role}

-- the types that can have TLVs: 1 (NSA), 2 (NE) and 3 (HP), by number and not by the table
abbrev pub may_have_tlvs : (type : ℕ) → Bool
may_have_tlvs t = leb 1 t && leb t 3

-- NSA, NE and HP, as constraint or aggregated, keep the first two body bytes; every other body stays whole
abbrev pub cut_body : Role → (tlvs : Bool) → List ℕ → List ℕ
cut_body constraint t b = cond t (take 2 b) b
cut_body recorded t b = b
cut_body aggregated t b = cond t (take 2 b) b

-- an object with its body cut
abbrev pub cut_object : Object → Object
cut_object o = object o.type o.flags o.mode (cut_body (role o) (may_have_tlvs o.type) o.body)

-- an element that is kept or dropped
abbrev pub keep_if {ℓ} : {A : Type ℓ} → Bool → A → List A → List A
keep_if true x xs = x ∷ xs
keep_if false x xs = xs

-- an object of unknown type is dropped, header and body
unfoldable pub cut : List Object → List Object
cut [] = []
cut (o ∷ os) = keep_if (known (kind o)) (cut_object o) (cut os)

-- the data of the objects that are left
abbrev pub cut_data : Option (List Object) → List ℕ
cut_data none = []
cut_data (some os) = join (cut os)
