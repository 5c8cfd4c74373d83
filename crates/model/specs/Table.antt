-- Document 01's table: a row for each type.
use Rattle.std.specs.Prelude.{ℕ, Bool, true, false, List, [], ◌∷◌, eqb}
use Rattle.model.specs.Number.{any_of}
use Rattle.model.specs.Object.{Kind, unknown, lql, colour, node, scalar, nsa, ne, hp, throughput, latency, etx}

-- a row of the table
pub record Row : Type 0 where
  -- the fixed bytes of a constraint or an aggregated metric, and whether TLVs follow them
  pub base : ℕ
  pub tlvs : Bool
  -- whether the metric can be recorded; then the bytes before its sub-objects, and the size of a sub-object
  pub records : Bool
  pub lead : ℕ
  pub size : ℕ
  -- the A that an aggregated metric may have
  pub allows : List ℕ

-- a row from its columns
abbrev pub row_with : (base : ℕ) (tlvs records : Bool) (lead size : ℕ) → List ℕ → Row
row_with b t r l s a = record { base = b; tlvs = t; records = r; lead = l; size = s; allows = a }

-- the table; a type that is not known has an empty row, which nothing asks for
abbrev pub row : Kind → Row
row unknown = row_with 0 false false 0 0 []
row (node nsa) = row_with 2 true false 0 0 (1 ∷ 2 ∷ [])
row (node ne) = row_with 2 true true 0 2 (1 ∷ 2 ∷ [])
row (node hp) = row_with 2 true false 0 0 (0 ∷ [])
row (scalar throughput) = row_with 4 false true 0 4 (0 ∷ 1 ∷ 2 ∷ [])
row (scalar latency) = row_with 4 false true 0 4 (0 ∷ 1 ∷ 2 ∷ [])
row lql = row_with 2 false true 1 1 []
row colour = row_with 3 false true 1 2 []
row (scalar etx) = row_with 2 false true 0 2 (0 ∷ 1 ∷ 2 ∷ [])

-- an A that the type's row allows
abbrev pub allowed : Kind → (a : ℕ) → Bool
allowed k a = any_of (eqb a) (row k).allows
