-- Inside the crate: what stands at an index of a run.
use Rattle.std.specs.Prelude.{◌≡◌, ℕ, ◌+◌, ◌-◌, ◌≤◌, ◌<◌, List, ◌∷◌, length, take, drop, eqb, Result, Ok, Err}
use Rattle.std.proofs.Math.Option.{none}
use Rattle.model.specs.Cut.{keep_if}
use Rattle.model.specs.Run.{RplOption, leading, options, containers}
use Rattle.reason.specs.declared.findings.Finding.{Finding}
use Rattle.reason.specs.declared.findings.Shortfall.{Shortfall}
use Rattle.reason.specs.declared.options.Piece.{Piece}
use Rattle.reason.specs.Finding.{cut_option_from}
use Rattle.reason.specs.Told.{by_number}

-- what is told of the option that is cut short, from an index on
unfoldable pub cut_option_at : List ℕ → (at : ℕ) → Finding
cut_option_at run at = cut_option_from (length (drop at run)) (drop at run) at

-- the data of an option with a length, by its index and the index behind it
abbrev pub data_of : List ℕ → (at end : ℕ) → List ℕ
data_of run at end = take (end - (at + 2)) (drop (at + 2) run)

-- an option of a type that is whole up to an index: it stands before those behind it, and is a container with its data if its type is 2
pub record Passed (run : List ℕ) (at type end : ℕ) : Type 0 where
  pub further : at < end
  pub long : (type ≡ 0 → ⊥) → at + 2 ≤ end
  pub inside : end ≤ length run
  pub told : cut_option_at run at ≡ cut_option_at run end
  pub passed : RplOption
  pub stands : options (drop at run) ≡ leading passed (options (drop end run))
  pub holds : (os : List RplOption) → containers (passed ∷ os) ≡ keep_if (eqb type 2) (data_of run at end) (containers os)

-- an option that is cut short, as is told of it
abbrev pub CutAs : List ℕ → (at : ℕ) → Shortfall → Type 0
CutAs run at s = (options (drop at run) ≡ none) × (cut_option_at run at ≡ by_number s)

-- that; or one that is whole
abbrev pub Stands : List ℕ → (at : ℕ) → Result Piece Shortfall → Type 0
Stands run at (Err s) = CutAs run at s
Stands run at (Ok p) = Passed run at p.kind p.end
