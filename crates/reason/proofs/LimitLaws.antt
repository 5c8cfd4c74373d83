-- Latency and ETX: what is told by a bit and a value, as by what is known.
use mathlib.Core.Path.{◌≡◌, refl}
use Prim.Native.Nat.{ℕ}
use mathlib.Core.Bool.{Bool, true, false}
use Rattle.model.specs.Number.{is_set, known_if}
use Rattle.reason.specs.Finding.{limit_finding}
use Rattle.reason.specs.Told.{limit_told}

pub limit_by : (way received limit bit value : ℕ) → limit_told way received limit (known_if bit value) ≡ limit_finding way received limit bit value
unfolding limit_finding
limit_by w r limit b v = go (is_set b) refl
  where
    go : (t : Bool) → is_set b ≡ t → limit_told w r limit (known_if b v) ≡ limit_finding w r limit b v
    go true e = rw e refl
    go false e = rw e refl
