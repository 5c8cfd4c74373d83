-- The role of an object by the tests of code.
use mathlib.Core.Path.{◌≡◌, refl, sym, ◌∙◌}
use Prim.Native.Nat.{ℕ}
use mathlib.Core.Bool.{Bool, true, false}
use Rattle.model.specs.Object.{Role, constraint, recorded, aggregated, role_of, is_constraint, is_recorded}
use Rattle.model.specs.Update.{next_mode}

by_constraint : (r : Role) → is_constraint r ≡ true → r ≡ constraint
by_constraint constraint e = refl
by_constraint recorded e = cc
by_constraint aggregated e = cc

by_recorded : (r : Role) → is_recorded r ≡ true → r ≡ recorded
by_recorded constraint e = cc
by_recorded recorded e = refl
by_recorded aggregated e = cc

by_neither : (r : Role) → is_constraint r ≡ false → is_recorded r ≡ false → r ≡ aggregated
by_neither constraint e f = cc
by_neither recorded e f = cc
by_neither aggregated e f = refl

-- the answers of the two tests: a constraint, a recorded metric, or an aggregated one
pub as_constraint : {b : Bool} (f m : ℕ) → b ≡ is_constraint (role_of f m) → b ≡ true → role_of f m ≡ constraint
as_constraint f m e t = by_constraint (role_of f m) (sym e ∙ t)

pub as_recorded : {b : Bool} (f m : ℕ) → b ≡ is_recorded (role_of f m) → b ≡ true → role_of f m ≡ recorded
as_recorded f m e t = by_recorded (role_of f m) (sym e ∙ t)

pub as_aggregated : {a b : Bool} (f m : ℕ) → a ≡ is_constraint (role_of f m) → b ≡ is_recorded (role_of f m) → a ≡ false → b ≡ false → role_of f m ≡ aggregated
as_aggregated f m d e s t = by_neither (role_of f m) (sym d ∙ s) (sym e ∙ t)

-- a metric keeps byte 2
pub metric_mode : {b : Bool} (f m : ℕ) → b ≡ is_constraint (role_of f m) → b ≡ false → m ≡ next_mode (role_of f m) m
metric_mode f m e t = go (role_of f m) (sym e ∙ t)
  where
    go : (r : Role) → is_constraint r ≡ false → m ≡ next_mode r m
    go constraint e = cc
    go recorded e = refl
    go aggregated e = refl
