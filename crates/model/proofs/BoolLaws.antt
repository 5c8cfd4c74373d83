-- Laws of `&&` and `||`.
use mathlib.Core.Path.{◌≡◌, refl}
use mathlib.Core.Bool.{Bool, true, false, ◌&&◌, ◌||◌, false≢true, true≢false}

pub both : (a b : Bool) → a && b ≡ true → (a ≡ true) × (b ≡ true)
both true b e = (refl, e)
both false b e = absurd (false≢true e)

pub neither : (a b : Bool) → a || b ≡ false → (a ≡ false) × (b ≡ false)
neither true b e = absurd (true≢false e)
neither false b e = (refl, e)

-- `f ≡ g || s`, with `a` put before both sides, before `f` and `s`, or behind `f` and `g`
pub or_left : (a f g s : Bool) → f ≡ g || s → a || f ≡ a || g || s
or_left true f g s e = refl
or_left false f g s e = e

pub or_middle : (a f g s : Bool) → f ≡ g || s → a || f ≡ g || (a || s)
or_middle true f true s e = refl
or_middle true f false s e = refl
or_middle false f g s e = e

pub or_right : (a f g s : Bool) → f ≡ g || s → f || a ≡ g || a || s
or_right a f true s e = rw e
or_right true true false s e = refl
or_right false true false s e = e
or_right true false false s e = refl
or_right false false false s e = e
