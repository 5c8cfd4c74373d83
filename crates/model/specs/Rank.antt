-- The resulting rank (RFC 6552, section 4.1), and bars 20 and 21.
use Rattle.std.specs.Prelude.{ℕ, ◌+◌, ◌*◌, ◌/◌, ◌%◌, Bool, not, ◌&&◌, ◌||◌, leb, ltb, eqb}
use Rattle.model.specs.Number.{Quantity}
use Rattle.model.specs.declared.Rank.{Rank}
use Rattle.model.specs.declared.Units.{Units}
use Rattle.model.specs.declared.Own.{Own}
use Rattle.model.specs.declared.Neighbour.{Neighbour}
use Rattle.model.specs.Number.{known_if, satisfies}

-- Rf × Sp + Sr
abbrev pub units_of : Neighbour → Units
units_of c = record { 0 = c.rf * c.sp + c.sr }

-- a rank grown by units of MinHopRankIncrease, in whole numbers
abbrev pub grown : Rank → Units → (minhop : ℕ) → ℕ
grown r u m = r.0 + u.0 * m

-- resulting rank = advertised + (Rf × Sp + Sr) × MinHopRankIncrease, in whole numbers
unfoldable pub resulting : Own → Neighbour → ℕ
resulting own c = grown c.rank (units_of c) own.minhop

-- the infinite rank
abbrev pub infinite : ℕ
infinite = 65535

-- L, the lowest rank already advertised
abbrev pub lowest_of : Own → Quantity
lowest_of own = known_if (own.flags / 8 % 2) own.lowest.0

-- bar 20: advertised rank 65535, or resulting 65535 or more
unfoldable pub rank_too_high : Own → Neighbour → Bool
rank_too_high own c = eqb c.rank.0 infinite || leb infinite (resulting own c)

-- bar 21: L given, DAGMaxRankIncrease not 0, resulting above L + DAGMaxRankIncrease
unfoldable pub above_lowest : Own → Neighbour → Bool
above_lowest own c = not (eqb own.maxincrease 0) && satisfies (λ l. ltb (l + own.maxincrease) (resulting own c)) (lowest_of own)
