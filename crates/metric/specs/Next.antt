-- Parts of the model's update by kind, as the functions of the crate give them.
use Rattle.std.specs.Prelude.{ℕ, ◌/◌, ◌%◌, Bool, cond, not, ◌&&◌, ◌||◌, ltb, eqb, List, get_or}
use Rattle.model.specs.Number.{Quantity}
use Rattle.std.specs.Prelude.{None}
use Rattle.model.specs.declared.Own.{Own}
use Rattle.model.specs.declared.Neighbour.{Neighbour}
use Rattle.model.specs.Number.{is_unknown}
use Rattle.model.specs.Object.{Kind, unknown, lql, colour, node, scalar, known, is_hp}
use Rattle.model.specs.Constraint.{link_value}
use Rattle.model.specs.Table.{allowed}
use Rattle.model.specs.Update.{local_value, clear0, clear1, combine1, no_energy, is_beyond}

-- the link's value of a metric that is one number; of others there is none
abbrev pub link_of : Neighbour → Kind → Quantity
link_of c unknown = None
link_of c lql = None
link_of c colour = None
link_of c (node n) = None
link_of c (scalar s) = link_value c s

-- byte 0 of a constraint's body, or of an aggregated node metric's
abbrev pub clear_first : Kind → ℕ → ℕ
clear_first unknown x = x
clear_first lql x = 0
clear_first colour x = 0
clear_first (node n) x = clear0 n x
clear_first (scalar s) x = x

-- byte 1 of a constraint's body
abbrev pub clear_second : Kind → ℕ → ℕ
clear_second unknown y = y
clear_second lql y = y
clear_second colour y = y
clear_second (node n) y = clear1 n y
clear_second (scalar s) y = y

-- byte 1 of an aggregated node metric's body
abbrev pub combine_second : Kind → (a v y : ℕ) → ℕ
combine_second unknown a v y = y
combine_second lql a v y = y
combine_second colour a v y = y
combine_second (node n) a v y = combine1 n a v y
combine_second (scalar s) a v y = y

-- a sub-object of LQL that gains the hop's count: the link's Val, and a counter below 31
abbrev pub counts_in : (val sub : ℕ) → Bool
counts_in v x = eqb (x / 32) v && ltb (x % 32) 31

-- an HP count of 255
abbrev pub full_in : Kind → List ℕ → Bool
full_in k b = is_hp k && eqb (get_or b 1 0) 255

-- 36 for a sum (A=0) that is beyond its field
abbrev pub over_in : Neighbour → Kind → (a : ℕ) → List ℕ → ℕ
over_in c k a b = cond (eqb a 0 && is_beyond c k b) 36 0

-- 33, 34 and 36 at an aggregated metric
abbrev pub valued_leaf : Own → Neighbour → Kind → (a : ℕ) → List ℕ → ℕ
valued_leaf own c k a b = cond (is_unknown (local_value own c k) || no_energy k b) 33 (cond (full_in k b) 34 (over_in c k a b))

-- 31 to 34 and 36 at an aggregated metric
abbrev pub aggregated_leaf : Own → Neighbour → Kind → (a : ℕ) → List ℕ → ℕ
aggregated_leaf own c k a b = cond (not (known k)) 31 (cond (not (allowed k a)) 32 (valued_leaf own c k a b))
