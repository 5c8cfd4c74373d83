-- Demand 2, recorded LQL and colours: the link's value is counted among the sub-objects, the same way in both, and no counter wraps.
use Rattle.std.specs.Prelude.{◌≡◌, ℕ, ◌+◌, ◌*◌, ◌/◌, ◌%◌, ◌≤◌, ◌<◌, List, [], ◌∷◌, ◌++◌, ◌⊎◌, length, get_or, drop, set}
use Rattle.std.proofs.Math.Option.{some}
use Rattle.std.proofs.Math.ListN.{get_elem?}
use Rattle.model.specs.declared.Own.{Own}
use Rattle.model.specs.declared.Neighbour.{Neighbour}
use Rattle.model.specs.Object.{Object, recorded, role}
use Rattle.model.specs.Reading.{well_formed}
use Rattle.model.specs.Run.{read_run}
use Rattle.model.specs.Update.{update_object}

-- a sub-object that counts links of one value
pub record Counter : Type 0 where
  pub value : ℕ
  pub count : ℕ

-- a sub-object from its parts
abbrev pub counter : (value count : ℕ) → Counter
counter v n = record { value = v; count = n }

-- the sub-objects of LQL: Val in 3 bits, the counter in 5
abbrev pub levels : List ℕ → List Counter
levels [] = []
levels (x ∷ t) = counter (x / 32) (x % 32) ∷ levels t

-- the sub-objects of colour: the colour in 10 bits, the counter in 6
abbrev pub colours : List ℕ → List Counter
colours [] = []
colours (x ∷ []) = []
colours (x ∷ y ∷ t) = counter (x * 4 + y / 64) (y % 64) ∷ colours t

-- the first sub-object of this value whose counter is below `full` gains one, and all others are as they were
pub record Gains (full value : ℕ) (received sent : List Counter) : Type 0 where
  pub index : ℕ
  pub count : ℕ
  pub stands : get_elem? received index ≡ some (counter value count)
  pub room : count < full
  pub first : (i n : ℕ) → i < index → get_elem? received i ≡ some (counter value n) → full ≤ n
  pub gained : sent ≡ set received index (counter value (count + 1))

-- there is none, and this value with counter 1 stands behind the others
pub record Opens (full value : ℕ) (received sent : List Counter) : Type 0 where
  pub no_room : (i n : ℕ) → get_elem? received i ≡ some (counter value n) → full ≤ n
  pub opened : sent ≡ received ++ (counter value 1 ∷ [])

-- a recorded body of such sub-objects behind a reserved byte, as received and as sent
pub record Counts (full value : ℕ) (subs : List ℕ → List Counter) (received sent : List ℕ) : Type 0 where
  pub reserved : get_or sent 0 0 ≡ 0
  pub counted : Gains full value (subs (drop 1 received)) (subs (drop 1 sent)) ⊎ Opens full value (subs (drop 1 received)) (subs (drop 1 sent))

-- recorded LQL (type 6): the link's level is counted, up to 31
abbrev pub CountsLevel : Type 0
CountsLevel = (own : Own) (c : Neighbour) (o : Object) → o.type ≡ 6 → role o ≡ recorded → 2 ≤ length o.body
    → Counts 31 c.lql levels o.body (update_object own c o).body

-- recorded colours (type 8): the link's colour is counted, up to 63, among whole sub-objects
abbrev pub CountsColour : Type 0
CountsColour = (own : Own) (c : Neighbour) (o : Object) → o.type ≡ 8 → role o ≡ recorded → length o.body % 2 ≡ 1
    → Counts 63 c.colour colours o.body (update_object own c o).body × (length (update_object own c o).body % 2 ≡ 1)

-- in a well-formed container a recorded LQL has two bytes or more, and recorded colours an odd number of three or more, as those ask
abbrev pub RecordsWhole : Type 0
RecordsWhole = (bs : List ℕ) (os : List Object) (i : ℕ) (o : Object) → read_run bs ≡ well_formed os → get_elem? os i ≡ some o → role o ≡ recorded
    → (o.type ≡ 6 → 2 ≤ length o.body) × (o.type ≡ 8 → (3 ≤ length o.body) × (length o.body % 2 ≡ 1))
