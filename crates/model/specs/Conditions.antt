-- The conditions of bars 11, 12, 22, 23 and 14 to 21, gathered in the order of documents 01 and 02.
use Rattle.std.specs.Prelude.{ℕ, Bool, not, List, [], ◌∷◌, ◌++◌}
use Rattle.std.proofs.Math.Option.{Option, none, some}
use Rattle.model.specs.declared.Summary.{Summary}
use Rattle.model.specs.declared.Own.{Own}
use Rattle.model.specs.declared.Neighbour.{Neighbour}
use Rattle.model.specs.declared.Candidate.{Candidate}
use Rattle.model.specs.Number.{any_of}
use Rattle.model.specs.Object.{Object, Standing, standings}
use Rattle.model.specs.Reading.{data_objects, malformed, repeated, misused}
use Rattle.model.specs.Run.{run_objects, option_cut, ninth_container, object_cut}
use Rattle.model.specs.Constraint.{summary, unknown_mandatory, unmet}
use Rattle.model.specs.Rank.{rank_too_high, above_lowest}
use Rattle.model.specs.Verdict.{bad_numbers, run_of, outside}

-- some element of a list has one of several properties
abbrev pub some_has {ℓ} : {A : Type ℓ} → List (A → Bool) → List A → Bool
some_has ts xs = any_of (λ x. any_of (λ t. t x) ts) xs

-- the list that is there, or none
abbrev pub list_of : Option (List Object) → List Object
list_of none = []
list_of (some os) = os

-- the joined objects of a run; none where an option or an object is cut short
abbrev pub objects_in : List ℕ → List Object
objects_in bs = list_of (run_objects bs)

-- the objects of one container by itself
abbrev pub container_objects : List ℕ → List Object
container_objects bs = list_of (data_objects bs)

-- the conditions at an object: bars 15 to 17
abbrev pub object_bars : List (Standing → Bool)
object_bars = malformed ∷ repeated ∷ misused ∷ []

-- the conditions at an object: bars 18 and 19
abbrev pub constraint_bars : Neighbour → Summary → List (Object → Bool)
constraint_bars c s = unknown_mandatory ∷ unmet c s ∷ []

-- the conditions of bars 11, 12, 22, 23 and 14, in document 02's order
abbrev pub bars_to_14 : Own → (lent : List ℕ) → Candidate → List Bool
bars_to_14 own lent c = bad_numbers own c.neighbour ∷ outside lent c ∷ option_cut (run_of lent c) ∷ ninth_container (run_of lent c) ∷ object_cut (run_of lent c) ∷ []

-- the conditions of bars 11 to 17
abbrev pub bars_to_17 : Own → (lent : List ℕ) → Candidate → List Bool
bars_to_17 own lent c = bars_to_14 own lent c ++ (some_has object_bars (standings [] (objects_in (run_of lent c))) ∷ [])

-- the conditions of bars 11 to 19
abbrev pub bars_to_19 : Own → (lent : List ℕ) → Candidate → List Bool
bars_to_19 own lent c =
    bars_to_17 own lent c ++ (some_has (constraint_bars c.neighbour (summary (objects_in (run_of lent c)))) (objects_in (run_of lent c)) ∷ [])

-- the conditions of all bars
abbrev pub bars_to_21 : Own → (lent : List ℕ) → Candidate → List Bool
bars_to_21 own lent c = bars_to_19 own lent c ++ (rank_too_high own c.neighbour ∷ above_lowest own c.neighbour ∷ [])

-- a candidate that no condition of a bar holds of
abbrev pub barred_by_nothing : Own → (lent : List ℕ) → Candidate → Bool
barred_by_nothing own lent c = not (any_of (λ b. b) (bars_to_21 own lent c))
