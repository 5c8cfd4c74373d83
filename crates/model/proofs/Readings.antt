-- Reading a container by itself: bars 13 to 17 exactly when document 01 says.
use mathlib.Core.Path.{◌≡◌, refl, sym, ap, ◌∙◌}
use Prim.Native.Nat.{ℕ, zero, suc}
use native.Mathlib.Omega.{arith}
use mathlib.Core.Bool.{Bool, true, false, cond, false≢true, true≢false}
use mathlib.Core.List.{List, [], ◌∷◌, map}
use mathlib.Core.Logic.{◌↔◌}
use mathlib.Core.Option.{Option, none, some}
use Rattle.model.specs.Number.{any_of, Case, ◌when◌, first_case, first_of, index_of}
use Rattle.model.specs.Object.{Object, Standing, standings}
use Rattle.model.specs.Reading.{object_cases, no_place, misframed, data_objects, is_none, runs_past, malformed, repeated, misused, object_bar, Reading, refused, well_formed, read_as, read_objects, reading}
use Rattle.model.specs.Exact.{NoneOf, FirstToHold, ReadingAt, ReadingExact, ReadingsExact}
use Rattle.model.proofs.BoolLaws.{neither}
use Rattle.model.proofs.NumberLaws.{exact, exact_none, given_case, is_given, given_none, first_of_all, given_first_of, first_with}
use Rattle.model.specs.Conditions.{some_has, list_of, container_objects, object_bars}
use lib.Dec.{eqb}

-- ---- numbers that a group of cases gives

-- 0, or one of three numbers
pub data Numbers (x y z : ℕ) : ℕ → Type 0 where
  nothing : Numbers x y z 0
  one : Numbers x y z x
  two : Numbers x y z y
  three : Numbers x y z z

pub two_cases : (x y : ℕ) (a b : Bool) → Numbers x y y (first_case (x when a ∷ y when b ∷ []))
two_cases x y true b = one
two_cases x y false true = two
two_cases x y false false = nothing

three_cases : (x y z : ℕ) (a b c : Bool) → Numbers x y z (first_case (x when a ∷ y when b ∷ z when c ∷ []))
three_cases x y z true b c = one
three_cases x y z false true c = two
three_cases x y z false false true = three
three_cases x y z false false false = nothing

-- ---- bars 15 to 17 at an object

-- each of 15, 16 and 17 at an object, and none of them
pub object_15 : (s : Standing) → (object_bar s ≡ 15) ↔ FirstToHold [] (malformed s)
unfolding object_bar
object_15 s = exact (object_cases s) 0 refl

pub object_16 : (s : Standing) → (object_bar s ≡ 16) ↔ FirstToHold (malformed s ∷ []) (repeated s)
unfolding object_bar
object_16 s = exact (object_cases s) 1 refl

pub object_17 : (s : Standing) → (object_bar s ≡ 17) ↔ FirstToHold (malformed s ∷ repeated s ∷ []) (misused s)
unfolding object_bar
object_17 s = exact (object_cases s) 2 refl

pub object_none : (s : Standing) → (object_bar s ≡ 0) ↔ (any_of (λ t. t s) object_bars ≡ false)
unfolding object_bar
object_none s = exact_none (object_cases s) refl

pub object_given : (s : Standing) → is_given (object_bar s) ≡ any_of (λ t. t s) object_bars
unfolding object_bar
object_given s = given_case (object_cases s) refl

pub object_numbers : (s : Standing) → Numbers 15 16 17 (object_bar s)
unfolding object_bar
object_numbers s = three_cases 15 16 17 (malformed s) (repeated s) (misused s)

-- ---- reading as a chain of stages

abbrev stages : (b13 b14 : Bool) → (r i : ℕ) → List Object → Reading
stages m p r i os = cond m (refused 13 no_place) (cond p (refused 14 no_place) (read_as r i os))

abbrev number_read : Reading → ℕ
number_read (refused n p) = n
number_read (well_formed os) = 0

-- 15 for 15 to 17; any other number itself
abbrev stage_of : ℕ → ℕ
stage_of n = cond (any_of (eqb n) (15 ∷ 16 ∷ 17 ∷ [])) 15 n

abbrev cases_of : (m p r : Bool) → List Case
cases_of m p r = 13 when m ∷ 14 when p ∷ 15 when r ∷ []

stage_number : (m p : Bool) (r i : ℕ) (os : List Object) → Numbers 15 16 17 r → stage_of (number_read (stages m p r i os)) ≡ first_case (cases_of m p (is_given r))
stage_number true p r i os v = refl
stage_number false true r i os v = refl
stage_number false false r i os one = refl
stage_number false false r i os two = refl
stage_number false false r i os three = refl
stage_number false false r i os nothing = refl

stage_13 : (m p : Bool) (r i : ℕ) (os : List Object) → FirstToHold [] m → stages m p r i os ≡ refused 13 no_place
stage_13 true p r i os f = refl
stage_13 false p r i os f = absurd (false≢true f.1)

stage_14 : (m p : Bool) (r i : ℕ) (os : List Object) → FirstToHold (m ∷ []) p → stages m p r i os ≡ refused 14 no_place
stage_14 true p r i os f = absurd (true≢false f.0)
stage_14 false true r i os f = refl
stage_14 false false r i os f = absurd (false≢true f.1)

past_14 : (m p : Bool) (r i : ℕ) (os : List Object) → NoneOf (m ∷ p ∷ []) → stages m p r i os ≡ read_as r i os
past_14 true p r i os f = absurd (true≢false f)
past_14 false true r i os f = absurd (true≢false f)
past_14 false false r i os f = refl

-- what a reading can be
pub data ReadView : Reading → Type 0 where
  is13 : (p : ℕ) → ReadView (refused 13 p)
  is14 : (p : ℕ) → ReadView (refused 14 p)
  is15 : (p : ℕ) → ReadView (refused 15 p)
  is16 : (p : ℕ) → ReadView (refused 16 p)
  is17 : (p : ℕ) → ReadView (refused 17 p)
  whole : (os : List Object) → ReadView (well_formed os)

stage_view : (m p : Bool) (r i : ℕ) (os : List Object) → Numbers 15 16 17 r → ReadView (stages m p r i os)
stage_view true p r i os v = is13 no_place
stage_view false true r i os v = is14 no_place
stage_view false false r i os one = is15 i
stage_view false false r i os two = is16 i
stage_view false false r i os three = is17 i
stage_view false false r i os nothing = whole os

read_barred : (r i n p : ℕ) (os : List Object) → is_given r ≡ true → read_as r i os ≡ refused n p → (r ≡ n) × (i ≡ p)
read_barred zero i n p os g e = absurd (false≢true g)
read_barred (suc r) i n p os g e = (cc, cc)

-- ---- bars 13 to 17

-- a reading gives one list of objects
pub same_objects : (a b : List Object) → well_formed a ≡ well_formed b → a ≡ b
same_objects a b e = cc

module _ (bs : List ℕ) where
  abbrev os : List Object
  os = container_objects bs

  abbrev number : ℕ
  number = first_of object_bar (standings [] os)

  abbrev place : ℕ
  place = index_of object_bar (standings [] os)

  reading_stages : reading bs ≡ stages (misframed bs) (runs_past bs) number place os
  unfolding reading
  reading_stages = go (misframed bs) (data_objects bs)
    where
      go : (m : Bool) (s : Option (List Object))
          → cond m (refused 13 no_place) (read_objects s) ≡ stages m (is_none s) (first_of object_bar (standings [] (list_of s))) (index_of object_bar (standings [] (list_of s))) (list_of s)
      go true s = refl
      go false none = refl
      go false (some ts) = refl

  numbers : Numbers 15 16 17 number
  numbers = first_of_all (Numbers 15 16 17) object_bar nothing object_numbers (standings [] os)

  pub read_view : ReadView (reading bs)
  read_view = rw reading_stages (stage_view (misframed bs) (runs_past bs) number place os numbers)

  given : is_given number ≡ some_has object_bars (standings [] os)
  given = given_first_of object_bar (λ s. any_of (λ t. t s) object_bars) object_given (standings [] os)

  abbrev cases : List Case
  cases = cases_of (misframed bs) (runs_past bs) (some_has object_bars (standings [] os))

  by_case : (r : Reading) (g : ℕ) → stage_of (number_read r) ≡ g → reading bs ≡ r → first_case cases ≡ g
  by_case r g h e =
      let n = stage_number (misframed bs) (runs_past bs) number place os numbers in
      rw (← given) (sym n) ∙ ap (λ x. stage_of (number_read x)) (sym reading_stages ∙ e) ∙ h

  -- bars 13 and 14, whatever the place
  pub at_13 : (p : ℕ) → reading bs ≡ refused 13 p → FirstToHold [] (misframed bs)
  at_13 p e = (exact cases 0 refl).0 (by_case (refused 13 p) 13 refl e)

  pub at_14 : (p : ℕ) → reading bs ≡ refused 14 p → FirstToHold (misframed bs ∷ []) (runs_past bs)
  at_14 p e = (exact cases 1 refl).0 (by_case (refused 14 p) 14 refl e)

  past14 : NoneOf (misframed bs ∷ runs_past bs ∷ []) → reading bs ≡ read_as number place os
  past14 f = reading_stages ∙ past_14 (misframed bs) (runs_past bs) number place os f

  read_at : (m : ℕ) (lower : List (Standing → Bool)) (bar : Standing → Bool) → stage_of (suc m) ≡ 15
      → ((s : Standing) → (object_bar s ≡ suc m) ↔ FirstToHold (map (λ t. t s) lower) (bar s))
      → (p : ℕ) → (reading bs ≡ refused (suc m) p) ↔ ReadingAt bs lower bar p
  read_at m lower bar g has p =
      let found = first_with object_bar (standings [] os) m object_bars lower bar has object_none p in (
        λ e. let f = (exact cases 2 refl).0 (by_case (refused (suc m) p) 15 g e) in
            (f.0, found.0 (read_barred number place (suc m) p os (given ∙ f.1) (sym (past14 f.0) ∙ e))),
        λ w. let (x, y) = found.1 w.1 in past14 w.0 ∙ rw (x, y),
      )

  none_of : first_case cases ≡ 0 → NoneOf (misframed bs ∷ runs_past bs ∷ some_has object_bars (standings [] os) ∷ [])
  none_of e = go (misframed bs) (runs_past bs) (some_has object_bars (standings [] os)) e
    where
      go : (m p r : Bool) → first_case (cases_of m p r) ≡ 0 → NoneOf (m ∷ p ∷ r ∷ [])
      go true p r e = absurd (omega arith)
      go false true r e = absurd (omega arith)
      go false false true e = absurd (omega arith)
      go false false false e = refl

  -- the objects of a container at which nothing bars
  read_whole : NoneOf (misframed bs ∷ runs_past bs ∷ some_has object_bars (standings [] os) ∷ []) → reading bs ≡ well_formed os
  read_whole f =
      let (m, x) = neither (misframed bs) _ f in
      let (p, y) = neither (runs_past bs) _ x in
      let (r, w) = neither (some_has object_bars (standings [] os)) false y in
      past14 (rw (m, p)) ∙ rw (given_none number (given ∙ r))

  pub reading_exact : ReadingExact bs (reading bs)
  reading_exact = record {
    reading_13 = (
      at_13 no_place,
      λ f. reading_stages ∙ stage_13 (misframed bs) (runs_past bs) number place os f,
    );
    reading_14 = (
      at_14 no_place,
      λ f. reading_stages ∙ stage_14 (misframed bs) (runs_past bs) number place os f,
    );
    reading_15 = read_at 14 [] malformed refl object_15;
    reading_16 = read_at 15 (malformed ∷ []) repeated refl object_16;
    reading_17 = read_at 16 (malformed ∷ repeated ∷ []) misused refl object_17;
    well_formed = λ ts. (
      λ e. let f = none_of (by_case (well_formed ts) 0 refl e) in (f, same_objects os ts (sym (read_whole f) ∙ e)),
      λ w. read_whole w.0 ∙ ap well_formed w.1,
    );
  }

pub readings : ReadingsExact
readings = reading_exact
