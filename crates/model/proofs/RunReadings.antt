-- Reading a run: bars 22, 23 and 14 to 17 exactly when document 01 says.
use mathlib.Core.Path.{◌≡◌, refl, sym, ap, ◌∙◌}
use Prim.Native.Nat.{ℕ, zero, suc}
use mathlib.Core.Bool.{Bool, true, false, cond, false≢true, true≢false}
use mathlib.Core.List.{List, [], ◌∷◌, map}
use mathlib.Core.Logic.{◌↔◌}
use mathlib.Core.Option.{Option, none, some}
use lib.Dec.{eqb}
use Rattle.model.specs.Number.{any_of, Case, ◌when◌, first_case, first_of, index_of}
use Rattle.model.specs.Object.{Object, Standing, standings}
use Rattle.model.specs.Reading.{no_place, is_none, malformed, repeated, misused, object_bar, Reading, refused, well_formed, read_as, read_objects}
use Rattle.model.specs.Run.{run_objects, option_cut, ninth_container, object_cut, read_run}
use Rattle.model.specs.Conditions.{some_has, list_of, objects_in, object_bars}
use Rattle.model.specs.Exact.{NoneOf, FirstToHold, RunAt, RunExact, RunsExact}
use Rattle.model.proofs.BoolLaws.{neither}
use Rattle.model.proofs.NumberLaws.{exact, exact_none, is_given, given_none, first_of_all, given_first_of, first_with}
use Rattle.model.proofs.Readings.{Numbers, nothing, one, two, three, object_15, object_16, object_17, object_none, object_given, object_numbers}

abbrev stages : (b22 b23 b14 : Bool) → (r i : ℕ) → List Object → Reading
stages m q p r i os = cond m (refused 22 no_place) (cond q (refused 23 no_place) (cond p (refused 14 no_place) (read_as r i os)))

abbrev number_read : Reading → ℕ
number_read (refused n p) = n
number_read (well_formed os) = 0

-- 15 for 15 to 17; any other number itself
abbrev stage_of : ℕ → ℕ
stage_of n = cond (any_of (eqb n) (15 ∷ 16 ∷ 17 ∷ [])) 15 n

abbrev cases_of : (m q p r : Bool) → List Case
cases_of m q p r = 22 when m ∷ 23 when q ∷ 14 when p ∷ 15 when r ∷ []

stage_number : (m q p : Bool) (r i : ℕ) (os : List Object) → Numbers 15 16 17 r → stage_of (number_read (stages m q p r i os)) ≡ first_case (cases_of m q p (is_given r))
stage_number true q p r i os v = refl
stage_number false true p r i os v = refl
stage_number false false true r i os v = refl
stage_number false false false r i os one = refl
stage_number false false false r i os two = refl
stage_number false false false r i os three = refl
stage_number false false false r i os nothing = refl

stage_22 : (m q p : Bool) (r i : ℕ) (os : List Object) → FirstToHold [] m → stages m q p r i os ≡ refused 22 no_place
stage_22 true q p r i os f = refl
stage_22 false q p r i os f = absurd (false≢true f.1)

stage_23 : (m q p : Bool) (r i : ℕ) (os : List Object) → FirstToHold (m ∷ []) q → stages m q p r i os ≡ refused 23 no_place
stage_23 true q p r i os f = absurd (true≢false f.0)
stage_23 false true p r i os f = refl
stage_23 false false p r i os f = absurd (false≢true f.1)

stage_14 : (m q p : Bool) (r i : ℕ) (os : List Object) → FirstToHold (m ∷ q ∷ []) p → stages m q p r i os ≡ refused 14 no_place
stage_14 true q p r i os f = absurd (true≢false f.0)
stage_14 false true p r i os f = absurd (true≢false f.0)
stage_14 false false true r i os f = refl
stage_14 false false false r i os f = absurd (false≢true f.1)

past_14 : (m q p : Bool) (r i : ℕ) (os : List Object) → NoneOf (m ∷ q ∷ p ∷ []) → stages m q p r i os ≡ read_as r i os
past_14 true q p r i os f = absurd (true≢false f)
past_14 false true p r i os f = absurd (true≢false f)
past_14 false false true r i os f = absurd (true≢false f)
past_14 false false false r i os f = refl

-- what a reading can be
pub data ReadView : Reading → Type 0 where
  is22 : (p : ℕ) → ReadView (refused 22 p)
  is23 : (p : ℕ) → ReadView (refused 23 p)
  is14 : (p : ℕ) → ReadView (refused 14 p)
  is15 : (p : ℕ) → ReadView (refused 15 p)
  is16 : (p : ℕ) → ReadView (refused 16 p)
  is17 : (p : ℕ) → ReadView (refused 17 p)
  whole : (os : List Object) → ReadView (well_formed os)

stage_view : (m q p : Bool) (r i : ℕ) (os : List Object) → Numbers 15 16 17 r → ReadView (stages m q p r i os)
stage_view true q p r i os v = is22 no_place
stage_view false true p r i os v = is23 no_place
stage_view false false true r i os v = is14 no_place
stage_view false false false r i os one = is15 i
stage_view false false false r i os two = is16 i
stage_view false false false r i os three = is17 i
stage_view false false false r i os nothing = whole os

read_barred : (r i n p : ℕ) (os : List Object) → is_given r ≡ true → read_as r i os ≡ refused n p → (r ≡ n) × (i ≡ p)
read_barred zero i n p os g e = absurd (false≢true g)
read_barred (suc r) i n p os g e = (cc, cc)

module _ (bs : List ℕ) where
  abbrev os : List Object
  os = objects_in bs

  abbrev number : ℕ
  number = first_of object_bar (standings [] os)

  abbrev place : ℕ
  place = index_of object_bar (standings [] os)

  reading_stages : read_run bs ≡ stages (option_cut bs) (ninth_container bs) (object_cut bs) number place os
  unfolding read_run
  reading_stages = go (option_cut bs) (ninth_container bs) (run_objects bs)
    where
      go : (m q : Bool) (s : Option (List Object)) → cond m (refused 22 no_place) (cond q (refused 23 no_place) (read_objects s))
          ≡ stages m q (is_none s) (first_of object_bar (standings [] (list_of s))) (index_of object_bar (standings [] (list_of s))) (list_of s)
      go true q s = refl
      go false true s = refl
      go false false none = refl
      go false false (some ts) = refl

  numbers : Numbers 15 16 17 number
  numbers = first_of_all (Numbers 15 16 17) object_bar nothing object_numbers (standings [] os)

  pub read_view : ReadView (read_run bs)
  read_view = rw reading_stages (stage_view (option_cut bs) (ninth_container bs) (object_cut bs) number place os numbers)

  given : is_given number ≡ some_has object_bars (standings [] os)
  given = given_first_of object_bar (λ s. any_of (λ t. t s) object_bars) object_given (standings [] os)

  abbrev cases : List Case
  cases = cases_of (option_cut bs) (ninth_container bs) (object_cut bs) (some_has object_bars (standings [] os))

  by_case : (r : Reading) (g : ℕ) → stage_of (number_read r) ≡ g → read_run bs ≡ r → first_case cases ≡ g
  by_case r g h e =
      let n = stage_number (option_cut bs) (ninth_container bs) (object_cut bs) number place os numbers in
      rw (← given) (sym n) ∙ ap (λ x. stage_of (number_read x)) (sym reading_stages ∙ e) ∙ h

  pub at_22 : (p : ℕ) → read_run bs ≡ refused 22 p → FirstToHold [] (option_cut bs)
  at_22 p e = (exact cases 0 refl).0 (by_case (refused 22 p) 22 refl e)

  pub at_23 : (p : ℕ) → read_run bs ≡ refused 23 p → FirstToHold (option_cut bs ∷ []) (ninth_container bs)
  at_23 p e = (exact cases 1 refl).0 (by_case (refused 23 p) 23 refl e)

  pub at_14 : (p : ℕ) → read_run bs ≡ refused 14 p → FirstToHold (option_cut bs ∷ ninth_container bs ∷ []) (object_cut bs)
  at_14 p e = (exact cases 2 refl).0 (by_case (refused 14 p) 14 refl e)

  past14 : NoneOf (option_cut bs ∷ ninth_container bs ∷ object_cut bs ∷ []) → read_run bs ≡ read_as number place os
  past14 f = reading_stages ∙ past_14 (option_cut bs) (ninth_container bs) (object_cut bs) number place os f

  read_at : (m : ℕ) (lower : List (Standing → Bool)) (bar : Standing → Bool) → stage_of (suc m) ≡ 15
      → ((s : Standing) → (object_bar s ≡ suc m) ↔ FirstToHold (map (λ t. t s) lower) (bar s))
      → (p : ℕ) → (read_run bs ≡ refused (suc m) p) ↔ RunAt bs lower bar p
  read_at m lower bar g has p =
      let found = first_with object_bar (standings [] os) m object_bars lower bar has object_none p in (
        λ e. let f = (exact cases 3 refl).0 (by_case (refused (suc m) p) 15 g e) in
            (f.0, found.0 (read_barred number place (suc m) p os (given ∙ f.1) (sym (past14 f.0) ∙ e))),
        λ w. let (x, y) = found.1 w.1 in past14 w.0 ∙ rw (x, y),
      )

  none_of : first_case cases ≡ 0 → NoneOf (option_cut bs ∷ ninth_container bs ∷ object_cut bs ∷ some_has object_bars (standings [] os) ∷ [])
  none_of e = (exact_none cases refl).0 e

  read_whole : NoneOf (option_cut bs ∷ ninth_container bs ∷ object_cut bs ∷ some_has object_bars (standings [] os) ∷ []) → read_run bs ≡ well_formed os
  read_whole f =
      let (m, x) = neither (option_cut bs) _ f in
      let (q, z) = neither (ninth_container bs) _ x in
      let (p, y) = neither (object_cut bs) _ z in
      let (r, w) = neither (some_has object_bars (standings [] os)) false y in
      past14 (rw (m, q, p)) ∙ rw (given_none number (given ∙ r))

  pub run_exact : RunExact bs (read_run bs)
  run_exact = record {
    run_22 = (
      at_22 no_place,
      λ f. reading_stages ∙ stage_22 (option_cut bs) (ninth_container bs) (object_cut bs) number place os f,
    );
    run_23 = (
      at_23 no_place,
      λ f. reading_stages ∙ stage_23 (option_cut bs) (ninth_container bs) (object_cut bs) number place os f,
    );
    run_14 = (
      at_14 no_place,
      λ f. reading_stages ∙ stage_14 (option_cut bs) (ninth_container bs) (object_cut bs) number place os f,
    );
    run_15 = read_at 14 [] malformed refl object_15;
    run_16 = read_at 15 (malformed ∷ []) repeated refl object_16;
    run_17 = read_at 16 (malformed ∷ repeated ∷ []) misused refl object_17;
    well_formed = λ ts. (
      λ e. let f = none_of (by_case (well_formed ts) 0 refl e) in (f, same os ts (sym (read_whole f) ∙ e)),
      λ w. read_whole w.0 ∙ ap well_formed w.1,
    );
  }
    where
      same : (a b : List Object) → well_formed a ≡ well_formed b → a ≡ b
      same a b e = cc

pub runs : RunsExact
runs = run_exact
