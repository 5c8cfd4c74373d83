-- Every bar is given exactly when document 01 says.
use mathlib.Core.Path.{◌≡◌, refl, sym, ap, ◌∙◌}
use Prim.Native.Nat.{ℕ, zero, suc}
use native.Mathlib.Omega.{arith}
use mathlib.Core.Bool.{Bool, true, false, cond, false≢true, true≢false}
use mathlib.Core.List.{List, [], ◌∷◌, map}
use mathlib.Core.Logic.{◌↔◌}
use lib.Dec.{eqb}
use Rattle.model.specs.declared.Offer.{Offer}
use Rattle.model.specs.declared.Own.{Own}
use Rattle.model.specs.declared.Summary.{Summary}
use Rattle.model.specs.declared.Neighbour.{Neighbour}
use Rattle.model.specs.declared.Candidate.{Candidate}
use Rattle.model.specs.Verdict.{Verdict}
use Rattle.model.specs.Verdict.{Unbarred, Barred}
use Rattle.model.specs.Number.{any_of, Case, ◌when◌, first_case, first_of, index_of}
use Rattle.model.specs.Object.{Object, Standing, standings}
use Rattle.model.specs.Reading.{no_place, malformed, repeated, misused, Reading, refused, well_formed}
use Rattle.model.specs.Run.{option_cut, ninth_container, object_cut, read_run}
use Rattle.model.specs.Constraint.{summary, unknown_mandatory, unmet, constraint_cases, constraint_bar}
use Rattle.model.specs.Rank.{rank_too_high, above_lowest}
use Rattle.model.specs.Verdict.{offer_of, bad_numbers, run_of, outside, rank_cases, rank_bar, judge_rank, judge_objects, judge_reading, verdict, number_of}
use Rattle.model.proofs.BoolLaws.{neither}
use Rattle.model.proofs.NumberLaws.{none_both, none_parts, exact, exact_none, is_given, given_case, given_none, first_of_all, given_first_of, first_with}
use Rattle.model.specs.Conditions.{some_has, objects_in, object_bars, constraint_bars, bars_to_17, bars_to_19}
use Rattle.model.specs.Exact.{NoneOf, FirstToHold, BarAt, ConstraintAt, RunAt, VerdictExact, VerdictsExact, BarExact}
use Rattle.model.proofs.Readings.{Numbers, nothing, one, two, three, two_cases}
use Rattle.model.proofs.RunReadings.{ReadView, is22, is23, is14, is15, is16, is17, whole, read_view, at_22, at_23, at_14, run_exact}

-- ---- a verdict as a chain of stages

-- past bars 11 to 17, with the numbers of 18 and 19 and of 20 and 21
abbrev after_constraints : Own → Neighbour → (bar place rank_number : ℕ) → Verdict
after_constraints own c zero p q = judge_rank own c q
after_constraints own c (suc n) p q = Barred (suc n) p

-- bars 11 and 12, and what comes after them
abbrev bars11and12 : (b11 b12 : Bool) → (rest : Verdict) → Verdict
bars11and12 a b rest = cond a (Barred 11 no_place) (cond b (Barred 12 no_place) rest)

stage_11 : (a b : Bool) (rest : Verdict) → FirstToHold [] a → bars11and12 a b rest ≡ Barred 11 no_place
stage_11 true b rest f = refl
stage_11 false b rest f = absurd (false≢true f.1)

stage_12 : (a b : Bool) (rest : Verdict) → FirstToHold (a ∷ []) b → bars11and12 a b rest ≡ Barred 12 no_place
stage_12 true b rest f = absurd (true≢false f.0)
stage_12 false true rest f = refl
stage_12 false false rest f = absurd (false≢true f.1)

past_12 : (a b : Bool) (rest : Verdict) → NoneOf (a ∷ b ∷ []) → bars11and12 a b rest ≡ rest
past_12 true b rest f = absurd (true≢false f)
past_12 false true rest f = absurd (true≢false f)
past_12 false false rest f = refl

abbrev is_refused : Reading → Bool
is_refused (refused n p) = true
is_refused (well_formed os) = false

module _ (own : Own) (c : Neighbour) where
  constraints_stage : (k j : ℕ) → judge_objects own c k j ≡ after_constraints own c k j (rank_bar own c)
  constraints_stage zero j = refl
  constraints_stage (suc k) j = refl

  constraint_barred : (k j q n p : ℕ) → is_given k ≡ true → after_constraints own c k j q ≡ Barred n p → (k ≡ n) × (j ≡ p)
  constraint_barred zero j q n p g e = absurd (false≢true g)
  constraint_barred (suc k) j q n p g e = (cc, cc)

  rank_barred : (q n p : ℕ) → is_given q ≡ true → judge_rank own c q ≡ Barred n p → q ≡ n
  rank_barred zero n p g e = absurd (false≢true g)
  rank_barred (suc q) n p g e = cc

  reading_barred : (x : Reading) (n p : ℕ) → is_refused x ≡ true → judge_reading own c x ≡ Barred n p → x ≡ refused n p
  reading_barred (refused m i) n p g e = cc
  reading_barred (well_formed os) n p g e = absurd (false≢true g)

-- ---- which stage a number belongs to

-- 14 for 22, 23 and 14 to 17, 18 for 18 and 19, 20 for 20 and 21; any other number itself
abbrev stage_of : ℕ → ℕ
stage_of n =
    cond (any_of (eqb n) (22 ∷ 23 ∷ 14 ∷ 15 ∷ 16 ∷ 17 ∷ [])) 14 (cond (any_of (eqb n) (18 ∷ 19 ∷ [])) 18 (cond (any_of (eqb n) (20 ∷ 21 ∷ [])) 20 n))

abbrev cases_of : (a b r k q : Bool) → List Case
cases_of a b r k q = 11 when a ∷ 12 when b ∷ 14 when r ∷ 18 when k ∷ 20 when q ∷ 10 when true ∷ []

-- the number of 18 or 19 in what was read
abbrev constraint_number : Neighbour → Reading → ℕ
constraint_number c (refused n p) = 0
constraint_number c (well_formed os) = first_of (constraint_bar c (summary os)) os

rest_number : (own : Own) (c : Neighbour) (k j q : ℕ) → Numbers 18 19 19 k → Numbers 20 21 21 q
    → stage_of (number_of (after_constraints own c k j q)) ≡ first_case (cases_of false false false (is_given k) (is_given q))
rest_number own c k j q one z = refl
rest_number own c k j q two z = refl
rest_number own c k j q three z = refl
rest_number own c k j q nothing one = refl
rest_number own c k j q nothing two = refl
rest_number own c k j q nothing three = refl
rest_number own c k j q nothing nothing = refl

-- 18 and 19
module _ (c : Neighbour) (s : Summary) where
  constraint_18 : (o : Object) → (constraint_bar c s o ≡ 18) ↔ FirstToHold [] (unknown_mandatory o)
  unfolding constraint_bar
  constraint_18 o = exact (constraint_cases c s o) 0 refl

  constraint_19 : (o : Object) → (constraint_bar c s o ≡ 19) ↔ FirstToHold (unknown_mandatory o ∷ []) (unmet c s o)
  unfolding constraint_bar
  constraint_19 o = exact (constraint_cases c s o) 1 refl

  constraint_none : (o : Object) → (constraint_bar c s o ≡ 0) ↔ (any_of (λ t. t o) (constraint_bars c s) ≡ false)
  unfolding constraint_bar
  constraint_none o = exact_none (constraint_cases c s o) refl

  constraint_given : (o : Object) → is_given (constraint_bar c s o) ≡ any_of (λ t. t o) (constraint_bars c s)
  unfolding constraint_bar
  constraint_given o = given_case (constraint_cases c s o) refl

  constraint_numbers : (o : Object) → Numbers 18 19 19 (constraint_bar c s o)
  unfolding constraint_bar
  constraint_numbers o = two_cases 18 19 (unknown_mandatory o) (unmet c s o)

-- 20 and 21
module _ (own : Own) (c : Neighbour) where
  rank_20 : (rank_bar own c ≡ 20) ↔ FirstToHold [] (rank_too_high own c)
  unfolding rank_bar
  rank_20 = exact (rank_cases own c) 0 refl

  rank_21 : (rank_bar own c ≡ 21) ↔ FirstToHold (rank_too_high own c ∷ []) (above_lowest own c)
  unfolding rank_bar
  rank_21 = exact (rank_cases own c) 1 refl

  rank_none : (rank_bar own c ≡ 0) ↔ NoneOf (rank_too_high own c ∷ above_lowest own c ∷ [])
  unfolding rank_bar
  rank_none = exact_none (rank_cases own c) refl

  rank_numbers : Numbers 20 21 21 (rank_bar own c)
  unfolding rank_bar
  rank_numbers = two_cases 20 21 (rank_too_high own c) (above_lowest own c)

-- the number of a verdict, by the stage that decided it
reading_number : (own : Own) (c : Neighbour) (x : Reading) → ReadView x
    → stage_of (number_of (judge_reading own c x)) ≡ first_case (cases_of false false (is_refused x) (is_given (constraint_number c x)) (is_given (rank_bar own c)))
reading_number own c x (is22 p) = refl
reading_number own c x (is23 p) = refl
reading_number own c x (is14 p) = refl
reading_number own c x (is15 p) = refl
reading_number own c x (is16 p) = refl
reading_number own c x (is17 p) = refl
reading_number own c x (whole os) =
    rw (constraints_stage own c (first_of (constraint_bar c (summary os)) os) (index_of (constraint_bar c (summary os)) os))
    (rest_number own c (first_of (constraint_bar c (summary os)) os) _ (rank_bar own c) (first_of_all (Numbers 18 19 19) (constraint_bar c (summary os)) nothing (constraint_numbers c (summary os)) os) (rank_numbers own c))

stage_number : (own : Own) (c : Neighbour) (a b : Bool) (x : Reading) → ReadView x
    → stage_of (number_of (bars11and12 a b (judge_reading own c x))) ≡ first_case (cases_of a b (is_refused x) (is_given (constraint_number c x)) (is_given (rank_bar own c)))
stage_number own c true b x v = refl
stage_number own c false true x v = refl
stage_number own c false false x v = reading_number own c x v

-- ---- bars

module _ (own : Own) (lent : List ℕ) (c : Candidate) where
  abbrev n : Neighbour
  n = c.neighbour

  abbrev bs : List ℕ
  bs = run_of lent c

  abbrev os : List Object
  os = objects_in bs

  abbrev sum : Summary
  sum = summary os

  verdict_stages : verdict own lent c ≡ bars11and12 (bad_numbers own n) (outside lent c) (judge_reading own n (read_run bs))
  unfolding verdict
  verdict_stages = refl

  abbrev cases : List Case
  cases = cases_of (bad_numbers own n) (outside lent c) (is_refused (read_run bs)) (is_given (constraint_number n (read_run bs))) (is_given (rank_bar own n))

  decided : stage_of (number_of (verdict own lent c)) ≡ first_case cases
  decided = ap (λ v. stage_of (number_of v)) verdict_stages ∙ stage_number own n (bad_numbers own n) (outside lent c) (read_run bs) (read_view bs)

  -- a verdict's number gives the case that decided it
  by_case : (v : Verdict) (g : ℕ) → stage_of (number_of v) ≡ g → verdict own lent c ≡ v → first_case cases ≡ g
  by_case v g h e = sym decided ∙ ap (λ w. stage_of (number_of w)) e ∙ h

  -- what is left of the verdict past bar 12, past 17 and past 19
  past12 : NoneOf (bad_numbers own n ∷ outside lent c ∷ []) → verdict own lent c ≡ judge_reading own n (read_run bs)
  past12 h = verdict_stages ∙ past_12 (bad_numbers own n) (outside lent c) (judge_reading own n (read_run bs)) h

  abbrev read17 : List Bool
  read17 = option_cut bs ∷ ninth_container bs ∷ object_cut bs ∷ some_has object_bars (standings [] os) ∷ []

  past17 : NoneOf (bars_to_17 own lent c) → verdict own lent c ≡ after_constraints own n (first_of (constraint_bar n sum) os) (index_of (constraint_bar n sum) os) (rank_bar own n)
  past17 h =
      let (p, q) = none_parts (bad_numbers own n ∷ outside lent c ∷ []) read17 h in
      past12 p ∙ rw (((run_exact bs).well_formed os).1 (q, refl)) (constraints_stage own n (first_of (constraint_bar n sum) os) (index_of (constraint_bar n sum) os))

  constraints_given : is_given (first_of (constraint_bar n sum) os) ≡ some_has (constraint_bars n sum) os
  constraints_given = given_first_of (constraint_bar n sum) (λ o. any_of (λ t. t o) (constraint_bars n sum)) (constraint_given n sum) os

  past19 : NoneOf (bars_to_19 own lent c) → verdict own lent c ≡ judge_rank own n (rank_bar own n)
  past19 h =
      let (p, q) = none_parts (bars_to_17 own lent c) (some_has (constraint_bars n sum) os ∷ []) h in
      let z = given_none (first_of (constraint_bar n sum) os) (constraints_given ∙ (neither (some_has (constraint_bars n sum) os) false q).0) in
      past17 p ∙ rw z

  -- a container that is not refused is read as its objects
  read_objects_lem : NoneOf (bad_numbers own n ∷ outside lent c ∷ is_refused (read_run bs) ∷ []) → NoneOf (bars_to_17 own lent c) × (read_run bs ≡ well_formed os)
  read_objects_lem h =
      let (p, q) = none_parts (bad_numbers own n ∷ outside lent c ∷ []) (is_refused (read_run bs) ∷ []) h in
      go (read_run bs) refl p (neither (is_refused (read_run bs)) false q).0
    where
      go : (x : Reading) → read_run bs ≡ x → NoneOf (bad_numbers own n ∷ outside lent c ∷ []) → is_refused x ≡ false → NoneOf (bars_to_17 own lent c) × (read_run bs ≡ well_formed os)
      go (refused m i) e p g = absurd (true≢false g)
      go (well_formed ts) e p g =
          let (f, s) = ((run_exact bs).well_formed ts).0 e in
          (none_both (bad_numbers own n ∷ outside lent c ∷ []) read17 p f, e ∙ ap well_formed (sym s))

  -- bars 22, 23 and 14 to 17 are those of the reading
  read_bar : (m place : ℕ) → stage_of m ≡ 14 → (verdict own lent c ≡ Barred m place) ↔ (NoneOf (bad_numbers own n ∷ outside lent c ∷ []) × (read_run bs ≡ refused m place))
  read_bar m place g = (
    λ e. let f = (exact cases 2 refl).0 (by_case (Barred m place) 14 g e) in
        (f.0, reading_barred own n (read_run bs) m place f.1 (sym (past12 f.0) ∙ e)),
    λ w. past12 w.0 ∙ rw w.1,
  )

  -- bars 22, 23 and 14, whatever the place
  first_22 : (place : ℕ) → verdict own lent c ≡ Barred 22 place → FirstToHold (bad_numbers own n ∷ outside lent c ∷ []) (option_cut bs)
  first_22 place e = let (x, y) = (read_bar 22 place refl).0 e in (x, (at_22 bs place y).1)

  first_23 : (place : ℕ) → verdict own lent c ≡ Barred 23 place → FirstToHold (bad_numbers own n ∷ outside lent c ∷ option_cut bs ∷ []) (ninth_container bs)
  first_23 place e =
      let (x, y) = (read_bar 23 place refl).0 e in
      let f = at_23 bs place y in
      (none_both (bad_numbers own n ∷ outside lent c ∷ []) (option_cut bs ∷ []) x f.0, f.1)

  first_14 : (place : ℕ) → verdict own lent c ≡ Barred 14 place → FirstToHold (bad_numbers own n ∷ outside lent c ∷ option_cut bs ∷ ninth_container bs ∷ []) (object_cut bs)
  first_14 place e =
      let (x, y) = (read_bar 14 place refl).0 e in
      let f = at_14 bs place y in
      (none_both (bad_numbers own n ∷ outside lent c ∷ []) (option_cut bs ∷ ninth_container bs ∷ []) x f.0, f.1)

  -- 15 to 17, at an object
  bar_at : (m : ℕ) (lower : List (Standing → Bool)) (bar : Standing → Bool) → stage_of m ≡ 14
      → ((place : ℕ) → (read_run bs ≡ refused m place) ↔ RunAt bs lower bar place)
      → (place : ℕ) → (verdict own lent c ≡ Barred m place) ↔ BarAt own lent c lower bar place
  bar_at m lower bar g read place = (
    λ e. let (x, y) = (read_bar m place g).0 e in
        let (f, w) = (read place).0 y in
        (none_both (bad_numbers own n ∷ outside lent c ∷ []) (option_cut bs ∷ ninth_container bs ∷ object_cut bs ∷ []) x f, w),
    λ w. let (x, y) = none_parts (bad_numbers own n ∷ outside lent c ∷ []) (option_cut bs ∷ ninth_container bs ∷ object_cut bs ∷ []) w.0 in
        (read_bar m place g).1 (x, (read place).1 (y, w.1)),
  )

  -- bars 18 and 19
  constraint_at : (m : ℕ) (lower : List (Object → Bool)) (bar : Object → Bool) → stage_of (suc m) ≡ 18
      → ((o : Object) → (constraint_bar n sum o ≡ suc m) ↔ FirstToHold (map (λ t. t o) lower) (bar o))
      → (place : ℕ) → (verdict own lent c ≡ Barred (suc m) place) ↔ ConstraintAt own lent c lower bar place
  constraint_at m lower bar g has place =
      let found = first_with (constraint_bar n sum) os m (constraint_bars n sum) lower bar has (constraint_none n sum) place in (
        λ e. let f = (exact cases 3 refl).0 (by_case (Barred (suc m) place) 18 g e) in
            let (x, y) = read_objects_lem f.0 in
            (x, found.0 (constraint_barred own n _ _ _ (suc m) place (rw y at f.1) (sym (past17 x) ∙ e))),
        λ w. let (x, y) = found.1 w.1 in past17 w.0 ∙ rw (x, y),
      )

  -- past 18 and 19: nothing of 11 to 19 holds
  read_constraints : NoneOf (bad_numbers own n ∷ outside lent c ∷ is_refused (read_run bs) ∷ is_given (constraint_number n (read_run bs)) ∷ []) → NoneOf (bars_to_19 own lent c)
  read_constraints h =
      let (p, q) = none_parts (bad_numbers own n ∷ outside lent c ∷ is_refused (read_run bs) ∷ []) (is_given (constraint_number n (read_run bs)) ∷ []) h in
      let (x, y) = read_objects_lem p in
      let k : is_given (first_of (constraint_bar n sum) os) ≡ false = rw y at (neither (is_given (constraint_number n (read_run bs))) false q).0 in
      none_both (bars_to_17 own lent c) (some_has (constraint_bars n sum) os ∷ []) x (rw (← constraints_given, k))

  -- the number of bar 20 or 21 that was given
  rank_given : (m place : ℕ) → stage_of m ≡ 20 → verdict own lent c ≡ Barred m place → NoneOf (bars_to_19 own lent c) × (rank_bar own n ≡ m)
  rank_given m place g e =
      let f = (exact cases 4 refl).0 (by_case (Barred m place) 20 g e) in
      let x = read_constraints f.0 in
      (x, rank_barred own n (rank_bar own n) m place f.1 (sym (past19 x) ∙ e))

  -- nothing bars
  rank_free : first_case cases ≡ 10 → NoneOf (bars_to_19 own lent c) × (rank_bar own n ≡ 0)
  rank_free e =
      let f = (exact cases 5 refl).0 e in
      let (x, y) = none_parts (bad_numbers own n ∷ outside lent c ∷ is_refused (read_run bs) ∷ is_given (constraint_number n (read_run bs)) ∷ []) (is_given (rank_bar own n) ∷ []) f.0 in
      (read_constraints x, given_none (rank_bar own n) (neither (is_given (rank_bar own n)) false y).0)

  unbarred_is : (q : ℕ) (r : Offer) → q ≡ 0 → judge_rank own n q ≡ Unbarred r → r ≡ offer_of own n
  unbarred_is zero r z e = cc
  unbarred_is (suc q) r z e = absurd (omega arith)

  -- no bar has the number 10
  pub never_10 : (place : ℕ) → verdict own lent c ≡ Barred 10 place → ⊥
  never_10 place e =
      let (x, z) = rank_free (by_case (Barred 10 place) 10 refl e) in
      let q : judge_rank own n 0 ≡ Barred 10 place = sym (past19 x ∙ rw z) ∙ e in
      let w : ◌≡◌ {A = ℕ} 0 1 = cc in
      omega arith

  pub verdict_exact : VerdictExact own lent c (verdict own lent c)
  verdict_exact =
      let r = run_exact bs in
      record {
        verdict_11 = (
          λ e. (exact cases 0 refl).0 (by_case (Barred 11 no_place) 11 refl e),
          λ f. verdict_stages ∙ stage_11 (bad_numbers own n) (outside lent c) (judge_reading own n (read_run bs)) f,
        );
        verdict_12 = (
          λ e. (exact cases 1 refl).0 (by_case (Barred 12 no_place) 12 refl e),
          λ f. verdict_stages ∙ stage_12 (bad_numbers own n) (outside lent c) (judge_reading own n (read_run bs)) f,
        );
        verdict_22 = (
          first_22 no_place,
          λ f. (read_bar 22 no_place refl).1 (f.0, r.run_22.1 (refl, f.1)),
        );
        verdict_23 = (
          first_23 no_place,
          λ f. let (x, y) = none_parts (bad_numbers own n ∷ outside lent c ∷ []) (option_cut bs ∷ []) f.0 in
              (read_bar 23 no_place refl).1 (x, r.run_23.1 (y, f.1)),
        );
        verdict_14 = (
          first_14 no_place,
          λ f. let (x, y) = none_parts (bad_numbers own n ∷ outside lent c ∷ []) (option_cut bs ∷ ninth_container bs ∷ []) f.0 in
              (read_bar 14 no_place refl).1 (x, r.run_14.1 (y, f.1)),
        );
        verdict_15 = bar_at 15 [] malformed refl r.run_15;
        verdict_16 = bar_at 16 (malformed ∷ []) repeated refl r.run_16;
        verdict_17 = bar_at 17 (malformed ∷ repeated ∷ []) misused refl r.run_17;
        verdict_18 = constraint_at 17 [] unknown_mandatory refl (constraint_18 n sum);
        verdict_19 = constraint_at 18 (unknown_mandatory ∷ []) (unmet n sum) refl (constraint_19 n sum);
        verdict_20 = (
          λ e. let (f, q) = rank_given 20 no_place refl e in (f, ((rank_20 own n).0 q).1),
          λ f. past19 f.0 ∙ rw ((rank_20 own n).1 (refl, f.1)),
        );
        verdict_21 = (
          λ e. let (f, q) = rank_given 21 no_place refl e in
              let g = (rank_21 own n).0 q in
              (none_both (bars_to_19 own lent c) (rank_too_high own n ∷ []) f g.0, g.1),
          λ f. let (x, y) = none_parts (bars_to_19 own lent c) (rank_too_high own n ∷ []) f.0 in
              past19 x ∙ rw ((rank_21 own n).1 (y, f.1)),
        );
        unbarred = λ t. (
          λ e. let (x, z) = rank_free (by_case (Unbarred t) 10 refl e) in
              (none_both (bars_to_19 own lent c) (rank_too_high own n ∷ above_lowest own n ∷ []) x ((rank_none own n).0 z), unbarred_is (rank_bar own n) t z (sym (past19 x) ∙ e)),
          λ f. let (x, y) = none_parts (bars_to_19 own lent c) (rank_too_high own n ∷ above_lowest own n ∷ []) f.0 in
              past19 x ∙ rw ((rank_none own n).1 y, f.1),
        );
      }

  -- ---- the number alone

  by_number : (m g : ℕ) → stage_of m ≡ g → number_of (verdict own lent c) ≡ m → first_case cases ≡ g
  by_number m g h e = sym decided ∙ ap stage_of e ∙ h

  barred_at_lem : (m : ℕ) → (m ≡ 10 → ⊥) → number_of (verdict own lent c) ≡ m → (place : ℕ) × (verdict own lent c ≡ Barred m place)
  barred_at_lem m h e = go (verdict own lent c) refl e
    where
      go : (v : Verdict) → verdict own lent c ≡ v → number_of v ≡ m → (place : ℕ) × (verdict own lent c ≡ Barred m place)
      go (Unbarred r) q e = absurd (h (sym e))
      go (Barred k p) q e = (p, q ∙ rw e)

  unbarred_at : number_of (verdict own lent c) ≡ 10 → (r : Offer) × (verdict own lent c ≡ Unbarred r)
  unbarred_at e = go (verdict own lent c) refl e
    where
      go : (v : Verdict) → verdict own lent c ≡ v → number_of v ≡ 10 → (r : Offer) × (verdict own lent c ≡ Unbarred r)
      go (Unbarred r) q e = (r, q)
      go (Barred k p) q e = absurd (never_10 p (q ∙ rw e))

  -- bars 20 and 21 have no place
  without_place : (m : ℕ) → stage_of m ≡ 20 → number_of (verdict own lent c) ≡ m → verdict own lent c ≡ Barred m no_place
  without_place m g e =
      let (p, q) = barred_at_lem m (λ z. let w : stage_of 10 ≡ 20 = rw z at g in omega arith) e in
      let (f, r) = rank_given m p g q in
      past19 f ∙ rw r (given_rank m (ap is_given (sym r) ∙ ((exact cases 4 refl).0 (by_number m 20 g e)).1))
    where
      given_rank : (k : ℕ) → is_given k ≡ true → judge_rank own n k ≡ Barred k no_place
      given_rank zero h = absurd (false≢true h)
      given_rank (suc k) h = refl

  at_some_place : (m : ℕ) (P : ℕ → Type 0) → (m ≡ 10 → ⊥) → ((place : ℕ) → (verdict own lent c ≡ Barred m place) ↔ P place)
      → (number_of (verdict own lent c) ≡ m) ↔ ((place : ℕ) × P place)
  at_some_place m P h x = (λ e. let (p, q) = barred_at_lem m h e in (p, (x p).0 q), λ w. ap number_of ((x w.0).1 w.1))

  -- 13 is no case's number
  not_13 : number_of (verdict own lent c) ≡ 13 → ⊥
  not_13 e = go (bad_numbers own n) (outside lent c) (is_refused (read_run bs)) (is_given (constraint_number n (read_run bs))) (is_given (rank_bar own n)) (by_number 13 13 refl e)
    where
      go : (a b r k q : Bool) → first_case (cases_of a b r k q) ≡ 13 → ⊥
      go true b r k q e = omega arith
      go false true r k q e = omega arith
      go false false true k q e = omega arith
      go false false false true q e = omega arith
      go false false false false true e = omega arith
      go false false false false false e = omega arith

  pub bar_exact : BarExact own lent c (number_of (verdict own lent c))
  bar_exact =
      let v = verdict_exact in
      record {
        bar_11 = (λ e. (exact cases 0 refl).0 (by_number 11 11 refl e), λ f. ap number_of (v.verdict_11.1 f));
        bar_12 = (λ e. (exact cases 1 refl).0 (by_number 12 12 refl e), λ f. ap number_of (v.verdict_12.1 f));
        bar_22 = (λ e. let (p, q) = barred_at_lem 22 (λ z. omega arith) e in first_22 p q, λ f. ap number_of (v.verdict_22.1 f));
        bar_23 = (λ e. let (p, q) = barred_at_lem 23 (λ z. omega arith) e in first_23 p q, λ f. ap number_of (v.verdict_23.1 f));
        never_13 = not_13;
        bar_14 = (λ e. let (p, q) = barred_at_lem 14 (λ z. omega arith) e in first_14 p q, λ f. ap number_of (v.verdict_14.1 f));
        bar_15 = at_some_place 15 _ (λ e. omega arith) v.verdict_15;
        bar_16 = at_some_place 16 _ (λ e. omega arith) v.verdict_16;
        bar_17 = at_some_place 17 _ (λ e. omega arith) v.verdict_17;
        bar_18 = at_some_place 18 _ (λ e. omega arith) v.verdict_18;
        bar_19 = at_some_place 19 _ (λ e. omega arith) v.verdict_19;
        bar_20 = (λ e. v.verdict_20.0 (without_place 20 refl e), λ f. ap number_of (v.verdict_20.1 f));
        bar_21 = (λ e. v.verdict_21.0 (without_place 21 refl e), λ f. ap number_of (v.verdict_21.1 f));
        no_bar = (λ e. let (r, q) = unbarred_at e in ((v.unbarred r).0 q).0, λ f. ap number_of ((v.unbarred _).1 (f, refl)));
      }

-- every verdict, of every candidate
pub verdicts_exact : VerdictsExact
verdicts_exact = verdict_exact
