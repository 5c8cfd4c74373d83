-- The verdict by what each step answers: the numbers, the run, its reading, its constraints, the rank.
use mathlib.Core.Path.{◌≡◌, refl, sym, ◌∙◌}
use Prim.Native.Nat.{ℕ}
use native.Mathlib.Omega.{arith}
use mathlib.Core.Bool.{Bool, true, false, cond}
use mathlib.Core.List.{List, [], ◌∷◌}
use Rattle.std.specs.Prelude.{Result, Ok, Err}
use Rattle.model.specs.declared.Own.{Own}
use Rattle.model.specs.declared.Neighbour.{Neighbour}
use Rattle.model.specs.declared.Candidate.{Candidate}
use Rattle.model.specs.declared.Summary.{Summary}
use Rattle.model.specs.declared.verdicts.Bar.{Bar}
use Rattle.model.specs.declared.verdicts.Bar.TheVariants as bar
use Rattle.model.specs.declared.verdicts.ObjectBar.TheVariants as at
use Rattle.model.specs.Bars.{bar_number, bar_place}
use Rattle.model.specs.Number.{any_of, first_of, index_of}
use Rattle.model.specs.Object.{Object}
use Rattle.model.specs.Reading.{no_place, Reading, refused, well_formed}
use Rattle.model.specs.Run.{read_run}
use Rattle.model.specs.Constraint.{summary, constraint_bar, mandatory}
use Rattle.model.specs.Verdict.{Barred, bad_numbers, ahead_of, outside, run_of, rank_bar, judge_rank, judge_objects, judge_reading, verdict}
use Rattle.model.proofs.BoolLaws.{neither}
use Rattle.wire.specs.Reading.{Refused, WellFormed, reading_of}
use Rattle.verdict.specs.Judged.{numbers_told, run_in, FirstBarring, offered}

-- a well-formed run has its objects alone
well_same : {x : Reading} (os ps : List Object) → x ≡ well_formed os → x ≡ well_formed ps → os ≡ ps
well_same os ps e f = cc

-- without mandatory constraints no object bars
no_mandatory : (c : Neighbour) (s : Summary) (os : List Object) → false ≡ any_of mandatory os → first_of (constraint_bar c s) os ≡ 0
unfolding first_of constraint_bar
no_mandatory c s [] e = refl
no_mandatory c s (o ∷ os) e = let (a, b) = neither (mandatory o) (any_of mandatory os) (sym e) in rw a (no_mandatory c s os (sym b))

-- a bar has a number
barred_by : (own : Own) (c : Neighbour) (b : Bar) → Barred (bar_number b) (bar_place b) ≡ judge_objects own c (bar_number b) (bar_place b)
barred_by own c bar.Numbers = refl
barred_by own c bar.Outside = refl
barred_by own c bar.Frame = refl
barred_by own c bar.Overrun = refl
barred_by own c (bar.AtObject at.Body p) = refl
barred_by own c (bar.AtObject at.Repeat p) = refl
barred_by own c (bar.AtObject at.Recorded p) = refl
barred_by own c (bar.AtObject at.Unknown p) = refl
barred_by own c (bar.AtObject at.Unmet p) = refl
barred_by own c bar.Rank = refl
barred_by own c bar.Increase = refl
barred_by own c bar.Option = refl
barred_by own c bar.Containers = refl

-- ---- bars 11 and 12

module _ (own : Own) (lent : List ℕ) (c : Candidate) where
  pub judged_11 : (b : Bar) → Err b ≡ numbers_told own c.neighbour → offered (Err b) ≡ verdict own lent c
  unfolding numbers_told verdict
  judged_11 b e = go (bad_numbers own c.neighbour) e
    where
      go : (v : Bool) → ◌≡◌ {A = Result ℕ Bar} (Err b) (cond v (Err bar.Numbers) (Ok (ahead_of own c.neighbour)))
          → offered (Err b) ≡ cond v (Barred 11 no_place) (cond (outside lent c) (Barred 12 no_place) (judge_reading own c.neighbour (read_run (run_of lent c))))
      go true e = let q : b ≡ bar.Numbers = cc in rw q
      go false e = absurd (let z : ◌≡◌ {A = ℕ} 0 1 = cc in omega arith)

  -- past bar 11
  module _ (a : ℕ) (e : Ok a ≡ numbers_told own c.neighbour) where
    pub in_range : (bad_numbers own c.neighbour ≡ false) × (a ≡ ahead_of own c.neighbour)
    unfolding numbers_told
    in_range = go (bad_numbers own c.neighbour) e
      where
        go : (v : Bool) → ◌≡◌ {A = Result ℕ Bar} (Ok a) (cond v (Err bar.Numbers) (Ok (ahead_of own c.neighbour))) → (v ≡ false) × (a ≡ ahead_of own c.neighbour)
        go true e = absurd (let z : ◌≡◌ {A = ℕ} 0 1 = cc in omega arith)
        go false e = (refl, cc)

    pub judged_12 : (b : Bar) → Err b ≡ run_in lent c → offered (Err b) ≡ verdict own lent c
    unfolding run_in verdict
    judged_12 b f = rw in_range.0 (go (outside lent c) f)
      where
        go : (v : Bool) → ◌≡◌ {A = Result (List ℕ) Bar} (Err b) (cond v (Err bar.Outside) (Ok (run_of lent c)))
            → offered (Err b) ≡ cond v (Barred 12 no_place) (judge_reading own c.neighbour (read_run (run_of lent c)))
        go true f = let q : b ≡ bar.Outside = cc in rw q
        go false f = absurd (let z : ◌≡◌ {A = ℕ} 0 1 = cc in omega arith)

    -- past bar 12
    module _ (run : List ℕ) (f : Ok run ≡ run_in lent c) where
      inside : judge_reading own c.neighbour (read_run run) ≡ verdict own lent c
      unfolding run_in verdict
      inside = rw in_range.0 (go (outside lent c) f)
        where
          go : (v : Bool) → ◌≡◌ {A = Result (List ℕ) Bar} (Ok run) (cond v (Err bar.Outside) (Ok (run_of lent c)))
              → judge_reading own c.neighbour (read_run run) ≡ cond v (Barred 12 no_place) (judge_reading own c.neighbour (read_run (run_of lent c)))
          go true f = absurd (let z : ◌≡◌ {A = ℕ} 0 1 = cc in omega arith)
          go false f = let q : run ≡ run_of lent c = cc in rw q

      -- a run that is refused
      pub judged_refused : (b : Bar) → Refused (bar_number b) (bar_place b) ≡ reading_of (read_run run) → offered (Err b) ≡ verdict own lent c
      judged_refused b r = go (read_run run) r ∙ inside
        where
          go : (x : Reading) → Refused (bar_number b) (bar_place b) ≡ reading_of x → Barred (bar_number b) (bar_place b) ≡ judge_reading own c.neighbour x
          go (refused m q) r = cc
          go (well_formed os) r = absurd (let z : ◌≡◌ {A = ℕ} 0 1 = cc in omega arith)

      -- the first object that bars
      by_first : (b : Bar) (os : List Object) (s : Summary) → read_run run ≡ well_formed os → s ≡ summary os → bar_number b ≡ first_of (constraint_bar c.neighbour s) os
          → bar_place b ≡ index_of (constraint_bar c.neighbour s) os → Barred (bar_number b) (bar_place b) ≡ judge_reading own c.neighbour (read_run run)
      by_first b os s q t i p = rw (q, ← t, ← i, ← p) (barred_by own c.neighbour b)

      -- past its reading
      module _ (n : ℕ) (k : Bool) (s : Summary) (r : WellFormed n k s ≡ reading_of (read_run run)) where
        well : (os : List Object) × (read_run run ≡ well_formed os) × (k ≡ any_of mandatory os) × (s ≡ summary os)
        well = go (read_run run) r
          where
            go : (x : Reading) → WellFormed n k s ≡ reading_of x → (os : List Object) × (x ≡ well_formed os) × (k ≡ any_of mandatory os) × (s ≡ summary os)
            go (refused m q) r = absurd (let z : ◌≡◌ {A = ℕ} 0 1 = cc in omega arith)
            go (well_formed os) r = (os, refl, cc, cc)

        -- an object bars
        pub judged_object : (b : Bar) → FirstBarring c.neighbour s run (Err b) → offered (Err b) ≡ verdict own lent c
        judged_object b f = let (os, q, m, t) = well in let (i, p) = f os q in by_first b os s q t i p ∙ inside

        by_none : ((os : List Object) → read_run run ≡ well_formed os → 0 ≡ first_of (constraint_bar c.neighbour (summary os)) os)
            → judge_rank own c.neighbour (rank_bar own c.neighbour) ≡ verdict own lent c
        by_none f =
            let (os, q, m, t) = well in
            let g : judge_rank own c.neighbour (rank_bar own c.neighbour) ≡ judge_reading own c.neighbour (read_run run) = rw (q, ← f os q) in
            g ∙ inside

        -- none does
        pub clear_tested : ((os : List Object) → read_run run ≡ well_formed os → 0 ≡ first_of (constraint_bar c.neighbour s) os)
            → judge_rank own c.neighbour (rank_bar own c.neighbour) ≡ verdict own lent c
        clear_tested f = by_none (λ os q. let (os', q', m, t) = well in let z : os ≡ os' = well_same os os' q q' in rw (z, ← t) (f os' q'))

        -- none is a mandatory constraint
        pub clear_untested : k ≡ false → judge_rank own c.neighbour (rank_bar own c.neighbour) ≡ verdict own lent c
        clear_untested z = by_none (λ os q. let (os', q', m, t) = well in let w : os ≡ os' = well_same os os' q q' in rw w (sym (no_mandatory c.neighbour (summary os') os' (sym z ∙ m))))
