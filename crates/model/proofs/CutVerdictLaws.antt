-- The cut against the verdict on a candidate.
use mathlib.Core.Path.{◌≡◌, ap, refl, sym, ◌∙◌}
use Prim.Native.Nat.{ℕ, zero, suc}
use mathlib.Core.Bool.{Bool, true, false, cond, not, ◌||◌}
use mathlib.Core.List.{List}
use Rattle.model.specs.declared.Own.{Own}
use Rattle.model.specs.declared.Neighbour.{Neighbour}
use Rattle.model.specs.declared.Candidate.{Candidate}
use borrow.Author.Tests.{not-false}
use Rattle.model.specs.declared.Offer.{Offer}
use Rattle.model.specs.Verdict.{Unbarred, Barred}
use Rattle.model.specs.Number.{any_of, first_of, index_of}
use Rattle.model.specs.Object.{Object}
use Rattle.model.specs.Reading.{no_place, well_formed}
use Rattle.model.specs.Run.{read_run}
use Rattle.model.specs.Constraint.{summary, unknown_mandatory, constraint_bar}
use Rattle.model.specs.Rank.{resulting}
use Rattle.model.specs.Verdict.{offer_of, bad_numbers, run_of, rank_bar, judge_rank, judge_objects, judge_reading, verdict, is_unbarred}
use Rattle.model.specs.Cut.{cut}
use Rattle.model.specs.Unknown.{CutBeside, is_unknown_mandatory, holds_unknown}
use Rattle.model.specs.Conditions.{objects_in}
use Rattle.model.proofs.ListLaws.{any_same}
use Rattle.model.proofs.TypeLaws.{unknown_mandatory_lem}
use Rattle.model.proofs.BoolLaws.{neither, or_right}
use Rattle.model.proofs.VerdictLaws.{admitted}
use Rattle.model.proofs.NumberLaws.{is_given}
use Rattle.model.proofs.CutLaws.{constraint_bars_cut, constraint_bars_same}
use Rattle.model.proofs.RunLaws.{run_objects_lem, run_cut}
use Rattle.model.proofs.ChoiceLaws.{placeless}

rank_bars : (own : Own) (c : Neighbour) (n : ℕ) → not (is_unbarred (judge_rank own c n)) ≡ is_given n
rank_bars own c zero = refl
rank_bars own c (suc n) = refl

judge_bars : (own : Own) (c : Neighbour) (n p : ℕ) → not (is_unbarred (judge_objects own c n p)) ≡ is_given n || is_given (rank_bar own c)
judge_bars own c zero p = rank_bars own c (rank_bar own c)
judge_bars own c (suc n) p = refl

judge_cut : (own : Own) (c : Neighbour) (os : List Object)
    → not (is_unbarred (judge_reading own c (well_formed os))) ≡ not (is_unbarred (judge_reading own c (well_formed (cut os)))) || any_of unknown_mandatory os
judge_cut own c os =
    let n = first_of (constraint_bar c (summary os)) os in
    let n' = first_of (constraint_bar c (summary (cut os))) (cut os) in
    rw (judge_bars own c n (index_of (constraint_bar c (summary os)) os), judge_bars own c n' (index_of (constraint_bar c (summary (cut os))) (cut os)))
    (or_right (is_given (rank_bar own c)) (is_given n) (is_given n') (any_of unknown_mandatory os) (constraint_bars_cut c os))

-- the place of a bar goes with `placeless`
judge_placeless : (own : Own) (c : Neighbour) (n p p' : ℕ) → placeless (judge_objects own c n p) ≡ placeless (judge_objects own c n p')
judge_placeless own c zero p p' = refl
judge_placeless own c (suc n) p p' = refl

judge_same : (own : Own) (c : Neighbour) (os : List Object) → any_of unknown_mandatory os ≡ false
    → placeless (judge_reading own c (well_formed os)) ≡ placeless (judge_reading own c (well_formed (cut os)))
judge_same own c os e = rw (constraint_bars_same c os e) (judge_placeless own c (first_of (constraint_bar c (summary (cut os))) (cut os)) _ _)

module _ (own : Own) (lent lent' : List ℕ) (c c' : Candidate) (x : CutBeside lent lent' c c') where
  pub holds_unknown_lem : holds_unknown lent c ≡ any_of unknown_mandatory x.whole.objects
  holds_unknown_lem =
      any_same is_unknown_mandatory unknown_mandatory unknown_mandatory_lem (objects_in (run_of lent c)) ∙ rw (run_objects_lem (run_of lent c) x.whole.objects x.whole.read).objects

  pub read_second : read_run (run_of lent' c') ≡ well_formed (cut x.whole.objects)
  read_second = rw x.cut (run_cut (run_of lent c) x.whole.objects x.whole.read)

  pub verdict_bars : not (is_unbarred (verdict own lent c)) ≡ not (is_unbarred (verdict own lent' c')) || holds_unknown lent c
  unfolding verdict
  verdict_bars = rw (holds_unknown_lem, x.numbers, x.whole.inside, x.inside, x.whole.read, read_second) (go (bad_numbers own c.neighbour))
    where
      go : (b : Bool) → not (is_unbarred (cond b (Barred 11 no_place) (judge_reading own c.neighbour (well_formed x.whole.objects))))
          ≡ not (is_unbarred (cond b (Barred 11 no_place) (judge_reading own c.neighbour (well_formed (cut x.whole.objects))))) || any_of unknown_mandatory x.whole.objects
      go true = refl
      go false = judge_cut own c.neighbour x.whole.objects

  pub verdict_same : holds_unknown lent c ≡ false → placeless (verdict own lent c) ≡ placeless (verdict own lent' c')
  unfolding verdict
  verdict_same s = rw (x.numbers, x.whole.inside, x.inside, x.whole.read, read_second) (go (bad_numbers own c.neighbour))
    where
      go : (b : Bool) → placeless (cond b (Barred 11 no_place) (judge_reading own c.neighbour (well_formed x.whole.objects)))
          ≡ placeless (cond b (Barred 11 no_place) (judge_reading own c.neighbour (well_formed (cut x.whole.objects))))
      go true = refl
      go false = judge_same own c.neighbour x.whole.objects (sym holds_unknown_lem ∙ s)

  pub resulting_same : resulting own c.neighbour ≡ resulting own c'.neighbour
  resulting_same = rw x.numbers

  -- unbarred in the first call, a candidate is unbarred in the second, with the same rank
  pub unbarred_same : (k : Offer) → verdict own lent c ≡ Unbarred k → verdict own lent' c' ≡ Unbarred k
  unbarred_same k e =
      let f : is_unbarred (verdict own lent c) ≡ true = rw e in
      let b : not (is_unbarred (verdict own lent' c')) ≡ false = (neither (not (is_unbarred (verdict own lent' c'))) (holds_unknown lent c) (sym verdict_bars ∙ rw f)).0 in
      let a = admitted own lent c f in
      let a' = admitted own lent' c' (not-false (is_unbarred (verdict own lent' c')) b) in
      a'.judged ∙ ap (λ n. Unbarred (offer_of own n)) x.numbers ∙ sym a.judged ∙ e
