-- What was asked and found, by the number that bars.
use mathlib.Core.Path.{◌≡◌, refl}
use Prim.Native.Nat.{ℕ, ◌+◌, ◌-◌, ◌≤◌, ◌<◌}
use native.Mathlib.Nat.{add-sub_cancel_left}
use mathlib.Core.Bool.{false, ◌||◌}
use mathlib.Core.List.{List}
use lib.ListN.{length, take, drop}
use borrow.Author.Tests.{eq-eqb, ne_eqb, lt-ltb, le-ltb}
use Rattle.model.specs.declared.Own.{Own}
use Rattle.model.specs.declared.Candidate.{Candidate}
use Rattle.model.specs.Verdict.{Barred}
use native.Mathlib.Omega.{arith}
use Rattle.model.specs.declared.verdicts.Bar.{Bar}
use Rattle.model.specs.declared.verdicts.Bar.TheVariants as bar
use Rattle.model.specs.declared.verdicts.ObjectBar.TheVariants as at
use Rattle.model.specs.Bars.{bar_number}
use Rattle.model.specs.Run.{option_cut, ninth_container}
use Rattle.model.specs.Verdict.{bad_numbers, run_of, outside, verdict}
use Rattle.model.proofs.BoolLaws.{neither}
use Rattle.model.proofs.Bars.{bar_exact}
use Rattle.std.specs.Prelude.{Result, Ok, Err, ⊤}
use Rattle.std.specs.Result.{result_err}
use Rattle.reason.specs.declared.findings.Shortfall.{Shortfall}
use Rattle.reason.specs.declared.findings.Finding.{Finding}
use Rattle.reason.specs.Told.{finding_in, finding_from}
use Rattle.reason.specs.Finding.{range_finding, outside_finding, run_finding, bar_finding}

-- what a check finds
pub by_err : (r : Result ⊤ Shortfall) → finding_in (result_err r) ≡ finding_from r
by_err (Ok u) = refl
by_err (Err s) = refl

-- another bar has another number
pub other_number : (b : Bar) → (b ≡ bar.Numbers → ⊥) → bar_number b ≡ 11 → ⊥
other_number bar.Numbers h e = h refl
other_number bar.Outside h e = omega arith
other_number bar.Frame h e = omega arith
other_number bar.Overrun h e = omega arith
other_number (bar.AtObject at.Body p) h e = omega arith
other_number (bar.AtObject at.Repeat p) h e = omega arith
other_number (bar.AtObject at.Recorded p) h e = omega arith
other_number (bar.AtObject at.Unknown p) h e = omega arith
other_number (bar.AtObject at.Unmet p) h e = omega arith
other_number bar.Rank h e = omega arith
other_number bar.Increase h e = omega arith
other_number bar.Option h e = omega arith
other_number bar.Containers h e = omega arith

module _ (own : Own) (c : Candidate) (n p : ℕ) (lent : List ℕ) where
  pub found_range : n ≡ 11 → range_finding own c.neighbour ≡ bar_finding own c n p lent
  unfolding bar_finding
  found_range e = rw (eq-eqb n 11 e)

  pub found_outside : (n ≡ 11 → ⊥) → length lent < c.start + c.size → outside_finding c (length lent) ≡ bar_finding own c n p lent
  unfolding bar_finding
  found_outside h l = rw (ne_eqb n 11 h, lt-ltb (length lent) (c.start + c.size) l)

  -- bar 14 comes behind 22
  options_whole : verdict own lent c ≡ Barred n p → n ≡ 14 → option_cut (run_of lent c) ≡ false
  options_whole v e =
      let (f, h) = (bar_exact own lent c).bar_14.0 (rw v e) in
      let (a, f) = neither (bad_numbers own c.neighbour) _ f in
      let (b, f) = neither (outside lent c) _ f in
      (neither (option_cut (run_of lent c)) (ninth_container (run_of lent c) || false) f).0

  -- the run as code lends it
  abbrev run : List ℕ
  run = take (c.start + c.size - c.start) (drop c.start lent)

  pub found_inside : {r : Finding} → (n ≡ 11 → ⊥) → c.start + c.size ≤ length lent
      → ((n ≡ 14 → option_cut run ≡ false) → r ≡ run_finding c.neighbour n p run) → verdict own lent c ≡ Barred n p → r ≡ bar_finding own c n p lent
  unfolding bar_finding
  found_inside {r} h l f v =
      let same : c.start + c.size - c.start ≡ c.size = add-sub_cancel_left c.start c.size in
      let f : (n ≡ 14 → option_cut (run_of lent c) ≡ false) → r ≡ run_finding c.neighbour n p (run_of lent c) = rw same at f in
      rw (ne_eqb n 11 h, le-ltb (length lent) (c.start + c.size) l) (f (options_whole v))
