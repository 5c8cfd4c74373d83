-- The parent of a call that is not refused: where it stands, and what is sent on for it.
use mathlib.Core.Path.{◌≡◌, sym, ap, ◌∙◌}
use Prim.Native.Nat.{ℕ, ◌+◌, ◌≤◌, ◌<◌}
use native.Mathlib.Omega.{arith}
use mathlib.Core.Bool.{true}
use mathlib.Core.List.{List}
use mathlib.Core.Option.{some}
use lib.ListN.{length, get_or, get_elem?, take, drop, length-take, take-append-drop}
use borrow.Author.Tests.{le-ltb, ltb-false}
use Rattle.model.specs.declared.Offer.{Offer}
use Rattle.model.specs.declared.Own.{Own}
use Rattle.model.specs.declared.Neighbour.{Neighbour}
use Rattle.model.specs.declared.Candidate.{Candidate}
use Rattle.model.specs.Verdict.{Unbarred}
use Rattle.model.specs.Choice.{Parent}
use Rattle.model.specs.Object.{Object}
use Rattle.model.specs.Reading.{well_formed}
use Rattle.model.specs.Run.{read_run}
use Rattle.model.specs.Verdict.{run_of, verdict, is_unbarred}
use Rattle.model.specs.Choice.{current_of, outgoing_read, outgoing, verdicts, choice_of}
use Rattle.model.proofs.ListLaws.{at_below, map_at, get_d_at}
use Rattle.model.proofs.ChoiceLaws.{choose_unbarred}
use Rattle.model.proofs.RunLaws.{run_objects_lem}
use Rattle.model.proofs.VerdictLaws.{Admitted, admitted, in_range}
use Rattle.hop.specs.Sent.{sends}

-- a well-formed run in range is sent on as the model has it
sends_read : (own : Own) (c : Neighbour) (bs : List ℕ) (room : ℕ) (os : List Object) → read_run bs ≡ well_formed os → own.nodetype ≤ 3 → c.lql ≤ 7 → c.colour ≤ 1023
    → 2056 ≤ room → sends own c bs room ≡ outgoing_read own c (read_run bs)
unfolding sends
sends_read own c bs room os e t l k m = rw (le-ltb 3 own.nodetype t, le-ltb 7 c.lql l, le-ltb 1023 c.colour k, le-ltb room 2056 m, e, (run_objects_lem bs os e).objects)

module _ (own : Own) (cs : List Candidate) (lent : List ℕ) (n : ℕ) (d : Candidate) (p : ℕ) (r : Offer) (e : choice_of own (take n cs) lent ≡ Parent p r) where
  -- the parent at its position in the array
  pub record ParentAt : Type 0 where
    pub stands : get_elem? (take n cs) p ≡ some (get_or cs p d)
    pub below : p < n
    pub admits : Admitted own lent (get_or cs p d)

  pub parent_at : ParentAt
  parent_at =
      let (c, at, v) = map_at (verdict own lent) (take n cs) p (Unbarred r) (choose_unbarred (current_of own) (verdicts own (take n cs) lent) p r e) in
      let s : get_or cs p d ≡ c = ap (λ ds. get_or ds p d) (sym (take-append-drop n cs)) ∙ get_d_at (take n cs) (drop n cs) p c d at in
      let b = at_below (take n cs) p c at in
      let l = length-take n cs in
      let u : is_unbarred (verdict own lent (get_or cs p d)) ≡ true = rw (s, v) in
      record { stands = rw s at; below = omega arith; admits = admitted own lent (get_or cs p d) u }

  -- its run lies in the lent bytes
  pub parent_inside : (get_or cs p d).start + (get_or cs p d).size ≤ length lent
  parent_inside = ltb-false (length lent) ((get_or cs p d).start + (get_or cs p d).size) parent_at.admits.inside

  -- what is sent on for it
  pub parent_sends : (room : ℕ) → own.nodetype ≤ 3 → 2056 ≤ room
      → sends own (get_or cs p d).neighbour (run_of lent (get_or cs p d)) room ≡ outgoing own (take n cs) lent (Parent p r)
  unfolding outgoing
  parent_sends room t m =
      let x = parent_at in
      let a = x.admits in
      let (i, j, q, k) = in_range own (get_or cs p d).neighbour a.in_range in
      rw x.stands (sends_read own (get_or cs p d).neighbour (run_of lent (get_or cs p d)) room a.objects a.read t q k m)
