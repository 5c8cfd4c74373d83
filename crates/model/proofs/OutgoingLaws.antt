-- When a container is sent on, and which.
use mathlib.Core.Path.{◌≡◌, refl, sym, ◌∙◌}
use Prim.Native.Nat.{ℕ, zero, suc}
use native.Mathlib.Omega.{arith}
use mathlib.Core.List.{List}
use mathlib.Core.Option.{some}
use lib.ListN.{get_elem?}
use lib.Seq.{take-append_seam}
use Rattle.model.specs.declared.Offer.{Offer}
use Rattle.model.specs.declared.Own.{Own}
use Rattle.model.specs.declared.Candidate.{Candidate}
use Rattle.model.specs.Choice.{Choice}
use Rattle.model.specs.Choice.{Nobody, Parent}
use Rattle.model.specs.Object.{Object}
use Rattle.model.specs.Reading.{well_formed}
use Rattle.model.specs.Run.{read_run}
use Rattle.model.specs.Pack.{packed}
use Rattle.model.specs.Verdict.{run_of}
use Rattle.model.specs.Update.{update, leaf_answer}
use Rattle.model.specs.Choice.{Outgoing, no_container, next_hop, unless_leaf, outgoing, no_parent, leaf_of, choice_of, call}
use Rattle.model.specs.Selection.{PreferredParent}
use Rattle.model.specs.Untouched.{passed_on}
use Rattle.model.proofs.ListLaws.{at_below}
use Rattle.model.proofs.CallLaws.{call_is, unrefused}
use Rattle.model.proofs.Selection.{parented}

-- nothing is sent for want of a parent, or by a leaf answer; or the chosen parent's objects, updated, are
pub data Sending (own : Own) (cs : List Candidate) (lent : List ℕ) (ch : Choice) : Outgoing → Type 0 where
  nobody : ch ≡ Nobody → Sending own cs lent ch (no_container 0)
  as_leaf : (k : ℕ) → Sending own cs lent ch (no_container (suc k))
  sends : (p : ℕ) (r : Offer) (c : Candidate) (os : List Object) → ch ≡ Parent p r → get_elem? cs p ≡ some c → read_run (run_of lent c) ≡ well_formed os
      → leaf_answer own c.neighbour os ≡ 0 → Sending own cs lent ch (next_hop (packed (update own c.neighbour os)))

sending_parent : (own : Own) (cs : List Candidate) (lent : List ℕ) (p : ℕ) (r : Offer) (c : Candidate) (os : List Object) → get_elem? cs p ≡ some c
    → read_run (run_of lent c) ≡ well_formed os → Sending own cs lent (Parent p r) (outgoing own cs lent (Parent p r))
unfolding outgoing
sending_parent own cs lent p r c os s e = rw (s, e) (go (leaf_answer own c.neighbour os) refl)
  where
    go : (k : ℕ) → leaf_answer own c.neighbour os ≡ k → Sending own cs lent (Parent p r) (unless_leaf k (packed (update own c.neighbour os)))
    go zero l = sends p r c os refl s e l
    go (suc k) l = as_leaf k

pub sending : (own : Own) (cs : List Candidate) (lent out : List ℕ) → (call own cs lent out).answer.refusal ≡ 0 → (ch : Choice) → choice_of own cs lent ≡ ch
    → Sending own cs lent ch (outgoing own cs lent ch)
unfolding outgoing
sending own cs lent out taken Nobody e = nobody refl
sending own cs lent out taken (Parent p r) e =
    let x = parented own cs lent out taken p r e (no_container 0) in
    sending_parent own cs lent p r x.candidate x.objects x.stands x.read

-- the leaf number of a parent with these objects
leaf_of_lem : (own : Own) (cs : List Candidate) (lent : List ℕ) (p : ℕ) (r : Offer) (c : Candidate) (os : List Object) → get_elem? cs p ≡ some c
    → read_run (run_of lent c) ≡ well_formed os → leaf_of (outgoing own cs lent (Parent p r)) ≡ leaf_answer own c.neighbour os
unfolding outgoing
leaf_of_lem own cs lent p r c os s e = rw (s, e) (go (leaf_answer own c.neighbour os))
  where
    go : (k : ℕ) → leaf_of (unless_leaf k (packed (update own c.neighbour os))) ≡ k
    go zero = refl
    go (suc k) = refl

-- the container that is sent for them
container_of : (own : Own) (cs : List Candidate) (lent : List ℕ) (p : ℕ) (r : Offer) (c : Candidate) (os : List Object) → get_elem? cs p ≡ some c
    → read_run (run_of lent c) ≡ well_formed os → leaf_answer own c.neighbour os ≡ 0 → outgoing own cs lent (Parent p r) ≡ next_hop (packed (update own c.neighbour os))
unfolding outgoing
container_of own cs lent p r c os s e l = rw (s, e, l)

module _ (own : Own) (cs : List Candidate) (lent out : List ℕ) (taken : (call own cs lent out).answer.refusal ≡ 0)
    (x : PreferredParent own cs lent (call own cs lent out).answer) where
  -- the parent that the answer names is the one chosen
  record Chosen : Type 0 where
    position : ℕ
    offer : Offer
    choice : choice_of own cs lent ≡ Parent position offer
    stands : get_elem? cs position ≡ some x.candidate

  chosen : Chosen
  chosen = go (choice_of own cs lent) refl
    where
      go : (ch : Choice) → choice_of own cs lent ≡ ch → Chosen
      go Nobody e =
          let s : get_elem? cs no_parent ≡ some x.candidate = rw (call_is own cs lent out taken, e) at x.stands in
          let b = at_below cs no_parent x.candidate s in
          let u = unrefused own cs lent out taken in
          absurd (omega (arith, u.few))
      go (Parent p r) e = record { position = p; offer = r; choice = e; stands = rw (call_is own cs lent out taken, e) at x.stands }

  pub leaf_is : (call own cs lent out).answer.leaf ≡ leaf_answer own x.candidate.neighbour x.objects
  leaf_is =
      let h = chosen in
      rw (call_is own cs lent out taken, h.choice) (leaf_of_lem own cs lent h.position h.offer x.candidate x.objects h.stands x.read)

  pub passed_is : (call own cs lent out).answer.leaf ≡ 0 → passed_on (call own cs lent out) ≡ packed (update own x.candidate.neighbour x.objects)
  passed_is l =
      let h = chosen in
      let o = container_of own cs lent h.position h.offer x.candidate x.objects h.stands x.read (sym leaf_is ∙ l) in
      rw (call_is own cs lent out taken, h.choice, o) (take-append_seam (packed (update own x.candidate.neighbour x.objects)) _)
