-- What a call returns and leaves in the output is what the model says.
use mathlib.Core.Path.{◌≡◌, refl, sym, ap, ◌∙◌}
use Prim.Native.Nat.{ℕ, ◌+◌, ◌-◌, ◌≤◌, ◌<◌}
use native.Mathlib.Nat.{add-sub_cancel_left}
use native.Mathlib.Omega.{arith}
use mathlib.Core.List.{List}
use Rattle.std.specs.Int.Count.{ones}
use lib.ListN.{length, get_or, take, drop}
use Rattle.model.specs.declared.Offer.{Offer}
use Rattle.model.specs.declared.Own as OwnType
use Rattle.model.specs.declared.Rank.{Rank}
use Rattle.model.specs.declared.Candidate.{Candidate}
use Rattle.model.specs.Choice.{Choice}
use Rattle.model.specs.Choice.{Nobody, Parent}
use Rattle.model.specs.declared.Answer.{Answer}
use Rattle.model.specs.Choice.{refusal, Outgoing, no_parent, parent_of, rank_of, output_of, outgoing, Result, choice_of, unless_refused, call}
use Rattle.model.proofs.Refusals.{refusal_is}
use Rattle.model.proofs.CallLaws.{call_is, unrefused}
use Rattle.hop.specs.Sent.{Sent, sent_of, sends}
use Rattle.choice.specs.Given.{given}
use Rattle.choice.specs.Demand3.{Returned}
use Rattle.choice.specs.declared.refusals.Refusal.{Refusal}
use Rattle.choice.specs.declared.refusals.Refusal.TheVariants.{Own, Count, Current, Output, Edition}
use Rattle.choice.specs.Refusal.{number_of}
use Rattle.choice.specs.Answered.{refused_answer, no_rank, nothing, answer_with}
use Rattle.choice.proofs.GivenLaws.{given-length, given_within}
use Rattle.choice.proofs.PassLaws.{Gathered, Pass, pass_end}
use Rattle.choice.proofs.ParentLaws.{parent_at, parent_inside, parent_sends}

module _ (own : OwnType.Own) (cs : List Candidate) (n : ℕ) (lent out : List ℕ) where
  -- the contract of `call`: an answer, and the output as it is left
  abbrev pub Returns : Answer → (left : List ℕ) → Type 0
  Returns r left = (r ≡ (call own (given cs n) lent out).answer) × (left ≡ (call own (given cs n) lent out).output)

  pub refused_returns : (k : Refusal) {r : Answer} → number_of k ≡ refusal own n (length out) → r ≡ refused_answer (number_of k)
      → Returns r out
  unfolding call
  refused_returns k {r} e a = rw (given-length cs n, ← e, a) (go k _)
    where
      go : (k : Refusal) → (x : Result) → (refused_answer (number_of k) ≡ (unless_refused (number_of k) x out).answer) × (out ≡ (unless_refused (number_of k) x out).output)
      go Own x = (refl, refl)
      go Count x = (refl, refl)
      go Current x = (refl, refl)
      go Output x = (refl, refl)
      go Edition x = (refl, refl)

  taken : refusal own n (length out) ≡ 0 → (call own (given cs n) lent out).answer.refusal ≡ 0
  taken z = refusal_is own (given cs n) lent out ∙ rw (given-length cs n) z

  -- what a call knows that is not refused
  pub record Runs : Type 0 where
    pub few : n ≤ 16
    pub known_type : own.nodetype ≤ 3
    pub room : 2056 ≤ length out

  pub runs : refusal own n (length out) ≡ 0 → Runs
  runs z =
      let u = unrefused own (given cs n) lent out (taken z) in
      let l = given-length cs n in
      record { few = omega (arith, u.few); known_type = u.known_type; room = u.room }

  module _ (z : refusal own n (length out) ≡ 0) (answer : Answer) {best : Choice} {i : ℕ} (pass : Pass own lent (take n cs) i answer best) (over : length (take n cs) ≤ i) (array : length cs ≡ 16) where
    g : Gathered own lent (take n cs) answer.verdicts answer.places answer.bits best
    g = pass_end pass over

    answered_returns : (ch : Choice) → best ≡ ch → (o : Outgoing) → o ≡ outgoing own (take n cs) lent ch
        → Returns (answer_with (parent_of ch) (rank_of ch) answer.verdicts answer.places answer.bits (sent_of o)) (output_of o out)
    answered_returns ch b o f =
        let q : choice_of own (take n cs) lent ≡ ch = sym g.chosen ∙ b in
        let h : n ≤ length cs = omega (arith, array, (runs z).few) in
        rw (call_is own (given cs n) lent out (taken z), given_within cs n, q, ← f, g.numbered, g.placed, g.marked) (refl, refl)

    pub nobody_returns : {k : ℕ} → best ≡ Nobody → k ≡ ones answer.bits → Returns (record answer { count = k }) out
    unfolding outgoing
    nobody_returns b count =
        let e : record answer { count = ones answer.bits } ≡ answer_with no_parent no_rank answer.verdicts answer.places answer.bits nothing = ap {A = Answer} {B = Answer} (λ a. record a { count = ones answer.bits }) pass.fresh in
        rw (count, e) (answered_returns Nobody b _ refl)

    module _ (d : Candidate) (p : ℕ) (offer : Offer) (b : best ≡ Parent p offer) where
      -- the parent is among the candidates, and its run lies in the lent bytes
      pub parent_place : (p < 16) × ((get_or cs p d).start + (get_or cs p d).size ≤ length lent)
      parent_place =
          let e = sym g.chosen ∙ b in
          (omega (arith, (parent_at own cs lent n d p offer e).below, (runs z).few), parent_inside own cs lent n d p offer e)

      -- what is sent on for it, by the two lists that are lent
      abbrev pub SentAs : Sent → (left : List ℕ) → Type 0
      SentAs s left =
          let c = get_or cs p d in let o = sends own c.neighbour (take (c.start + c.size - c.start) (drop c.start lent)) (length out) in
          (s ≡ sent_of o) × (left ≡ output_of o out)

      parent_returns : {r : Answer} {s : Sent} {left : List ℕ} → SentAs s left → r ≡ answer_with p offer.rank answer.verdicts answer.places answer.bits s → Returns r left
      parent_returns (x, y) a =
          let c = get_or cs p d in
          let u = runs z in
          let f : sends own c.neighbour (take (c.start + c.size - c.start) (drop c.start lent)) (length out) ≡ outgoing own (take n cs) lent (Parent p offer) =
          rw (add-sub_cancel_left c.start c.size) (parent_sends own cs lent n d p offer (sym g.chosen ∙ b) (length out) u.known_type u.room) in
          rw (a, x, y) (answered_returns (Parent p offer) b _ f)

      pub size_returns : {k size : ℕ} {left : List ℕ} → k ≡ ones answer.bits → SentAs (record { leaf = 0; size = size }) left
          → Returns (record answer { parent = p; rank = offer.rank; count = k; size = size }) left
      size_returns {k} {size} count sent = parent_returns sent (rw count (ap {A = Answer} {B = Answer} (λ a. record a { parent = p; rank = offer.rank; count = ones answer.bits; size = size }) pass.fresh))

      pub leaf_returns : {k leaf : ℕ} {left : List ℕ} → k ≡ ones answer.bits → SentAs (record { leaf = leaf; size = 0 }) left
          → Returns (record answer { parent = p; rank = offer.rank; count = k; leaf = leaf }) left
      leaf_returns {k} {leaf} count sent = parent_returns sent (rw count (ap {A = Answer} {B = Answer} (λ a. record a { parent = p; rank = offer.rank; count = ones answer.bits; leaf = leaf }) pass.fresh))

-- both parts of the contract, and what demand 3 asks of them
pub as_returned : {own : OwnType.Own} {cs : List Candidate} {n : ℕ} {lent out : List ℕ} {r : Answer} {left : List ℕ} → Returns own cs n lent out r left
    → (r ≡ (call own (given cs n) lent out).answer) × ((left ≡ (call own (given cs n) lent out).output) × Returned own cs n lent out (record { answer = r; output = left }))
as_returned (a, o) = (a, (o, record { answer = a; output = o }))
