-- What a call leaves of the lent output.
use mathlib.Core.Path.{◌≡◌, refl, sym, ap, ◌∙◌}
use Prim.Native.Nat.{ℕ, zero, suc, ◌≤◌}
use native.Mathlib.Omega.{arith}
use mathlib.Core.Bool.{true, false, false≢true, true≢false}
use mathlib.Core.List.{List, ◌++◌}
use lib.ListN.{length, take, drop, length-append, length-drop}
use lib.Seq.{take-append_seam, drop-append_seam}
use Rattle.model.specs.declared.Own.{Own}
use Rattle.model.specs.declared.Candidate.{Candidate}
use Rattle.model.specs.Verdict.{Verdict}
use Rattle.model.specs.Choice.{Choice}
use Rattle.model.specs.Pack.{packed}
use Rattle.model.proofs.PackLaws.{written}
use Rattle.model.specs.Update.{update}
use Rattle.model.specs.Choice.{Outgoing, outgoing, answered, refused_by, unless_refused, verdicts, choice_of, call, refusal}
use Rattle.model.specs.Selection.{has_parent}
use Rattle.model.specs.Untouched.{Untouched, UntouchedHolds}
use Rattle.model.proofs.ChoiceLaws.{is_parent}
use Rattle.model.proofs.Refusals.{refusal_is}
use Rattle.model.proofs.Selection.{has_parent_lem}
use Rattle.model.proofs.CallLaws.{unrefused}
use Rattle.model.proofs.OutgoingLaws.{Sending, nobody, as_leaf, sends, sending}
use Rattle.model.proofs.LeafLaws.{fits}

refused_untouched : (n : ℕ) (out : List ℕ) → Untouched out (refused_by (suc n) out)
refused_untouched n out = record {
  refused = λ h. (refl, refl);
  nobody = λ h. (refl, refl);
  leaf = λ h. (refl, refl);
  length_all = λ p. absurd (let z = p.unrefused in omega arith);
  written = λ p. absurd (let z = p.unrefused in omega arith);
  rest = refl;
  size = refl;
}

module _ (own : Own) (cs : List Candidate) (lent out : List ℕ) (room : 2056 ≤ length out) where
  -- by what is sent for a choice that is known to be a parent, or not
  by_sending : (vs : List Verdict) (ch : Choice) (o : Outgoing) → Sending own cs lent ch o → has_parent (answered vs ch o out).answer ≡ is_parent ch → Untouched out (answered vs ch o out)
  by_sending vs ch o (nobody e) h = record {
    refused = λ g. (refl, refl);
    nobody = λ g. (refl, refl);
    leaf = λ g. (refl, refl);
    length_all = λ g. absurd (let w : is_parent ch ≡ false = rw e in false≢true (sym w ∙ sym h ∙ g.parent));
    written = λ g. absurd (let w : is_parent ch ≡ false = rw e in false≢true (sym w ∙ sym h ∙ g.parent));
    rest = refl;
    size = refl;
  }
  by_sending vs ch o (as_leaf k) h = record {
    refused = λ g. (refl, refl);
    nobody = λ g. (refl, refl);
    leaf = λ g. (refl, refl);
    length_all = λ g. absurd (let z = g.no_leaf in omega arith);
    written = λ g. absurd (let z = g.no_leaf in omega arith);
    rest = refl;
    size = refl;
  }
  by_sending vs ch o (sends p r c os e s x l) h =
      let bs = packed (update own c.neighbour os) in
      let w = written (update own c.neighbour os) (fits own c.neighbour os l) in
      let t : take (length bs) (bs ++ drop (length bs) out) ≡ bs = take-append_seam bs (drop (length bs) out) in
      let room_left : length bs ≤ length out = omega (arith, w.room) in
      record {
        refused = λ g. absurd (g refl);
        nobody = λ g. absurd (let w : is_parent ch ≡ true = rw e in true≢false (sym w ∙ sym h ∙ g));
        leaf = λ g. absurd (g refl);
        written = λ g. (w.data', t ∙ w.bytes, w.short, w.some_container, w.few);
        length_all = λ g. ap length t;
        rest = drop-append_seam bs (drop (length bs) out);
        size = simp (length-append, length-drop) (omega arith);
      }

-- every call
pub untouched : UntouchedHolds
unfolding call
untouched own cs lent out = go (refusal own (length cs) (length out)) refl
  where
    go : (n : ℕ) → refusal own (length cs) (length out) ≡ n
        → Untouched out (unless_refused n (answered (verdicts own cs lent) (choice_of own cs lent) (outgoing own cs lent (choice_of own cs lent)) out) out)
    go zero e =
        let taken : (call own cs lent out).answer.refusal ≡ 0 = refusal_is own cs lent out ∙ e in
        by_sending own cs lent out (unrefused own cs lent out taken).room (verdicts own cs lent) (choice_of own cs lent) _ (sending own cs lent out taken (choice_of own cs lent) refl) (has_parent_lem own cs lent out taken (choice_of own cs lent) refl)
    go (suc n) e = refused_untouched n out
