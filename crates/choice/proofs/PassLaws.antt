-- The pass over the candidates: what is gathered of those that are judged.
use mathlib.Core.Path.{◌≡◌, refl, sym, ap, ◌∙◌}
use Prim.Native.Nat.{ℕ, ◌+◌, ◌*◌, ◌^◌, ◌≤◌, ◌<◌}
use native.Mathlib.Nat.{add-zero, add_comm, zero-mul, one-mul}
use native.Mathlib.Omega.{arith}
use native.Mathlib.Numerals.{add-one}
use mathlib.Core.List.{List, [], ◌∷◌, ◌++◌, map, map-append}
use lib.ListN.{length, get_or, set, take, replicate, length-map}
use lib.Seq.{take-suc, length-take-le, take_all}
use lib.Bits.{bit_or, or_shifted_r}
use Rattle.model.specs.declared.Own.{Own}
use Rattle.model.specs.declared.Candidate.{Candidate}
use Rattle.model.specs.declared.Offer.{Offer}
use Rattle.model.specs.Verdict.{Verdict}
use Rattle.model.specs.Verdict.{Unbarred, Barred}
use Rattle.model.specs.Choice.{Choice}
use Rattle.model.specs.Choice.{Nobody}
use Rattle.model.specs.declared.Answer.{Answer}
use Rattle.std.specs.Prelude.{Option, Some, None, unwrap_or}
use Rattle.model.specs.declared.verdicts.Bar.{Bar}
use Rattle.model.specs.Bars.{place_told, place_or_none, bar_place}
use Rattle.model.specs.Reading.{no_place}
use Rattle.model.specs.Verdict.{verdict, number_of, place_of}
use Rattle.model.specs.Choice.{current_of, after_verdict, choose_from, unbarred_bit, bits_of, sixteen, verdicts, choice_of}
use Rattle.choice.specs.Answered.{refused_answer, judged_answer}
use Rattle.model.proofs.ChoiceLaws.{bits_below}
use Rattle.model.proofs.ChoosingLaws.{choose_snoc, bits_snoc, sixteen_snoc, sixteen_same}

-- what is gathered of the judged candidates: the verdicts' numbers and places, the bits, and the best
pub record Gathered (own : Own) (lent : List ℕ) (judged : List Candidate) (numbers places : List ℕ) (bits : ℕ) (best : Choice) : Type 0 where
  pub numbered : numbers ≡ sixteen 0 (map number_of (verdicts own judged lent))
  pub placed : places ≡ sixteen no_place (map place_of (verdicts own judged lent))
  pub marked : bits ≡ bits_of (verdicts own judged lent)
  pub chosen : best ≡ choice_of own judged lent

pub gathered_none : (own : Own) (lent : List ℕ) (cs : List Candidate) → Gathered own lent (take 0 cs) (replicate 16 0) (replicate 16 no_place) 0 Nobody
unfolding bits_of choose_from
gathered_none own lent cs = record { numbered = refl; placed = refl; marked = refl; chosen = refl }

-- the choice among one candidate more
pub choice_snoc : (own : Own) (lent : List ℕ) (judged : List Candidate) (c : Candidate)
    → choice_of own (judged ++ (c ∷ [])) lent ≡ after_verdict (current_of own) (choice_of own judged lent) (length judged) (verdict own lent c)
choice_snoc own lent judged c =
    let vs = verdicts own judged lent in
    rw (map-append (verdict own lent) judged (c ∷ []), ← length-map judged (verdict own lent)) (choose_snoc (current_of own) vs (verdict own lent c))

module _ (own : Own) (lent : List ℕ) (judged : List Candidate) (c : Candidate) {numbers places : List ℕ} {bits : ℕ} {best : Choice} where
  gathered_snoc : length judged < 16 → Gathered own lent judged numbers places bits best
      → Gathered own lent (judged ++ (c ∷ [])) (set numbers (length judged) (number_of (verdict own lent c))) (set places (length judged) (place_of (verdict own lent c)))
      (bits + unbarred_bit (verdict own lent c) * 2 ^ length judged) (after_verdict (current_of own) best (length judged) (verdict own lent c))
  gathered_snoc h g =
      let vs = verdicts own judged lent in
      let v = verdict own lent c in
      let s : verdicts own (judged ++ (c ∷ [])) lent ≡ vs ++ (v ∷ []) = map-append (verdict own lent) judged (c ∷ []) in
      let l : length vs ≡ length judged = length-map judged (verdict own lent) in
      let ln : length (map number_of vs) ≡ length judged = length-map vs number_of ∙ l in
      let lp : length (map place_of vs) ≡ length judged = length-map vs place_of ∙ l in
      record {
        numbered = rw (s, map-append number_of vs (v ∷ []), g.numbered, ← ln) (sixteen_snoc 0 (map number_of vs) (number_of v) (omega arith));
        placed = rw (s, map-append place_of vs (v ∷ []), g.placed, ← lp) (sixteen_snoc no_place (map place_of vs) (place_of v) (omega arith));
        marked = rw (s, g.marked, ← l) (sym (bits_snoc vs v));
        chosen = rw g.chosen (sym (choice_snoc own lent judged c));
      }

-- one candidate more
gathered_more : (own : Own) (lent : List ℕ) (cs : List Candidate) (i : ℕ) (d : Candidate) {numbers places : List ℕ} {bits : ℕ} {best b : Choice} {v : Verdict} {n p w : ℕ}
    → length cs ≤ 16 → i < length cs → Gathered own lent (take i cs) numbers places bits best → v ≡ verdict own lent (get_or cs i d)
    → n ≡ number_of v → p ≡ place_of v → w ≡ unbarred_bit v * 2 ^ i → b ≡ after_verdict (current_of own) best i v
    → Gathered own lent (take (i + 1) cs) (set numbers i n) (set places i p) (bits + w) b
gathered_more own lent cs i d s h g ev en ep ew eb =
    let t : take (i + 1) cs ≡ take i cs ++ (get_or cs i d ∷ []) = rw (add-one) (take-suc cs i d (omega arith)) in
    let l : length (take i cs) ≡ i = length-take-le i cs (omega arith) in
    rw (t, en, ep, ew, eb, ev) (rw l at (gathered_snoc own lent (take i cs) (get_or cs i d) (omega arith) g))

-- a bit above those so far is added
gathered_or : {own : Own} {lent : List ℕ} {judged : List Candidate} {numbers places : List ℕ} {bits : ℕ} {best : Choice} → Gathered own lent judged numbers places bits best
    → bit_or bits (2 ^ length judged) ≡ bits + 2 ^ length judged
gathered_or {own} {lent} {judged} {bits = bits} g =
    let vs = verdicts own judged lent in
    let l : length vs ≡ length judged = length-map judged (verdict own lent) in
    let b : bits < 2 ^ length judged = rw (g.marked, ← l) (bits_below vs) in
    ap (bit_or bits) (sym (one-mul (2 ^ length judged))) ∙ or_shifted_r 1 (length judged) bits b ∙ rw (one-mul (2 ^ length judged)) (add_comm (2 ^ length judged) bits)

-- the place behind those so far is none already
gathered_place : {own : Own} {lent : List ℕ} {judged : List Candidate} {numbers places : List ℕ} {bits : ℕ} {best : Choice} → Gathered own lent judged numbers places bits best
    → length judged < 16 → set places (length judged) no_place ≡ places
gathered_place {own} {lent} {judged} g h =
    let ns = map place_of (verdicts own judged lent) in
    let l : length ns ≡ length judged = length-map (verdicts own judged lent) place_of ∙ length-map judged (verdict own lent) in
    rw (g.placed, ← l) (sixteen_same no_place ns (omega arith))

-- the place of a bar, as a number
pub told_place : (b : Bar) → unwrap_or (place_told b) no_place ≡ bar_place b
told_place b = go (place_told b)
  where
    go : (p : Option ℕ) → unwrap_or p no_place ≡ place_or_none p
    go None = refl
    go (Some p) = refl

-- the pass over sixteen candidates at most, before a position: those before it are gathered, and nothing else is answered yet
pub record Pass (own : Own) (lent : List ℕ) (cs : List Candidate) (i : ℕ) (answer : Answer) (best : Choice) : Type 0 where
  pub few : length cs ≤ 16
  pub fresh : answer ≡ judged_answer answer.verdicts answer.places answer.bits
  pub gathered : Gathered own lent (take i cs) answer.verdicts answer.places answer.bits best

pub pass_first : (own : Own) (lent : List ℕ) (cs : List Candidate) {answer : Answer} → length cs ≤ 16 → answer ≡ refused_answer 0 → Pass own lent cs 0 answer Nobody
pass_first own lent cs h e = rw e (record { few = h; fresh = refl; gathered = gathered_none own lent cs })

module _ {own : Own} {lent : List ℕ} {cs : List Candidate} {i : ℕ} (d : Candidate) {answer : Answer} {best : Choice} {v : Verdict}
    (pass : Pass own lent cs i answer best) (h : i < length cs) (judged : v ≡ verdict own lent (get_or cs i d)) where
  more : Gathered own lent (take (i + 1) cs) (set answer.verdicts i (number_of v)) (set answer.places i (place_of v)) (answer.bits + unbarred_bit v * 2 ^ i) (after_verdict (current_of own) best i v)
  more = gathered_more own lent cs i d pass.few h pass.gathered judged refl refl refl refl

  -- a candidate that is barred
  pub pass_barred : {n p : ℕ} → v ≡ Barred n p → Pass own lent cs (i + 1) (record answer { verdicts = set answer.verdicts i n; places = set answer.places i p }) best
  pass_barred {n} {p} e = record {
    few = pass.few;
    fresh = ap {A = Answer} {B = Answer} (λ a. record a { verdicts = set answer.verdicts i n; places = set answer.places i p }) pass.fresh;
    gathered = rw (e, zero-mul (2 ^ i), add-zero answer.bits) at more;
  }

  -- one that is not: its place is none already
  pub pass_unbarred : {r : Offer} {b : Choice} → v ≡ Unbarred r → b ≡ after_verdict (current_of own) best i (Unbarred r)
      → Pass own lent cs (i + 1) (record answer { verdicts = set answer.verdicts i 10; bits = bit_or answer.bits (2 ^ i) }) b
  pass_unbarred e eb =
      let l : length (take i cs) ≡ i = length-take-le i cs (omega arith) in
      let o : bit_or answer.bits (2 ^ i) ≡ answer.bits + 2 ^ i = rw l at (gathered_or pass.gathered) in
      let s : set answer.places i no_place ≡ answer.places = rw l at (gathered_place pass.gathered (omega (arith, l, pass.few))) in
      record {
        few = pass.few;
        fresh = ap {A = Answer} {B = Answer} (λ a. record a { verdicts = set answer.verdicts i 10; bits = bit_or answer.bits (2 ^ i) }) pass.fresh;
        gathered = rw (eb, o) (rw (e, one-mul (2 ^ i), s) at more);
      }

-- the pass is over
pub pass_end : {own : Own} {lent : List ℕ} {cs : List Candidate} {i : ℕ} {answer : Answer} {best : Choice} → Pass own lent cs i answer best
    → length cs ≤ i → Gathered own lent cs answer.verdicts answer.places answer.bits best
pass_end {cs = cs} {i = i} pass h = rw (take_all i cs h) at pass.gathered
