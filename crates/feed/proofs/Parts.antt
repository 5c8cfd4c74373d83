-- A run that is fed in parts is the run that came whole.
use mathlib.Core.Path.{◌≡◌, refl, ap, ◌∙◌}
use Prim.Native.Nat.{ℕ, zero, suc, ◌≤◌}
use native.Mathlib.Omega.{arith}
use mathlib.Core.Bool.{Bool, true, false, cond}
use mathlib.Core.List.{List, [], ◌∷◌}
use mathlib.Core.Option.{some, some-injective}
use Rattle.std.proofs.lemmas.Bool.Decides.{nat_tests}
use lib.ListN.{length, get_elem?}
use lib.Seq.{length-take-le}
use borrow.Author.Tests.{lt-ltb, le-ltb}
use Rattle.model.specs.declared.Own.{Own}
use Rattle.model.specs.declared.Candidate.{Candidate}
use Rattle.model.specs.Choice.{Choice}
use Rattle.model.specs.Choice.{Nobody, Parent}
use Rattle.model.specs.declared.Offer.{Offer}
use Rattle.model.specs.Verdict.{Unbarred, Barred}
use Rattle.model.specs.RoundTrip.{Bytes}
use Rattle.model.specs.Reading.{no_place}
use Rattle.model.specs.Run.{read_run, concat}
use Rattle.model.specs.Verdict.{bad_numbers, run_of, outside, judge_reading, verdict}
use Rattle.model.specs.Choice.{current_of, verdicts, choice_of, outgoing_at, outgoing, call}
use Rattle.model.specs.Unknown.{Each, nil, cons}
use Rattle.model.proofs.ByteLaws.{part_bytes, first_byte}
use Rattle.model.proofs.VerdictLaws.{admitted}
use Rattle.model.proofs.ChoiceLaws.{choose_unbarred}
use Rattle.feed.specs.declared.bytes.Fed.{Fed}
use Rattle.feed.specs.Feeding.{Feeding, unfed, feed_byte, feed}
use Rattle.feed.specs.Step.{state, stepped, stepped_in, fed_bytes, fed_bytes_in, fed, fed_in}
use Rattle.feed.specs.Parts.{ToldShort, fed_parts, fed_run, FedReads, Came, as_it_is, in_parts, FedBeside, FedInParts, ShortTold, StaysInRoom}
use Rattle.feed.proofs.StepLaws.{stepped_length, fed_length, fed_behind}
use Rattle.feed.proofs.FedLaws.{feed-append, fed_reads}
use Rattle.feed.proofs.MirrorLaws.{Mirrors, room_of, not_short, mirrors_first, mirrors_step}

-- ---- a part, and all parts

mirrors_bytes : (bs : List ℕ) (s : Fed) (l : List ℕ) (f : Feeding) → 2059 ≤ length l → Bytes bs → Mirrors s l f → Mirrors (fed_bytes s bs) (fed_bytes_in s bs l) (feed f bs)
unfolding fed_bytes fed_bytes_in feed
mirrors_bytes [] s l f long h m = m
mirrors_bytes (b ∷ bs) s l f long h m =
    let (x, y) = first_byte b bs h in
    mirrors_bytes bs (stepped s b) (stepped_in s b l) (feed_byte f b) (rw (stepped_length s b l) long) y (mirrors_step s l f b long x m)

mirrors_part : (p : List ℕ) (s : Fed) (l : List ℕ) (f : Feeding) → 2059 ≤ length l → Bytes p → Mirrors s l f → Mirrors (fed s p (length l)) (fed_in s p l) (feed f p)
unfolding fed fed_in
mirrors_part p s l f long h m = rw (le-ltb (length l) 2059 long, not_short s l f m) (mirrors_bytes p s l f long h m)

mirrors_parts : (ps : List (List ℕ)) (s : Fed) (l : List ℕ) (f : Feeding) → 2059 ≤ length l → Bytes (concat ps) → Mirrors s l f
    → Mirrors (fed_parts ps s l).now (fed_parts ps s l).buffer (feed f (concat ps)) × (length (fed_parts ps s l).buffer ≡ length l)
unfolding fed_parts concat feed
mirrors_parts [] s l f long h m = (m, refl)
mirrors_parts (p ∷ ps) s l f long h m =
    let (x, y) = part_bytes p (concat ps) h in
    let k = fed_length s p l in
    let (r, q) = mirrors_parts ps (fed s p (length l)) (fed_in s p l) (feed f p) (rw k long) y (mirrors_part p s l f long x m) in
    (rw (feed-append f p (concat ps)) r, q ∙ k)

pub fed_in_reads : FedReads
fed_in_reads ps l h long =
    let (m, n) = mirrors_parts ps (state 0 0 0 0 0) l unfed long h (mirrors_first l) in
    let f = feed unfed (concat ps) in
    let room : (fed_run ps l).now.size ≤ 2059 = rw m.size (room_of f.phase f.count (length f.kept) m.room) in
    record {
      size = length-take-le (fed_run ps l).now.size (fed_run ps l).buffer (omega arith);
      room = room;
      reads = rw m.kept (fed_reads (concat ps));
    }

-- ---- verdicts and calls

module _ (lent lent' : List ℕ) (c c' : Candidate) (b : FedBeside lent lent' c c') where
  same_reading : outside lent c ≡ false → read_run (run_of lent' c') ≡ read_run (run_of lent c)
  same_reading i = go (run_of lent' c') (b.came i)
    where
      go : (r : List ℕ) → Came (run_of lent c) r → read_run r ≡ read_run (run_of lent c)
      go r as_it_is = refl
      go r (in_parts ps l h long e) = (fed_in_reads ps l h long).reads ∙ ap read_run e

  same_verdict : (own : Own) → verdict own lent' c' ≡ verdict own lent c
  unfolding verdict
  same_verdict own = rw (b.numbers, b.inside) (go (outside lent c) refl)
    where
      go : (x : Bool) → outside lent c ≡ x → cond (bad_numbers own c.neighbour) (Barred 11 no_place) (cond x (Barred 12 no_place) (judge_reading own c.neighbour (read_run (run_of lent' c'))))
          ≡ cond (bad_numbers own c.neighbour) (Barred 11 no_place) (cond x (Barred 12 no_place) (judge_reading own c.neighbour (read_run (run_of lent c))))
      go true e = refl
      go false e = rw (same_reading e)

  same_outgoing : (own : Own) → outside lent c ≡ false → outgoing_at own lent' (some c') ≡ outgoing_at own lent (some c)
  same_outgoing own i = rw (b.numbers, same_reading i)

module _ (own : Own) (lent lent' : List ℕ) where
  same_count : (cs cs' : List Candidate) → Each (FedBeside lent lent') cs cs' → length cs' ≡ length cs
  same_count cs cs' nil = refl
  same_count cs cs' (cons r e) = ap suc (same_count _ _ e)

  same_verdicts : (cs cs' : List Candidate) → Each (FedBeside lent lent') cs cs' → verdicts own cs' lent' ≡ verdicts own cs lent
  same_verdicts cs cs' nil = refl
  same_verdicts cs cs' (cons r e) = rw (same_verdict lent lent' _ _ r own, same_verdicts _ _ e)

  -- a candidate with an unbarred verdict is inside
  unbarred_inside : (c : Candidate) (r : Offer) → some (verdict own lent c) ≡ some (Unbarred r) → outside lent c ≡ false
  unbarred_inside c r e = (admitted own lent c (rw (some-injective (verdict own lent c) (Unbarred r) e))).inside

  same_at : (cs cs' : List Candidate) (p : ℕ) (r : Offer) → get_elem? (verdicts own cs lent) p ≡ some (Unbarred r) → Each (FedBeside lent lent') cs cs'
      → outgoing_at own lent' (get_elem? cs' p) ≡ outgoing_at own lent (get_elem? cs p)
  same_at cs cs' p r u nil = refl
  same_at cs cs' zero r u (cons b e) = same_outgoing lent lent' _ _ b own (unbarred_inside _ r u)
  same_at cs cs' (suc p) r u (cons b e) = same_at _ _ p r u e

  same_sent : (cs cs' : List Candidate) (ch : Choice) → choice_of own cs lent ≡ ch → Each (FedBeside lent lent') cs cs' → outgoing own cs' lent' ch ≡ outgoing own cs lent ch
  unfolding outgoing
  same_sent cs cs' Nobody q e = refl
  same_sent cs cs' (Parent p r) q e = same_at cs cs' p r (choose_unbarred (current_of own) (verdicts own cs lent) p r q) e

  same_call : (cs cs' : List Candidate) (out : List ℕ) → Each (FedBeside lent lent') cs cs' → call own cs' lent' out ≡ call own cs lent out
  unfolding call
  same_call cs cs' out e = rw (same_count cs cs' e, same_verdicts cs cs' e) (rw (same_sent cs cs' _ refl e))

pub fed_in_parts : FedInParts
fed_in_parts = record {
  verdicts = λ own lent lent' c c' b. same_verdict lent lent' c c' b own;
  calls = λ own cs cs' lent lent' out e. same_call own lent lent' cs cs' out e;
}

-- ---- a buffer that is too short

by_phase : (s : Fed) (p l : List ℕ) → s.phase ≡ 255 → ToldShort s p l
unfolding fed fed_in
by_phase s p l h = record { told = grind (arith, nat_tests); kept = grind (arith, nat_tests); untouched = grind (arith, nat_tests) }

by_length : (s : Fed) (p l : List ℕ) → suc (length l) ≤ 2059 → ToldShort s p l
unfolding fed fed_in
by_length s p l h = let e = lt-ltb (length l) 2059 h in record { told = rw e; kept = rw e; untouched = rw e }

pub short_told : ShortTold
short_told = record { short = by_length; stays = by_phase }

-- ---- any state

pub stays_in_room : StaysInRoom
stays_in_room s p l = (fed_length s p l, fed_behind s p l)
