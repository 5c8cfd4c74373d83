-- What holds along a whole path: by induction over the chain, one argument for every field and A.
use mathlib.Core.Path.{◌≡◌, refl, sym, ap, ◌∙◌}
use Prim.Native.Nat.{ℕ, zero, suc, ◌+◌, ◌*◌, ◌/◌, ◌≤◌}
use native.Mathlib.Nat.{add-mul-div_right}
use native.Mathlib.Omega.{arith}
use mathlib.Core.Bool.{true, false, not}
use mathlib.Core.List.{List, [], ◌∷◌, map}
use mathlib.Core.Option.{some}
use lib.ListN.{length, get_or, get_elem?}
use Rattle.model.specs.declared.Own.{Own}
use Rattle.model.specs.declared.Neighbour.{Neighbour}
use Rattle.model.specs.declared.Candidate.{Candidate}
use Rattle.model.specs.Number.{any_of}
use Rattle.model.specs.Object.{Object, field_a, kind, aggregated, role}
use Rattle.model.specs.Table.{allowed}
use Rattle.model.specs.Reading.{well_formed}
use Rattle.model.specs.Run.{read_run}
use Rattle.model.specs.Rank.{resulting}
use Rattle.model.specs.Verdict.{run_of}
use Rattle.model.specs.Update.{update_object, update}
use Rattle.model.specs.Choice.{call}
use Rattle.model.specs.Conditions.{some_has}
use Rattle.model.specs.Exact.{leaf_tests}
use Rattle.model.specs.Selection.{PreferredParent}
use Rattle.model.specs.RoundTrip.{Bytes}
use Rattle.model.specs.Untouched.{PassedOn, passed_on}
use Rattle.model.specs.Chain.{Hop, ByDefinition, Joins, Chain, root, onward, Field, hops, type_at, value_in, local_at, knows, stopped, together, along, sum_of, units_at, Grown, Along, Rises, AlongPathHolds, RankRises}
use Rattle.model.proofs.ListLaws.{map_at, none_at}
use Rattle.model.proofs.Readings.{same_objects}
use Rattle.model.proofs.RunLaws.{run_objects_lem}
use Rattle.model.proofs.ByteLaws.{body_bytes, data_bytes}
use Rattle.model.proofs.UpdateLaws.{role_update}
use Rattle.model.proofs.PlaceLaws.{headers}
use Rattle.model.proofs.CallLaws.{unrefused}
use Rattle.model.proofs.Selection.{selection}
use Rattle.model.proofs.ReadBack.{aggregates_whole}
use Rattle.model.proofs.SumLaws.{objects_sent, leaf_free}
use Rattle.model.proofs.HopLaws.{kind_at, most_in, up_to_2, only_0, stopped_within, stops_once, local_within, value_within, allows, known, passed}
use Rattle.model.proofs.Folds.{folds}

-- ---- what a node does

module _ (own : Own) (cs : List Candidate) (lent out : List ℕ) (p : PassedOn (call own cs lent out)) (parent : Candidate) (os : List Object)
    (chosen : get_elem? cs (call own cs lent out).answer.parent ≡ some parent) (hears : read_run (run_of lent parent) ≡ well_formed os) where
  abbrev preferred : PreferredParent own cs lent (call own cs lent out).answer
  preferred = (selection own cs lent out p.unrefused).parent p.parent

  is_parent_lem : preferred.candidate ≡ parent
  is_parent_lem = let e : some preferred.candidate ≡ some parent = sym preferred.stands ∙ chosen in cc

  are_objects : preferred.objects ≡ os
  are_objects = same_objects _ _ (sym preferred.read ∙ ap (λ c. read_run (run_of lent c)) is_parent_lem ∙ hears)

  -- it passes the objects on, updated
  updates : (ns : List Object) → read_run (passed_on (call own cs lent out)) ≡ well_formed ns → ns ≡ update own parent.neighbour os
  updates ns e = objects_sent own cs lent out p preferred ns e ∙ rw (is_parent_lem, are_objects)

  -- no object gives a leaf answer
  free : some_has (leaf_tests own parent.neighbour) os ≡ false
  free = rw (is_parent_lem, are_objects) at (leaf_free own cs lent out p preferred)

  takes : (call own cs lent out).answer.rank.0 ≡ resulting own parent.neighbour
  takes = preferred.rank ∙ rw is_parent_lem

-- an update keeps types
types_kept : (own : Own) (c : Neighbour) (os : List Object) → map (λ o. o.type) (update own c os) ≡ map (λ o. o.type) os
unfolding update_object
types_kept own c [] = refl
types_kept own c (o ∷ os) = ap (λ ts. o.type ∷ ts) (types_kept own c os)

-- ---- numbers

-- a larger or smaller one has the room that both have
room_with : (a y v most : ℕ) → 1 ≤ a → y ≤ most → v ≤ most → together a y v ≤ most
room_with zero y v most l m n = absurd (omega arith)
room_with (suc zero) y v most l m n = omega arith
room_with (suc (suc a)) y v most l m n = omega arith

-- HP's local values are as many ones as there are hops
ones : (hs : List Hop) → sum_of (map (local_at hops) hs) ≡ length hs
unfolding sum_of
ones [] = refl
ones (h ∷ hs) = let e = ones hs in omega arith

-- a value that a run of bytes tells has room
start_within : (bs : List ℕ) (os : List Object) → Bytes bs → read_run bs ≡ well_formed os → (f : Field) (i : ℕ) (o : Object)
    → get_elem? os i ≡ some o → o.type ≡ type_at f → role o ≡ aggregated → value_in f o.body ≤ most_in f
start_within bs os b read f i o at t r =
    let body = body_bytes os i o (data_bytes bs os b (run_objects_lem bs os read).objects) at in
    value_within f bs o (kind_at f o t) (aggregates_whole bs os i o read at r) b body

-- ---- chains of nodes whose calls are told in a way that tells their results

module _ (Called : Hop → Type 0) (told : (h : Hop) → Called h → ByDefinition h) where
  -- of a node that joins a chain
  module _ {minhop : ℕ} {heard : List Object} {rank : ℕ} {h : Hop} {sent : List Object} {next : ℕ}
      (j : Joins Called minhop heard rank h sent next) where
    abbrev c : Neighbour
    c = h.parent.neighbour

    passes : PassedOn (call h.own h.candidates h.lent h.out)
    passes = rw (told h j.called) at j.passes

    chosen_is : get_elem? h.candidates (call h.own h.candidates h.lent h.out).answer.parent ≡ some h.parent
    chosen_is = rw (told h j.called) at j.chosen

    sent_is : sent ≡ update h.own c heard
    sent_is =
        let e = rw (told h j.called) at j.sends in
        updates h.own h.candidates h.lent h.out passes h.parent heard chosen_is j.hears sent e

    free_of : some_has (leaf_tests h.own c) heard ≡ false
    free_of = free h.own h.candidates h.lent h.out passes h.parent heard chosen_is j.hears

    -- the rank rises by units of the one MinHopRankIncrease, which is not 0
    rises : next / minhop ≡ rank / minhop + units_at h
    unfolding resulting
    rises =
        let e : (call h.own h.candidates h.lent h.out).answer.rank.0 ≡ c.rank.0 + units_at h * h.own.minhop
        = takes h.own h.candidates h.lent h.out passes h.parent heard chosen_is j.hears in
        let n : next ≡ rank + units_at h * minhop = sym j.takes ∙ rw (told h j.called) (e ∙ rw (j.advertised, j.shared)) in
        let g : 1 ≤ minhop = rw j.shared at (unrefused h.own h.candidates h.lent h.out passes.unrefused).grows in
        rw n (add-mul-div_right rank (units_at h) g)

  -- ---- along the chain

  module _ (f : Field) (o : Object) (t : o.type ≡ type_at f) (r : role o ≡ aggregated) where
    -- what is known of the metric at a node, by the hops up to it
    record Carried (hs : List Hop) (p : Object) : Type 0 where
      same_type : p.type ≡ o.type
      same_role : role p ≡ role o
      same_a : field_a p ≡ field_a o
      allowed_a : 1 ≤ length hs → allowed (kind o) (field_a o) ≡ true
      known : any_of (λ h. not (knows f h)) hs ≡ false
      within : value_in f p.body ≤ most_in f
      value : value_in f p.body ≡ stopped f (along (field_a o) (value_in f o.body) (map (local_at f) hs))
      -- a larger or smaller one has room by itself
      room : 1 ≤ field_a o → along (field_a o) (value_in f o.body) (map (local_at f) hs) ≤ most_in f

    start : value_in f o.body ≤ most_in f → Carried [] o
    unfolding along
    start x = record {
      same_type = refl;
      same_role = refl;
      same_a = refl;
      allowed_a = λ l. absurd (omega arith);
      known = refl;
      within = x;
      value = sym (stopped_within f _ x);
      room = λ a. x;
    }

    -- a node that joins updates the metric
    carry : {minhop : ℕ} {heard : List Object} {rank : ℕ} {h : Hop} {sent : List Object} {next : ℕ} → Joins Called minhop heard rank h sent next
        → (hs : List Hop) (i : ℕ) (p : Object) → get_elem? heard i ≡ some p → Carried hs p
        → Carried (h ∷ hs) (update_object h.own h.parent.neighbour p)
    unfolding along update_object
    carry {heard = heard} {h = h} j hs i p e g =
        let bs = run_of h.lent h.parent in
        let own = h.own in
        let c = h.parent.neighbour in
        let pr : role p ≡ aggregated = g.same_role ∙ r in
        let pt : p.type ≡ type_at f = g.same_type ∙ t in
        let w = aggregates_whole bs heard i p j.hears e pr in
        let none = none_at (λ o. any_of (λ t. t o) (leaf_tests own c)) heard i p (free_of j) e in
        let y = local_within f h j.energy j.link in
        let s = passed h bs p pr w none f pt g.within y in
        record {
          same_type = g.same_type;
          same_role = role_update own c p ∙ g.same_role;
          same_a = (headers own c p).same_a ∙ g.same_a;
          allowed_a = λ l. rw (g.same_type, g.same_a) at (allows h bs p pr w none);
          known = rw (known h bs p pr w none f (kind_at f p pt)) g.known;
          within = s.within;
          value = s.value ∙ rw (g.same_a, g.value) (stops_once f (field_a o) _ (local_at f h) y);
          room = λ a. room_with (field_a o) _ _ (most_in f) a (g.room a) y;
        }

    -- at the end of a chain
    carried : {minhop : ℕ} {begin : List Object} {rank : ℕ} (i : ℕ) → get_elem? begin i ≡ some o → value_in f o.body ≤ most_in f
        → (hs : List Hop) (last : List Object) (end : ℕ) → Chain Called minhop begin rank hs last end
        → (p : Object) → get_elem? last i ≡ some p → Carried hs p
    carried i at x _ _ _ root p e =
        let s : some o ≡ some p = sym at ∙ e in
        let q : o ≡ p = cc in
        rw (← q) (start x)
    carried i at x _ _ _ (onward {hs = hs} {heard = heard} {before = before} ch {h = h} j) p e =
        let own = h.own in
        let c = h.parent.neighbour in
        let (q, s, u) = map_at (update_object own c) heard i p (rw (sent_is j) at e) in
        rw (← u) (carry j hs i q s (carried i at x hs heard before ch q s))

    -- in readable words
    grown : (hs : List Hop) (p : Object) → Carried hs p → Grown f hs o p
    grown hs p g =
        let vs = map (local_at f) hs in
        let x = value_in f o.body in
        let exact : 1 ≤ field_a o → value_in f p.body ≡ along (field_a o) x vs = λ a. g.value ∙ stopped_within f _ (g.room a) in
        record {
          same_type = g.same_type;
          same_role = g.same_role;
          same_a = g.same_a;
          operation = λ l. up_to_2 f (field_a o) (rw (kind_at f o t) at (g.allowed_a l));
          known = g.known;
          value = g.value;
          sum = λ a. g.value ∙ ap (stopped f) ((folds (field_a o) x vs).sum a);
          largest = λ a. rw (exact (omega arith)) ((folds (field_a o) x vs).largest a);
          smallest = λ a. rw (exact (omega arith)) ((folds (field_a o) x vs).smallest a);
        }

  -- ---- the theorem

  counted : (o : Object) (t : o.type ≡ 3) (r : role o ≡ aggregated) (hs : List Hop) (p : Object) → Carried hops o t r hs p
      → get_or p.body 1 0 ≡ get_or o.body 1 0 + length hs
  unfolding along
  counted o t r [] p g = g.value ∙ omega arith
  counted o t r (h ∷ hs) p g =
      let a = only_0 (field_a o) (rw (kind_at hops o t) at (g.allowed_a (omega arith))) in
      (grown hops o t r (h ∷ hs) p g).sum a ∙ rw (ones (h ∷ hs))

  same_types : {minhop : ℕ} {begin : List Object} {rank : ℕ} (hs : List Hop) (last : List Object) (end : ℕ)
      → Chain Called minhop begin rank hs last end → map (λ o. o.type) last ≡ map (λ o. o.type) begin
  same_types _ _ _ root = refl
  same_types _ _ _ (onward {hs = hs} {heard = heard} {before = before} ch j) =
      rw (sent_is j) (types_kept _ _ heard ∙ same_types hs heard before ch)

  rank_along : {minhop : ℕ} {begin : List Object} {rank : ℕ} (hs : List Hop) (last : List Object) (end : ℕ)
      → Chain Called minhop begin rank hs last end → end / minhop ≡ rank / minhop + sum_of (map units_at hs)
  unfolding sum_of
  rank_along _ _ _ root = omega arith
  rank_along _ _ _ (onward {hs = hs} {heard = heard} {before = before} ch j) =
      rises j ∙ rw (rank_along hs heard before ch) (omega arith)

  pub along_path_of : Along Called
  along_path_of minhop bs begin rank hs last end b read ch =
      record {
        objects = same_types hs last end ch;
        metrics = λ f i o p at e t r. grown f o t r hs p (carried f o t r i at (start_within bs begin b read f i o at t r) hs last end ch p e);
        counts = λ i o p at e t r. counted o t r hs p (carried hops o t r i at (start_within bs begin b read hops i o at t r) hs last end ch p e);
        ranks = rank_along hs last end ch;
      }

  pub rank_rises_of : Rises Called
  rank_rises_of minhop heard rank h sent next j = rises j

-- ---- of the call by its definition

pub along_path : AlongPathHolds
along_path = along_path_of ByDefinition (λ h e. e)

pub rank_rises : RankRises
rank_rises = rank_rises_of ByDefinition (λ h e. e)
