-- The containers for the next hop: an object put, the objects put, and the answer with the output.
use mathlib.Core.Path.{◌≡◌, refl, sym, ap, ◌∙◌}
use Prim.Native.Nat.{ℕ, zero, suc, ◌+◌, ◌-◌, ◌≤◌}
use native.Mathlib.Nat.{zero-add}
use native.Mathlib.Omega.{arith}
use mathlib.Core.Bool.{Bool, true, false, ◌||◌}
use mathlib.Core.List.{List, [], ◌∷◌, ◌++◌, append-nil}
use mathlib.Core.Option.{Option, some, none, none-ne-some}
use lib.ListN.{length, get_or, set, take, drop}
use lib.Seq.{sets, sets-eq}
use lib.Dec.{ltb}
use borrow.Author.Tests.{ltb-false}
use Rattle.model.specs.declared.Own.{Own}
use Rattle.model.specs.declared.Neighbour.{Neighbour}
use Rattle.model.specs.Number.{any_of, first_of, first_case, ◌when◌}
use Rattle.model.specs.Object.{Object, kind_of, role_of, split, join, bytes_of, before}
use Rattle.model.specs.Run.{joined, run_objects}
use Rattle.model.specs.Pack.{packed, is_overlong, unpackable}
use Rattle.model.specs.Update.{adds_nothing, next_flags, next_mode, update_object, update, object_leaf, too_long, leaf_answer}
use Rattle.model.specs.Choice.{Outgoing, no_container, next_hop, unless_leaf, size_of, output_of}
use Rattle.model.proofs.BoolLaws.{neither}
use Rattle.model.proofs.NumberLaws.{first-zero}
use Rattle.model.proofs.PackLaws.{written}
use Rattle.wire.specs.declared.objects.Header.{Header}
use Rattle.wire.specs.Put.{Put}
use Rattle.wire.specs.Step.{object_of}
use Rattle.wire.specs.Front.{front, left, ends_at}
use Rattle.wire.specs.Options.{data_front, options_left}
use Rattle.wire.proofs.PassLaws.{split_first, split_done, split_cut, run_first, run_done, run_cut}
use Rattle.wire.proofs.PutLaws.{put_cons, put_before}
use Rattle.hop.specs.declared.sending.Place.{Place}
use Rattle.std.specs.Prelude.{Result, Ok, Err}
use Rattle.std.specs.Result.{result_unwrap_or}
use Rattle.metric.specs.declared.leaf.Leaf.{Leaf}
use Rattle.hop.specs.Sent.{Sent, unfit, sends_objects, sends, sent_of, told_by}
use Rattle.hop.specs.Built.{Fits, Builds, OpensFor}
use Rattle.hop.proofs.PackingLaws.{has_room}
use Rattle.hop.proofs.PlanLaws.{body_next}
use Rattle.hop.proofs.BuildLaws.{framed, builds_first, builds_inside, builds_room, builds_hold, builds_close}

-- ---- an object

pub object_put : (own : Own) (c : Neighbour) (h : Header) (b : List ℕ) {l m : List ℕ} {f d end : ℕ} (at : ℕ)
    → f ≡ next_flags (role_of h.flags h.mode) (adds_nothing c (kind_of h.mctype)) h.flags → d ≡ next_mode (role_of h.flags h.mode) h.mode
    → Put (set (set (set l at h.mctype) (at + 1) f) (at + 2) d) (at + 4) (body_next own c h b) end m
    → Put l at (bytes_of (update_object own c (object_of h b))) end (set m (at + 3) (end - at - 4))
unfolding update_object
object_put own c h b {l} {m} {f} {d} {end} at e g p =
    let n : end - at - 4 ≡ length (body_next own c h b) = omega (arith, p.end) in
    rw (← e, ← g, n) (put_cons at h.mctype refl (put_cons (at + 1) f (omega arith) (put_cons (at + 2) d (omega arith) (put_cons (at + 3) (length (body_next own c h b)) (omega arith) (put_before (at + 3) (length (body_next own c h b)) (omega arith) p)))))

-- ---- the objects of a run

-- between containers, and in one: those behind are still to be put
pub record AtPut (own : Own) (c : Neighbour) (l : List ℕ) (os : List Object) (rest : List ℕ) (place : Place) (m a : List ℕ) : Type 0 where
  pub objects : List Object
  pub from : run_objects rest ≡ some objects
  pub short : any_of is_overlong (update own c objects) ≡ false
  pub builds : Builds l (packed (update own c os)) place m a (update own c objects)

pub record InPut (own : Own) (c : Neighbour) (l : List ℕ) (os : List Object) (rest bytes : List ℕ) (place : Place) (m a : List ℕ) : Type 0 where
  pub objects : List Object
  pub from : joined (split bytes) (run_objects rest) ≡ some objects
  pub short : any_of is_overlong (update own c objects) ≡ false
  pub builds : Builds l (packed (update own c os)) place m a (update own c objects)

module _ (own : Own) (c : Neighbour) (l : List ℕ) (os : List Object) where
  pub put_start : (run a : List ℕ) → run_objects run ≡ some os → unpackable (update own c os) ≡ false → length a ≡ 257 → get_or a 0 0 ≡ 2
      → AtPut own c l os run (record { done = 0; at = 2 }) l a
  put_start run a q u z b = record { objects = os; from = q; short = has_room (update own c os) u; builds = builds_first l a (update own c os) z b }

  -- bounds
  pub put_ready : {place : Place} {m a : List ℕ} {rest : List Object} → Builds l (packed (update own c os)) place m a rest → unpackable (update own c os) ≡ false → 2056 ≤ length l
      → ((2 ≤ place.at) × (place.at ≤ 257) × (length a ≡ 257)) × (place.done + place.at ≤ length m)
  put_ready b u r = (builds_inside b, builds_room b (omega (arith, (written (update own c os) u).room)))

  pub put_into : (s t d : List ℕ) (place : Place) (m a : List ℕ) → AtPut own c l os s place m a → data_front s ≡ d ∷ data_front t → options_left s ≡ options_left t
      → InPut own c l os t d place m a
  put_into s t d place m a w e f = record { objects = w.objects; from = sym (run_first s t d e f) ∙ w.from; short = w.short; builds = w.builds }

  module _ (rest s t : List ℕ) (place : Place) (m a : List ℕ) (w : InPut own c l os rest s place m a) where
    module _ (o : Object) (e : front s ≡ o ∷ front t) (f : left s ≡ left t) where
      next : (others : List Object) × (w.objects ≡ o ∷ others) × (joined (split t) (run_objects rest) ≡ some others)
      next = go (split t) (run_objects rest) (rw (split_first s t o e f) at w.from)
        where
          go : (x y : Option (List Object)) → joined (before o x) y ≡ some w.objects → (others : List Object) × (w.objects ≡ o ∷ others) × (joined x y ≡ some others)
          go none y z = absurd (none-ne-some w.objects z)
          go (some p) none z = absurd (none-ne-some w.objects z)
          go (some p) (some q) z = (p ++ q, cc, refl)

      shorts : (is_overlong (update_object own c o) ≡ false) × (any_of is_overlong (update own c next.0) ≡ false)
      shorts = neither (is_overlong (update_object own c o)) _ (rw next.1 at w.short)

      size_one : length (join (update_object own c o ∷ [])) ≡ length (bytes_of (update_object own c o))
      unfolding join
      size_one = ap length (append-nil (bytes_of (update_object own c o)))

      -- it has room
      module _ (many : Bool) (q : Place) (m' a' : List ℕ) (g : OpensFor c o many place m a q m' a') (one : many ≡ false → length (packed (update own c os)) ≤ 257) where
        opened : Builds l (packed (update own c os)) q m' a' (update_object own c o ∷ update own c next.0) × (q.at + length (bytes_of (update_object own c o)) ≤ 257)
        opened = g own l (packed (update own c os)) (update own c next.0) (ltb-false 255 (length (bytes_of (update_object own c o))) shorts.0) one (rw next.1 at w.builds)

        pub put_room : (q.at + length (bytes_of (update_object own c o)) ≤ length a') × (length a' ≤ 257)
        put_room = let z = (builds_inside opened.0).2 in omega (arith, opened.1, z)

        -- once it is put
        pub put_onward : (at : ℕ) (b : List ℕ) → Put a' q.at (bytes_of (update_object own c o)) at b → InPut own c l os rest t (record { done = q.done; at = at }) m' b
        unfolding join
        put_onward at b p = record {
          objects = next.0;
          from = next.2;
          short = shorts.1;
          builds = builds_hold (update_object own c o ∷ []) opened.0 (omega (arith, opened.1, size_one)) (rw (← append-nil (bytes_of (update_object own c o))) at p);
        }

    pub put_out : front s ≡ [] → left s ≡ t → AtPut own c l os rest place m a
    put_out e f = record { objects = w.objects; from = go (ends_at t) refl (run_objects rest) w.from; short = w.short; builds = w.builds }
      where
        go : (b : Bool) → ends_at t ≡ b → (r : Option (List Object)) → joined (split s) r ≡ some w.objects → r ≡ some w.objects
        go false d r z = absurd (none-ne-some w.objects (rw (split_cut s t f d) at z))
        go true d none z = rw (split_done s t e f d) at z
        go true d (some x) z = rw (split_done s t e f d) at z

  module _ (s t : List ℕ) (place : Place) (m a : List ℕ) (w : AtPut own c l os s place m a) (e : data_front s ≡ []) (f : options_left s ≡ t) where
    -- nothing is left to be put
    put_all : w.objects ≡ []
    put_all = go (ends_at t) refl
      where
        go : (b : Bool) → ends_at t ≡ b → w.objects ≡ []
        go true d = let z : some w.objects ≡ some [] = sym w.from ∙ run_done s t e f d in cc
        go false d = absurd (none-ne-some w.objects (sym (run_cut s t f d) ∙ w.from))

    pub put_close : {r : ℕ} {m' : List ℕ} → Put m place.done (take place.at (framed a place.at)) r m' → m' ≡ sets l 0 (packed (update own c os))
    put_close p = builds_close (rw put_all at w.builds) p

-- the objects of a run are those that fit
pub placed_one : {own : Own} {c : Neighbour} {run : List ℕ} {many : Bool} (f : Fits own c run many) (os : List Object) → run_objects run ≡ some os
    → many ≡ false → length (packed (update own c os)) ≤ 257
placed_one f os q =
    let x : some f.objects ≡ some os = sym f.whole ∙ q in
    let s : f.objects ≡ os = cc in
    rw (← s) f.one

pub placed : {own : Own} {c : Neighbour} {run o : List ℕ} {many : Bool} (l : List ℕ) (f : Fits own c run many) → o ≡ sets l 0 (packed (update own c f.objects))
    → (os : List Object) → run_objects run ≡ some os → o ≡ sets l 0 (packed (update own c os))
placed l f e os q =
    let x : some f.objects ≡ some os = sym f.whole ∙ q in
    let s : f.objects ≡ os = cc in
    rw (← s) e

-- ---- the answer and the output

-- the length that a result tells
pub size_told : (r : Result ℕ Leaf) → result_unwrap_or r 0 ≡ (told_by r).size
size_told (Ok n) = refl
size_told (Err e) = refl

-- without a container the output is untouched
no_output : (o : Outgoing) (out : List ℕ) → size_of o ≡ 0 → out ≡ output_of o out
no_output (no_container n) out e = refl
no_output (next_hop []) out e = refl
no_output (next_hop (b ∷ bs)) out e = absurd (omega arith)

-- bytes copied to the front of an output
copied : (out bs : List ℕ) → length bs ≤ length out → sets out 0 bs ≡ bs ++ drop (length bs) out
copied out bs h = sets-eq bs out 0 (omega arith) ∙ rw (zero-add (length bs))

module _ (own : Own) (c : Neighbour) (run out : List ℕ) where
  pub send_unfit : {r : Bool} → r ≡ unfit own c (length out) → r ≡ true
      → (told_by (Ok 0) ≡ sent_of (sends own c run (length out))) × (out ≡ output_of (sends own c run (length out)) out)
  unfolding sends
  send_unfit e t = let u : unfit own c (length out) ≡ true = sym e ∙ t in (rw u, rw u)

  fit : {r : Bool} → r ≡ unfit own c (length out) → r ≡ false → sends own c run (length out) ≡ sends_objects own c (run_objects run)
  unfolding sends
  fit e t = let u : unfit own c (length out) ≡ false = sym e ∙ t in rw u

  -- what a fit call has
  pub fit_bounds : {r : Bool} → r ≡ unfit own c (length out) → r ≡ false → ((own.nodetype ≤ 3) × (c.lql ≤ 7) × (c.colour ≤ 1023)) × (2056 ≤ length out)
  fit_bounds e t =
      let (p, q) = neither (ltb 3 own.nodetype || ltb 7 c.lql || ltb 1023 c.colour) (ltb (length out) 2056) (sym e ∙ t) in
      let (p1, q1) = neither (ltb 3 own.nodetype || ltb 7 c.lql) (ltb 1023 c.colour) p in
      let (p2, q2) = neither (ltb 3 own.nodetype) (ltb 7 c.lql) p1 in
      ((ltb-false 3 own.nodetype p2, ltb-false 7 c.lql q2, ltb-false 1023 c.colour q1), ltb-false (length out) 2056 q)

  pub send_nothing : {r : Bool} {s : Sent} → r ≡ unfit own c (length out) → r ≡ false → s ≡ sent_of (sends_objects own c (run_objects run)) → s.size ≡ 0
      → (s ≡ sent_of (sends own c run (length out))) × (out ≡ output_of (sends own c run (length out)) out)
  send_nothing {r} {s} e t p z =
      (p ∙ ap sent_of (sym (fit e t)), rw (fit e t) (no_output (sends_objects own c (run_objects run)) out (ap (λ x. x.size) (sym p) ∙ z)))

  -- containers that are sent
  record Sends : Type 0 where
    objects : List Object
    whole : run_objects run ≡ some objects
    no_leaf : leaf_answer own c objects ≡ 0
    packs : unpackable (update own c objects) ≡ false

  sends_whole : {s : Sent} → s ≡ sent_of (sends_objects own c (run_objects run)) → (s.size ≡ 0 → ⊥) → Sends
  unfolding leaf_answer too_long
  sends_whole {s} p z = go (run_objects run) refl (ap (λ x. x.size) p)
    where
      no_leaf_of : (n : ℕ) (bs : List ℕ) → s.size ≡ size_of (unless_leaf n bs) → n ≡ 0
      no_leaf_of zero bs e = refl
      no_leaf_of (suc n) bs e = absurd (z e)

      short : (b : Bool) → first_case (35 when b ∷ []) ≡ 0 → b ≡ false
      short true f = absurd (omega arith)
      short false f = refl

      go : (d : Option (List Object)) → run_objects run ≡ d → s.size ≡ size_of (sends_objects own c d) → Sends
      go none q e = absurd (z e)
      go (some os) q e =
          let l : leaf_answer own c os ≡ 0 = no_leaf_of (leaf_answer own c os) (packed (update own c os)) e in
          record { objects = os; whole = q; no_leaf = l; packs = short (unpackable (update own c os)) (first-zero (first_of (object_leaf own c) os) _ l).1 }

  pub sends_fits : {s : Sent} → s ≡ sent_of (sends_objects own c (run_objects run)) → (s.size ≡ 0 → ⊥) → Fits own c run (ltb 257 s.size)
  sends_fits {s} p z =
      let w = sends_whole p z in
      let size : s.size ≡ length (packed (update own c w.objects)) = ap (λ x. x.size) p ∙ rw (w.whole, w.no_leaf) in
      record { objects = w.objects; whole = w.whole; packs = w.packs; one = λ e. omega (arith, ltb-false 257 s.size e) }

  -- the containers are planned and put
  pub send_put : {r : Bool} {s : Sent} {o : List ℕ} → r ≡ unfit own c (length out) → r ≡ false → s ≡ sent_of (sends_objects own c (run_objects run)) → (s.size ≡ 0 → ⊥)
      → ((os : List Object) → run_objects run ≡ some os → o ≡ sets out 0 (packed (update own c os))) → (s ≡ sent_of (sends own c run (length out))) × (o ≡ output_of (sends own c run (length out)) out)
  send_put {r} {s} {o} e t p z f =
      let w = sends_whole p z in
      let bs = packed (update own c w.objects) in
      let sent : sends own c run (length out) ≡ next_hop bs = fit e t ∙ rw (w.whole, w.no_leaf) in
      let room = (written (update own c w.objects) w.packs).room in
      (p ∙ ap sent_of (sym (fit e t)), f w.objects w.whole ∙ copied out bs (omega (arith, (fit_bounds e t).1)) ∙ sym (ap (λ x. output_of x out) sent))
