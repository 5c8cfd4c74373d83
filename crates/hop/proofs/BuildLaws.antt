-- Containers built one after the other in one array of 257 bytes, each copied to the output when it is closed.
use mathlib.Core.Path.{◌≡◌, refl, sym, ap, ◌∙◌}
use Prim.Native.Nat.{ℕ, zero, suc, ◌+◌, ◌-◌, ◌≤◌, ◌<◌}
use native.Mathlib.Omega.{arith}
use mathlib.Core.Bool.{Bool, true, false}
use mathlib.Core.List.{List, [], ◌∷◌, ◌++◌, append_assoc, append-nil}
use lib.ListN.{length, get_or, set, take, drop, length-append, length-set}
use lib.Dec.{leb}
use lib.Seq.{sets, sets-eq, take_at}
use borrow.Author.Tests.{leb-true, leb-false}
use Rattle.model.specs.declared.Own.{Own}
use Rattle.model.specs.declared.Neighbour.{Neighbour}
use Rattle.model.specs.Object.{Object, join, bytes_of}
use Rattle.model.specs.Pack.{pack_from, packed}
use Rattle.model.specs.Run.{join_options}
use Rattle.model.specs.Update.{update_object}
use Rattle.model.proofs.ObjectLaws.{join-append}
use Rattle.wire.specs.declared.objects.Header.{Header}
use Rattle.wire.specs.Put.{Put}
use Rattle.wire.specs.Step.{object_of}
use Rattle.wire.proofs.PutLaws.{put_nothing, put_append, put_before, put_length}
use Rattle.hop.specs.declared.sending.Place.{Place}
use Rattle.hop.specs.Planned.{bytes_in}
use Rattle.hop.specs.Built.{Builds}
use Rattle.hop.proofs.PackingLaws.{pack_within, pack_next, pack_last, bytes_first, length_one}
use Rattle.hop.proofs.PlanLaws.{body_next, length_object}

-- ---- room in the array

module _ (own : Own) (c : Neighbour) (h : Header) (b : List ℕ) (at : ℕ) where
  pub room_told : (n : ℕ) → length b + n ≡ length (body_next own c h b) → leb (at + 4 + length b + n) 257 ≡ leb (at + length (bytes_of (update_object own c (object_of h b)))) 257
  room_told n e =
      let d : at + 4 + length b + n ≡ at + length (bytes_of (update_object own c (object_of h b))) = omega (arith, length_object own c h b) in
      ap (λ x. leb x 257) d

-- ---- the open container

-- the array, which begins with 2, with the length of the container in it
abbrev pub framed : List ℕ → ℕ → List ℕ
framed a at = set a 1 (at - 2)

-- the bytes built behind a frame
front_bytes : (l : List ℕ) (n : ℕ) (j : List ℕ) → length l ≡ 257 → get_or l 0 0 ≡ 2 → length j ≤ 255 → take (2 + length j) (sets (set l 1 n) 2 j) ≡ 2 ∷ n ∷ j
front_bytes [] n j z e r = absurd (omega arith)
front_bytes (a ∷ []) n j z e r = absurd (omega arith)
front_bytes (a ∷ b ∷ l) n j z e r =
    rw (e, sets-eq j (2 ∷ n ∷ l) 2 (omega arith)) (take_at (2 ∷ n ∷ j) (drop (2 + length j) (2 ∷ n ∷ l)) (2 + length j) (omega arith))

-- the first of the bytes at the front
head_of : (n : ℕ) (l : List ℕ) (x : ℕ) (t : List ℕ) → take n l ≡ x ∷ t → get_or l 0 0 ≡ x
head_of zero l x t e = cc
head_of (suc n) [] x t e = cc
head_of (suc n) (y ∷ l) x t e = cc

-- objects that have room in the open container are held by it
pack_part : (es os rest : List Object) → length (join es) + length (join os) ≤ 255 → pack_from es (os ++ rest) ≡ pack_from (es ++ os) rest
unfolding join
pack_part es [] rest h = rw (append-nil es)
pack_part es (o ∷ os) rest h =
    let n = length-append o.body (join os) in
    pack_within es o (os ++ rest) (omega arith) ∙ pack_part (es ++ (o ∷ [])) os rest (omega (arith, length_one es o)) ∙ ap (λ x. pack_from x rest) (append_assoc es (o ∷ []) os)

-- the containers behind begin with the open one
first_bytes : (es os : List Object) → 2 + length (join es) ≤ length (bytes_in (pack_from es os))
first_bytes es [] = rw (pack_last es, bytes_first es [], length-append (2 ∷ length (join es) ∷ join es) (bytes_in [])) (omega arith)
first_bytes es (o ∷ os) = go (leb (length (join es) + length (bytes_of o)) 255) refl (first_bytes (es ++ (o ∷ [])) os)
  where
    go : (b : Bool) → leb (length (join es) + length (bytes_of o)) 255 ≡ b → 2 + length (join (es ++ (o ∷ []))) ≤ length (bytes_in (pack_from (es ++ (o ∷ [])) os))
        → 2 + length (join es) ≤ length (bytes_in (pack_from es (o ∷ os)))
    go true e ih = rw (pack_within es o os (leb-true (length (join es) + length (bytes_of o)) 255 e)) (omega (arith, ih, length_one es o))
    go false e ih =
        rw (pack_next es o os (leb-false (length (join es) + length (bytes_of o)) 255 e), bytes_first es (pack_from (o ∷ []) os), length-append (2 ∷ length (join es) ∷ join es) (bytes_in (pack_from (o ∷ []) os)))
        (omega arith)

-- objects whose bytes have one frame have room in the open container
pack_one : (es os rest : List Object) → length (bytes_in (pack_from es (os ++ rest))) ≤ 257 → length (join es) + length (join os) ≤ 255
unfolding join
pack_one es [] rest h = omega (arith, first_bytes es rest)
pack_one es (o ∷ os) rest h = go (leb (length (join es) + length (bytes_of o)) 255) refl (pack_one (es ++ (o ∷ [])) os rest)
  where
    go : (b : Bool) → leb (length (join es) + length (bytes_of o)) 255 ≡ b
        → (length (bytes_in (pack_from (es ++ (o ∷ [])) (os ++ rest))) ≤ 257 → length (join (es ++ (o ∷ []))) + length (join os) ≤ 255) → length (join es) + length (join (o ∷ os)) ≤ 255
    go true e ih =
        let w = pack_within es o (os ++ rest) (leb-true (length (join es) + length (bytes_of o)) 255 e) in
        omega (arith, ih (rw (← w) h), length_one es o, length-append o.body (join os))
    go false e ih =
        let l = leb-false (length (join es) + length (bytes_of o)) 255 e in
        let n = ap (λ gs. length (bytes_in gs)) (pack_next es o (os ++ rest) l) ∙ ap length (bytes_first es (pack_from (o ∷ []) (os ++ rest))) ∙ length-append (2 ∷ length (join es) ∷ join es) (bytes_in (pack_from (o ∷ []) (os ++ rest))) in
        let f = first_bytes (o ∷ []) (os ++ rest) in
        let g = length-append o.body [] in
        absurd (omega arith)

pub builds_first : (l a : List ℕ) (os : List Object) → length a ≡ 257 → get_or a 0 0 ≡ 2 → Builds l (packed os) (record { done = 0; at = 2 }) l a os
unfolding packed join
builds_first l a os z b = record {
  front = [];
  held = [];
  gives = refl;
  closed = put_nothing l 0;
  short = omega arith;
  before = a;
  long = z;
  begins = b;
  built = put_nothing a 2;
}

module _ {l whole m a : List ℕ} {place : Place} {rest : List Object} (p : Builds l whole place m a rest) where
  pub builds_inside : (2 ≤ place.at) × (place.at ≤ 257) × (length a ≡ 257)
  builds_inside = (omega (arith, p.built.end), omega (arith, p.built.end, p.short), put_length p.built ∙ p.long)

  pub builds_length : length m ≡ length l
  builds_length = put_length p.closed

  pub builds_room : length whole ≤ length l → place.done + place.at ≤ length m
  builds_room h =
      let n = ap length p.gives ∙ length-append p.front (bytes_in (pack_from p.held rest)) in
      omega (arith, builds_length, p.closed.end, p.built.end, first_bytes p.held rest)

  -- the array's front, once its frame is set, is the open container
  front_is : take place.at (framed a place.at) ≡ 2 ∷ length (join p.held) ∷ join p.held
  front_is =
      let j = join p.held in
      let n : place.at - 2 ≡ length j = omega (arith, p.built.end) in
      let w = (put_before 1 (length j) (omega arith) p.built).written in
      ap (λ k. take place.at (set a 1 k)) n ∙ ap (λ k. take k (set a 1 (length j))) p.built.end ∙ ap (take (2 + length j)) w ∙ front_bytes p.before (length j) j p.long p.begins p.short

  -- copied behind those that are closed
  copied : {r : ℕ} {m' : List ℕ} → Put m place.done (take place.at (framed a place.at)) r m' → Put l 0 (p.front ++ (2 ∷ length (join p.held) ∷ join p.held)) r m'
  copied q = put_append p.closed (rw front_is at q)

-- objects that have room are held
pub builds_hold : {l whole m a b : List ℕ} {place : Place} {rest : List Object} {r : ℕ} (os : List Object) → Builds l whole place m a (os ++ rest) → place.at + length (join os) ≤ 257
    → Put a place.at (join os) r b → Builds l whole (record { done = place.done; at = r }) m b rest
builds_hold {rest = rest} os p h q =
    let n = ap length (join-append p.held os) ∙ length-append (join p.held) (join os) in
    record {
      front = p.front;
      held = p.held ++ os;
      gives = p.gives ∙ ap (λ gs. p.front ++ bytes_in gs) (pack_part p.held os rest (omega (arith, p.built.end)));
      closed = p.closed;
      short = omega (arith, p.built.end);
      before = p.before;
      long = p.long;
      begins = p.begins;
      built = rw (join-append p.held os) (put_append p.built q);
    }

-- in one container all have room
pub builds_one : {l whole m a : List ℕ} {place : Place} (os rest : List Object) → Builds l whole place m a (os ++ rest) → length whole ≤ 257 → place.at + length (join os) ≤ 257
builds_one os rest p h =
    let n = ap length p.gives ∙ length-append p.front (bytes_in (pack_from p.held (os ++ rest))) in
    omega (arith, p.built.end, pack_one p.held os rest (omega arith))

-- so has one
pub builds_lone : {l whole m a : List ℕ} {place : Place} (o : Object) (rest : List Object) → Builds l whole place m a (o ∷ rest) → length whole ≤ 257 → place.at + length (bytes_of o) ≤ 257
unfolding join
builds_lone o rest p h = let n = ap length (append-nil (bytes_of o)) in omega (arith, builds_one (o ∷ []) rest p h, n)

-- for one that has none the container is closed, and the array serves for the next one
pub builds_next : {l whole m a m' a' : List ℕ} {place : Place} {rest : List Object} {r : ℕ} (o : Object) → Builds l whole place m a (o ∷ rest) → length (bytes_of o) ≤ 255
    → 257 < place.at + length (bytes_of o) → Put m place.done (take place.at (framed a place.at)) r m' → a' ≡ framed a place.at
    → Builds l whole (record { done = r; at = 2 }) m' a' (o ∷ rest)
unfolding join
builds_next {a = a} {a' = a'} {place = place} {rest = rest} o p n h q e =
    let (x, y, z) = builds_inside p in
    let behind : bytes_in (pack_from p.held (o ∷ rest)) ≡ (2 ∷ length (join p.held) ∷ join p.held) ++ bytes_in (pack_from [] (o ∷ rest)) =
    ap bytes_in (pack_next p.held o rest (omega (arith, p.built.end))) ∙ bytes_first p.held (pack_from (o ∷ []) rest)
    ∙ ap (λ gs. (2 ∷ length (join p.held) ∷ join p.held) ++ bytes_in gs) (sym (pack_within [] o rest (omega arith))) in
    record {
      front = p.front ++ (2 ∷ length (join p.held) ∷ join p.held);
      held = [];
      gives = p.gives ∙ ap (λ bs. p.front ++ bs) behind ∙ sym (append_assoc p.front (2 ∷ length (join p.held) ∷ join p.held) (bytes_in (pack_from [] (o ∷ rest))));
      closed = copied p q;
      short = omega arith;
      before = a';
      long = ap length e ∙ length-set a 1 (place.at - 2) ∙ z;
      begins = ap (λ l. get_or l 0 0) e ∙ head_of place.at (framed a place.at) 2 _ (front_is p);
      built = put_nothing a' 2;
    }

-- the last container
pub builds_close : {l whole m a m' : List ℕ} {place : Place} {r : ℕ} → Builds l whole place m a [] → Put m place.done (take place.at (framed a place.at)) r m' → m' ≡ sets l 0 whole
unfolding join_options
builds_close {l} p q =
    let last : bytes_in (pack_from p.held []) ≡ 2 ∷ length (join p.held) ∷ join p.held = ap bytes_in (pack_last p.held) ∙ bytes_first p.held [] ∙ append-nil (2 ∷ length (join p.held) ∷ join p.held) in
    (copied p q).written ∙ ap (sets l 0) (sym (p.gives ∙ ap (λ bs. p.front ++ bs) last))
