-- Bodies that are put into an output, by what code tests.
use mathlib.Core.Path.{◌≡◌, refl, sym, ap, ◌∙◌}
use Prim.Native.Nat.{ℕ, zero, suc, ◌+◌, ◌-◌, ◌/◌, ◌%◌, ◌≤◌, ◌<◌}
use native.Mathlib.Nat.{div-one}
use native.Mathlib.Omega.{arith}
use mathlib.Core.Bool.{Bool, true, false, cond, ◌||◌, false≢true}
use mathlib.Core.List.{List, [], ◌∷◌, ◌++◌}
use lib.ListN.{length, get_or, set, take, drop, length-append}
use lib.Seq.{take_all}
use lib.Dec.{ltb, eqb}
use borrow.Author.Tests.{ltb-true, eq-eqb, ne_eqb, eqb-true, eqb-false}
use Rattle.model.specs.Number.{Quantity}
use Rattle.std.specs.Prelude.{Some, None}
use Rattle.std.specs.Int.{to_be_bytes}
use mir.Syntax.{w32}
use Rattle.model.specs.declared.Own.{Own}
use Rattle.model.specs.declared.Neighbour.{Neighbour}
use Rattle.model.specs.Number.{number, big_endian}
use Rattle.model.specs.Object.{kind_of}
use Rattle.model.specs.Constraint.{energy_in}
use Rattle.model.specs.Update.{local_value, value_or_0, combine, on_two, on_field, aggregated_body, sub_object, clear_each, own_energy, behind_reserved, counted_body, clear_colour, coloured_body, recorded_body}
use Rattle.model.proofs.BoolLaws.{both}
use Rattle.model.proofs.RoundTrip.{length-big_endian}
use Rattle.model.proofs.TypeLaws.{by_type}
use Rattle.wire.specs.Put.{Put}
use Rattle.wire.proofs.PutLaws.{put_cons, put_length}
use Rattle.metric.specs.Next.{link_of, clear_first, combine_second, counts_in}
use Rattle.metric.specs.Colours.{clear_third}
use Rattle.metric.proofs.KindLaws.{aggregated_by_lem, recorded_by_lem}

-- ---- the first two bytes changed

pub on_short : {l m : List ℕ} {at n : ℕ} (f g : ℕ → ℕ) (b : List ℕ) → length b < 2 → Put l at b n m → Put l at (on_two f g b) n m
on_short f g [] h p = p
on_short f g (x ∷ []) h p = p
on_short f g (x ∷ y ∷ t) h p = absurd (omega arith)

pub on_two_lem : {l m : List ℕ} {at n x y : ℕ} (f g : ℕ → ℕ) (b : List ℕ) → 2 ≤ length b → x ≡ f (get_or b 0 0) → y ≡ g (get_or b 1 0) → Put l at (x ∷ y ∷ drop 2 b) n m
    → Put l at (on_two f g b) n m
on_two_lem f g [] h d e p = absurd (omega arith)
on_two_lem f g (a ∷ []) h d e p = absurd (omega arith)
on_two_lem f g (a ∷ b ∷ t) h d e p = rw (d, e) at p

-- the local value of a node metric is a byte
pub node_value : (own : Own) (c : Neighbour) (t : ℕ) → own.energy ≤ 255 → eqb t 1 || eqb t 2 || eqb t 3 ≡ true → value_or_0 (local_value own c (kind_of t)) ≤ 255
unfolding kind_of local_value
node_value own c t h =
    by_type (λ t. eqb t 1 || eqb t 2 || eqb t 3 ≡ true → value_or_0 (local_value own c (kind_of t)) ≤ 255)
    (λ e. omega arith) (λ e. omega arith) (λ e. energy (eqb (own.flags / 4 % 2) 1)) (λ e. omega arith) (λ e. absurd (false≢true e)) (λ e. absurd (false≢true e)) (λ e. absurd (false≢true e)) (λ e. absurd (false≢true e)) (λ e. absurd (false≢true e)) (λ t p e. rw p.kind (omega arith)) t
  where
    energy : (b : Bool) → value_or_0 (cond b (Some own.energy) None) ≤ 255
    energy true = h
    energy false = omega arith

-- ---- fields

pub on_other : {l m : List ℕ} {at n : ℕ} (w : ℕ) (f : ℕ → ℕ) (b : List ℕ) → (length b ≡ w → ⊥) → Put l at b n m → Put l at (on_field w f b) n m
on_other w f b h p = rw (ne_eqb (length b) w h) p

pub on_field_lem : {l m : List ℕ} {at n x y : ℕ} (w : ℕ) (f : ℕ → ℕ) (b : List ℕ) → length b ≡ w → x ≡ number b → y ≡ f x → Put l at (big_endian w y) n m → Put l at (on_field w f b) n m
on_field_lem w f b h d e p = rw (eq-eqb (length b) w h) (rw (e, d) at p)

-- ---- sub-objects

-- the last bytes of a number's four
pub low_bytes : (w n : ℕ) → w ≤ 4 → take (4 - (4 - w)) (drop (4 - w) (to_be_bytes w32 n)) ≡ big_endian w n
low_bytes zero n h = refl
low_bytes (suc zero) n h = rw (div-one n)
low_bytes (suc (suc zero)) n h = rw (div-one n)
low_bytes (suc (suc (suc zero))) n h = rw (div-one n)
low_bytes (suc (suc (suc (suc zero)))) n h = rw (div-one n)
low_bytes (suc (suc (suc (suc (suc w))))) n h = absurd (omega arith)

pub sub_room : {room v : ℕ} (at w : ℕ) (q : Quantity) → q ≡ Some v → at + length (sub_object w q) ≤ room → at + w ≤ room
sub_room {v = v} at w q e h = let n = ap (λ x. length (sub_object w x)) e ∙ length-big_endian w v in omega arith

-- ---- sub-objects behind a reserved byte

module _ (f : List ℕ → List ℕ) where
  pub no_subs : (b : List ℕ) → length b ≡ 0 → behind_reserved f b ≡ []
  no_subs [] e = refl
  no_subs (x ∷ b) e = absurd (omega arith)

  pub subs_are : (b : List ℕ) → (length b ≡ 0 → ⊥) → behind_reserved f b ≡ 0 ∷ f (take (length b - 1) (drop 1 b))
  subs_are [] e = absurd (e refl)
  subs_are (x ∷ b) e = rw (take_all (suc (length b) - 1) b (omega arith))

  pub put_behind : {l m : List ℕ} {n : ℕ} (at : ℕ) (b : List ℕ) → (length b ≡ 0 → ⊥) → Put (set l at 0) (at + 1) (f (take (length b - 1) (drop 1 b))) n m → Put l at (behind_reserved f b) n m
  put_behind at b h p = rw (subs_are b h) (put_cons at 0 refl p)

  pub subs_room : (at room : ℕ) (b : List ℕ) → (length b ≡ 0 → ⊥) → at + length (behind_reserved f b) ≤ room → at + 1 + length (f (take (length b - 1) (drop 1 b))) ≤ room
  subs_room at room b h r = let e = ap length (subs_are b h) in omega arith

-- a counter that gains one stays in its byte
pub counted_byte : {r : Bool} (v x : ℕ) → r ≡ counts_in v x → r ≡ true → x ≤ 255 → x + 1 ≤ 255
counted_byte v x e t h = let l = ltb-true (x % 32) 31 (both (eqb (x / 32) v) (ltb (x % 32) 31) (sym e ∙ t)).1 in omega arith

-- ---- colours

-- a constraint's sub-object cleared
pub cleared_short : {l m : List ℕ} {at n : ℕ} (b : List ℕ) → length b < 3 → Put l at b n m → Put l at (clear_colour b) n m
cleared_short [] h p = p
cleared_short (x ∷ []) h p = p
cleared_short (x ∷ y ∷ []) h p = p
cleared_short (x ∷ y ∷ z ∷ t) h p = absurd (omega arith)

pub cleared_three : {l m : List ℕ} {n z : ℕ} (at : ℕ) (b : List ℕ) → 3 ≤ length b → z ≡ clear_third (get_or b 2 0)
    → Put (set (set (set l at 0) (at + 1) (get_or b 1 0)) (at + 2) z) (at + 3) (take (length b - 3) (drop 3 b)) n m → Put l at (clear_colour b) n m
cleared_three at [] h e p = absurd (omega arith)
cleared_three at (x ∷ []) h e p = absurd (omega arith)
cleared_three at (x ∷ y ∷ []) h e p = absurd (omega arith)
cleared_three {l} {m} {n} {z} at (x ∷ y ∷ w ∷ t) h e p =
    let whole : take (suc (suc (suc (length t))) - 3) t ≡ t = take_all (suc (suc (suc (length t))) - 3) t (omega arith) in
    put_cons at 0 refl (put_cons (at + 1) y (omega arith) (put_cons (at + 2) (clear_third w) (omega arith) (rw (e, whole) at p)))

-- ---- the body of an aggregated metric, by type

module _ {l m : List ℕ} {at n : ℕ} (t a : ℕ) {v w : ℕ} (b : List ℕ) (e : v ≡ w) where
  pub aggregated_4 : eqb t 4 || eqb t 5 ≡ true → Put l at (on_field 4 (λ x. combine a 4294967295 x v) b) n m → Put l at (aggregated_body (kind_of t) a w b) n m
  aggregated_4 h p = rw (← aggregated_by_lem t a w b, h, ← e) p

  pub aggregated_2 : eqb t 4 || eqb t 5 ≡ false → t ≡ 7 → Put l at (on_field 2 (λ x. combine a 65535 x v) b) n m → Put l at (aggregated_body (kind_of t) a w b) n m
  aggregated_2 h s p = rw (← aggregated_by_lem t a w b, h, eq-eqb t 7 s, ← e) p

  pub aggregated_node : eqb t 4 || eqb t 5 ≡ false → (t ≡ 7 → ⊥) → eqb t 1 || eqb t 2 || eqb t 3 ≡ true
      → Put l at (on_two (clear_first (kind_of t)) (combine_second (kind_of t) a v) b) n m → Put l at (aggregated_body (kind_of t) a w b) n m
  aggregated_node h s r p = rw (← aggregated_by_lem t a w b, h, ne_eqb t 7 s, r, ← e) p

  pub aggregated_kept : eqb t 4 || eqb t 5 ≡ false → (t ≡ 7 → ⊥) → eqb t 1 || eqb t 2 || eqb t 3 ≡ false → Put l at b n m → Put l at (aggregated_body (kind_of t) a w b) n m
  aggregated_kept h s r p = rw (← aggregated_by_lem t a w b, h, ne_eqb t 7 s, r) p

-- ---- the body of a recorded metric, by type

module _ (own : Own) (c : Neighbour) (t : ℕ) (b : List ℕ) where
  pub recorded_energy : t ≡ 2 → recorded_body own c (kind_of t) b ≡ clear_each b ++ own_energy own.nodetype (energy_in own.flags own.energy)
  recorded_energy e = rw (← recorded_by_lem own c t b, eq-eqb t 2 e)

  pub recorded_levels : (t ≡ 2 → ⊥) → t ≡ 6 → recorded_body own c (kind_of t) b ≡ counted_body c.lql b
  recorded_levels p e = rw (← recorded_by_lem own c t b, ne_eqb t 2 p, eq-eqb t 6 e)

  pub recorded_colours : (t ≡ 2 → ⊥) → (t ≡ 6 → ⊥) → t ≡ 8 → recorded_body own c (kind_of t) b ≡ coloured_body c.colour b
  recorded_colours p r e = rw (← recorded_by_lem own c t b, ne_eqb t 2 p, ne_eqb t 6 r, eq-eqb t 8 e)

  pub recorded_before : {q : Quantity} → (t ≡ 2 → ⊥) → (t ≡ 6 → ⊥) → (t ≡ 8 → ⊥) → q ≡ link_of c (kind_of t) → t ≡ 4 → recorded_body own c (kind_of t) b ≡ sub_object 4 q ++ b
  recorded_before p r o d e = rw (← recorded_by_lem own c t b, ne_eqb t 2 p, ne_eqb t 6 r, ne_eqb t 8 o, eq-eqb t 4 e, d)

  pub recorded_2 : {q : Quantity} → (t ≡ 2 → ⊥) → (t ≡ 6 → ⊥) → (t ≡ 8 → ⊥) → q ≡ link_of c (kind_of t) → (t ≡ 4 → ⊥) → t ≡ 7 → recorded_body own c (kind_of t) b ≡ b ++ sub_object 2 q
  recorded_2 p r o d f e = rw (← recorded_by_lem own c t b, ne_eqb t 2 p, ne_eqb t 6 r, ne_eqb t 8 o, ne_eqb t 4 f, eq-eqb t 7 e, d)

  pub recorded_4 : {q : Quantity} → (t ≡ 2 → ⊥) → (t ≡ 6 → ⊥) → (t ≡ 8 → ⊥) → q ≡ link_of c (kind_of t) → (t ≡ 4 → ⊥) → (t ≡ 7 → ⊥) → recorded_body own c (kind_of t) b ≡ b ++ sub_object 4 q
  recorded_4 p r o d f e = rw (← recorded_by_lem own c t b, ne_eqb t 2 p, ne_eqb t 6 r, ne_eqb t 8 o, ne_eqb t 4 f, ne_eqb t 7 e, d)

-- a body of two parts has room where the whole has
pub room_first : {room : ℕ} (at : ℕ) {w : List ℕ} (xs ys : List ℕ) → w ≡ xs ++ ys → at + length w ≤ room → at + length xs ≤ room
room_first at xs ys e h = let n = ap length e ∙ length-append xs ys in omega arith

pub room_second : {l m : List ℕ} (at : ℕ) {w : List ℕ} {n : ℕ} (xs ys : List ℕ) → w ≡ xs ++ ys → at + length w ≤ length l → Put l at xs n m → n + length ys ≤ length m
room_second at xs ys e h p = let k = ap length e ∙ length-append xs ys in omega (arith, p.end, put_length p)

-- a body to which something is added has room where the whole has
pub recorded_room : (own : Own) (c : Neighbour) (t : ℕ) (b : List ℕ) {q : Quantity} (at : ℕ) {room : ℕ} → (t ≡ 2 → ⊥) → (t ≡ 6 → ⊥) → (t ≡ 8 → ⊥) → q ≡ link_of c (kind_of t) → (t ≡ 4 → ⊥)
    → at + length (recorded_body own c (kind_of t) b) ≤ room → at + length b ≤ room
recorded_room own c t b {q} at {room} p r o d f h = go (eqb t 7) refl
  where
    go : (s : Bool) → eqb t 7 ≡ s → at + length b ≤ room
    go true e = room_first at b (sub_object 2 q) (recorded_2 own c t b p r o d f (eqb-true t 7 e)) h
    go false e = room_first at b (sub_object 4 q) (recorded_4 own c t b p r o d f (eqb-false t 7 e)) h
