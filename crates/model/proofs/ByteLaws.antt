-- Of bytes, bytes are passed on.
use mathlib.Core.Path.{◌≡◌, refl, sym, ◌∙◌}
use Prim.Native.Nat.{ℕ, zero, suc, ◌+◌, ◌*◌, ◌/◌, ◌%◌, ◌^◌, ◌≤◌}
use native.Mathlib.Omega.{arith}
use mathlib.Core.Bool.{Bool, true, false, cond, ◌&&◌}
use mathlib.Core.List.{List, [], ◌∷◌, ◌++◌, map}
use mathlib.Core.Option.{some, none-ne-some}
use lib.ListN.{length, get_or, take, drop, get_elem?, take-append-drop}
use lib.Dec.{ltb, eqb}
use borrow.Author.Tests.{le-ltb, ltb-true, ltb-false}
use Rattle.model.specs.Number.{Quantity}
use Rattle.std.specs.Prelude.{Some, None}
use Rattle.model.specs.declared.Own.{Own}
use Rattle.model.specs.declared.Neighbour.{Neighbour}
use Rattle.model.specs.Number.{is_set, any_of, number, big_endian}
use Rattle.model.specs.Object.{Object, field_a, join, Kind, unknown, lql, colour, node, scalar, Node, nsa, ne, hp, throughput, latency, etx, kind, Role, constraint, recorded, aggregated, role}
use Rattle.model.specs.Cut.{keep_if}
use Rattle.model.specs.Run.{RplOption, pad1, option, join_options, is_container, containers, run_objects, concat}
use Rattle.model.specs.Pack.{is_overlong, unpackable, packed}
use Rattle.model.specs.Constraint.{link_value, colour_in}
use Rattle.model.specs.Verdict.{run_of}
use Rattle.model.specs.Update.{local_value, value_or_0, combine, on_two, on_field, clear0, combine1, width_of, most_of, aggregated_body, clear1, constraint_body, sub_object, clear_each, own_energy, behind_reserved, count_level, clear_colour, count_colour, recorded_body, adds_nothing, next_body, next_flags, next_mode, update_object, update}
use Rattle.model.specs.RoundTrip.{Bytes}
use Rattle.model.specs.ReadBack.{PassesBytes}
use Rattle.model.proofs.ListLaws.{any_append}
use Rattle.model.proofs.BoolLaws.{both, neither}
use Rattle.model.proofs.VerdictLaws.{admitted, nothing_bars, in_range}
use Rattle.model.proofs.CallLaws.{unrefused}
use Rattle.model.proofs.Selection.{selection}
use Rattle.model.proofs.OutgoingLaws.{leaf_is, passed_is}
use Rattle.model.proofs.LeafLaws.{fits}
use Rattle.model.proofs.RunLaws.{options_join, join_options_lem, run-options, joined_objects_lem, run_objects_lem}
use Rattle.model.proofs.PackLaws.{is_long, written, joined_packed}

-- ---- lists of bytes

byte : (b : ℕ) → b ≤ 255 → ltb 255 b ≡ false
byte b h = le-ltb 255 b h

both_bytes : (xs ys : List ℕ) → Bytes xs → Bytes ys → Bytes (xs ++ ys)
both_bytes xs ys p q = any_append (λ b. ltb 255 b) xs ys ∙ rw (p, q)

pub part_bytes : (xs ys : List ℕ) → Bytes (xs ++ ys) → Bytes xs × Bytes ys
part_bytes xs ys h = neither (any_of (λ b. ltb 255 b) xs) (any_of (λ b. ltb 255 b) ys) (sym (any_append (λ b. ltb 255 b) xs ys) ∙ h)

take_bytes : (n : ℕ) (xs : List ℕ) → Bytes xs → Bytes (take n xs)
take_bytes n xs h = (part_bytes (take n xs) (drop n xs) (rw (take-append-drop n xs) h)).0

drop_bytes : (n : ℕ) (xs : List ℕ) → Bytes xs → Bytes (drop n xs)
drop_bytes n xs h = (part_bytes (take n xs) (drop n xs) (rw (take-append-drop n xs) h)).1

more_bytes : (b : ℕ) (bs : List ℕ) → b ≤ 255 → Bytes bs → Bytes (b ∷ bs)
more_bytes b bs h g = rw (byte b h) g

pub first_byte : (b : ℕ) (bs : List ℕ) → Bytes (b ∷ bs) → (b ≤ 255) × Bytes bs
first_byte b bs h = let (p, q) = neither (ltb 255 b) (any_of (λ x. ltb 255 x) bs) h in (ltb-false 255 b p, q)

-- the byte at an index; 0 behind them
pub byte_at : (bs : List ℕ) (i : ℕ) → Bytes bs → get_or bs i 0 ≤ 255
byte_at [] i h = omega arith
byte_at (b ∷ bs) zero h = (first_byte b bs h).0
byte_at (b ∷ bs) (suc i) h = byte_at bs i (first_byte b bs h).1

-- ---- bodies

on_two_bytes : (f g : ℕ → ℕ) → ((x : ℕ) → x ≤ 255 → f x ≤ 255) → ((y : ℕ) → y ≤ 255 → g y ≤ 255) → (b : List ℕ) → Bytes b → Bytes (on_two f g b)
on_two_bytes f g p q [] h = h
on_two_bytes f g p q (x ∷ []) h = h
on_two_bytes f g p q (x ∷ y ∷ t) h =
    let (a, k) = first_byte x (y ∷ t) h in
    let (d, l) = first_byte y t k in
    more_bytes (f x) (g y ∷ t) (p x a) (more_bytes (g y) t (q y d) l)

clear0_byte : (n : Node) (x : ℕ) → x ≤ 255 → clear0 n x ≤ 255
clear0_byte nsa x h = omega arith
clear0_byte ne x h = omega arith
clear0_byte hp x h = omega arith

clear1_byte : (n : Node) (y : ℕ) → y ≤ 255 → clear1 n y ≤ 255
clear1_byte nsa y h = omega arith
clear1_byte ne y h = h
clear1_byte hp y h = h

pub combine_within : (a most x v : ℕ) → x ≤ most → v ≤ most → combine a most x v ≤ most
combine_within zero most x v h k = omega arith
combine_within (suc zero) most x v h k = omega arith
combine_within (suc (suc a)) most x v h k = omega arith

combine1_byte : (n : Node) (a v : ℕ) → v ≤ 255 → (y : ℕ) → y ≤ 255 → combine1 n a v y ≤ 255
combine1_byte nsa a v h y k =
    let p = combine_within a 1 (y / 2 % 2) (v / 2 % 2) (omega arith) (omega arith) in
    let q = combine_within a 1 (y % 2) (v % 2) (omega arith) (omega arith) in
    omega arith
combine1_byte ne a v h y k = combine_within a 255 y v k h
combine1_byte hp a v h y k = combine_within a 255 y v k h

big_endian_bytes : (w v : ℕ) → Bytes (big_endian w v)
big_endian_bytes zero v = refl
big_endian_bytes (suc k) v = more_bytes (v / 256 ^ k % 256) (big_endian k v) (omega arith) (big_endian_bytes k v)

on_field_bytes : (w : ℕ) (f : ℕ → ℕ) (b : List ℕ) → Bytes b → Bytes (on_field w f b)
on_field_bytes w f b h = go (eqb (length b) w)
  where
    go : (t : Bool) → Bytes (cond t (big_endian w (f (number b))) b)
    go true = big_endian_bytes w (f (number b))
    go false = h

sub_object_bytes : (w : ℕ) (q : Quantity) → Bytes (sub_object w q)
sub_object_bytes w (Some v) = big_endian_bytes w v
sub_object_bytes w None = refl

clear_each_bytes : (b : List ℕ) → Bytes b → Bytes (clear_each b)
clear_each_bytes [] h = h
clear_each_bytes (x ∷ []) h = h
clear_each_bytes (x ∷ y ∷ t) h =
    let (a, k) = first_byte x (y ∷ t) h in
    let (d, l) = first_byte y t k in
    more_bytes (x % 16) (y ∷ clear_each t) (omega arith) (more_bytes y (clear_each t) d (clear_each_bytes t l))

-- a quantity that is a byte where it is known
energy_byte : (b : Bool) (e : ℕ) → e ≤ 255 → value_or_0 (cond b (Some e) None) ≤ 255
energy_byte true e h = h
energy_byte false e h = omega arith

own_energy_bytes : (t : ℕ) (b : Bool) (e : ℕ) → t ≤ 3 → e ≤ 255 → Bytes (own_energy t (cond b (Some e) None))
own_energy_bytes t true e h k = more_bytes (t * 2 + 1) (e ∷ []) (omega arith) (more_bytes e [] k refl)
own_energy_bytes t false e h k = more_bytes (t * 2) (0 ∷ []) (omega arith) refl

count_level_bytes : (v : ℕ) → v ≤ 7 → (b : List ℕ) → Bytes b → Bytes (count_level v b)
count_level_bytes v l [] h = more_bytes (v * 32 + 1) [] (omega arith) refl
count_level_bytes v l (x ∷ t) h = let (a, k) = first_byte x t h in go (eqb (x / 32) v && ltb (x % 32) 31) refl a k (count_level_bytes v l t k)
  where
    go : (b : Bool) → eqb (x / 32) v && ltb (x % 32) 31 ≡ b → x ≤ 255 → Bytes t → Bytes (count_level v t) → Bytes (cond b ((x + 1) ∷ t) (x ∷ count_level v t))
    go true e a k ih = let s = ltb-true (x % 32) 31 (both (eqb (x / 32) v) (ltb (x % 32) 31) e).1 in more_bytes (x + 1) t (omega arith) k
    go false e a k ih = more_bytes x (count_level v t) a ih

behind_bytes : (f : List ℕ → List ℕ) → ((t : List ℕ) → Bytes t → Bytes (f t)) → (b : List ℕ) → Bytes b → Bytes (behind_reserved f b)
behind_bytes f g [] h = h
behind_bytes f g (x ∷ t) h = g t (first_byte x t h).1

clear_colour_bytes : (b : List ℕ) → Bytes b → Bytes (clear_colour b)
clear_colour_bytes [] h = h
clear_colour_bytes (x ∷ []) h = h
clear_colour_bytes (x ∷ y ∷ []) h = h
clear_colour_bytes (x ∷ y ∷ z ∷ t) h =
    let (a, k) = first_byte x (y ∷ z ∷ t) h in
    let (d, l) = first_byte y (z ∷ t) k in
    let (e, m) = first_byte z t l in
    more_bytes 0 (y ∷ (z / 64 * 64 + z % 2) ∷ t) (omega arith) (more_bytes y ((z / 64 * 64 + z % 2) ∷ t) d (more_bytes (z / 64 * 64 + z % 2) t (omega arith) m))

count_colour_bytes : (v : ℕ) → v ≤ 1023 → (b : List ℕ) → Bytes b → Bytes (count_colour v b)
count_colour_bytes v l [] h = more_bytes (v / 4) ((v % 4 * 64 + 1) ∷ []) (omega arith) (more_bytes (v % 4 * 64 + 1) [] (omega arith) refl)
count_colour_bytes v l (x ∷ []) h = h
count_colour_bytes v l (x ∷ y ∷ t) h =
    let (a, k) = first_byte x (y ∷ t) h in
    let (d, m) = first_byte y t k in
    go (eqb (colour_in x y) v && ltb (y % 64) 63) refl a d m (count_colour_bytes v l t m)
  where
    go : (b : Bool) → eqb (colour_in x y) v && ltb (y % 64) 63 ≡ b → x ≤ 255 → y ≤ 255 → Bytes t → Bytes (count_colour v t)
        → Bytes (cond b (x ∷ (y + 1) ∷ t) (x ∷ y ∷ count_colour v t))
    go true e a d m ih =
        let s = ltb-true (y % 64) 63 (both (eqb (colour_in x y) v) (ltb (y % 64) 63) e).1 in
        more_bytes x ((y + 1) ∷ t) a (more_bytes (y + 1) t (omega arith) m)
    go false e a d m ih = more_bytes x (y ∷ count_colour v t) a (more_bytes y (count_colour v t) d ih)

-- ---- headers

header_parts : (t f m n : ℕ) (rest : List ℕ) → Bytes (t ∷ f ∷ m ∷ n ∷ rest) → (t ≤ 255) × (m ≤ 255) × Bytes rest
header_parts t f m n rest h =
    let (a, h1) = first_byte t (f ∷ m ∷ n ∷ rest) h in
    let (b, h2) = first_byte f (m ∷ n ∷ rest) h1 in
    let (d, h3) = first_byte m (n ∷ rest) h2 in
    (a, d, (first_byte n rest h3).1)

header_bytes : (t f m n : ℕ) (rest : List ℕ) → t ≤ 255 → f ≤ 255 → m ≤ 255 → n ≤ 255 → Bytes rest → Bytes (t ∷ f ∷ m ∷ n ∷ rest)
header_bytes t f m n rest a b d e h = more_bytes t (f ∷ m ∷ n ∷ rest) a (more_bytes f (m ∷ n ∷ rest) b (more_bytes m (n ∷ rest) d (more_bytes n rest e h)))

flags_byte : (r : Role) (p : Bool) (f : ℕ) → next_flags r p f ≤ 255
flags_byte constraint p f = omega arith
flags_byte recorded true f = omega arith
flags_byte recorded false f = omega arith
flags_byte aggregated p f = omega arith

mode_byte : (r : Role) (m : ℕ) → m ≤ 255 → next_mode r m ≤ 255
mode_byte constraint m h = omega arith
mode_byte recorded m h = h
mode_byte aggregated m h = h

-- ---- objects

module _ (own : Own) (c : Neighbour) (e : own.energy ≤ 255) (t : own.nodetype ≤ 3) (q : c.lql ≤ 7) (k : c.colour ≤ 1023) where
  local_byte : (n : Node) → value_or_0 (local_value own c (node n)) ≤ 255
  unfolding local_value
  local_byte nsa = omega arith
  local_byte ne = energy_byte (is_set (own.flags / 4 % 2)) own.energy e
  local_byte hp = omega arith

  constraint_bytes : (k : Kind) (b : List ℕ) → Bytes b → Bytes (constraint_body k b)
  unfolding constraint_body
  constraint_bytes unknown b h = h
  constraint_bytes colour b h = clear_colour_bytes b h
  constraint_bytes lql b h = on_two_bytes (λ x. 0) (λ y. y) (λ x g. omega arith) (λ y g. g) b h
  constraint_bytes (node n) b h = on_two_bytes (clear0 n) (clear1 n) (clear0_byte n) (clear1_byte n) b h
  constraint_bytes (scalar s) b h = h

  aggregated_bytes : (k : Kind) (a : ℕ) (b : List ℕ) → Bytes b → Bytes (aggregated_body k a (value_or_0 (local_value own c k)) b)
  unfolding aggregated_body
  aggregated_bytes unknown a b h = h
  aggregated_bytes lql a b h = h
  aggregated_bytes colour a b h = h
  aggregated_bytes (node n) a b h =
      on_two_bytes (clear0 n) (combine1 n a (value_or_0 (local_value own c (node n)))) (clear0_byte n) (combine1_byte n a (value_or_0 (local_value own c (node n))) (local_byte n)) b h
  aggregated_bytes (scalar s) a b h = on_field_bytes (width_of s) (λ x. combine a (most_of s) x (value_or_0 (local_value own c (scalar s)))) b h

  recorded_bytes : (k : Kind) (b : List ℕ) → Bytes b → Bytes (recorded_body own c k b)
  unfolding recorded_body
  recorded_bytes unknown b h = h
  recorded_bytes lql b h = behind_bytes (count_level c.lql) (count_level_bytes c.lql q) b h
  recorded_bytes colour b h = behind_bytes (count_colour c.colour) (count_colour_bytes c.colour k) b h
  recorded_bytes (node nsa) b h = h
  recorded_bytes (node ne) b h =
      both_bytes (clear_each b) _ (clear_each_bytes b h) (own_energy_bytes own.nodetype (is_set (own.flags / 4 % 2)) own.energy t e)
  recorded_bytes (node hp) b h = h
  recorded_bytes (scalar throughput) b h = both_bytes (sub_object 4 (link_value c throughput)) b (sub_object_bytes 4 (link_value c throughput)) h
  recorded_bytes (scalar latency) b h = both_bytes b (sub_object 4 (link_value c latency)) h (sub_object_bytes 4 (link_value c latency))
  recorded_bytes (scalar etx) b h = both_bytes b (sub_object 2 (link_value c etx)) h (sub_object_bytes 2 (link_value c etx))

  next_bytes : (k : Kind) (r : Role) (a : ℕ) (b : List ℕ) → Bytes b → Bytes (next_body own c k r a b)
  next_bytes k constraint a b h = constraint_bytes k b h
  next_bytes k recorded a b h = recorded_bytes k b h
  next_bytes k aggregated a b h = aggregated_bytes k a b h

  -- objects that are bytes, updated, where none is too long
  objects_bytes : (os : List Object) → Bytes (join os) → any_of is_overlong (update own c os) ≡ false → Bytes (join (update own c os))
  unfolding join update_object
  objects_bytes [] h l = refl
  objects_bytes (o ∷ os) h l =
      let (a, m, r) = header_parts o.type o.flags o.mode (length o.body) (o.body ++ join os) h in
      let (b, k) = part_bytes o.body (join os) r in
      let body = next_body own c (kind o) (role o) (field_a o) o.body in
      let (x, y) = neither (is_overlong (update_object own c o)) (any_of is_overlong (update own c os)) l in
      let w = ltb-false 255 (suc (suc (suc (suc (length body))))) x in
      let ih = objects_bytes os k y in
      header_bytes o.type (next_flags (role o) (adds_nothing c (kind o)) o.flags) (next_mode (role o) o.mode) (length body) (body ++ join (update own c os)) a
      (flags_byte (role o) (adds_nothing c (kind o)) o.flags) (mode_byte (role o) o.mode m) (omega arith)
      (both_bytes body (join (update own c os)) (next_bytes (kind o) (role o) (field_a o) o.body b) ih)

-- the body of an object among objects that are bytes
pub body_bytes : (os : List Object) (i : ℕ) (o : Object) → Bytes (join os) → get_elem? os i ≡ some o → Bytes o.body
unfolding join
body_bytes [] i o h e = absurd (none-ne-some o e)
body_bytes (x ∷ os) i o h e =
    let (a, m, r) = header_parts x.type x.flags x.mode (length x.body) (x.body ++ join os) h in
    let (b, k) = part_bytes x.body (join os) r in
    go i e b (λ j q. body_bytes os j o k q)
  where
    go : (i : ℕ) → get_elem? (x ∷ os) i ≡ some o → Bytes x.body → ((j : ℕ) → get_elem? os j ≡ some o → Bytes o.body) → Bytes o.body
    go zero e b f = let q : x ≡ o = cc in rw q at b
    go (suc j) e b f = f j e

-- the containers' data of options that are bytes
containers_bytes : (os : List RplOption) → Bytes (join_options os) → Bytes (concat (containers os))
unfolding join_options containers concat
containers_bytes [] h = refl
containers_bytes (pad1 ∷ os) h = containers_bytes os (first_byte 0 (join_options os) h).1
containers_bytes (option t d ∷ os) h =
    let (a, b) = part_bytes d (join_options os) (first_byte (length d) (d ++ join_options os) (first_byte (suc t) (length d ∷ d ++ join_options os) h).1).1 in
    go (is_container t) a (containers_bytes os b)
  where
    go : (b : Bool) → Bytes d → Bytes (concat (containers os)) → Bytes (concat (keep_if b d (containers os)))
    go true p q = both_bytes d (concat (containers os)) p q
    go false p q = q

-- the joined data of a run of bytes
pub data_bytes : (bs : List ℕ) (os : List Object) → Bytes bs → run_objects bs ≡ some os → Bytes (join os)
data_bytes bs os h e = let (run, q, o) = run-options bs os e in
    rw (joined_objects_lem bs os e, q) (containers_bytes run (rw (join_options_lem bs run q) h))

-- objects that are bytes, in containers that are not too long
packed_bytes : (ds : List (List ℕ)) → any_of is_long ds ≡ false → Bytes (concat ds) → Bytes (join_options (map (option 1) ds))
unfolding join_options concat
packed_bytes [] l h = refl
packed_bytes (d ∷ ds) l h =
    let (a, b) = neither (is_long d) (any_of is_long ds) l in
    let (x, y) = part_bytes d (concat ds) h in
    more_bytes 2 (length d ∷ d ++ join_options (map (option 1) ds)) (omega arith)
    (more_bytes (length d) (d ++ join_options (map (option 1) ds)) (ltb-false 255 (length d) a) (both_bytes d (join_options (map (option 1) ds)) x (packed_bytes ds b y)))

pub containers_are : (ds : List (List ℕ)) → containers (map (option 1) ds) ≡ ds
unfolding containers
containers_are [] = refl
containers_are (d ∷ ds) = rw (containers_are ds)

packs : (os : List Object) → unpackable os ≡ false → any_of is_overlong os ≡ false
unfolding unpackable
packs os u = (neither (any_of is_overlong os) _ u).0

written_bytes : (os : List Object) → unpackable os ≡ false → Bytes (join os) → Bytes (packed os)
written_bytes os u h =
    let w = written os u in
    let e : concat w.data' ≡ join os = sym (rw (w.bytes, options_join (map (option 1) w.data'), containers_are w.data')) ∙ joined_packed os in
    rw w.bytes (packed_bytes w.data' w.short (rw e h))

-- ---- the call

pub passes_bytes : PassesBytes
passes_bytes own cs lent out h e p =
    let x = (selection own cs lent out p.unrefused).parent p.parent in
    let n = x.candidate.neighbour in
    let a = admitted own lent x.candidate (sym (nothing_bars own lent x.candidate) ∙ x.unbarred) in
    let r = run_objects_lem (run_of lent x.candidate) x.objects x.read in
    let data' = data_bytes _ x.objects (take_bytes x.candidate.size (drop x.candidate.start lent) (drop_bytes x.candidate.start lent h)) r.objects in
    let l = fits own n x.objects (sym (leaf_is own cs lent out p.unrefused x) ∙ p.no_leaf) in
    let t = (unrefused own cs lent out p.unrefused).known_type in
    let (i, j, q, k) = in_range own n a.in_range in
    rw (passed_is own cs lent out p.unrefused x p.no_leaf)
    (written_bytes (update own n x.objects) l (objects_bytes own n e t q k x.objects data' (packs (update own n x.objects) l)))
