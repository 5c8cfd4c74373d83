-- Objects by containers: what is written reads back, and the cut needs no more containers.
use mathlib.Core.Path.{◌≡◌, refl, sym, ap, ◌∙◌}
use Prim.Native.Nat.{ℕ, suc, ◌+◌, ◌*◌, ◌≤◌, ◌<◌}
use mathlib.Core.Bool.{Bool, true, false, cond}
use mathlib.Core.List.{List, [], ◌∷◌, ◌++◌, map, append_assoc, append-nil}
use mathlib.Core.Option.{some}
use mathlib.Core.Logic.{◌⊎◌, inl, inr}
use native.Mathlib.Omega.{arith}
use lib.ListN.{length, length-append, length-take}
use lib.Dec.{leb, ltb}
use borrow.Author.Tests.{ltb-true, leb-true, leb-false, ltb-false, le-ltb}
use Rattle.model.specs.Number.{any_of, first_of}
use Rattle.model.specs.Reading.{object_bar, well_formed}
use Rattle.model.specs.Object.{Object, split, join, bytes_of, standings, known, kind, role, Role, constraint, recorded, aggregated}
use Rattle.model.specs.Cut.{may_have_tlvs, keep_if, cut, cut_body, cut_object, cut_data}
use Rattle.model.proofs.ObjectLaws.{split-join, join-append}
use Rattle.model.proofs.BoolLaws.{neither}
use Rattle.model.specs.Run.{option, join_options, containers, objects_of, concat, joined_data, cut_run, cut_option, run_objects, read_run}
use Rattle.model.specs.Pack.{pack_from, pack, container_option, packed, is_overlong, unpackable}
use Rattle.model.proofs.RunLaws.{options_join, containers_cut, reading_options}
use Rattle.model.proofs.CutLaws.{cut-append}

-- ---- what is written reads back

containers_packed : (gs : List (List Object)) → containers (map container_option gs) ≡ map join gs
unfolding containers
containers_packed [] = refl
containers_packed (g ∷ gs) = rw (containers_packed gs)

objects_pack : (es os : List Object) → objects_of (map join (pack_from es os)) ≡ some (es ++ os)
unfolding objects_of pack_from
objects_pack es [] = rw (split-join es)
objects_pack es (o ∷ os) = go (leb (length (join es) + length (bytes_of o)) 255) (objects_pack (es ++ (o ∷ [])) os) (objects_pack (o ∷ []) os)
  where
    go : (b : Bool) → objects_of (map join (pack_from (es ++ (o ∷ [])) os)) ≡ some ((es ++ (o ∷ [])) ++ os) → objects_of (map join (pack_from (o ∷ []) os)) ≡ some (o ∷ os)
        → objects_of (map join (cond b (pack_from (es ++ (o ∷ [])) os) (es ∷ pack_from (o ∷ []) os))) ≡ some (es ++ (o ∷ os))
    go true x y = x ∙ ap some (append_assoc es (o ∷ []) os)
    go false x y = rw (split-join es, y)

-- the objects of what is written
pub packed_objects : (os : List Object) → run_objects (packed os) ≡ some os
unfolding packed
packed_objects os = rw (options_join (map container_option (pack os)), containers_packed (pack os)) (objects_pack [] os)

-- what is written is well-formed where its objects are
pub reading_packed : (os : List Object) → unpackable os ≡ false → first_of object_bar (standings [] os) ≡ 0 → read_run (packed os) ≡ well_formed os
unfolding packed unpackable
reading_packed os u z =
    let (a, b) = neither (any_of is_overlong os) _ u in
    reading_options (map container_option (pack os)) os (rw (containers_packed (pack os), length_joins (pack os)) b) (rw (containers_packed (pack os)) (objects_pack [] os)) z
  where
    length_joins : (gs : List (List Object)) → length (map join gs) ≡ length gs
    length_joins [] = refl
    length_joins (g ∷ gs) = ap suc (length_joins gs)

-- ---- next-fit: how many containers, and how full the last

-- so many containers closed, and so many bytes in the open one
record Fill : Type 0 where
  closed : ℕ
  bytes : ℕ

abbrev fill : ℕ → ℕ → Fill
fill k n = record { closed = k; bytes = n }

abbrev add : Fill → ℕ → Fill
add s n = cond (leb (s.bytes + n) 255) (fill s.closed (s.bytes + n)) (fill (suc s.closed) n)

unfoldable filled : Fill → List Object → Fill
filled s [] = s
filled s (o ∷ os) = filled (add s (length (bytes_of o))) os

pub join_one : (es : List Object) (o : Object) → length (join (es ++ (o ∷ []))) ≡ length (join es) + length (bytes_of o)
unfolding join
join_one es o = rw (join-append es (o ∷ []), append-nil o.body, length-append (join es) (bytes_of o))

-- the number of containers is one more than those closed
pack_filled : (es os : List Object) (k n : ℕ) → n ≡ length (join es) → suc (filled (fill k n) os).closed ≡ k + length (pack_from es os)
unfolding filled pack_from join
pack_filled es [] k n e = omega arith
pack_filled es (o ∷ os) k n e =
    go (leb (n + length (bytes_of o)) 255) refl (pack_filled (es ++ (o ∷ [])) os k (n + length (bytes_of o)) (rw e (sym (join_one es o))))
    (pack_filled (o ∷ []) os (suc k) (length (bytes_of o)) (rw (append-nil o.body)))
  where
    go : (b : Bool) → leb (n + length (bytes_of o)) 255 ≡ b
        → suc (filled (fill k (n + length (bytes_of o))) os).closed ≡ k + length (pack_from (es ++ (o ∷ [])) os)
        → suc (filled (fill (suc k) (length (bytes_of o))) os).closed ≡ suc k + length (pack_from (o ∷ []) os)
        → suc (filled (cond b (fill k (n + length (bytes_of o))) (fill (suc k) (length (bytes_of o)))) os).closed
        ≡ k + length (cond (leb (length (join es) + length (bytes_of o)) 255) (pack_from (es ++ (o ∷ [])) os) (es ∷ pack_from (o ∷ []) os))
    go true q x y = rw (← e, q) x
    go false q x y = rw (← e, q) (omega (arith, y))

-- no fuller: fewer closed, or as many and no more bytes in the open one
abbrev NoFuller : Fill → Fill → Type 0
NoFuller s t = (s.closed < t.closed) ⊎ ((s.closed ≡ t.closed) × (s.bytes ≤ t.bytes))

-- a smaller object keeps the order
add_less : (s t : Fill) (m n : ℕ) → m ≤ n → NoFuller s t → NoFuller (add s m) (add t n)
add_less s t m n l h = go (leb (s.bytes + m) 255) refl (leb (t.bytes + n) 255) refl h
  where
    go : (a : Bool) → leb (s.bytes + m) 255 ≡ a → (b : Bool) → leb (t.bytes + n) 255 ≡ b → NoFuller s t
        → NoFuller (cond a (fill s.closed (s.bytes + m)) (fill (suc s.closed) m)) (cond b (fill t.closed (t.bytes + n)) (fill (suc t.closed) n))
    go true p true q (inl x) = inl x
    go true p true q (inr (x, y)) = inr (x, omega arith)
    go true p false q (inl x) = inl (omega arith)
    go true p false q (inr (x, y)) = inl (omega arith)
    go false p true q (inl x) = close s.closed t.closed x (omega arith)
      where
        close : (i j : ℕ) → i < j → m ≤ t.bytes + n → (suc i < j) ⊎ ((suc i ≡ j) × (m ≤ t.bytes + n))
        close i j x y = test (ltb (suc i) j) refl
          where
            test : (b : Bool) → ltb (suc i) j ≡ b → (suc i < j) ⊎ ((suc i ≡ j) × (m ≤ t.bytes + n))
            test true e = inl (omega (arith, ltb-true (suc i) j e))
            test false e = inr (omega (arith, ltb-false (suc i) j e), y)
    go false p true q (inr (x, y)) = absurd (omega (arith, leb-false (s.bytes + m) 255 p, leb-true (t.bytes + n) 255 q))
    go false p false q (inl x) = inl (omega arith)
    go false p false q (inr (x, y)) = inr (ap suc x, l)

-- one object more makes no emptier
add_more : (s t : Fill) (n : ℕ) → NoFuller s t → NoFuller s (add t n)
add_more s t n h = go (leb (t.bytes + n) 255) h
  where
    go : (b : Bool) → NoFuller s t → NoFuller s (cond b (fill t.closed (t.bytes + n)) (fill (suc t.closed) n))
    go true (inl x) = inl x
    go true (inr (x, y)) = inr (x, omega arith)
    go false (inl x) = inl (omega arith)
    go false (inr (x, y)) = inl (omega arith)

cut_body-length : (r : Role) (t : Bool) (b : List ℕ) → length (cut_body r t b) ≤ length b
cut_body-length constraint true b = rw length-take (omega arith)
cut_body-length constraint false b = omega arith
cut_body-length recorded t b = omega arith
cut_body-length aggregated true b = rw length-take (omega arith)
cut_body-length aggregated false b = omega arith

cut_object-length : (o : Object) → length (bytes_of (cut_object o)) ≤ length (bytes_of o)
cut_object-length o = omega (arith, cut_body-length (role o) (may_have_tlvs o.type) o.body)

filled-cut : (os : List Object) (s t : Fill) → NoFuller s t → NoFuller (filled s (cut os)) (filled t os)
unfolding filled cut
filled-cut [] s t h = h
filled-cut (o ∷ os) s t h =
    go (known (kind o)) (filled-cut os (add s (length (bytes_of (cut_object o)))) (add t (length (bytes_of o))) (add_less s t _ _ (cut_object-length o) h))
    (filled-cut os s (add t (length (bytes_of o))) (add_more s t (length (bytes_of o)) h))
  where
    go : (b : Bool) → NoFuller (filled (add s (length (bytes_of (cut_object o)))) (cut os)) (filled (add t (length (bytes_of o))) os)
        → NoFuller (filled s (cut os)) (filled (add t (length (bytes_of o))) os) → NoFuller (filled s (keep_if b (cut_object o) (cut os))) (filled (add t (length (bytes_of o))) os)
    go true x y = x
    go false x y = y

-- cut, objects need no more containers
pub pack-cut : (os : List Object) → length (pack (cut os)) ≤ length (pack os)
unfolding join
pack-cut os =
    let a = pack_filled [] (cut os) 0 0 refl in
    let b = pack_filled [] os 0 0 refl in
    go (filled-cut os (fill 0 0) (fill 0 0) (inr (refl, omega arith))) a b
  where
    go : NoFuller (filled (fill 0 0) (cut os)) (filled (fill 0 0) os) → suc (filled (fill 0 0) (cut os)).closed ≡ 0 + length (pack (cut os))
        → suc (filled (fill 0 0) os).closed ≡ 0 + length (pack os) → length (pack (cut os)) ≤ length (pack os)
    go (inl x) a b = omega arith
    go (inr (x, y)) a b = omega arith

overlong_cut : (os : List Object) → any_of is_overlong os ≡ false → any_of is_overlong (cut os) ≡ false
unfolding cut
overlong_cut [] e = refl
overlong_cut (o ∷ os) e = let (h, t) = neither (is_overlong o) (any_of is_overlong os) e in go (known (kind o)) h (overlong_cut os t)
  where
    go : (b : Bool) → is_overlong o ≡ false → any_of is_overlong (cut os) ≡ false → any_of is_overlong (keep_if b (cut_object o) (cut os)) ≡ false
    go true h ih = rw (le-ltb 255 (length (bytes_of (cut_object o))) (omega (arith, cut_object-length o, ltb-false 255 (length (bytes_of o)) h))) ih
    go false h ih = ih

-- 35 is not given for the cut objects where it is not for all
pub unpackable-cut : (os : List Object) → unpackable os ≡ false → unpackable (cut os) ≡ false
unfolding unpackable
unpackable-cut os e =
    let (a, b) = neither (any_of is_overlong os) _ e in
    rw (overlong_cut os a, le-ltb 8 (length (pack (cut os))) (omega (arith, pack-cut os, ltb-false 8 (length (pack os)) b)))

-- ---- the joined data of what is written

concat_pack : (es os : List Object) → concat (map join (pack_from es os)) ≡ join es ++ join os
unfolding concat pack_from join
concat_pack es [] = refl
concat_pack es (o ∷ os) = go (leb (length (join es) + length (bytes_of o)) 255) (concat_pack (es ++ (o ∷ [])) os) (concat_pack (o ∷ []) os)
  where
    go : (b : Bool) → concat (map join (pack_from (es ++ (o ∷ [])) os)) ≡ join (es ++ (o ∷ [])) ++ join os → concat (map join (pack_from (o ∷ []) os)) ≡ join (o ∷ []) ++ join os
        → concat (map join (cond b (pack_from (es ++ (o ∷ [])) os) (es ∷ pack_from (o ∷ []) os))) ≡ join es ++ join (o ∷ os)
    go true x y = x ∙ rw (join-append es (o ∷ []), append-nil o.body, append_assoc (join es) (bytes_of o) (join os))
    go false x y = rw (y, append-nil o.body)

pub joined_packed : (os : List Object) → joined_data (packed os) ≡ join os
unfolding packed join
joined_packed os = rw (options_join (map container_option (pack os)), containers_packed (pack os)) (concat_pack [] os)

-- the objects of groups, joined
abbrev concat_objects : List (List Object) → List Object
concat_objects [] = []
concat_objects (g ∷ gs) = g ++ concat_objects gs

-- each container cut by itself
concat-cut : (gs : List (List Object)) → concat (map (λ d. cut_data (split d)) (map join gs)) ≡ join (cut (concat_objects gs))
unfolding concat join cut
concat-cut [] = refl
concat-cut (g ∷ gs) = rw (split-join g, concat-cut gs, cut-append g (concat_objects gs), join-append (cut g) (cut (concat_objects gs)))

objects_all : (es os : List Object) → concat_objects (pack_from es os) ≡ es ++ os
unfolding pack_from
objects_all es [] = refl
objects_all es (o ∷ os) = go (leb (length (join es) + length (bytes_of o)) 255) (objects_all (es ++ (o ∷ [])) os) (objects_all (o ∷ []) os)
  where
    go : (b : Bool) → concat_objects (pack_from (es ++ (o ∷ [])) os) ≡ (es ++ (o ∷ [])) ++ os → concat_objects (pack_from (o ∷ []) os) ≡ o ∷ os
        → concat_objects (cond b (pack_from (es ++ (o ∷ [])) os) (es ∷ pack_from (o ∷ []) os)) ≡ es ++ (o ∷ os)
    go true x y = x ∙ append_assoc es (o ∷ []) os
    go false x y = rw y

-- demand 3: what is written, each container cut by itself, holds the joined objects that are written for the cut ones
pub joined_cut : (os : List Object) → joined_data (cut_run (packed os)) ≡ joined_data (packed (cut os))
unfolding cut_run packed
joined_cut os =
    rw (options_join (map container_option (pack os)), options_join (map cut_option (map container_option (pack os))), containers_cut (map container_option (pack os)), containers_packed (pack os), concat-cut (pack os), objects_all [] os)
    (sym (joined_packed (cut os)))

-- ---- the bytes of what is written

-- the containers' data as options
pub data_options : (gs : List (List Object)) → map container_option gs ≡ map (option 1) (map join gs)
data_options [] = refl
data_options (g ∷ gs) = rw (data_options gs)

-- a container with too much data
abbrev pub is_long : List ℕ → Bool
is_long d = ltb 255 (length d)

short_groups : (es os : List Object) → length (join es) ≤ 255 → any_of is_overlong os ≡ false → any_of is_long (map join (pack_from es os)) ≡ false
unfolding pack_from join
short_groups es [] h u = rw (le-ltb 255 (length (join es)) h)
short_groups es (o ∷ os) h u =
    let (a, b) = neither (is_overlong o) (any_of is_overlong os) u in
    let one : length (join (o ∷ [])) ≤ 255 = rw (append-nil o.body) (ltb-false 255 (length (bytes_of o)) a) in
    go (leb (length (join es) + length (bytes_of o)) 255) refl (λ l. short_groups (es ++ (o ∷ [])) os l b) (short_groups (o ∷ []) os one b)
  where
    go : (b : Bool) → leb (length (join es) + length (bytes_of o)) 255 ≡ b → (length (join (es ++ (o ∷ []))) ≤ 255 → any_of is_long (map join (pack_from (es ++ (o ∷ [])) os)) ≡ false)
        → any_of is_long (map join (pack_from (o ∷ []) os)) ≡ false → any_of is_long (map join (cond b (pack_from (es ++ (o ∷ [])) os) (es ∷ pack_from (o ∷ []) os))) ≡ false
    go true e x y = let m = leb-true (length (join es) + length (bytes_of o)) 255 e in x (rw (join_one es o) m)
    go false e x y = rw (le-ltb 255 (length (join es)) h) y

some_group : (es os : List Object) → 1 ≤ length (pack_from es os)
unfolding pack_from
some_group es [] = omega arith
some_group es (o ∷ os) = go (leb (length (join es) + length (bytes_of o)) 255) (some_group (es ++ (o ∷ [])) os)
  where
    go : (b : Bool) → 1 ≤ length (pack_from (es ++ (o ∷ [])) os) → 1 ≤ length (cond b (pack_from (es ++ (o ∷ [])) os) (es ∷ pack_from (o ∷ []) os))
    go true x = x
    go false x = omega arith

joins_length : (gs : List (List Object)) → length (map join gs) ≡ length gs
joins_length [] = refl
joins_length (g ∷ gs) = ap suc (joins_length gs)

room_of : (ds : List (List ℕ)) → any_of is_long ds ≡ false → length (join_options (map (option 1) ds)) ≤ 257 * length ds
unfolding join_options
room_of [] h = omega arith
room_of (d ∷ ds) h =
    let (a, b) = neither (is_long d) (any_of is_long ds) h in
    let l = ltb-false 255 (length d) a in
    let ih = room_of ds b in
    let n = length-append d (join_options (map (option 1) ds)) in
    omega arith

-- one to eight containers of at most 255 bytes of data each
pub record Written (os : List Object) : Type 0 where
  pub data' : List (List ℕ)
  pub bytes : packed os ≡ join_options (map (option 1) data')
  pub short : any_of is_long data' ≡ false
  pub some_container : 1 ≤ length data'
  pub few : length data' ≤ 8
  pub room : length (packed os) ≤ 2056

pub written : (os : List Object) → unpackable os ≡ false → Written os
unfolding packed unpackable join
written os u =
    let (a, b) = neither (any_of is_overlong os) _ u in
    let e : packed os ≡ join_options (map (option 1) (map join (pack os))) = ap join_options (data_options (pack os)) in
    let s = short_groups [] os (omega arith) a in
    let n = joins_length (pack os) in
    let f = ltb-false 8 (length (pack os)) b in
    record {
      data' = map join (pack os);
      bytes = e;
      short = s;
      some_container = rw n (some_group [] os);
      few = rw n f;
      room = let r = room_of (map join (pack os)) s in rw e (omega arith);
    }
