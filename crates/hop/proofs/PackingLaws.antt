-- Next-fit, one object more: the model's containers, their bytes and numbers, and 35.
use mathlib.Core.Path.{◌≡◌, refl, sym, ap, ◌∙◌}
use Prim.Native.Nat.{ℕ, ◌+◌, ◌≤◌, ◌<◌}
use native.Mathlib.Omega.{arith}
use mathlib.Core.Bool.{Bool, true, false, cond, ◌||◌}
use mathlib.Core.List.{List, [], ◌∷◌, ◌++◌, append_assoc, append-nil}
use lib.ListN.{length, length-append}
use lib.Dec.{leb, ltb}
use borrow.Author.Tests.{lt-ltb, le-ltb, le-leb, lt-leb, ltb-true}
use Rattle.model.specs.Number.{any_of}
use Rattle.model.specs.Object.{Object, join, bytes_of}
use Rattle.model.specs.Run.{join_options}
use Rattle.model.specs.Pack.{pack_from, pack, packed, is_overlong, unpackable}
use Rattle.model.proofs.BoolLaws.{neither}
use Rattle.model.proofs.ListLaws.{any_append}
use Rattle.model.proofs.ObjectLaws.{join-append}
use Rattle.hop.specs.declared.plan.Filled.{Filled}
use Rattle.hop.specs.Planned.{bytes_in, Small, Packs, Fills}

-- ---- the next object

-- is held by the open container
pub pack_within : (es : List Object) (o : Object) (os : List Object) → length (join es) + length (bytes_of o) ≤ 255 → pack_from es (o ∷ os) ≡ pack_from (es ++ (o ∷ [])) os
unfolding pack_from
pack_within es o os h = rw (le-leb (length (join es) + length (bytes_of o)) 255 h)

-- or is the first of the next one
pub pack_next : (es : List Object) (o : Object) (os : List Object) → 255 < length (join es) + length (bytes_of o) → pack_from es (o ∷ os) ≡ es ∷ pack_from (o ∷ []) os
unfolding pack_from
pack_next es o os h = rw (lt-leb (length (join es) + length (bytes_of o)) 255 h)

pub pack_last : (es : List Object) → pack_from es [] ≡ es ∷ []
unfolding pack_from
pack_last es = refl

-- objects behind others need no fewer containers
pack_grows : (es os rest : List Object) → length (pack_from es os) ≤ length (pack_from es (os ++ rest))
unfolding pack_from
pack_grows es [] [] = omega arith
pack_grows es [] (o ∷ rest) = go (leb (length (join es) + length (bytes_of o)) 255) (pack_grows (es ++ (o ∷ [])) [] rest)
  where
    go : (b : Bool) → 1 ≤ length (pack_from (es ++ (o ∷ [])) rest) → 1 ≤ length (cond b (pack_from (es ++ (o ∷ [])) rest) (es ∷ pack_from (o ∷ []) rest))
    go true h = h
    go false h = omega arith
pack_grows es (o ∷ os) rest = go (leb (length (join es) + length (bytes_of o)) 255) (pack_grows (es ++ (o ∷ [])) os rest) (pack_grows (o ∷ []) os rest)
  where
    go : (b : Bool) → length (pack_from (es ++ (o ∷ [])) os) ≤ length (pack_from (es ++ (o ∷ [])) (os ++ rest)) → length (pack_from (o ∷ []) os) ≤ length (pack_from (o ∷ []) (os ++ rest))
        → length (cond b (pack_from (es ++ (o ∷ [])) os) (es ∷ pack_from (o ∷ []) os)) ≤ length (cond b (pack_from (es ++ (o ∷ [])) (os ++ rest)) (es ∷ pack_from (o ∷ []) (os ++ rest)))
    go true h i = h
    go false h i = omega arith

-- ---- bytes

-- the bytes of a container before those of others
pub bytes_first : (es : List Object) (gs : List (List Object)) → bytes_in (es ∷ gs) ≡ (2 ∷ length (join es) ∷ join es) ++ bytes_in gs
unfolding join_options
bytes_first es gs = refl

bytes_append : (xs ys : List (List Object)) → bytes_in (xs ++ ys) ≡ bytes_in xs ++ bytes_in ys
unfolding join_options
bytes_append [] ys = refl
bytes_append (x ∷ xs) ys = rw (bytes_append xs ys, append_assoc (join x) (bytes_in xs) (bytes_in ys))

-- one container behind others
pub size_one : (gs : List (List Object)) (es : List Object) → length (bytes_in (gs ++ (es ∷ []))) ≡ length (bytes_in gs) + 2 + length (join es)
unfolding join_options
size_one gs es =
    let n : length (bytes_in (es ∷ [])) ≡ 2 + length (join es) = rw (append-nil (join es)) (omega arith) in
    ap length (bytes_append gs (es ∷ [])) ∙ length-append (bytes_in gs) (bytes_in (es ∷ [])) ∙ omega arith

pub join_one : (es : List Object) (o : Object) → join (es ++ (o ∷ [])) ≡ join es ++ bytes_of o
unfolding join
join_one es o = join-append es (o ∷ []) ∙ rw (append-nil o.body)

pub length_one : (es : List Object) (o : Object) → length (join (es ++ (o ∷ []))) ≡ length (join es) + length (bytes_of o)
length_one es o = ap length (join_one es o) ∙ length-append (join es) (bytes_of o)

-- ---- numbers

abbrev filled : ℕ → ℕ → ℕ → Filled
filled c f n = record { closed = c; frame = f; fill = n }

module _ {f : Filled} {os : List Object} (p : Packs f os) where
  -- the containers of the objects so far
  pack_is : pack os ≡ p.groups ++ (p.held ∷ [])
  pack_is = ap pack (sym (append-nil os)) ∙ p.so_far [] ∙ ap (λ gs. p.groups ++ gs) (pack_last p.held)

  packs_count : length (pack os) ≡ f.closed + 1
  packs_count = ap length pack_is ∙ length-append p.groups (p.held ∷ []) ∙ omega (arith, p.closed)

  -- their bytes
  pub packs_size : f.frame + 2 + f.fill ≡ length (packed os)
  unfolding packed
  packs_size = sym (ap (λ gs. length (bytes_in gs)) pack_is ∙ size_one p.groups p.held ∙ omega (arith, p.frame, p.fill))

  module _ (o : Object) (n : ℕ) (e : n ≡ length (bytes_of o)) where
    packs_within : f.fill + n ≤ 255 → Packs (filled f.closed f.frame (f.fill + n)) (os ++ (o ∷ []))
    packs_within h = record {
      groups = p.groups;
      held = p.held ++ (o ∷ []);
      so_far = λ rest. ap pack (append_assoc os (o ∷ []) rest) ∙ p.so_far (o ∷ rest) ∙ ap (λ gs. p.groups ++ gs) (pack_within p.held o rest (omega (arith, p.fill)));
      closed = p.closed;
      frame = p.frame;
      fill = omega (arith, p.fill, length_one p.held o);
    }

    packs_next : 255 < f.fill + n → Packs (filled (f.closed + 1) (f.frame + 2 + f.fill) n) (os ++ (o ∷ []))
    unfolding join
    packs_next h = record {
      groups = p.groups ++ (p.held ∷ []);
      held = o ∷ [];
      so_far = λ rest. ap pack (append_assoc os (o ∷ []) rest) ∙ p.so_far (o ∷ rest) ∙ ap (λ gs. p.groups ++ gs) (pack_next p.held o rest (omega (arith, p.fill)))
          ∙ sym (append_assoc p.groups (p.held ∷ []) (pack_from (o ∷ []) rest));
      closed = omega (arith, p.closed, length-append p.groups (p.held ∷ []));
      frame = omega (arith, p.frame, p.fill, size_one p.groups p.held);
      fill = e ∙ ap length (sym (append-nil (bytes_of o)));
    }

-- ---- 35

-- objects have room in eight containers when none is too long and seven at most are closed
packs_room : {f : Filled} {os : List Object} → Packs f os → any_of is_overlong os ≡ false → f.closed ≤ 7 → unpackable os ≡ false
unfolding unpackable
packs_room {f} {os} p a h = rw (a, le-ltb 8 (length (pack os)) (omega (arith, packs_count p)))

or-true : (b : Bool) → b || true ≡ true
or-true true = refl
or-true false = refl

ninth : (os : List Object) → 8 < length (pack os) → unpackable os ≡ true
unfolding unpackable
ninth os h = rw (lt-ltb 8 (length (pack os)) h) (or-true (any_of is_overlong os))

overlong : (os : List Object) → any_of is_overlong os ≡ true → unpackable os ≡ true
unfolding unpackable
overlong os h = rw h

long_snoc : (os : List Object) (o : Object) (b : Bool) → is_overlong o ≡ b → any_of is_overlong (os ++ (o ∷ [])) ≡ any_of is_overlong os || b
long_snoc os o b e = any_append is_overlong os (o ∷ []) ∙ rw (e) (ap (λ x. any_of is_overlong os || x) (or_false b))
  where
    or_false : (b : Bool) → b || false ≡ b
    or_false true = refl
    or_false false = refl

-- without room, one object more has none
no_room : (os : List Object) (o : Object) → unpackable os ≡ true → unpackable (os ++ (o ∷ [])) ≡ true
unfolding unpackable
no_room os o u = go (any_of is_overlong os) refl (ltb 8 (length (pack os))) refl u
  where
    go : (a : Bool) → any_of is_overlong os ≡ a → (b : Bool) → ltb 8 (length (pack os)) ≡ b → a || b ≡ true → unpackable (os ++ (o ∷ [])) ≡ true
    go true e b f u = overlong (os ++ (o ∷ [])) (long_snoc os o (is_overlong o) refl ∙ rw e)
    go false e true f u = ninth (os ++ (o ∷ [])) (omega (arith, ltb-true 8 (length (pack os)) f, pack_grows [] os (o ∷ [])))
    go false e false f u = cc

pub has_room : (os : List Object) → unpackable os ≡ false → any_of is_overlong os ≡ false
unfolding unpackable
has_room os u = (neither (any_of is_overlong os) _ u).0

-- ---- one object more

pub fills_first : Fills (record { closed = 0; frame = 0; fill = 0 }) []
unfolding join_options join
fills_first =
    let p : Packs (record { closed = 0; frame = 0; fill = 0 }) [] = record { groups = []; held = []; so_far = λ rest. refl; closed = refl; frame = refl; fill = refl } in
    record { over = sym (packs_room p refl (omega arith)); packs = λ z. p }

module _ (f : Filled) (os : List Object) (o : Object) (n : ℕ) (e : n ≡ length (bytes_of o)) (q : Fills f os) where
  pub fills_over : 255 < f.fill → Fills f (os ++ (o ∷ []))
  fills_over h = let t = lt-ltb 255 f.fill h in record { over = t ∙ sym (no_room os o (sym q.over ∙ t)); packs = λ z. absurd (omega arith) }

  -- there is no room, and `fill` says so
  without : {a b : ℕ} → unpackable (os ++ (o ∷ [])) ≡ true → Fills (filled a b 256) (os ++ (o ∷ []))
  without u = record { over = sym u; packs = λ z. absurd (omega arith) }

  pub fills_long : {a b : ℕ} → 255 < n → Fills (filled a b 256) (os ++ (o ∷ []))
  fills_long h = without (overlong (os ++ (o ∷ [])) (long_snoc os o true (lt-ltb 255 (length (bytes_of o)) (omega arith)) ∙ or-true (any_of is_overlong os)))

  -- no object is too long
  none_long : f.fill ≤ 255 → n ≤ 255 → any_of is_overlong (os ++ (o ∷ [])) ≡ false
  none_long l k = long_snoc os o false (le-ltb 255 (length (bytes_of o)) (omega arith)) ∙ rw (has_room os (sym q.over ∙ le-ltb 255 f.fill l))

  pub fills_within : Small f → f.fill + n ≤ 255 → Fills (filled f.closed f.frame (f.fill + n)) (os ++ (o ∷ []))
  fills_within s h =
      let p = packs_within (q.packs (omega arith)) o n e h in
      record { over = le-ltb 255 (f.fill + n) h ∙ sym (packs_room p (none_long (omega arith) (omega arith)) s.few); packs = λ z. p }

  pub fills_next : 255 < f.fill + n → f.fill ≤ 255 → n ≤ 255 → f.closed < 7 → Fills (filled (f.closed + 1) (f.frame + 2 + f.fill) n) (os ++ (o ∷ []))
  fills_next h l k m =
      let p = packs_next (q.packs l) o n e h in
      record { over = le-ltb 255 n k ∙ sym (packs_room p (none_long l k) (omega arith)); packs = λ z. p }

  -- there would be a ninth
  pub fills_ninth : {a b : ℕ} → 255 < f.fill + n → f.fill ≤ 255 → 7 ≤ f.closed → Fills (filled a b 256) (os ++ (o ∷ []))
  fills_ninth h l m = without (ninth (os ++ (o ∷ [])) (omega (arith, packs_count (packs_next (q.packs l) o n e h))))

-- ---- bounds

module _ (f : Filled) (s : Small f) where
  pub small_over : Small (filled f.closed f.frame 256)
  small_over = record { few = s.few; room = omega arith; short = s.short }

  pub small_within : (n : ℕ) → f.fill + n ≤ 255 → Small (filled f.closed f.frame (f.fill + n))
  small_within n h = record { few = s.few; room = omega arith; short = s.short }

  pub small_next : (n : ℕ) → f.fill ≤ 255 → n ≤ 255 → f.closed < 7 → Small (filled (f.closed + 1) (f.frame + 2 + f.fill) n)
  small_next n k l m = record { few = omega arith; room = omega arith; short = omega (arith, s.short) }

  -- eight containers of 255 bytes with their frames
  pub small_size : f.frame + 2 + f.fill ≤ 2057
  small_size = omega (arith, s.few, s.room, s.short)
