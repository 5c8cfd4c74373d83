-- The numbers and the buffer mirror what was fed, and there is room for every byte that is kept.
use mathlib.Core.Path.{◌≡◌, refl, sym, ap, subst, ◌∙◌}
use Prim.Native.Nat.{ℕ, zero, suc, ◌+◌, ◌-◌, ◌*◌, ◌≤◌}
use native.Mathlib.Omega.{arith}
use mathlib.Core.Bool.{Bool, true, false, cond}
use mathlib.Core.List.{List, [], ◌∷◌, ◌++◌}
use mathlib.Core.Logic.{◌⊎◌, inl, inr}
use Rattle.std.proofs.lemmas.Bool.Decides.{nat_tests}
use Rattle.std.proofs.lemmas.List.{length_push}
use Rattle.std.proofs.Math.Nat.{add-sub_cancel}
use lib.ListN.{length, take, length-take}
use lib.Seq.{take-suc-set, take-take}
use lib.Dec.{ltb, eqb}
use borrow.Author.Tests.{lt-ltb, le-ltb, eq-eqb, ne_eqb, ltb-true, eqb-true}
use Rattle.feed.specs.declared.bytes.Fed.{Fed}
use Rattle.feed.proofs.StepLaws.{stored-length}
use Rattle.feed.specs.Feeding.{Keep, dropped, emptied, whole, Phase, between, typed, within, Feeding, keep_of, closed as closed_as, goes_on as goes_on_as, kept_with, begins, feed_at, feed_byte, unfed}
use Rattle.feed.specs.Step.{state, keep_number, more, stored, one_more, closed, closed_in, goes_on, goes_on_in, gone, gone_in, begun, begun_in, stepped, stepped_in}

-- ---- room

-- so many containers, all complete, and the bytes kept of them
abbrev Low : (count kept : ℕ) → Type 0
Low n z = ((n ≤ 8) × (z ≤ 257 * n)) ⊎ ((n ≡ 9) × (z ≤ 2058))

-- an option in hand, of which so many bytes are missing behind the next
abbrev Goes : Keep → (missing count kept : ℕ) → Type 0
Goes dropped m n z = (1 ≤ z) × Low n (z - 1)
Goes emptied m n z = (n ≡ 8) × (z ≤ 2057)
Goes whole m n z = (n ≤ 7) × (z + 1 + m ≤ 257 * n + 257)

abbrev Room : Phase → (count kept : ℕ) → Type 0
Room between n z = Low n z
Room (typed k) n z = Goes k 255 n z
Room (within k m) n z = (1 ≤ m) × Goes k (m - 1) n z

low_room : (n z : ℕ) → Low n z → z ≤ 2058
low_room n z (inl (a, b)) = omega arith
low_room n z (inr (a, b)) = b

goes_room : (k : Keep) (m n z : ℕ) → Goes k m n z → z ≤ 2059
goes_room dropped m n z (a, b) = let l = low_room n (z - 1) b in omega arith
goes_room emptied m n z (a, b) = omega arith
goes_room whole m n z (a, b) = omega arith

pub room_of : (p : Phase) (n z : ℕ) → Room p n z → z ≤ 2059
room_of between n z h = let l = low_room n z h in omega arith
room_of (typed k) n z h = goes_room k 255 n z h
room_of (within k m) n z h = goes_room k (m - 1) n z h.1

-- ---- the numbers of a phase

abbrev keep_no : Keep → ℕ
keep_no dropped = 0
keep_no emptied = 1
keep_no whole = 2

abbrev Phased : Fed → Phase → Type 0
Phased s between = s.phase ≡ 0
Phased s (typed k) = (s.phase ≡ 1) × (s.keep ≡ keep_no k)
Phased s (within k m) = (s.phase ≡ 2) × (s.keep ≡ keep_no k) × (s.missing ≡ m)

keep_is : (t n : ℕ) → keep_number (suc t) n ≡ keep_no (keep_of t n)
keep_is t n = grind (arith, nat_tests)

-- ---- the mirror

pub record Mirrors (s : Fed) (l : List ℕ) (f : Feeding) : Type 0 where
  pub size : s.size ≡ length f.kept
  pub kept : take s.size l ≡ f.kept
  pub count : s.count ≡ f.count
  pub phase : Phased s f.phase
  pub room : Room f.phase f.count (length f.kept)

-- what is kept, with one byte more
module _ (s : Fed) (l k : List ℕ) (long : 2059 ≤ length l) (z : s.size ≡ length k) (e : take s.size l ≡ k) (h : length k ≤ 2058) where
  more_is : more s ≡ state (s.size + 1) s.phase s.keep s.missing s.count
  unfolding more
  more_is = rw (lt-ltb s.size 2059 (omega arith))

  stored_is : (b : ℕ) → take (s.size + 1) (stored s b l) ≡ k ++ (b ∷ [])
  unfolding stored
  stored_is b =
      let one : s.size + 1 ≡ suc s.size = omega arith in
      rw (lt-ltb s.size 2059 (omega arith), one) (take-suc-set l s.size b (omega arith) ∙ ap (λ x. x ++ (b ∷ [])) e)

-- ---- a byte of an option

-- behind a byte: so many bytes are still missing
abbrev Gone : Keep → (missing count kept : ℕ) → Type 0
Gone dropped m n z = (1 ≤ z) × Low n (z - 1)
Gone emptied m n z = (n ≡ 8) × (z ≤ 2057)
Gone whole m n z = (n ≤ 7) × (z + m ≤ 257 * n + 257)

count_more : (n : ℕ) → n ≤ 8 → one_more n ≡ suc n
count_more n h = grind (arith, nat_tests)

module _ (l : List ℕ) (long : 2059 ≤ length l) where
  -- an option that is complete
  closes : (p : Keep) (n : ℕ) (k : List ℕ) (s : Fed) → s.size ≡ length k → take s.size l ≡ k → s.count ≡ n → s.keep ≡ keep_no p → Gone p 0 n (length k)
      → Mirrors (closed s) (closed_in s l) (closed_as p n k)
  unfolding closed closed_in
  closes dropped n k s z e c q (a, b) =
      let less : take (length k - 1) k ≡ take (s.size - 1) l = rw (← z, ← e) (take-take (s.size - 1) s.size l (omega arith)) in
      let len : length (take (length k - 1) k) ≡ length k - 1 = rw length-take (omega arith) in
      rw (eq-eqb s.keep 0 q, ne_eqb s.keep 1 (λ x. omega arith)) (record { size = rw len (omega arith); kept = sym less; count = c; phase = refl; room = rw len b })
  closes emptied n k s z e c q (a, b) =
      let m : (more s).size ≡ s.size + 1 = ap (λ x. x.size) (more_is s l k long z e (omega arith)) in
      let i : one_more s.count ≡ suc n = ap one_more c ∙ count_more n (omega arith) in
      rw (ne_eqb s.keep 0 (λ x. omega arith), eq-eqb s.keep 1 q)
      (record {
        size = m ∙ rw (length_push k 0) (omega arith);
        kept = rw m (stored_is s l k long z e (omega arith) 0);
        count = i;
        phase = refl;
        room = rw (length_push k 0) (inr (omega arith, omega arith));
      })
  closes whole n k s z e c q (a, b) =
      let i : one_more s.count ≡ suc n = ap one_more c ∙ count_more n (omega arith) in
      rw (ne_eqb s.keep 0 (λ x. omega arith), ne_eqb s.keep 1 (λ x. omega arith)) (record { size = z; kept = e; count = i; phase = refl; room = inl (omega arith, omega arith) })

  goes : (p : Keep) (m n : ℕ) (k : List ℕ) (s : Fed) → s.size ≡ length k → take s.size l ≡ k → s.count ≡ n → s.keep ≡ keep_no p → Gone p m n (length k)
      → Mirrors (goes_on s m) (goes_on_in s m l) (goes_on_as p m n k)
  goes p zero n k s z e c q h = closes p n k s z e c q h
  goes p (suc m) n k s z e c q h = rw (ne_eqb (suc m) 0 (λ x. omega arith)) (record { size = z; kept = e; count = c; phase = (refl, q, refl); room = (omega arith, less p h) })
    where
      less : (p : Keep) → Gone p (suc m) n (length k) → Goes p (suc m - 1) n (length k)
      less dropped h = h
      less emptied h = h
      less whole (a, b) = (a, omega arith)

module _ (l : List ℕ) (long : 2059 ≤ length l) where
  -- kept where the option is kept whole
  takes : (p : Keep) (m n b : ℕ) (k : List ℕ) (s : Fed) → s.size ≡ length k → take s.size l ≡ k → s.count ≡ n → s.keep ≡ keep_no p → Goes p m n (length k)
      → Mirrors (gone s m) (gone_in s m b l) (goes_on_as p m n (kept_with p k b))
  unfolding gone gone_in
  takes dropped m n b k s z e c q h = rw (le-ltb 1 s.keep (omega arith)) (goes l long dropped m n k s z e c q h)
  takes emptied m n b k s z e c q h = rw (le-ltb 1 s.keep (omega arith)) (goes l long emptied m n k s z e c q h)
  takes whole m n b k s z e c q (a, h) =
      let r = more_is s l k long z e (omega arith) in
      let long' : 2059 ≤ length (stored s b l) = rw (stored-length s b l) long in
      let w = goes (stored s b l) long' whole m n (k ++ (b ∷ [])) (more s) (rw (r, length_push k b) (omega arith)) (rw r (stored_is s l k long z e (omega arith) b)) (rw r c) (rw r q) (a, rw (length_push k b) (omega arith)) in
      rw (lt-ltb 1 s.keep (omega arith)) w

  -- a byte between options
  begins_mirror : (b n : ℕ) (k : List ℕ) (s : Fed) → s.size ≡ length k → take s.size l ≡ k → s.count ≡ n → Low n (length k) → Mirrors (begun s b) (begun_in s b l) (begins b n k)
  unfolding begun begun_in
  begins_mirror zero n k s z e c h = record { size = z; kept = e; count = c; phase = refl; room = h }
  begins_mirror (suc t) n k s z e c h =
      let r = more_is s l k long z e (low_room n (length k) h) in
      let m : (more s).size ≡ s.size + 1 = ap (λ x. x.size) r in
      rw (ne_eqb (suc t) 0 (λ x. omega arith))
      (record {
        size = m ∙ rw (length_push k (suc t)) (omega arith);
        kept = rw m (stored_is s l k long z e (low_room n (length k) h) (suc t));
        count = c;
        phase = (refl, ap (keep_number (suc t)) c ∙ keep_is t n);
        room = rw (length_push k (suc t)) (roomy (eqb t 1) (ltb n 8) refl (eqb n 8) refl h);
      })
    where
      roomy : (a b : Bool) → ltb n 8 ≡ b → (c : Bool) → eqb n 8 ≡ c → Low n (length k) → Goes (cond a (cond b whole (cond c emptied dropped)) dropped) 255 n (length k + 1)
      roomy true true p c q (inl (x, y)) = let d = ltb-true n 8 p in (omega arith, omega arith)
      roomy true true p c q (inr (x, y)) = absurd (omega (arith, ltb-true n 8 p))
      roomy true false p true q (inl (x, y)) = let d = eqb-true n 8 q in (d, omega arith)
      roomy true false p true q (inr (x, y)) = absurd (omega (arith, eqb-true n 8 q))
      roomy true false p false q h = (omega arith, rw (add-sub_cancel (length k) 1) h)
      roomy false b p c q h = (omega arith, rw (add-sub_cancel (length k) 1) h)

-- one byte more
pub mirrors_step : (s : Fed) (l : List ℕ) (f : Feeding) (b : ℕ) → 2059 ≤ length l → b ≤ 255 → Mirrors s l f → Mirrors (stepped s b) (stepped_in s b l) (feed_byte f b)
unfolding stepped stepped_in feed_byte
mirrors_step s l f b long byte m = go f.phase m.phase m.room
  where
    fewer : (k : Keep) → Goes k 255 f.count (length f.kept) → Goes k b f.count (length f.kept)
    fewer dropped h = h
    fewer emptied h = h
    fewer whole (x, y) = (x, omega arith)

    go : (p : Phase) → Phased s p → Room p f.count (length f.kept)
        → Mirrors (cond (eqb s.phase 1) (gone s b) (cond (eqb s.phase 2) (gone s (s.missing - 1)) (begun s b)))
        (cond (eqb s.phase 1) (gone_in s b b l) (cond (eqb s.phase 2) (gone_in s (s.missing - 1) b l) (begun_in s b l))) (feed_at p f.count f.kept b)
    go between p r = rw (ne_eqb s.phase 1 (λ x. omega arith), ne_eqb s.phase 2 (λ x. omega arith)) (begins_mirror l long b f.count f.kept s m.size m.kept m.count r)
    go (typed k) (p, q) r = rw (eq-eqb s.phase 1 p) (takes l long k b f.count b f.kept s m.size m.kept m.count q (fewer k r))
    go (within k i) (p, q, w) (h, r) =
        let left : Goes k (s.missing - 1) f.count (length f.kept) = rw w r in
        rw (ne_eqb s.phase 1 (λ x. omega arith), eq-eqb s.phase 2 p)
        (subst (λ (m : ℕ). Mirrors (gone s (s.missing - 1)) (gone_in s (s.missing - 1) b l) (goes_on_as k (m - 1) f.count (kept_with k f.kept b))) w
        (takes l long k (s.missing - 1) f.count b f.kept s m.size m.kept m.count q left))

-- no phase of what was fed has the number 255
pub not_short : (s : Fed) (l : List ℕ) (f : Feeding) → Mirrors s l f → eqb s.phase 255 ≡ false
not_short s l f m = go f.phase m.phase
  where
    go : (p : Phase) → Phased s p → eqb s.phase 255 ≡ false
    go between p = ne_eqb s.phase 255 (λ x. omega arith)
    go (typed k) (p, q) = ne_eqb s.phase 255 (λ x. omega arith)
    go (within k i) (p, q, w) = ne_eqb s.phase 255 (λ x. omega arith)

-- before the first part
pub mirrors_first : (l : List ℕ) → Mirrors (state 0 0 0 0 0) l unfed
mirrors_first l = record { size = refl; kept = refl; count = refl; phase = refl; room = inl (omega arith, omega arith) }
