-- What was found breaks what was asked: bars 11, 12, 22, 23 and 14, and every bar of which something is told; of no other is anything told.
use mathlib.Core.Path.{◌≡◌, refl, ap, ◌∙◌}
use Prim.Native.Nat.{ℕ, zero, suc, ◌+◌, ◌≤◌}
use native.Mathlib.Nat.{not-suc-le-zero}
use native.Mathlib.Omega.{arith}
use mathlib.Core.Bool.{Bool, true, false, cond, ◌&&◌, ◌||◌, or-false, or_assoc, false≢true, true≢false}
use mathlib.Core.List.{List, [], ◌∷◌}
use mathlib.Core.Option.{Option, none, some}
use lib.ListN.{length, get_elem?, take, drop, length-drop}
use lib.Dec.{leb, ltb, eqb}
use borrow.Author.Tests.{leb-true, leb-false, lt-ltb, le-ltb, eqb-true, eqb-false}
use Rattle.model.specs.declared.Own.{Own}
use Rattle.model.specs.declared.Neighbour.{Neighbour}
use Rattle.model.specs.declared.Candidate.{Candidate}
use Rattle.model.specs.Verdict.{Barred}
use Rattle.model.specs.Object.{Object, object, before, split_up_to, split, standings}
use Rattle.model.specs.Reading.{is_none, well_formed}
use Rattle.model.specs.Run.{RplOption, pad1, option, leading, options_up_to, options, containers, joined, objects_of, options_in, joined_objects, option_cut, ninth_container, object_cut, read_run}
use Rattle.model.specs.Constraint.{summary}
use Rattle.model.specs.Verdict.{is_second, out_of_range, site_out_of_range, bad_numbers, run_of, outside, verdict, number_of}
use Rattle.model.specs.Conditions.{some_has, objects_in, object_bars}
use Rattle.model.specs.Exact.{NoneOf}
use Rattle.model.proofs.BoolLaws.{neither}
use Rattle.model.proofs.NumberLaws.{none_parts}
use Rattle.model.proofs.RunReadings.{run_exact}
use Rattle.model.proofs.RunLaws.{run_objects_lem}
use Rattle.model.proofs.Bars.{verdict_exact, bar_exact}
use Rattle.reason.specs.declared.findings.Finding.{Finding}
use Rattle.reason.specs.Finding.{Short, finding, nothing, site_range, word_range, range_finding, outside_finding, cut_option_from, cut_option_finding, containers_finding, told_from, objects_told, or_else, overrun_from, overrun_finding, run_finding, bar_finding, finding_of}
use Rattle.reason.specs.Breaks.{breaks, FindingsBreak, NothingElse, holds_of, FlagsHold}
use Rattle.reason.proofs.UnmetLaws.{Right, unmet_right}

-- ---- bar 11: a number out of its range

-- a finding that breaks exactly where its test holds, and another where it does not
tested : (t : Bool) (f g : Finding) (r : Bool) → breaks f ≡ t → breaks g ≡ r → breaks (cond t f g) ≡ t || r
tested true f g r h k = h
tested false f g r h k = k

-- the same of a range from 0, below which no number is
upper : (w top x : ℕ) (g : Finding) (r : Bool) → breaks (finding w 0 top x) ≡ ltb x 0 || ltb top x → breaks g ≡ r
    → breaks (cond (ltb top x) (finding w 0 top x) g) ≡ ltb top x || r
upper w top x g r h k = tested (ltb top x) (finding w 0 top x) g r (rw (le-ltb x 0 (omega arith)) at h) k

module _ (own : Own) (c : Neighbour) where
  site_breaks : breaks (site_range own c) ≡ is_second own && site_out_of_range c
  unfolding breaks site_range
  site_breaks =
      let last = upper 8 7 c.preference nothing false refl refl ∙ or-false (ltb 7 c.preference) in
      go (is_second own) _ (upper 7 7 c.order _ (ltb 7 c.preference) refl last)
    where
      go : (b : Bool) (f : Finding) → breaks f ≡ site_out_of_range c → breaks (cond b f nothing) ≡ b && site_out_of_range c
      go true f h = h
      go false f h = refl

  range_breaks : breaks (range_finding own c) ≡ bad_numbers own c
  unfolding breaks range_finding word_range bad_numbers out_of_range
  range_breaks =
      tested (ltb c.sp 1 || ltb 9 c.sp) (finding 1 1 9 c.sp) _ _ refl
      (tested (ltb c.rf 1 || ltb 4 c.rf) (finding 2 1 4 c.rf) _ _ refl
      (upper 3 5 c.sr _ _ refl
      (upper 4 7 c.lql _ _ refl
      (upper 5 3 c.nodetype _ _ refl
      (upper 6 1023 c.colour _ _ refl site_breaks)))))
      ∙ simp or_assoc

-- ---- bar 22: the option that is cut short

none_leading : (o : RplOption) (r : Option (List RplOption)) → is_none r ≡ is_none (leading o r)
none_leading o none = refl
none_leading o (some os) = refl

option_breaks : (k : ℕ) (bs : List ℕ) (at : ℕ) → length bs ≤ k → breaks (cut_option_from k bs at) ≡ is_none (options_up_to k bs)
unfolding breaks cut_option_from options_up_to
option_breaks zero [] at l = refl
option_breaks zero (b ∷ bs) at l = absurd (not-suc-le-zero l)
option_breaks (suc k) [] at l = refl
option_breaks (suc k) (zero ∷ bs) at l = option_breaks k bs (at + 1) (omega arith) ∙ none_leading pad1 (options_up_to k bs)
option_breaks (suc k) (suc t ∷ []) at l = refl
option_breaks (suc k) (suc t ∷ n ∷ bs) at l = go (leb n (length bs)) refl (option_breaks k (drop n bs) (at + 2 + n) (rw length-drop (omega arith)))
  where
    go : (b : Bool) → leb n (length bs) ≡ b → breaks (cut_option_from k (drop n bs) (at + 2 + n)) ≡ is_none (options_up_to k (drop n bs))
        → breaks (cond (ltb (length bs) n) (finding 38 at n (length bs)) (cut_option_from k (drop n bs) (at + 2 + n)))
        ≡ is_none (cond b (leading (option t (take n bs)) (options_up_to k (drop n bs))) none)
    go true e ih = rw (le-ltb (length bs) n (leb-true n (length bs) e)) (ih ∙ none_leading (option t (take n bs)) (options_up_to k (drop n bs)))
    go false e ih = let few = lt-ltb (length bs) n (leb-false n (length bs) e) in rw few few

cut_breaks : (bs : List ℕ) → breaks (cut_option_finding bs) ≡ option_cut bs
unfolding cut_option_finding options
cut_breaks bs = option_breaks (length bs) bs 0 (omega arith)

-- ---- bar 23: the ninth container

containers_break : (bs : List ℕ) → breaks (containers_finding bs) ≡ ninth_container bs
unfolding breaks containers_finding
containers_break bs = refl

-- ---- bar 14: the object that is cut short

none_joined : (r : Option (List Object)) → is_none r ≡ is_none (joined (some []) r)
none_joined none = refl
none_joined (some os) = refl

none_before : (o : Object) (s r : Option (List Object)) → is_none (joined s r) ≡ is_none (joined (before o s) r)
none_before o none r = refl
none_before o (some os) none = refl
none_before o (some os) (some ps) = refl

-- in the data of one container, before others
object_breaks : (rest : ℕ → Finding) (r : Option (List Object)) → ((j : ℕ) → breaks (rest j) ≡ is_none r)
    → (k : ℕ) (bs : List ℕ) (i : ℕ) → length bs ≤ k → breaks (or_else rest (told_from k bs i)) ≡ is_none (joined (split_up_to k bs) r)
unfolding breaks told_from split_up_to
object_breaks rest r h zero [] i l = h i ∙ none_joined r
object_breaks rest r h zero (b ∷ bs) i l = absurd (not-suc-le-zero l)
object_breaks rest r h (suc k) [] i l = h i ∙ none_joined r
object_breaks rest r h (suc k) (t ∷ []) i l = refl
object_breaks rest r h (suc k) (t ∷ f ∷ []) i l = refl
object_breaks rest r h (suc k) (t ∷ f ∷ m ∷ []) i l = refl
object_breaks rest r h (suc k) (t ∷ f ∷ m ∷ n ∷ bs) i l =
    go (leb n (length bs)) refl (object_breaks rest r h k (drop n bs) (i + 1) (rw length-drop (omega arith)))
  where
    go : (b : Bool) → leb n (length bs) ≡ b → breaks (or_else rest (told_from k (drop n bs) (i + 1))) ≡ is_none (joined (split_up_to k (drop n bs)) r)
        → breaks (or_else rest (cond (ltb (length bs) n) (Short (finding 14 i n (length bs))) (told_from k (drop n bs) (i + 1))))
        ≡ is_none (joined (cond b (before (object t f m (take n bs)) (split_up_to k (drop n bs))) none) r)
    go true e ih = rw (le-ltb (length bs) n (leb-true n (length bs) e)) (ih ∙ none_before (object t f m (take n bs)) (split_up_to k (drop n bs)) r)
    go false e ih = let few = lt-ltb (length bs) n (leb-false n (length bs) e) in rw few few

objects_break : (ds : List (List ℕ)) (i : ℕ) → breaks (overrun_from ds i) ≡ is_none (objects_of ds)
unfolding breaks overrun_from objects_of objects_told split
objects_break [] i = refl
objects_break (d ∷ ds) i = object_breaks (λ j. overrun_from ds j) (objects_of ds) (λ j. objects_break ds j) (length d) d i (omega arith)

-- of a run whose options are whole
overrun_breaks : (bs : List ℕ) → option_cut bs ≡ false → breaks (overrun_finding bs) ≡ object_cut bs
unfolding overrun_finding
overrun_breaks bs e = go (options bs) e
  where
    go : (r : Option (List RplOption)) → is_none r ≡ false → breaks (overrun_from (containers (options_in r)) 0) ≡ is_none (joined_objects r)
    go none e = absurd (true≢false e)
    go (some os) e = objects_break (containers os) 0

-- ---- each bar of which something is told

module _ (own : Own) (lent : List ℕ) (c : Candidate) where
  abbrev bs : List ℕ
  bs = run_of lent c

  abbrev to12 : List Bool
  to12 = bad_numbers own c.neighbour ∷ outside lent c ∷ []

  abbrev Breaks : (number : ℕ) → Type 0
  Breaks n = (p : ℕ) → verdict own lent c ≡ Barred n p → breaks (bar_finding own c n p lent) ≡ true

  inside : NoneOf to12 → outside lent c ≡ false
  inside f = (neither (outside lent c) false (neither (bad_numbers own c.neighbour) (outside lent c || false) f).1).0

  breaks_11 : Breaks 11
  unfolding bar_finding
  breaks_11 p e = range_breaks own c.neighbour ∙ ((bar_exact own lent c).bar_11.0 (ap number_of e)).1

  breaks_12 : Breaks 12
  unfolding breaks bar_finding outside_finding
  breaks_12 p e = let f = ((bar_exact own lent c).bar_12.0 (ap number_of e)).1 in rw f f

  breaks_22 : Breaks 22
  unfolding bar_finding run_finding
  breaks_22 p e = let (f, h) = (bar_exact own lent c).bar_22.0 (ap number_of e) in rw (inside f) (cut_breaks bs ∙ h)

  breaks_23 : Breaks 23
  unfolding bar_finding run_finding
  breaks_23 p e =
      let (f, h) = (bar_exact own lent c).bar_23.0 (ap number_of e) in
      rw (inside (none_parts to12 (option_cut bs ∷ []) f).0) (containers_break bs ∙ h)

  breaks_14 : Breaks 14
  unfolding bar_finding run_finding
  breaks_14 p e =
      let (f, h) = (bar_exact own lent c).bar_14.0 (ap number_of e) in
      let (x, y) = none_parts to12 (option_cut bs ∷ ninth_container bs ∷ []) f in
      rw (inside x) (overrun_breaks bs (neither (option_cut bs) (ninth_container bs || false) y).0 ∙ h)

  -- the object that bar 19 tells of, by index, among the joined objects of the run
  record At19 (p : ℕ) (os : List Object) : Type 0 where
    object : Object
    reads : read_run bs ≡ well_formed os
    stands : get_elem? os p ≡ some object
    right : Right c.neighbour (summary os) object.body (bar_finding own c 19 p lent)

  at_19 : (p : ℕ) → verdict own lent c ≡ Barred 19 p → At19 p (objects_in bs)
  unfolding bar_finding run_finding
  at_19 p e =
      let (f, w) = ((verdict_exact own lent c).verdict_19 p).0 e in
      let os = objects_in bs in
      let (x, y) = none_parts to12 (option_cut bs ∷ ninth_container bs ∷ object_cut bs ∷ some_has object_bars (standings [] os) ∷ []) f in
      let r : read_run bs ≡ well_formed os = ((run_exact bs).well_formed os).1 (y, refl) in
      let u = unmet_right c.neighbour os p w.element (run_objects_lem bs os r).no_bar w.stands w.has.1 in
      record { object = w.element; reads = r; stands = w.stands; right = rw (inside x, r) u }

  breaks_19 : Breaks 19
  breaks_19 p e = (at_19 p e).right.0

-- a number that is one, or one of others
one_of : (P : ℕ → Type 0) (n k : ℕ) (others : Bool) → P k → (others ≡ true → P n) → eqb n k || others ≡ true → P n
one_of P n k others x f e = go (eqb n k) refl e
  where
    go : (b : Bool) → eqb n k ≡ b → b || others ≡ true → P n
    go true q e = rw (eqb-true n k q) x
    go false q e = f e

pub findings_break : FindingsBreak
unfolding finding_of
findings_break own lent c n p e t =
    let one = one_of (Breaks own lent c) n in
    let from_23 = one 23 false (breaks_23 own lent c) (λ z. absurd (false≢true z)) in
    let from_22 = one 22 _ (breaks_22 own lent c) from_23 in
    let from_19 = one 19 _ (breaks_19 own lent c) from_22 in
    let from_14 = one 14 _ (breaks_14 own lent c) from_19 in
    let from_12 = one 12 _ (breaks_12 own lent c) from_14 in
    rw e (one 11 _ (breaks_11 own lent c) from_12 t p e)

-- ---- any other verdict

-- by another number than 11 and 12: the run is inside the lent bytes
past_12 : (own : Own) (lent : List ℕ) (c : Candidate) (n p : ℕ) → verdict own lent c ≡ Barred n p → eqb n 11 ≡ false
    → eqb n 12 ≡ false → outside lent c ≡ false
past_12 own lent c n p e x y = go (bad_numbers own c.neighbour) (outside lent c) refl refl
  where
    go : (a b : Bool) → bad_numbers own c.neighbour ≡ a → outside lent c ≡ b → b ≡ false
    go a false f g = refl
    go true true f g = absurd (eqb-false n 11 x (let v = (verdict_exact own lent c).verdict_11.1 (refl, f) in cc))
    go false true f g = absurd (eqb-false n 12 y (let v = (verdict_exact own lent c).verdict_12.1 (rw f, g) in cc))

pub nothing_else : NothingElse
unfolding finding_of bar_finding run_finding
nothing_else own lent c = (
  λ r e. rw e,
  λ n p e t.
      let (a, t) = neither (eqb n 11) _ t in
      let (b, t) = neither (eqb n 12) _ t in
      let (d, t) = neither (eqb n 14) _ t in
      let (f, t) = neither (eqb n 19) _ t in
      let (g, t) = neither (eqb n 22) _ t in
      let (h, t) = neither (eqb n 23) false t in
      rw (e, a, past_12 own lent c n p e a b, g, h, d, f),
)

-- ---- bar 19: a flag, or something that is not known

pub flags_hold : FlagsHold
unfolding finding_of
flags_hold own lent c p os o e r k = rw e (same (objects_in (run_of lent c)) (at_19 own lent c p e))
  where
    same : (ts : List Object) → At19 own lent c p ts
        → holds_of c.neighbour (summary os) o.body (bar_finding own c 19 p lent) ≡ true
    same ts a =
        let q : ts ≡ os = let t = a.reads in cc in
        let n : a.object ≡ o = let t = a.stands in cc in
        rw (← q, ← n) a.right.1
