-- The options of a run, one after another: what the step over one says of them.
use mathlib.Core.Path.{◌≡◌, refl, sym, ◌∙◌}
use Prim.Native.Nat.{ℕ, zero, suc, ◌+◌, ◌-◌, ◌≤◌, ◌<◌}
use native.Mathlib.Nat.{not-suc-le-zero}
use native.Mathlib.Omega.{arith}
use mathlib.Core.Bool.{Bool, true, false, cond}
use mathlib.Core.List.{List, [], ◌∷◌}
use mathlib.Core.Option.{Option, none, some}
use lib.ListN.{length, take, drop, get_or, length-drop, drop_of_length-le}
use lib.Seq.{drop-cons, drop-drop}
use lib.Dec.{eqb}
use borrow.Author.Tests.{le-leb, lt-leb, lt-ltb, le-ltb, eq-eqb, ne_eqb}
use Rattle.std.specs.Prelude.{Result, Ok, Err}
use Rattle.model.specs.Cut.{keep_if}
use Rattle.model.specs.Run.{RplOption, leading, options_up_to, options, containers, options_in, containers_in}
use Rattle.model.proofs.RunLaws.{options_pad, options_step}
use Rattle.wire.proofs.RunWalkLaws.{option_by, containers_by}
use Rattle.reason.specs.declared.findings.Finding.{Finding}
use Rattle.reason.specs.declared.options.Piece.{Piece}
use Rattle.reason.specs.declared.findings.Shortfall.{Shortfall}
use Rattle.reason.specs.Finding.{finding, nothing, cut_option_from}
use Rattle.reason.specs.Options.{cut_option_at, data_of, Passed, CutAs, Stands}

-- ---- the option at the head

-- two limits that are at least the length give the same
cut_enough : (k j : ℕ) (bs : List ℕ) (at : ℕ) → length bs ≤ k → length bs ≤ j → cut_option_from k bs at ≡ cut_option_from j bs at
unfolding cut_option_from
cut_enough zero zero bs at h i = refl
cut_enough zero (suc j) [] at h i = refl
cut_enough zero (suc j) (t ∷ bs) at h i = absurd (not-suc-le-zero h)
cut_enough (suc k) zero [] at h i = refl
cut_enough (suc k) zero (t ∷ bs) at h i = absurd (not-suc-le-zero i)
cut_enough (suc k) (suc j) [] at h i = refl
cut_enough (suc k) (suc j) (zero ∷ bs) at h i = cut_enough k j bs (at + 1) (omega arith) (omega arith)
cut_enough (suc k) (suc j) (suc t ∷ []) at h i = refl
cut_enough (suc k) (suc j) (suc t ∷ n ∷ bs) at h i =
    rw (cut_enough k j (drop n bs) (at + 2 + n) (rw length-drop (omega arith)) (rw length-drop (omega arith)))

-- what is told from the head on
abbrev cut_in : List ℕ → (at : ℕ) → Finding
cut_in bs at = cut_option_from (length bs) bs at

lone : (t at : ℕ) → (t ≡ 0 → ⊥) → (options (t ∷ []) ≡ none) × (cut_in (t ∷ []) at ≡ finding 37 at 2 1)
unfolding cut_option_from options options_up_to
lone zero at z = absurd (z refl)
lone (suc t) at z = (refl, refl)

over : (t n : ℕ) (bs : List ℕ) (at : ℕ) → (t ≡ 0 → ⊥) → length bs < n
    → (options (t ∷ n ∷ bs) ≡ none) × (cut_in (t ∷ n ∷ bs) at ≡ finding 38 at n (length bs))
unfolding cut_option_from
over zero n bs at z l = absurd (z refl)
over (suc t) n bs at z l = (options_step t n bs ∙ rw (lt-leb n (length bs) l), rw (lt-ltb (length bs) n l))

whole : (t n : ℕ) (bs : List ℕ) (at : ℕ) → (t ≡ 0 → ⊥) → n ≤ length bs
    → (options (t ∷ n ∷ bs) ≡ leading (option_by t (take n bs)) (options (drop n bs))) × (cut_in (t ∷ n ∷ bs) at ≡ cut_in (drop n bs) (at + 2 + n))
unfolding cut_option_from
whole zero n bs at z l = absurd (z refl)
whole (suc t) n bs at z l = (
  options_step t n bs ∙ rw (le-leb n (length bs) l),
  rw (le-ltb (length bs) n l)
      (cut_enough (suc (length bs)) (length (drop n bs)) (drop n bs) (at + 2 + n) (rw length-drop (omega arith)) (omega arith)),
)

-- ---- the option at an index, as code finds it

module _ (run : List ℕ) (at : ℕ) (h : at < length run) where
  two_at : at + 2 ≤ length run → drop at run ≡ get_or run at 0 ∷ get_or run (at + 1) 0 ∷ drop (at + 2) run
  two_at l =
      let e : suc at ≡ at + 1 = omega arith in
      let f : suc (at + 1) ≡ at + 2 = omega arith in
      rw (drop-cons run at 0 h, e, drop-cons run (at + 1) 0 (omega arith), f)

  pub at_pad : get_or run at 0 ≡ 0 → Passed run at (get_or run at 0) (at + 1)
  unfolding cut_option_at cut_option_from
  at_pad z =
      let e : suc at ≡ at + 1 = omega arith in
      let q : drop at run ≡ 0 ∷ drop (at + 1) run = rw (drop-cons run at 0 h, z, e) in
      record {
        further = omega arith;
        long = λ n. absurd (n z);
        inside = omega arith;
        told = rw q;
        passed = option_by 0 [];
        stands = rw q (options_pad (drop (at + 1) run));
        holds = λ os. containers_by 0 [] os ∙ rw z;
      }

  module _ (z : get_or run at 0 ≡ 0 → ⊥) where
    pub at_lone : length run - at < 2 → (options (drop at run) ≡ none) × (cut_option_at run at ≡ finding 37 at 2 1)
    unfolding cut_option_at
    at_lone l =
        let d : drop (suc at) run ≡ [] = drop_of_length-le run {i = suc at} (omega arith) in
        let q : drop at run ≡ get_or run at 0 ∷ [] = rw (drop-cons run at 0 h, d) in
        rw q (lone (get_or run at 0) at z)

    pub at_over : 2 ≤ length run - at → length run - at - 2 < get_or run (at + 1) 0
        → (options (drop at run) ≡ none) × (cut_option_at run at ≡ finding 38 at (get_or run (at + 1) 0) (length run - at - 2))
    unfolding cut_option_at
    at_over m l =
        let n : length (drop (at + 2) run) ≡ length run - at - 2 = rw length-drop (omega arith) in
        rw (two_at (omega arith), ← n) (over (get_or run at 0) (get_or run (at + 1) 0) (drop (at + 2) run) at z (rw n l))

    pub at_whole : 2 ≤ length run - at → get_or run (at + 1) 0 ≤ length run - at - 2 → Passed run at (get_or run at 0) (at + 2 + get_or run (at + 1) 0)
    unfolding cut_option_at
    at_whole m l =
        let n = get_or run (at + 1) 0 in
        let bs = drop (at + 2) run in
        let (o, t) = whole (get_or run at 0) n bs at z (rw length-drop (omega arith)) in
        let d : at + 2 + n - (at + 2) ≡ n = omega arith in
        record {
          further = omega arith;
          long = λ y. omega arith;
          inside = omega arith;
          told = rw (two_at (omega arith), ← drop-drop n (at + 2) run) t;
          passed = option_by (get_or run at 0) (take n bs);
          stands = rw (two_at (omega arith), ← drop-drop n (at + 2) run) o;
          holds = λ os. rw d (containers_by (get_or run at 0) (take n bs) os);
        }

-- what stands there, by what the step over it gives
pub is_cut : (run : List ℕ) (at : ℕ) {r : Result Piece Shortfall} {s : Shortfall} → Stands run at r → r ≡ Err s → CutAs run at s
is_cut run at s e = rw e at s

pub is_passed : (run : List ℕ) (at : ℕ) {r : Result Piece Shortfall} {p : Piece} → Stands run at r → r ≡ Ok p → Passed run at p.kind p.end
is_passed run at s e = rw e at s

-- ---- behind the last option

pub cut_end : (run : List ℕ) (at : ℕ) → length run ≤ at → cut_option_at run at ≡ nothing
unfolding cut_option_at cut_option_from
cut_end run at l = rw (drop_of_length-le run l)

pub options_end : (run : List ℕ) (at : ℕ) → length run ≤ at → options (drop at run) ≡ some []
unfolding options options_up_to
options_end run at l = rw (drop_of_length-le run l)

-- ---- how many containers options have

-- with some before them; 0 where one is cut short
abbrev pub counted : (before : ℕ) → Option (List RplOption) → ℕ
counted k none = 0
counted k (some os) = k + length (containers os)

-- before an index: so many containers, and no more than bytes
pub record Counts (run : List ℕ) (at found : ℕ) : Type 0 where
  pub few : found ≤ at
  pub same : counted found (options (drop at run)) ≡ length (containers_in run)

pub counts_first : (run : List ℕ) → Counts run 0 0
unfolding containers
counts_first run = record { few = omega arith; same = go (options run) }
  where
    go : (r : Option (List RplOption)) → counted 0 r ≡ length (containers (options_in r))
    go none = refl
    go (some os) = omega arith

counted_on : (o : RplOption) (d : List ℕ) (b : Bool) (k : ℕ) (r : Option (List RplOption))
    → ((os : List RplOption) → containers (o ∷ os) ≡ keep_if b d (containers os)) → counted k (leading o r) ≡ counted (cond b (k + 1) k) r
counted_on o d b k none h = refl
counted_on o d true k (some os) h = rw (h os) (omega arith)
counted_on o d false k (some os) h = rw (h os)

module _ (run : List ℕ) (at found : ℕ) (c : Counts run at found) where
  pub counts_cut : options (drop at run) ≡ none → 0 ≡ length (containers_in run)
  counts_cut e = rw e at c.same

  pub counts_end : length run ≤ at → found ≡ length (containers_in run)
  unfolding containers
  counts_end l = let s : counted found (some []) ≡ length (containers_in run) = rw (options_end run at l) at c.same in omega arith

  module _ (t end : ℕ) (p : Passed run at t end) where
    on : (b : Bool) → eqb t 2 ≡ b → counted (cond b (found + 1) found) (options (drop end run)) ≡ length (containers_in run)
    on b e =
        sym (counted_on p.passed (data_of run at end) b found (options (drop end run)) (rw (← e) p.holds))
        ∙ (rw p.stands at c.same)

    pub counts_one : t ≡ 2 → Counts run end (found + 1)
    counts_one e = record { few = omega (arith, c.few, p.further); same = on true (eq-eqb t 2 e) }

    pub counts_none : (t ≡ 2 → ⊥) → Counts run end found
    counts_none e = record { few = omega (arith, c.few, p.further); same = on false (ne_eqb t 2 e) }
