-- Bar 14: the objects of a container, and the containers of a run, up to the first object that is cut short.
use mathlib.Core.Path.{◌≡◌, refl, sym, ◌∙◌}
use Prim.Native.Nat.{ℕ, zero, suc, ◌+◌, ◌-◌, ◌≤◌, ◌<◌}
use native.Mathlib.Nat.{not-suc-le-zero}
use native.Mathlib.Omega.{arith}
use mathlib.Core.Bool.{Bool, true, false, cond, true≢false}
use mathlib.Core.List.{List, [], ◌∷◌}
use mathlib.Core.Option.{Option, none, some}
use lib.ListN.{length, drop, get_or, length-take, length-drop, drop_of_length-le}
use lib.Seq.{drop-drop}
use lib.Dec.{ltb, eqb}
use borrow.Author.Tests.{lt-ltb, le-ltb, eq-eqb, ne_eqb}
use Rattle.model.specs.Cut.{keep_if}
use Rattle.model.specs.Reading.{is_none}
use Rattle.model.specs.Run.{RplOption, leading, options, containers, options_in, containers_in, option_cut}
use Rattle.wire.proofs.StepLaws.{header_at_lem}
use Rattle.reason.specs.declared.findings.Finding.{Finding}
use Rattle.reason.specs.Finding.{Short, All, finding, nothing, told_from, objects_told, overrun_from, overrun_finding}
use Rattle.reason.specs.Options.{data_of, Passed}
use Rattle.reason.proofs.OptionLaws.{options_end}

-- ---- the objects of a container

-- two limits that are at least the length give the same
told_enough : (k j : ℕ) (bs : List ℕ) (i : ℕ) → length bs ≤ k → length bs ≤ j → told_from k bs i ≡ told_from j bs i
unfolding told_from
told_enough zero zero bs i h l = refl
told_enough zero (suc j) [] i h l = refl
told_enough zero (suc j) (t ∷ bs) i h l = absurd (not-suc-le-zero h)
told_enough (suc k) zero [] i h l = refl
told_enough (suc k) zero (t ∷ bs) i h l = absurd (not-suc-le-zero l)
told_enough (suc k) (suc j) [] i h l = refl
told_enough (suc k) (suc j) (t ∷ []) i h l = refl
told_enough (suc k) (suc j) (t ∷ f ∷ []) i h l = refl
told_enough (suc k) (suc j) (t ∷ f ∷ m ∷ []) i h l = refl
told_enough (suc k) (suc j) (t ∷ f ∷ m ∷ n ∷ bs) i h l =
    rw (told_enough k j (drop n bs) (i + 1) (rw length-drop (omega arith)) (rw length-drop (omega arith)))

-- at the head: fewer bytes than a header has, and an object by its header
told_few : (bs : List ℕ) (i : ℕ) → 0 < length bs → length bs < 4 → objects_told bs i ≡ Short (finding 13 i 4 (length bs))
unfolding objects_told told_from
told_few [] i h l = absurd (omega arith)
told_few (t ∷ []) i h l = refl
told_few (t ∷ f ∷ []) i h l = refl
told_few (t ∷ f ∷ m ∷ []) i h l = refl
told_few (t ∷ f ∷ m ∷ n ∷ bs) i h l = absurd (omega arith)

told_step : (t f m n : ℕ) (bs : List ℕ) (i : ℕ)
    → objects_told (t ∷ f ∷ m ∷ n ∷ bs) i ≡ cond (ltb (length bs) n) (Short (finding 14 i n (length bs))) (objects_told (drop n bs) (i + 1))
unfolding objects_told told_from
told_step t f m n bs i =
    rw (told_enough (suc (suc (suc (length bs)))) (length (drop n bs)) (drop n bs) (i + 1) (rw length-drop (omega arith)) (omega arith))

-- before an object of some data that begins at an index of it, and has an index: all others before it are whole
pub record Telling (bs : List ℕ) (first at index : ℕ) : Type 0 where
  pub few : index ≤ first + at
  pub inside : at ≤ length bs
  pub same : objects_told (drop at bs) index ≡ objects_told bs first

pub telling_first : (bs : List ℕ) (first : ℕ) → Telling bs first 0 first
telling_first bs first = record { few = omega arith; inside = omega arith; same = refl }

module _ (bs : List ℕ) (first at index : ℕ) (w : Telling bs first at index) where
  pub telling_header : at < length bs → length bs - at < 4 → Short (finding 13 index 4 (length bs - at)) ≡ objects_told bs first
  telling_header h l =
      let n : length (drop at bs) ≡ length bs - at = length-drop at bs in
      rw (← n) (sym (told_few (drop at bs) index (rw n (omega arith)) (rw n l))) ∙ w.same

  module _ (h : 4 ≤ length bs - at) where
    abbrev size : ℕ
    size = get_or bs (at + 3) 0

    abbrev there : ℕ
    there = length bs - at - 4

    at_head : objects_told (drop at bs) index
        ≡ cond (ltb there size) (Short (finding 14 index size there)) (objects_told (drop size (drop (at + 4) bs)) (index + 1))
    at_head =
        let n : length (drop (at + 4) bs) ≡ there = length-drop (at + 4) bs ∙ omega arith in
        rw (header_at_lem bs at (omega arith), ← n)
        (told_step (get_or bs at 0) (get_or bs (at + 1) 0) (get_or bs (at + 2) 0) size (drop (at + 4) bs) index)

    pub telling_body : there < size → Short (finding 14 index size there) ≡ objects_told bs first
    telling_body l = sym (at_head ∙ rw (lt-ltb there size l)) ∙ w.same

    pub telling_next : size ≤ there → Telling bs first (at + (4 + size)) (index + 1)
    telling_next l =
        let e : at + 4 + size ≡ at + (4 + size) = omega arith in
        record {
          few = omega (arith, w.few);
          inside = omega (arith, w.inside);
          same = sym (at_head ∙ rw (le-ltb there size l, drop-drop size (at + 4) bs, e)) ∙ w.same;
        }

  pub telling_end : length bs ≤ at → All index ≡ objects_told bs first
  unfolding objects_told told_from
  telling_end l = rw (drop_of_length-le bs l) at w.same

-- an object that is cut short is no index
pub no_index : (f : Finding) (j m : ℕ) → Short f ≡ All j → j ≤ m
no_index f j m e = absurd (let z : ◌≡◌ {A = ℕ} 0 1 = cc in omega arith)

-- ---- the containers of a run

-- before an option that begins at an index, and the object of an index: all others before it are whole
pub record Overruns (run : List ℕ) (at index : ℕ) : Type 0 where
  pub few : index ≤ at
  pub same : option_cut run ≡ false → (option_cut (drop at run) ≡ false) × (overrun_from (containers_in (drop at run)) index ≡ overrun_finding run)

pub overruns_first : (run : List ℕ) → Overruns run 0 0
unfolding overrun_finding
overruns_first run = record { few = omega arith; same = λ e. (e, refl) }

-- an option that is whole, where those behind it are
whole_behind : (o : RplOption) (r : Option (List RplOption)) → is_none (leading o r) ≡ false
    → (is_none r ≡ false) × (containers (options_in (leading o r)) ≡ containers (o ∷ options_in r))
whole_behind o none e = absurd (true≢false e)
whole_behind o (some os) e = (refl, refl)

module _ (run : List ℕ) (at index : ℕ) (w : Overruns run at index) where
  pub overruns_cut : {f : Finding} → options (drop at run) ≡ none → option_cut run ≡ false → f ≡ overrun_finding run
  overruns_cut e h = absurd (true≢false (rw e at (w.same h).0))

  pub overruns_end : length run ≤ at → option_cut run ≡ false → nothing ≡ overrun_finding run
  unfolding overrun_from containers
  overruns_end l h = rw (options_end run at l) at (w.same h).1

  module _ (t end : ℕ) (p : Passed run at t end) where
    behind : (b : Bool) → eqb t 2 ≡ b → option_cut run ≡ false
        → (option_cut (drop end run) ≡ false) × (overrun_from (keep_if b (data_of run at end) (containers_in (drop end run))) index ≡ overrun_finding run)
    behind b e h =
        let (x, y) = w.same h in
        let (a, d) = whole_behind p.passed (options (drop end run)) (rw p.stands at x) in
        let q : containers_in (drop at run) ≡ keep_if b (data_of run at end) (containers_in (drop end run)) =
        rw (p.stands, d) (p.holds (options_in (options (drop end run))) ∙ rw e) in
        (a, rw q at y)

    pub overruns_other : (t ≡ 2 → ⊥) → Overruns run end index
    overruns_other e = record { few = omega (arith, w.few, p.further); same = behind false (ne_eqb t 2 e) }

    module _ (e : t ≡ 2) where
      pub overruns_short : {f : Finding} → objects_told (data_of run at end) index ≡ Short f → option_cut run ≡ false → f ≡ overrun_finding run
      unfolding overrun_from
      overruns_short q h = rw q at (behind true (eq-eqb t 2 e) h).1

      pub overruns_whole : {j : ℕ} → objects_told (data_of run at end) index ≡ All j
          → j ≤ index + length (data_of run at end) → Overruns run end j
      unfolding overrun_from
      overruns_whole q l =
          let m = p.long (λ z. omega arith) in
          record {
            few = omega (arith, rw length-take at l, w.few);
            same = λ h. let (a, b) = behind true (eq-eqb t 2 e) h in (a, rw q at b);
          }
