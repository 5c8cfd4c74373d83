-- The pass over a run's objects for bars 18 and 19: between containers and in one, and where it ends.
use mathlib.Core.Path.{◌≡◌, refl, sym, ap, ◌∙◌}
use Prim.Native.Nat.{ℕ, ◌+◌, ◌<◌, ◌≤◌}
use native.Mathlib.Omega.{arith}
use mathlib.Core.List.{List, [], ◌∷◌, ◌++◌, append_assoc}
use mathlib.Core.Option.{Option, none, some, none-ne-some}
use mathlib.Core.Bool.{Bool, true, false}
use lib.ListN.{length, get_or, length-append}
use Rattle.model.specs.declared.Neighbour.{Neighbour}
use Rattle.model.specs.declared.Summary.{Summary}
use Rattle.model.specs.declared.verdicts.ObjectBar.{ObjectBar}
use Rattle.model.specs.declared.verdicts.ObjectBar.TheVariants as at
use Rattle.model.specs.Bars.{object_bar_number}
use Rattle.model.specs.Number.{first_of, index_of}
use Rattle.model.specs.Object.{Object, behind}
use Rattle.model.specs.Reading.{well_formed}
use Rattle.model.specs.Run.{read_run, run_objects, option_cut}
use Rattle.model.specs.Constraint.{constraint_bar}
use Rattle.model.proofs.FirstLaws.{first_snoc, first_behind, index_behind}
use Rattle.model.proofs.RunLaws.{run_objects_lem, few_objects}
use Rattle.model.proofs.TabledLaws.{among_tabled}
use Rattle.wire.specs.Front.{front, left, ends_at}
use Rattle.wire.specs.Options.{data_front, options_left}
use Rattle.wire.proofs.PassLaws.{Between, Inside, at_start, into, onward, out, cut_inside, all_done}
use Rattle.verdict.specs.Judged.{Tabled, WellFormed}

-- between containers, and in one: the objects before, none of which has a bar, and their number
pub record AtPass (c : Neighbour) (s : Summary) (run rest : List ℕ) (place : ℕ) : Type 0 where
  pub earlier : List Object
  pub between : Between run rest earlier
  pub clear : first_of (constraint_bar c s) earlier ≡ 0
  pub count : place ≡ length earlier

pub record InPass (c : Neighbour) (s : Summary) (run rest bytes : List ℕ) (place : ℕ) : Type 0 where
  pub earlier : List Object
  pub inside : Inside run rest bytes earlier
  pub clear : first_of (constraint_bar c s) earlier ≡ 0
  pub count : place ≡ length earlier

-- an object's bar has a number
some_bar : (b : ObjectBar) → object_bar_number b ≡ 0 → ⊥
some_bar at.Body e = omega arith
some_bar at.Repeat e = omega arith
some_bar at.Recorded e = omega arith
some_bar at.Unknown e = omega arith
some_bar at.Unmet e = omega arith

module _ (c : Neighbour) (s : Summary) (run : List ℕ) where
  pub pass_start : AtPass c s run run 0
  unfolding first_of
  pass_start = record { earlier = []; between = at_start run; clear = refl; count = refl }

  pub pass_into : (x y d : List ℕ) (place : ℕ) → AtPass c s run x place → data_front x ≡ d ∷ data_front y → options_left x ≡ options_left y → InPass c s run y d place
  pass_into x y d place w e l = record { earlier = w.earlier; inside = into run x y d w.earlier w.between e l; clear = w.clear; count = w.count }

  -- no object of a well-formed run is cut short
  pub pass_out : (rest x y : List ℕ) (place : ℕ) → WellFormed run → InPass c s run rest x place → front x ≡ [] → left x ≡ y → AtPass c s run rest place
  pass_out rest x y place f w e l = go (ends_at y) refl
    where
      go : (b : Bool) → ends_at y ≡ b → AtPass c s run rest place
      go true d = record { earlier = w.earlier; between = out run rest x y w.earlier w.inside e l d; clear = w.clear; count = w.count }
      go false d = absurd (none-ne-some f.objects (sym (cut_inside run rest x y w.earlier w.inside l d) ∙ (run_objects_lem run f.objects f.read).objects))

  -- one object more
  module _ (rest x y : List ℕ) (o : Object) (place : ℕ) (w : InPass c s run rest x place) (e : front x ≡ o ∷ front y) (l : left x ≡ left y) where
    after : Inside run rest y (w.earlier ++ (o ∷ []))
    after = onward run rest x y o w.earlier w.inside e l

    among : (os : List Object) → run_objects run ≡ some os → (later : List Object) × (os ≡ w.earlier ++ (o ∷ later))
    among os r = go _ (sym r ∙ after.so_far)
      where
        go : (v : Option (List Object)) → some os ≡ behind (w.earlier ++ (o ∷ [])) v → (later : List Object) × (os ≡ w.earlier ++ (o ∷ later))
        go none q = absurd (none-ne-some os (sym q))
        go (some later) q = let p : os ≡ (w.earlier ++ (o ∷ [])) ++ later = cc in (later, p ∙ append_assoc w.earlier (o ∷ []) later)

    -- its body is as tabled
    pub pass_tabled : WellFormed run → Tabled o
    pass_tabled f =
        let r = run_objects_lem run f.objects f.read in
        let (later, q) = among f.objects r.objects in
        among_tabled w.earlier o later (rw q at r.no_bar)

    -- its index fits
    pub pass_fits : WellFormed run → ((i : ℕ) → get_or run i 0 ≤ 255) → place + 1 < 65536
    pass_fits f bytes =
        let r = run_objects_lem run f.objects f.read in
        let (later, q) = among f.objects r.objects in
        let m = few_objects run f.objects bytes r.few r.objects in
        omega (arith, m, w.count, ap length q, length-append w.earlier (o ∷ later))

    -- none of the tests bars it
    pub pass_onward : 0 ≡ constraint_bar c s o → InPass c s run rest y (place + 1)
    pass_onward z = record {
      earlier = w.earlier ++ (o ∷ []);
      inside = after;
      clear = first_snoc (constraint_bar c s) w.earlier o ∙ rw (w.clear, ← z);
      count = rw (w.count, length-append w.earlier (o ∷ []));
    }

    -- it is the first that a test bars
    pub pass_barred : (b : ObjectBar) → object_bar_number b ≡ constraint_bar c s o → (os : List Object) → read_run run ≡ well_formed os
        → (object_bar_number b ≡ first_of (constraint_bar c s) os) × (place ≡ index_of (constraint_bar c s) os)
    pass_barred b n os f =
        let (later, q) = among os (run_objects_lem run os f).objects in
        let z : constraint_bar c s o ≡ 0 → ⊥ = λ z. some_bar b (n ∙ z) in
        rw q (n ∙ sym (first_behind (constraint_bar c s) w.earlier o later w.clear z), w.count ∙ sym (index_behind (constraint_bar c s) w.earlier o later w.clear z))

  -- no test bars any object
  pub pass_clear : (x y : List ℕ) (place : ℕ) → AtPass c s run x place → data_front x ≡ [] → options_left x ≡ y → (os : List Object) → read_run run ≡ well_formed os → 0 ≡ first_of (constraint_bar c s) os
  pass_clear x y place w e l os f =
      let r = run_objects_lem run os f in
      let u : option_cut run ≡ false = rw r.options_are in
      let a = all_done run x y w.earlier w.between e l u in
      let q : os ≡ w.earlier = let z = r.objects in cc in
      rw q (sym w.clear)
