-- Bar 19: the walk to the object of an index among the joined objects of a run.
use mathlib.Core.Path.{◌≡◌, refl, sym, ap, ◌∙◌}
use Prim.Native.Nat.{ℕ, zero, suc, ◌+◌, ◌-◌, ◌≤◌}
use native.Mathlib.Omega.{arith}
use mathlib.Core.Bool.{Bool, true, false}
use mathlib.Core.List.{List, [], ◌∷◌, ◌++◌, append_assoc}
use mathlib.Core.Option.{Option, none, some, none-ne-some}
use lib.ListN.{length, get_elem?, length-append}
use Rattle.std.specs.Prelude.{Result, Ok, Err}
use Rattle.model.specs.declared.Summary.{Summary}
use Rattle.model.specs.declared.Neighbour.{Neighbour}
use Rattle.model.specs.Object.{Object, behind}
use Rattle.model.specs.Reading as model
use Rattle.model.specs.Reading.{well_formed}
use Rattle.model.specs.Run.{read_run, run_objects, option_cut}
use Rattle.model.specs.Constraint.{summary}
use Rattle.model.proofs.RunLaws.{run_objects_lem}
use Rattle.wire.specs.Front.{front, left, ends_at}
use Rattle.wire.specs.Options.{data_front, options_left}
use Rattle.wire.specs.Reading.{Refused, WellFormed, reading_of}
use Rattle.wire.proofs.PassLaws.{Between, Inside, at_start, into, onward, out, cut_inside, all_done}
use Rattle.verdict.specs.Judged as judged
use Rattle.reason.specs.declared.findings.Finding.{Finding}
use Rattle.reason.specs.Finding.{nothing, object_finding, unmet_finding}

-- ---- the walk

-- so many objects before the one of an index: between containers, and in one
pub record Seeks (run rest : List ℕ) (place away : ℕ) : Type 0 where
  pub earlier : List Object
  pub between : Between run rest earlier
  pub far : length earlier + away ≡ place

pub record SeeksIn (run rest bytes : List ℕ) (place away : ℕ) : Type 0 where
  pub earlier : List Object
  pub inside : Inside run rest bytes earlier
  pub far : length earlier + away ≡ place

-- the element behind those of a list, and none behind its end
at_seam : {A : Type 0} (xs : List A) (x : A) (rest : List A) → get_elem? (xs ++ (x ∷ rest)) (length xs) ≡ some x
at_seam [] x rest = refl
at_seam (y ∷ xs) x rest = at_seam xs x rest

at_end : {A : Type 0} (xs : List A) (i : ℕ) → length xs ≤ i → get_elem? xs i ≡ none
at_end [] i h = refl
at_end (x ∷ xs) zero h = absurd (omega arith)
at_end (x ∷ xs) (suc i) h = at_end xs i (omega arith)

module _ (run : List ℕ) (place : ℕ) where
  pub seeks_start : Seeks run run place place
  seeks_start = record { earlier = []; between = at_start run; far = omega arith }

  pub seeks_into : (x y d : List ℕ) (away : ℕ) → Seeks run x place away → data_front x ≡ d ∷ data_front y → options_left x ≡ options_left y → SeeksIn run y d place away
  seeks_into x y d away w e l = record { earlier = w.earlier; inside = into run x y d w.earlier w.between e l; far = w.far }

  -- no object of a well-formed run is cut short
  pub seeks_out : (rest x y : List ℕ) (away : ℕ) → judged.WellFormed run → SeeksIn run rest x place away → front x ≡ [] → left x ≡ y → Seeks run rest place away
  seeks_out rest x y away f w e l = go (ends_at y) refl
    where
      go : (b : Bool) → ends_at y ≡ b → Seeks run rest place away
      go true d = record { earlier = w.earlier; between = out run rest x y w.earlier w.inside e l d; far = w.far }
      go false d = absurd (none-ne-some f.objects (sym (cut_inside run rest x y w.earlier w.inside l d) ∙ (run_objects_lem run f.objects f.read).objects))

  -- one object more
  module _ (rest x y : List ℕ) (o : Object) (away : ℕ) (w : SeeksIn run rest x place away) (e : front x ≡ o ∷ front y) (l : left x ≡ left y) where
    after : Inside run rest y (w.earlier ++ (o ∷ []))
    after = onward run rest x y o w.earlier w.inside e l

    pub seeks_on : (away ≡ 0 → ⊥) → SeeksIn run rest y place (away - 1)
    seeks_on z = record { earlier = w.earlier ++ (o ∷ []); inside = after; far = rw (length-append w.earlier (o ∷ [])) (omega (arith, w.far)) }

    seeks_here : (os : List Object) → away ≡ 0 → run_objects run ≡ some os → get_elem? os place ≡ some o
    seeks_here os z r = go _ (sym r ∙ after.so_far)
      where
        go : (v : Option (List Object)) → some os ≡ behind (w.earlier ++ (o ∷ [])) v → get_elem? os place ≡ some o
        go none q = absurd (none-ne-some os (sym q))
        go (some later) q =
            let p : os ≡ (w.earlier ++ (o ∷ [])) ++ later = cc in
            let f : place ≡ length w.earlier = omega (arith, w.far) in
            rw (p, append_assoc w.earlier (o ∷ []) later, f) (at_seam w.earlier o later)

    pub here_asked : (c : Neighbour) (s : Summary) (os : List Object) → read_run run ≡ well_formed os → away ≡ 0 → object_finding c s (some o) ≡ object_finding c s (get_elem? os place)
    here_asked c s os f z = rw (seeks_here os z (run_objects_lem run os f).objects) refl

  pub end_asked : (x y : List ℕ) (away : ℕ) → Seeks run x place away → data_front x ≡ [] → options_left x ≡ y → (c : Neighbour) (s : Summary) (os : List Object) → read_run run ≡ well_formed os
      → nothing ≡ object_finding c s (get_elem? os place)
  end_asked x y away w e l c s os f =
      let r = run_objects_lem run os f in
      let u : option_cut run ≡ false = rw r.options_are in
      let a = all_done run x y w.earlier w.between e l u in
      let q : os ≡ w.earlier = let z = r.objects in cc in
      let m : length os ≤ place = rw q (omega (arith, w.far)) in
      rw (at_end os place m) refl

-- ---- a run that is read

-- a refused run has no such object
pub refused_unmet : (c : Neighbour) (r : model.Reading) (k : ℕ) {n p : ℕ} → Refused n p ≡ reading_of r → nothing ≡ unmet_finding c r k
refused_unmet c (model.refused n p) k e = refl
refused_unmet c (model.well_formed os) k e = absurd (let z : ◌≡◌ {A = ℕ} 0 1 = cc in omega arith)

-- one that is read has it by what it tells
pub read_unmet : (c : Neighbour) (r : model.Reading) (k : ℕ) {count : ℕ} {asked : Bool} {s : Summary} {f : Finding}
    → WellFormed count asked s ≡ reading_of r
    → ((os : List Object) → r ≡ well_formed os → f ≡ object_finding c s (get_elem? os k)) → f ≡ unmet_finding c r k
read_unmet c (model.refused n p) k e h = absurd (let z : ◌≡◌ {A = ℕ} 0 1 = cc in omega arith)
read_unmet c (model.well_formed os) k {s = s} e h = let q : s ≡ summary os = cc in rw q at (h os refl)

-- its run is well-formed
pub read_formed : (run : List ℕ) {count : ℕ} {asked : Bool} {s : Summary} → WellFormed count asked s ≡ reading_of (read_run run) → judged.WellFormed run
read_formed run {count} {asked} {s} e = go (read_run run) refl e
  where
    go : (r : model.Reading) → read_run run ≡ r → WellFormed count asked s ≡ reading_of r → judged.WellFormed run
    go (model.refused n p) q e = absurd (let z : ◌≡◌ {A = ℕ} 0 1 = cc in omega arith)
    go (model.well_formed os) q e = record { objects = os; read = q }
