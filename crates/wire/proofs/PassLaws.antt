-- A pass over a run's objects, by what the two iterators yield and leave: the objects before, and how many there can be.
use Rattle.std.proofs.Common.{◌≡◌, refl, ap, sym, ◌∙◌, ℕ, zero, suc, ◌+◌, ◌≤◌, Bool, true, false, cond, not, List, [], ◌∷◌, ◌++◌, length, take, drop, arith, length-drop}
use mathlib.Core.List.{append_assoc, append-nil}
use lib.ListN.{length-append}
use Rattle.std.specs.Prelude.{leb}
use Rattle.std.proofs.Math.Option.{Option, none, some}
use lib.Seq.{length-take-le}
use borrow.Author.Tests.{leb-true, not-false}
use Rattle.model.specs.Cut.{keep_if}
use Rattle.model.specs.Object.{Object, object, before, split, behind}
use Rattle.model.specs.Run.{option, is_container, containers, joined, objects_of, joined_objects, run_objects, option_cut, object_cut}
use Rattle.wire.specs.Front.{front_up_to, front, left, whole, ends_at}
use Rattle.wire.specs.Options.{options_front_up_to, options_front, options_left, data_front}
use Rattle.wire.proofs.FrontLaws.{one_more, front_exact}
use Rattle.wire.proofs.OptionLaws.{options_exact, cut_exact}

-- ---- the objects of bytes

pub split_first : (s t : List ℕ) (o : Object) → front s ≡ o ∷ front t → left s ≡ left t → split s ≡ before o (split t)
split_first s t o e l = rw (front_exact s, front_exact t, e, l) (sym (one_more o (front t) (left t)))

pub split_done : (s t : List ℕ) → front s ≡ [] → left s ≡ t → ends_at t ≡ true → split s ≡ some []
split_done s [] e l d = rw (front_exact s, e, l) refl
split_done s (b ∷ t) e l d = absurd (let z : ◌≡◌ {A = ℕ} 0 1 = cc in omega arith)

pub split_cut : (s t : List ℕ) → left s ≡ t → ends_at t ≡ false → split s ≡ none
split_cut s [] l d = absurd (let z : ◌≡◌ {A = ℕ} 0 1 = cc in omega arith)
split_cut s (b ∷ t) l d = rw (front_exact s, l) refl

-- ---- the objects of a run

joined-none : (r : Option (List Object)) → joined r none ≡ none
joined-none none = refl
joined-none (some os) = refl

pub run_by : (bs : List ℕ) → run_objects bs ≡ cond (ends_at (options_left bs)) (objects_of (data_front bs)) none
unfolding data_front
run_by bs = rw (options_exact bs) (go (options_left bs))
  where
    go : (l : List ℕ) → joined_objects (whole (options_front bs) l) ≡ cond (ends_at l) (objects_of (containers (options_front bs))) none
    go [] = refl
    go (b ∷ l) = refl

pub run_first : (s t d : List ℕ) → data_front s ≡ d ∷ data_front t → options_left s ≡ options_left t → run_objects s ≡ joined (split d) (run_objects t)
unfolding objects_of
run_first s t d e l = rw (run_by s, run_by t, e, l) (go (ends_at (options_left t)))
  where
    go : (b : Bool) → cond b (objects_of (d ∷ data_front t)) none ≡ joined (split d) (cond b (objects_of (data_front t)) none)
    go true = refl
    go false = sym (joined-none (split d))

pub run_done : (s t : List ℕ) → data_front s ≡ [] → options_left s ≡ t → ends_at t ≡ true → run_objects s ≡ some []
unfolding objects_of
run_done s t e l d = rw (run_by s, e, l, d) refl

pub run_cut : (s t : List ℕ) → options_left s ≡ t → ends_at t ≡ false → run_objects s ≡ none
run_cut s t l d = rw (run_by s, l, d) refl

-- ---- objects before others

behind_nil : (r : Option (List Object)) → r ≡ behind [] r
behind_nil none = refl
behind_nil (some os) = refl

behind_first : (es : List Object) (o : Object) (r s : Option (List Object)) → behind es (joined (before o r) s) ≡ behind (es ++ (o ∷ [])) (joined r s)
behind_first es o none s = refl
behind_first es o (some os) none = refl
behind_first es o (some os) (some ps) = ap some (sym (append_assoc es (o ∷ []) (os ++ ps)))

joined_done : (r : Option (List Object)) → joined (some []) r ≡ r
joined_done none = refl
joined_done (some os) = refl

-- ---- no more objects than bytes

abbrev pub sizes : List (List ℕ) → ℕ
sizes [] = 0
sizes (d ∷ ds) = length d + sizes ds

front_size_up_to : (k : ℕ) (bs : List ℕ) → length (front_up_to k bs) ≤ length bs
unfolding front_up_to
front_size_up_to zero bs = omega arith
front_size_up_to (suc k) [] = omega arith
front_size_up_to (suc k) (t ∷ []) = omega arith
front_size_up_to (suc k) (t ∷ f ∷ []) = omega arith
front_size_up_to (suc k) (t ∷ f ∷ m ∷ []) = omega arith
front_size_up_to (suc k) (t ∷ f ∷ m ∷ n ∷ rest) = go (front_size_up_to k (drop n rest)) (leb n (length rest))
  where
    go : length (front_up_to k (drop n rest)) ≤ length (drop n rest) → (b : Bool)
        → length (cond b (object t f m (take n rest) ∷ front_up_to k (drop n rest)) []) ≤ suc (suc (suc (suc (length rest))))
    go ih true = omega (arith, ih, length-drop n rest)
    go ih false = omega arith

pub front_size : (bs : List ℕ) → length (front bs) ≤ length bs
unfolding front
front_size bs = front_size_up_to (length bs) bs

kept : (b : Bool) (d : List ℕ) (ds : List (List ℕ)) → sizes (keep_if b d ds) ≤ length d + sizes ds
kept true d ds = omega arith
kept false d ds = omega arith

data_size_up_to : (k : ℕ) (bs : List ℕ) → sizes (containers (options_front_up_to k bs)) ≤ length bs
unfolding options_front_up_to containers
data_size_up_to zero bs = omega arith
data_size_up_to (suc k) [] = omega arith
data_size_up_to (suc k) (zero ∷ bs) = omega (arith, data_size_up_to k bs)
data_size_up_to (suc k) (suc t ∷ []) = omega arith
data_size_up_to (suc k) (suc t ∷ n ∷ bs) = go (data_size_up_to k (drop n bs)) (leb n (length bs)) refl
  where
    go : sizes (containers (options_front_up_to k (drop n bs))) ≤ length (drop n bs) → (b : Bool) → leb n (length bs) ≡ b
        → sizes (containers (cond b (option t (take n bs) ∷ options_front_up_to k (drop n bs)) [])) ≤ suc (suc (length bs))
    go ih true e =
        let l = leb-true n (length bs) e in
        omega (arith, ih, length-drop n bs, length-take-le n bs l, kept (is_container t) (take n bs) (containers (options_front_up_to k (drop n bs))))
    go ih false e = omega arith

pub data_size : (bs : List ℕ) → sizes (data_front bs) ≤ length bs
unfolding data_front options_front
data_size bs = data_size_up_to (length bs) bs

-- where no option is cut short, nothing is left behind the last
ends_whole : (run t : List ℕ) → option_cut run ≡ false → options_left run ≡ t → ends_at t ≡ true
ends_whole run t c l = rw (← l) (not-false (ends_at (options_left run)) (sym (cut_exact run) ∙ c))

-- ---- between containers, and in one, with the objects before

pub record Between (run rest : List ℕ) (es : List Object) : Type 0 where
  pub so_far : run_objects run ≡ behind es (run_objects rest)
  pub left : options_left run ≡ options_left rest
  pub room : length es + sizes (data_front rest) ≤ length run

pub record Inside (run rest bytes : List ℕ) (es : List Object) : Type 0 where
  pub so_far : run_objects run ≡ behind es (joined (split bytes) (run_objects rest))
  pub left : options_left run ≡ options_left rest
  pub room : length es + length (front bytes) + sizes (data_front rest) ≤ length run

pub at_start : (run : List ℕ) → Between run run []
at_start run = record { so_far = behind_nil (run_objects run); left = refl; room = omega (arith, data_size run) }

pub into : (run s t d : List ℕ) (es : List Object) → Between run s es → data_front s ≡ d ∷ data_front t → options_left s ≡ options_left t → Inside run t d es
into run s t d es b e l = record {
  so_far = b.so_far ∙ ap (behind es) (run_first s t d e l);
  left = b.left ∙ l;
  room = let q = ap sizes e in omega (arith, b.room, q, front_size d);
}

pub onward : (run rest s t : List ℕ) (o : Object) (es : List Object) → Inside run rest s es → front s ≡ o ∷ front t → left s ≡ left t → Inside run rest t (es ++ (o ∷ []))
onward run rest s t o es i e l = record {
  so_far = i.so_far ∙ ap (λ x. behind es (joined x (run_objects rest))) (split_first s t o e l) ∙ behind_first es o (split t) (run_objects rest);
  left = i.left;
  room = let q = ap length e in rw (length-append es (o ∷ [])) (omega (arith, i.room, q));
}

pub out : (run rest s t : List ℕ) (es : List Object) → Inside run rest s es → front s ≡ [] → left s ≡ t → ends_at t ≡ true → Between run rest es
out run rest s t es i e l d = record {
  so_far = i.so_far ∙ ap (λ x. behind es (joined x (run_objects rest))) (split_done s t e l d) ∙ ap (behind es) (joined_done (run_objects rest));
  left = i.left;
  room = let q = ap length e in omega (arith, i.room, q);
}

-- an object is cut short
pub cut_inside : (run rest s t : List ℕ) (es : List Object) → Inside run rest s es → left s ≡ t → ends_at t ≡ false → run_objects run ≡ none
cut_inside run rest s t es i l d = i.so_far ∙ rw (split_cut s t l d)

-- all options are passed
pub all_done : (run s t : List ℕ) (es : List Object) → Between run s es → data_front s ≡ [] → options_left s ≡ t → option_cut run ≡ false → run_objects run ≡ some es
all_done run s t es b e l c =
    let q : ends_at t ≡ true = ends_whole run t c (b.left ∙ l) in
    b.so_far ∙ rw (run_done s t e l q) (ap some (append-nil es))

-- ---- the same with some objects before

pub record Reaches (run rest : List ℕ) : Type 0 where
  pub earlier : List Object
  pub between : Between run rest earlier

pub record Within (run rest bytes : List ℕ) : Type 0 where
  pub earlier : List Object
  pub inside : Inside run rest bytes earlier

pub reach_start : (run : List ℕ) → Reaches run run
reach_start run = record { earlier = []; between = at_start run }

pub reach_into : (run s t d : List ℕ) → Reaches run s → data_front s ≡ d ∷ data_front t → options_left s ≡ options_left t → Within run t d
reach_into run s t d w e l = record { earlier = w.earlier; inside = into run s t d w.earlier w.between e l }

pub within_onward : (run rest s t : List ℕ) (o : Object) → Within run rest s → front s ≡ o ∷ front t → left s ≡ left t → Within run rest t
within_onward run rest s t o w e l = record { earlier = _; inside = onward run rest s t o w.earlier w.inside e l }

pub within_out : (run rest s t : List ℕ) → Within run rest s → front s ≡ [] → left s ≡ t → ends_at t ≡ true → Reaches run rest
within_out run rest s t w e l d = record { earlier = w.earlier; between = out run rest s t w.earlier w.inside e l d }

pub within_cut : (run rest s t : List ℕ) → Within run rest s → left s ≡ t → ends_at t ≡ false → false ≡ not (object_cut run)
within_cut run rest s t w l d = rw (cut_inside run rest s t w.earlier w.inside l d)

pub reach_done : (run s t : List ℕ) → Reaches run s → data_front s ≡ [] → options_left s ≡ t → option_cut run ≡ false → true ≡ not (object_cut run)
reach_done run s t w e l c = rw (all_done run s t w.earlier w.between e l c)
