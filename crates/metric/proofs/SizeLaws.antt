-- How long bodies are for the next hop.
use mathlib.Core.Path.{◌≡◌, refl, sym, ap, ◌∙◌}
use Prim.Native.Nat.{ℕ, zero, suc, ◌+◌, ◌-◌, ◌≤◌}
use native.Mathlib.Omega.{arith}
use mathlib.Core.Bool.{Bool, true, false, cond, ◌||◌}
use mathlib.Core.List.{List, [], ◌∷◌, ◌++◌}
use lib.ListN.{length, take, drop, length-append}
use lib.Seq.{take_all}
use lib.Dec.{eqb}
use borrow.Author.Tests.{eq-eqb, ne_eqb, eqb-true, eqb-false}
use Rattle.model.specs.declared.Own.{Own}
use Rattle.model.specs.declared.Neighbour.{Neighbour}
use Rattle.model.specs.Number.{any_of, big_endian, number}
use Rattle.model.specs.Object.{Kind, unknown, lql, colour, node, ne, scalar, Role, constraint, recorded, aggregated, kind_of, role_of, is_recorded}
use Rattle.model.specs.Constraint.{energy_in}
use Rattle.model.specs.Update.{local_value, value_or_0, on_field, combine, width_of, most_of, clear0, clear1, combine1, aggregated_body, constraint_body, sub_object, clear_each, own_energy, count_level, counted_body, count_colour, coloured_body, recorded_body, next_body}
use Rattle.model.proofs.ShapeLaws.{length-on_two, length-clear_each, length-own_energy, length-clear_colour}
use Rattle.metric.specs.Next.{link_of, counts_in}
use Rattle.metric.specs.Colours.{gains_in, place_of}
use Rattle.wire.specs.declared.metric_type.MetricType.{MetricType}
use Rattle.wire.specs.declared.metric_type.MetricType.TheVariants.{NodeEnergy, LinkQuality, LinkColour}
use Rattle.wire.specs.MetricType.{kind_in}
use Rattle.metric.proofs.KindLaws.{named, recorded_by_lem}

-- ---- recorded metrics

length_levels : (v : ℕ) (s : List ℕ) → length (count_level v s) ≡ length s + cond (any_of (counts_in v) s) 0 1
length_levels v [] = refl
length_levels v (x ∷ s) = go (counts_in v x) (length_levels v s)
  where
    go : (b : Bool) → length (count_level v s) ≡ length s + cond (any_of (counts_in v) s) 0 1
        → length (cond b ((x + 1) ∷ s) (x ∷ count_level v s)) ≡ suc (length s) + cond (b || any_of (counts_in v) s) 0 1
    go true ih = omega arith
    go false ih = omega arith

two_more : (m n : ℕ) → eqb (2 + m) (suc (suc n)) ≡ eqb m n
two_more m n = go (eqb m n) refl
  where
    go : (b : Bool) → eqb m n ≡ b → eqb (2 + m) (suc (suc n)) ≡ b
    go true e = let l = eqb-true m n e in eq-eqb (2 + m) (suc (suc n)) (omega arith)
    go false e = let l = eqb-false m n e in ne_eqb (2 + m) (suc (suc n)) (λ d. l (omega arith))

-- colours: one is added where none gains, and no lone byte is left
length_colours : (v : ℕ) (s : List ℕ) → length (count_colour v s) ≡ length s + cond (eqb (place_of v s) (length s)) 2 0
length_colours v [] = refl
length_colours v (x ∷ []) = refl
length_colours v (x ∷ y ∷ s) = go (gains_in v x y) (length_colours v s)
  where
    go : (b : Bool) → length (count_colour v s) ≡ length s + cond (eqb (place_of v s) (length s)) 2 0
        → length (cond b (x ∷ (y + 1) ∷ s) (x ∷ y ∷ count_colour v s)) ≡ suc (suc (length s)) + cond (eqb (cond b 0 (2 + place_of v s)) (suc (suc (length s)))) 2 0
    go true ih = rw (ne_eqb 0 (suc (suc (length s))) (λ d. omega arith)) (omega arith)
    go false ih = rw (two_more (place_of v s) (length s)) (omega arith)

length_big : (w v : ℕ) → length (big_endian w v) ≡ w
length_big zero v = refl
length_big (suc w) v = ap suc (length_big w v)

pub grows_energy : (own : Own) (c : Neighbour) (k : Kind) (b : List ℕ) → node ne ≡ k → length b + 2 ≡ length (recorded_body own c k b)
unfolding recorded_body
grows_energy own c k b e =
    rw (← e, length-append (clear_each b) (own_energy own.nodetype (energy_in own.flags own.energy)), length-clear_each b, length-own_energy own.nodetype (energy_in own.flags own.energy))

-- the sub-objects behind a reserved byte, as code has them
behind : (x : ℕ) (s : List ℕ) → take (suc (length s) - 1) s ≡ s
behind x s = take_all (suc (length s) - 1) s (omega arith)

-- where no level counts the hop, and where one does
pub grows_level : (v : ℕ) (b : List ℕ) → 1 ≤ length b → any_of (counts_in v) (take (length b - 1) (drop 1 b)) ≡ false → length b + 1 ≡ length (counted_body v b)
grows_level v [] h e = absurd (omega arith)
grows_level v (x ∷ s) h e = let k : any_of (counts_in v) s ≡ false = ap (any_of (counts_in v)) (sym (behind x s)) ∙ e in rw (length_levels v s, k) (omega arith)

pub grows_counted : (v : ℕ) (b : List ℕ) → 1 ≤ length b → any_of (counts_in v) (take (length b - 1) (drop 1 b)) ≡ true → length b + 0 ≡ length (counted_body v b)
grows_counted v [] h e = absurd (omega arith)
grows_counted v (x ∷ s) h e = let k : any_of (counts_in v) s ≡ true = ap (any_of (counts_in v)) (sym (behind x s)) ∙ e in rw (length_levels v s, k) (omega arith)

-- where no colour counts the hop, and where one does or a lone byte is left
pub grows_colour : (v : ℕ) (b : List ℕ) → 1 ≤ length b → place_of v (take (length b - 1) (drop 1 b)) ≡ length (take (length b - 1) (drop 1 b)) → length b + 2 ≡ length (coloured_body v b)
grows_colour v [] h e = absurd (omega arith)
grows_colour v (x ∷ s) h e =
    let k : place_of v s ≡ length s = rw (behind x s) at e in
    rw (length_colours v s, eq-eqb (place_of v s) (length s) k) (omega arith)

pub grows_gained : (v : ℕ) (b : List ℕ) → 1 ≤ length b → (place_of v (take (length b - 1) (drop 1 b)) ≡ length (take (length b - 1) (drop 1 b)) → ⊥) → length b + 0 ≡ length (coloured_body v b)
grows_gained v [] h e = absurd (omega arith)
grows_gained v (x ∷ s) h e =
    let k : place_of v s ≡ length s → ⊥ = rw (behind x s) at e in
    rw (length_colours v s, ne_eqb (place_of v s) (length s) k) (omega arith)

-- a metric that is neither NE nor LQL nor colour gains the sub-object, wherever it stands
pub grows_value : (own : Own) (c : Neighbour) (t : ℕ) (b : List ℕ) → (t ≡ 2 → ⊥) → (t ≡ 6 → ⊥) → (t ≡ 8 → ⊥)
    → length b + length (sub_object (cond (eqb t 7) 2 4) (link_of c (kind_of t))) ≡ length (recorded_body own c (kind_of t) b)
grows_value own c t b p q o = go (eqb t 4) refl ∙ sym (rw (ne_eqb t 2 p, ne_eqb t 6 q, ne_eqb t 8 o)) ∙ ap length (recorded_by_lem own c t b)
  where
    go : (r : Bool) → eqb t 4 ≡ r → length b + length (sub_object (cond (eqb t 7) 2 4) (link_of c (kind_of t)))
        ≡ length (cond r (sub_object 4 (link_of c (kind_of t)) ++ b) (cond (eqb t 7) (b ++ sub_object 2 (link_of c (kind_of t))) (b ++ sub_object 4 (link_of c (kind_of t)))))
    go true e = let four = eqb-true t 4 e in rw (length-append (sub_object 4 (link_of c (kind_of t))) b, ne_eqb t 7 (λ d. omega arith)) (omega arith)
    go false e = more (eqb t 7)
      where
        more : (s : Bool) → length b + length (sub_object (cond s 2 4) (link_of c (kind_of t)))
            ≡ length (cond s (b ++ sub_object 2 (link_of c (kind_of t))) (b ++ sub_object 4 (link_of c (kind_of t))))
        more true = sym (length-append b (sub_object 2 (link_of c (kind_of t))))
        more false = sym (length-append b (sub_object 4 (link_of c (kind_of t))))

pub grows_other : (own : Own) (c : Neighbour) (m : MetricType) (t : ℕ) (b : List ℕ) → kind_in m ≡ kind_of t → (m ≡ NodeEnergy → ⊥) → (m ≡ LinkQuality → ⊥) → (m ≡ LinkColour → ⊥)
    → length b + length (sub_object (cond (eqb t 7) 2 4) (link_of c (kind_of t))) ≡ length (recorded_body own c (kind_of t) b)
unfolding kind_of
grows_other own c m t b k p q o = grows_value own c t b (λ e. p (named m _ (k ∙ ap kind_of e))) (λ e. q (named m _ (k ∙ ap kind_of e))) (λ e. o (named m _ (k ∙ ap kind_of e)))

-- ---- constraints and aggregated metrics keep their length

length_field : (w : ℕ) (f : ℕ → ℕ) (b : List ℕ) → length (on_field w f b) ≡ length b
length_field w f b = go (eqb (length b) w) refl
  where
    go : (r : Bool) → eqb (length b) w ≡ r → length (cond r (big_endian w (f (number b))) b) ≡ length b
    go true e = length_big w (f (number b)) ∙ sym (eqb-true (length b) w e)
    go false e = refl

pub length_constraint : (k : Kind) (b : List ℕ) → length (constraint_body k b) ≡ length b
unfolding constraint_body
length_constraint unknown b = refl
length_constraint lql b = length-on_two (λ x. 0) (λ y. y) b
length_constraint colour b = length-clear_colour b
length_constraint (node n) b = length-on_two (clear0 n) (clear1 n) b
length_constraint (scalar s) b = refl

pub length_aggregated : (k : Kind) (a v : ℕ) (b : List ℕ) → length (aggregated_body k a v b) ≡ length b
unfolding aggregated_body
length_aggregated unknown a v b = refl
length_aggregated lql a v b = refl
length_aggregated colour a v b = refl
length_aggregated (node n) a v b = length-on_two (clear0 n) (combine1 n a v) b
length_aggregated (scalar s) a v b = length_field (width_of s) (λ x. combine a (most_of s) x v) b

kept : (own : Own) (c : Neighbour) (k : Kind) (r : Role) (a : ℕ) (b : List ℕ) → is_recorded r ≡ false → length b ≡ length (next_body own c k r a b)
kept own c k constraint a b e = sym (length_constraint k b)
kept own c k recorded a b e = cc
kept own c k aggregated a b e = sym (length_aggregated k a (value_or_0 (local_value own c k)) b)

-- a body that is not a recorded metric's keeps its length
pub length_kept : {r : Bool} (own : Own) (c : Neighbour) (k : Kind) (f m a : ℕ) (b : List ℕ) → r ≡ is_recorded (role_of f m) → r ≡ false
    → length b ≡ length (next_body own c k (role_of f m) a b)
length_kept own c k f m a b e t = kept own c k (role_of f m) a b (sym e ∙ t)
