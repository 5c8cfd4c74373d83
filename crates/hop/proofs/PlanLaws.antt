-- What is planned of objects, where one comes behind others and at the end.
use mathlib.Core.Path.{◌≡◌, refl, sym, ap, ◌∙◌}
use Prim.Native.Nat.{ℕ, zero, suc, ◌+◌, ◌/◌, ◌%◌, ◌≤◌, ◌<◌}
use native.Mathlib.Omega.{arith}
use mathlib.Core.Bool.{true, false}
use mathlib.Core.List.{List, [], ◌∷◌, ◌++◌, append-nil}
use mathlib.Core.Option.{some}
use lib.ListN.{length}
use borrow.Author.Tests.{lt-ltb, le-ltb}
use Rattle.model.specs.declared.Own.{Own}
use Rattle.model.specs.declared.Neighbour.{Neighbour}
use Rattle.model.specs.Number.{first, first_of}
use Rattle.model.specs.Object.{Object, kind_of, role_of, join, bytes_of}
use Rattle.model.specs.Run.{run_objects}
use Rattle.model.specs.Update.{next_body, update_object, update, object_leaf, too_long, leaf_answer}
use Rattle.model.proofs.ObjectLaws.{join-append}
use Rattle.model.proofs.FirstLaws.{first_snoc}
use Rattle.model.proofs.ShapeLaws.{update-append}
use Rattle.wire.specs.declared.objects.Header.{Header}
use Rattle.wire.specs.Step.{object_of}
use Rattle.wire.specs.Front.{front, left, ends_at}
use Rattle.wire.specs.Options.{data_front, options_left}
use Rattle.wire.proofs.PassLaws.{Between, Inside, at_start, into, onward, out, cut_inside, run_cut, run_done}
use Rattle.hop.specs.declared.plan.Filled.{Filled}
use Rattle.hop.specs.declared.plan.Planned.{Planned}
use Rattle.model.specs.Pack.{unpackable}
use Rattle.std.specs.Prelude.{Result, Ok, Err}
use Rattle.metric.specs.declared.leaf.Leaf.{Leaf}
use Rattle.metric.specs.declared.leaf.Leaf.TheVariants.{Unknown, Aggregation, Value, Count, Length, Sum}
use Rattle.metric.specs.Leaf.{number_of, leaf_number}
use Rattle.hop.specs.Sent.{sends_objects, sent_of, told_by}
use Rattle.hop.specs.Planned.{Small, Fills, Plans}
use Rattle.hop.proofs.PackingLaws.{fills_first, packs_size}

-- the body of an object for the next hop
abbrev pub body_next : Own → Neighbour → Header → List ℕ → List ℕ
body_next own c h b = next_body own c (kind_of h.mctype) (role_of h.flags h.mode) (h.mode / 16 % 8) b

-- the bytes of an object for the next hop, behind those of others
pub join_next : (own : Own) (c : Neighbour) (es : List Object) (o : Object) → join (update own c (es ++ (o ∷ []))) ≡ join (update own c es) ++ bytes_of (update_object own c o)
unfolding join
join_next own c es o =
    ap join (update-append own c es (o ∷ [])) ∙ join-append (update own c es) (update_object own c o ∷ []) ∙ ap (λ bs. join (update own c es) ++ bs) (append-nil (bytes_of (update_object own c o)))

pub length_object : (own : Own) (c : Neighbour) (h : Header) (b : List ℕ) → length (bytes_of (update_object own c (object_of h b))) ≡ 4 + length (body_next own c h b)
unfolding update_object
length_object own c h b = omega arith

-- the bytes of an object for the next hop, by what its body gains
pub object_bytes : (own : Own) (c : Neighbour) (h : Header) (b : List ℕ) (n : ℕ) → length b + n ≡ length (body_next own c h b) → 4 + length b + n ≡ length (bytes_of (update_object own c (object_of h b)))
object_bytes own c h b n e = omega (arith, length_object own c h b)

-- a leaf answer has a number
number_given : (e : Leaf) → number_of e ≡ 0 → ⊥
number_given Unknown z = omega arith
number_given Aggregation z = omega arith
number_given Value z = omega arith
number_given Count z = omega arith
number_given Length z = omega arith
number_given Sum z = omega arith

told : {r : Result Unit Leaf} {e : Leaf} → r ≡ Err e → leaf_number r ≡ 0 → ⊥
told {r} {e} z n = number_given e (sym (ap leaf_number z) ∙ n)

-- ---- one object more

module _ (own : Own) (c : Neighbour) (es : List Object) (h : Header) (b : List ℕ) (p : Planned) (q : Plans own c p es) (f : Filled)
    (g : Fills p.filled (update own c es) → Fills f (update own c es ++ (update_object own c (object_of h b) ∷ []))) where
  fills_more : Fills f (update own c (es ++ (object_of h b ∷ [])))
  fills_more = rw (update-append own c es (object_of h b ∷ [])) (g q.fills)

  pub plan_leaf : {e : Leaf} → p.leaf ≡ Err e → Plans own c (record { leaf = p.leaf; filled = f }) (es ++ (object_of h b ∷ []))
  plan_leaf {e} z = record { leaf = go (leaf_number p.leaf) (told z) q.leaf ∙ sym (first_snoc (object_leaf own c) es (object_of h b)); fills = fills_more }
    where
      go : (x : ℕ) → (x ≡ 0 → ⊥) → x ≡ first_of (object_leaf own c) es → x ≡ first (first_of (object_leaf own c) es) (object_leaf own c (object_of h b))
      go zero f d = absurd (f refl)
      go (suc x) f d = rw (← d)

  pub plan_next : {x : Result Unit Leaf} → leaf_number p.leaf ≡ 0 → leaf_number x ≡ object_leaf own c (object_of h b) → Plans own c (record { leaf = x; filled = f }) (es ++ (object_of h b ∷ []))
  plan_next {x} z d =
      let none : first_of (object_leaf own c) es ≡ 0 = sym q.leaf ∙ z in
      record { leaf = d ∙ sym (first_snoc (object_leaf own c) es (object_of h b) ∙ rw none); fills = fills_more }

-- ---- all objects

module _ (own : Own) (c : Neighbour) (os : List Object) (p : Planned) (q : Plans own c p os) where
  pub ends_leaf : {e : Leaf} → p.leaf ≡ Err e → told_by (Err e) ≡ sent_of (sends_objects own c (some os))
  unfolding leaf_answer
  ends_leaf {e} z = go (number_of e) (number_given e) (sym (ap leaf_number z) ∙ q.leaf)
    where
      go : (x : ℕ) → (x ≡ 0 → ⊥) → x ≡ first_of (object_leaf own c) os → record { leaf = x; size = 0 } ≡ sent_of (sends_objects own c (some os))
      go zero f d = absurd (f refl)
      go (suc x) f d = rw (← d)

  pub ends_long : leaf_number p.leaf ≡ 0 → 255 < p.filled.fill → record { leaf = 35; size = 0 } ≡ sent_of (sends_objects own c (some os))
  unfolding leaf_answer too_long
  ends_long z t =
      let none : first_of (object_leaf own c) os ≡ 0 = sym q.leaf ∙ z in
      let over : unpackable (update own c os) ≡ true = sym q.fills.over ∙ lt-ltb 255 p.filled.fill t in
      rw (none, over)

  pub ends_fits : leaf_number p.leaf ≡ 0 → p.filled.fill ≤ 255 → record { leaf = 0; size = p.filled.frame + 2 + p.filled.fill } ≡ sent_of (sends_objects own c (some os))
  unfolding leaf_answer too_long
  ends_fits z t =
      let none : first_of (object_leaf own c) os ≡ 0 = sym q.leaf ∙ z in
      let over : unpackable (update own c os) ≡ false = sym q.fills.over ∙ le-ltb 255 p.filled.fill t in
      rw (none, over, packs_size (q.fills.packs t))

-- ---- the pass over a run

-- between containers, and in one: the objects before are planned
pub record AtPlan (own : Own) (c : Neighbour) (run rest : List ℕ) (p : Planned) : Type 0 where
  pub earlier : List Object
  pub between : Between run rest earlier
  pub plans : Plans own c p earlier
  pub small : Small p.filled

pub record InPlan (own : Own) (c : Neighbour) (run rest bytes : List ℕ) (p : Planned) : Type 0 where
  pub earlier : List Object
  pub inside : Inside run rest bytes earlier
  pub plans : Plans own c p earlier
  pub small : Small p.filled

module _ (own : Own) (c : Neighbour) (run : List ℕ) where
  pub plan_start : AtPlan own c run run (record { leaf = Ok tt; filled = record { closed = 0; frame = 0; fill = 0 } })
  unfolding first_of
  plan_start = record {
    earlier = [];
    between = at_start run;
    plans = record { leaf = refl; fills = fills_first };
    small = record { few = omega arith; room = omega arith; short = omega arith };
  }

  pub plan_into : (s t d : List ℕ) (p : Planned) → AtPlan own c run s p → data_front s ≡ d ∷ data_front t → options_left s ≡ options_left t → InPlan own c run t d p
  plan_into s t d p w e l = record { earlier = w.earlier; inside = into run s t d w.earlier w.between e l; plans = w.plans; small = w.small }

  module _ (rest s t : List ℕ) (p : Planned) (w : InPlan own c run rest s p) where
    pub plan_onward : (o : Object) (r : Planned) → front s ≡ o ∷ front t → left s ≡ left t → Small r.filled
        → ((es : List Object) → Plans own c p es → Plans own c r (es ++ (o ∷ []))) → InPlan own c run rest t r
    plan_onward o r e l m f = record { earlier = _; inside = onward run rest s t o w.earlier w.inside e l; plans = f w.earlier w.plans; small = m }

    pub plan_out : front s ≡ [] → left s ≡ t → ends_at t ≡ true → AtPlan own c run rest p
    plan_out e l d = record { earlier = w.earlier; between = out run rest s t w.earlier w.inside e l d; plans = w.plans; small = w.small }

    -- an object is cut short
    pub plan_cut : left s ≡ t → ends_at t ≡ false → told_by (Ok 0) ≡ sent_of (sends_objects own c (run_objects run))
    plan_cut l d = rw (cut_inside run rest s t w.earlier w.inside l d)

  module _ (s t : List ℕ) (p : Planned) (w : AtPlan own c run s p) where
    -- an option is cut short
    pub plan_short : options_left s ≡ t → ends_at t ≡ false → told_by (Ok 0) ≡ sent_of (sends_objects own c (run_objects run))
    plan_short l d = rw (w.between.so_far, run_cut s t l d)

    pub plan_done : (r : Result ℕ Leaf) → data_front s ≡ [] → options_left s ≡ t → ends_at t ≡ true
        → ((own : Own) (c : Neighbour) (os : List Object) → Plans own c p os → told_by r ≡ sent_of (sends_objects own c (some os)))
        → told_by r ≡ sent_of (sends_objects own c (run_objects run))
    plan_done r e l d g = g own c w.earlier w.plans ∙ rw (w.between.so_far, run_done s t e l d, append-nil w.earlier)
