-- Editions 1 and 2: refusal 5, bar 11, what candidates are compared by; edition 1 reads nothing of what edition 2 added to a candidate.
use mathlib.Core.Path.{◌≡◌, refl, sym, ap, fun_ext, ◌∙◌}
use Prim.Native.Nat.{ℕ, zero, suc, ◌+◌, ◌-◌, ◌*◌, ◌/◌, ◌%◌, ◌^◌}
use native.Mathlib.Omega.{arith}
use mathlib.Core.Bool.{true≢false, ◌&&◌, or-false, and-false}
use mathlib.Core.List.{List, [], ◌∷◌, map}
use lib.ListN.{get_elem?, length-map}
use lib.Pow.{field, mod-mod-pow}
use borrow.Author.Tests.{eq-eqb, ne_eqb, le-ltb}
use Rattle.model.specs.declared.Own.{Own}
use Rattle.model.specs.declared.Neighbour.{Neighbour}
use Rattle.model.specs.declared.Candidate.{Candidate}
use Rattle.model.specs.declared.Summary.{Summary}
use Rattle.model.specs.Choice.{Choice}
use Rattle.model.specs.Choice.{Nobody, Parent}
use Rattle.model.specs.Number.{first_of, index_of}
use Rattle.model.specs.Object.{Object, Kind, unknown, lql, colour, node, scalar, nsa, ne, hp, Scalar, throughput, latency, etx, Role, constraint, recorded, aggregated, role, kind, field_a}
use Rattle.model.specs.Reading.{Reading, refused, well_formed}
use Rattle.model.specs.Run.{read_run}
use Rattle.model.specs.Constraint.{link_value, summary, met, constraint_bar}
use Rattle.model.specs.Rank.{resulting, rank_too_high, above_lowest}
use Rattle.model.specs.Verdict.{out_of_range, site_out_of_range, is_second, bad_numbers, grounded, ahead_of, run_of, rank_bar, judge_rank, judge_objects, judge_reading, verdict}
use Rattle.model.specs.Update.{local_value, recorded_body, adds_nothing, is_beyond, next_body, update_object, update, object_leaf, too_long, leaf_answer}
use Rattle.model.specs.Choice.{outgoing_read, outgoing_at, outgoing, verdicts, call}
use Rattle.model.specs.Editions.{EditionRefused, FirstRanges, SecondRanges, FirstCriteria, SecondCriteria, first_only, without_second, FirstEdition}
use Rattle.model.proofs.BoolLaws.{neither}
use Rattle.model.proofs.Refusals.{refusals}
use Rattle.model.proofs.VerdictLaws.{site_in_range}

-- ---- refusal 5 and bar 11

pub edition_refused : EditionRefused
edition_refused own cs lent out =
    let (given, held) = (refusals own cs lent out).refusal_5 in (
      λ e. let (before, bad) = given e in (before, λ z. true≢false (sym bad ∙ rw z), λ z. true≢false (sym bad ∙ rw z)),
      λ (before, one, two). held (before, rw (ne_eqb own.edition 1 one, ne_eqb own.edition 2 two)),
    )

pub first_ranges : FirstRanges
unfolding bad_numbers
first_ranges own c e = rw (ne_eqb own.edition 2 (λ z. omega arith), or-false (out_of_range c))

pub second_ranges : SecondRanges
unfolding bad_numbers
second_ranges own c e = (
  λ h. let (o, p) = site_in_range own c h e in ((neither (out_of_range c) (is_second own && site_out_of_range c) h).0, o, p),
  λ (r, o, p). rw (r, le-ltb 7 c.order o, le-ltb 7 c.preference p, and-false (is_second own)),
)

-- ---- the criteria

pub first_criteria : FirstCriteria
unfolding ahead_of
first_criteria own c q p e = rw (ne_eqb own.edition 2 (λ z. omega arith))

pub second_criteria : SecondCriteria
unfolding ahead_of
second_criteria own c q p e =
    rw (eq-eqb own.edition 2 e, order_digit c.order (grounded c) c.preference, ground_digit c.order (c.flags / 64) c.preference, root_digit c.order (c.flags / 64) c.preference)
  where
    order_digit : (o f p : ℕ) → (o * 16 + (1 - f) * 8 + (7 - p)) / 16 ≡ o
    order_digit o f p = omega arith

    ground_digit : (o f p : ℕ) → (o * 16 + (1 - f % 2) * 8 + (7 - p)) / 8 % 2 ≡ 1 - f % 2
    ground_digit o f p = omega arith

    root_digit : (o f p : ℕ) → (o * 16 + (1 - f % 2) * 8 + (7 - p)) % 8 ≡ 7 - p
    root_digit o f p = omega arith

-- ---- what reads the flags below 0x40 of a neighbour

-- a bit below the ones that are taken out
bit_below : (f j k : ℕ) → f % 2 ^ (j + 1 + k) / 2 ^ k % 2 ≡ f / 2 ^ k % 2
bit_below f j k = ap (λ n. n % 2) (field f (j + 1) k) ∙ mod-mod-pow (f / 2 ^ k) j 1

module _ (c : Neighbour) where
  link_same : (s : Scalar) → link_value (first_only c) s ≡ link_value c s
  unfolding link_value
  link_same throughput = rw (bit_below c.flags 0 5)
  link_same latency = rw (bit_below c.flags 1 4)
  link_same etx = rw (bit_below c.flags 2 3)

  met_same : (s : Summary) (k : Kind) (b : List ℕ) → met (first_only c) s k b ≡ met c s k b
  unfolding met
  met_same s unknown b = refl
  met_same s (node nsa) b = rw (mod-mod-pow c.flags 5 1, bit_below c.flags 4 1)
  met_same s (node ne) b = rw (bit_below c.flags 3 2)
  met_same s (node hp) b = refl
  met_same s (scalar throughput) b = rw (link_same throughput)
  met_same s (scalar latency) b = rw (link_same latency)
  met_same s (scalar etx) b = rw (link_same etx)
  met_same s lql b = refl
  met_same s colour b = refl

  bar_same : (s : Summary) → constraint_bar (first_only c) s ≡ constraint_bar c s
  unfolding constraint_bar
  bar_same s = fun_ext (λ o. rw (met_same s (kind o) o.body))

  beyond_same : (k : Kind) (b : List ℕ) → is_beyond (first_only c) k b ≡ is_beyond c k b
  beyond_same unknown b = refl
  beyond_same (node n) b = refl
  beyond_same (scalar s) b = rw (link_same s)
  beyond_same lql b = refl
  beyond_same colour b = refl

  adds_same : (k : Kind) → adds_nothing (first_only c) k ≡ adds_nothing c k
  adds_same unknown = refl
  adds_same (node n) = refl
  adds_same (scalar s) = rw (link_same s)
  adds_same lql = refl
  adds_same colour = refl

module _ (own : Own) (c : Neighbour) where
  local_same : (k : Kind) → local_value own (first_only c) k ≡ local_value own c k
  unfolding local_value
  local_same unknown = refl
  local_same (node nsa) = refl
  local_same (node ne) = refl
  local_same (node hp) = refl
  local_same (scalar s) = link_same c s
  local_same lql = refl
  local_same colour = refl

  recorded_same : (k : Kind) (b : List ℕ) → recorded_body own (first_only c) k b ≡ recorded_body own c k b
  unfolding recorded_body
  recorded_same unknown b = refl
  recorded_same (node nsa) b = refl
  recorded_same (node ne) b = refl
  recorded_same (node hp) b = refl
  recorded_same (scalar throughput) b = rw (link_same c throughput)
  recorded_same (scalar latency) b = rw (link_same c latency)
  recorded_same (scalar etx) b = rw (link_same c etx)
  recorded_same lql b = refl
  recorded_same colour b = refl

  body_same : (k : Kind) (r : Role) (a : ℕ) (b : List ℕ) → next_body own (first_only c) k r a b ≡ next_body own c k r a b
  body_same k constraint a b = refl
  body_same k recorded a b = recorded_same k b
  body_same k aggregated a b = rw (local_same k)

  object_same : update_object own (first_only c) ≡ update_object own c
  unfolding update_object
  object_same = fun_ext (λ o. rw (adds_same c (kind o), body_same (kind o) (role o) (field_a o) o.body))

  update_same : (os : List Object) → update own (first_only c) os ≡ update own c os
  update_same os = rw object_same

  leaf_same : object_leaf own (first_only c) ≡ object_leaf own c
  unfolding object_leaf
  leaf_same = fun_ext (λ o. rw (local_same (kind o), beyond_same c (kind o) o.body))

  answer_same : (os : List Object) → leaf_answer own (first_only c) os ≡ leaf_answer own c os
  unfolding leaf_answer too_long
  answer_same os = rw (leaf_same, update_same os)

  read_same : (x : Reading) → outgoing_read own (first_only c) x ≡ outgoing_read own c x
  read_same (refused n i) = refl
  read_same (well_formed os) = rw (answer_same os, update_same os)

-- ---- an edition that is not 2

module _ (own : Own) (lent : List ℕ) (h : own.edition ≡ 2 → ⊥) where
  numbers_same : (c : Neighbour) → bad_numbers own (first_only c) ≡ bad_numbers own c
  unfolding bad_numbers out_of_range
  numbers_same c = rw (ne_eqb own.edition 2 h)

  rank_same : (c : Neighbour) → rank_bar own (first_only c) ≡ rank_bar own c
  unfolding rank_bar rank_too_high above_lowest resulting
  rank_same c = refl

  offer_same : (c : Neighbour) (bar : ℕ) → judge_rank own (first_only c) bar ≡ judge_rank own c bar
  unfolding ahead_of resulting
  offer_same c zero = rw (ne_eqb own.edition 2 h)
  offer_same c (suc n) = refl

  objects_same : (c : Neighbour) (bar place : ℕ) → judge_objects own (first_only c) bar place ≡ judge_objects own c bar place
  objects_same c zero place = rw (rank_same c) (offer_same c (rank_bar own c))
  objects_same c (suc n) place = refl

  judge_same : (c : Neighbour) (x : Reading) → judge_reading own (first_only c) x ≡ judge_reading own c x
  judge_same c (refused n i) = refl
  judge_same c (well_formed os) = rw (bar_same c (summary os)) (objects_same c (first_of (constraint_bar c (summary os)) os) (index_of (constraint_bar c (summary os)) os))

  verdict_same : (c : Candidate) → verdict own lent (without_second c) ≡ verdict own lent c
  unfolding verdict
  verdict_same c = rw (numbers_same c.neighbour, judge_same c.neighbour (read_run (run_of lent c)))

  verdicts_same : (cs : List Candidate) → verdicts own (map without_second cs) lent ≡ verdicts own cs lent
  verdicts_same [] = refl
  verdicts_same (c ∷ cs) = rw (verdict_same c, verdicts_same cs)

  at_same : (cs : List Candidate) (p : ℕ) → outgoing_at own lent (get_elem? (map without_second cs) p) ≡ outgoing_at own lent (get_elem? cs p)
  at_same [] p = refl
  at_same (c ∷ cs) zero = read_same own c.neighbour (read_run (run_of lent c))
  at_same (c ∷ cs) (suc p) = at_same cs p

  outgoing_same : (cs : List Candidate) (b : Choice) → outgoing own (map without_second cs) lent b ≡ outgoing own cs lent b
  unfolding outgoing
  outgoing_same cs Nobody = refl
  outgoing_same cs (Parent p r) = at_same cs p

  call_same : (cs : List Candidate) (out : List ℕ) → call own (map without_second cs) lent out ≡ call own cs lent out
  unfolding call
  call_same cs out = rw (length-map cs without_second, verdicts_same cs) (rw (outgoing_same cs _))

pub first_edition : FirstEdition
first_edition own cs cs' lent out e same =
    let h : own.edition ≡ 2 → ⊥ = λ z. omega arith in
    sym (call_same own lent h cs out) ∙ ap (λ ds. call own ds lent out) same ∙ call_same own lent h cs' out
