-- What the two iterators find: by all calls of `next`, and as one against the model's objects and the walk.
use Rattle.std.proofs.Common.{◌≡◌, refl, sym, ap, ◌∙◌, ℕ, List, [], ◌∷◌, ◌++◌, map, drop}
use mathlib.Core.List.{append_assoc}
use Rattle.std.specs.Prelude.{Option, None}
use Rattle.std.specs.Option.{MatchOption}
use Rattle.std.specs.Iterator.{YieldsFirstBy, Yields, YieldsThen}
use Rattle.model.specs.Object.{Object, bytes_of, join}
use Rattle.model.specs.Run.{objects_of}
use Rattle.wire.specs.declared.objects.Object as walked
use Rattle.wire.specs.declared.objects.Objects.{Objects}
use Rattle.wire.specs.Front.{seen, front, left}
use Rattle.wire.specs.Options.{data_front, options_left}
use Rattle.wire.specs.Yielded.{ObjectsYield, ContainersYield, yielded_in, yielded, DataYields, RunYields, YieldsAsWalked, ObjectsStand}
use Rattle.wire.proofs.FrontLaws.{front_exact}
use Rattle.wire.proofs.BytesLaws.{front_bytes}
use Rattle.wire.proofs.PassLaws.{run_by}
use Rattle.wire.proofs.WalkLaws.{walks}
use Rattle.wire.proofs.RunWalkLaws.{run_walks}

-- ---- all calls of `next`

module _ {S A B : Type 0} (view : A → B) (bytes : S → List ℕ) (yields : List ℕ → List B) (leaves : List ℕ → List ℕ) where
  -- what one call gives and leaves
  abbrev Call : S → Option A → S → Type 0
  Call s r t = YieldsFirstBy view (λ u. yields (bytes u)) s r t × MatchOption r (leaves (bytes s) ≡ bytes t) (λ x. leaves (bytes s) ≡ leaves (bytes t))

  all_calls : (xs : List A) (s t : S) → YieldsThen Call s xs None t → (map view xs ≡ yields (bytes s)) × (bytes t ≡ leaves (bytes s))
  all_calls [] s t (j, e, ((n, m), l)) = rw e (sym n, sym l)
  all_calls (x ∷ xs) s t (j, (i, (n, l), c), d) =
      let (a, b) = all_calls xs i t (j, c, d) in
      (ap (λ k. view x ∷ k) a ∙ sym n, b ∙ sym l)

pub objects_yield : ObjectsYield
objects_yield s t os c = all_calls seen (λ u. u.rest.now) front left os s t c

pub containers_yield : ContainersYield
containers_yield s t ds c = all_calls (λ d. d.now) (λ u. u.rest.now) data_front options_left ds s t c

-- ---- both as one

pub data_yields : DataYields
data_yields bs = sym (front_exact (drop 2 bs))

-- in each of the data stand its objects
in_each : (ds : List (List ℕ)) → yielded_in ds ≡ objects_of ds
unfolding yielded_in objects_of
in_each [] = refl
in_each (d ∷ ds) = rw (in_each ds, front_exact d) refl

pub run_yields : RunYields
unfolding yielded
run_yields run = rw (in_each (data_front run)) (sym (run_by run))

pub yields_as_walked : YieldsAsWalked
yields_as_walked bs = (data_yields bs ∙ sym (walks bs), run_yields bs ∙ sym (run_walks bs))

-- ---- where it stands

-- an object, with what is left behind it
one_call : (s t : List ℕ) (o : Object) → front s ≡ o ∷ front t → left s ≡ left t → bytes_of o ++ t ≡ s
unfolding join
one_call s t o e l =
    let whole : join (front s) ++ left s ≡ s = front_bytes s in
    let a : (bytes_of o ++ join (front t)) ++ left t ≡ s = rw (e, l) at whole in
    ap (λ k. bytes_of o ++ k) (sym (front_bytes t)) ∙ sym (append_assoc (bytes_of o) (join (front t)) (left t)) ∙ a

stand : (os : List walked.Object) (s t : Objects) → Yields (Call seen (λ u. u.rest.now) front left) s os t → join (map seen os) ++ t.rest.now ≡ s.rest.now
unfolding join
stand [] s t e = rw e refl
stand (o ∷ os) s t (i, (n, l), c) =
    append_assoc (bytes_of (seen o)) (join (map seen os)) t.rest.now ∙ ap (λ k. bytes_of (seen o) ++ k) (stand os i t c) ∙ one_call s.rest.now i.rest.now (seen o) n l

pub objects_stand : ObjectsStand
objects_stand s t os c = stand os s t c
