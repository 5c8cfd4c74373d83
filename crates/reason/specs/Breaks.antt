-- What was found breaks what was asked, whenever a candidate is barred by 11, 12, 14, 19, 22 or 23; of any other nothing is told.
use Rattle.std.specs.Prelude.{◌≡◌, ℕ, ◌+◌, ◌/◌, ◌%◌, Bool, true, false, cond, not, ◌&&◌, ◌||◌, List, [], ◌∷◌, get_or, leb, ltb, eqb}
use Rattle.std.proofs.Math.Option.{some}
use Rattle.std.proofs.Math.ListN.{get_elem?}
use Rattle.model.specs.declared.Summary.{Summary}
use Rattle.model.specs.declared.Own.{Own}
use Rattle.model.specs.declared.Neighbour.{Neighbour}
use Rattle.model.specs.declared.Offer.{Offer}
use Rattle.model.specs.declared.Candidate.{Candidate}
use Rattle.model.specs.Verdict.{Unbarred, Barred}
use Rattle.model.specs.Number.{is_set, is_unknown, any_of}
use Rattle.model.specs.Object.{Object}
use Rattle.model.specs.Reading.{well_formed}
use Rattle.model.specs.Run.{read_run}
use Rattle.model.specs.Constraint.{summary, has_all}
use Rattle.model.specs.Verdict.{run_of, verdict}
use Rattle.reason.specs.declared.findings.Finding.{Finding}
use Rattle.reason.specs.Finding.{nothing, finding_of}

-- a number is one of several
abbrev pub among : ℕ → List ℕ → Bool
among n ks = any_of (λ k. eqb n k) ks

-- what was found breaks what was asked, by the way that is told
unfoldable pub breaks : Finding → Bool
breaks f =
    -- a range
    cond (among f.way (1 ∷ 2 ∷ 3 ∷ 4 ∷ 5 ∷ 6 ∷ 7 ∷ 8 ∷ [])) (ltb f.found f.which || ltb f.asked f.found)
    -- start and size together
    (cond (among f.way (9 ∷ [])) (ltb f.found (f.which + f.asked))
    -- another type than asked
    (cond (among f.way (17 ∷ [])) (not (eqb f.found f.asked))
    -- asked at least: bytes, an energy that is not below it, throughput
    (cond (among f.way (13 ∷ 14 ∷ 21 ∷ 25 ∷ 37 ∷ 38 ∷ [])) (ltb f.found f.asked)
    -- asked above it: energy
    (cond (among f.way (18 ∷ [])) (leb f.found f.asked)
    -- asked not to be it: a type
    (cond (among f.way (20 ∷ [])) (eqb f.found f.asked)
    -- asked below it: hops
    (cond (among f.way (23 ∷ [])) (leb f.asked f.found)
    -- asked at most: latency, ETX, link quality, containers
    (cond (among f.way (27 ∷ 28 ∷ 30 ∷ 31 ∷ 33 ∷ 39 ∷ [])) (ltb f.asked f.found)
    -- a colour that is asked for, and one that is asked to be left out
    (cond (among f.way (35 ∷ [])) (not (has_all 10 f.asked f.found))
    (cond (among f.way (36 ∷ [])) (has_all 10 f.asked f.found)
    -- a flag, or something that is not known
    (among f.way (15 ∷ 16 ∷ 19 ∷ 22 ∷ 24 ∷ 26 ∷ 29 ∷ 32 ∷ 34 ∷ [])))))))))))

-- the numbers of which something is told
abbrev pub told_of : (number : ℕ) → Bool
told_of n = among n (11 ∷ 12 ∷ 14 ∷ 19 ∷ 22 ∷ 23 ∷ [])

-- of every candidate that is barred by one of these
abbrev pub FindingsBreak : Type 0
FindingsBreak = (own : Own) (lent : List ℕ) (c : Candidate) (n p : ℕ) → verdict own lent c ≡ Barred n p → told_of n ≡ true → breaks (finding_of own c lent) ≡ true

-- of no other is anything told
abbrev pub NothingElse : Type 0
NothingElse = (own : Own) (lent : List ℕ) (c : Candidate)
    → ((r : Offer) → verdict own lent c ≡ Unbarred r → finding_of own c lent ≡ nothing)
    × ((n p : ℕ) → verdict own lent c ≡ Barred n p → told_of n ≡ false → finding_of own c lent ≡ nothing)

-- ---- bar 19: a flag, or something that is not known

-- what such a way says holds of the neighbour, of what its run tells, and of the constraint's body
unfoldable pub holds_of : Neighbour → Summary → List ℕ → Finding → Bool
holds_of c s b f =
    -- the aggregator bit is set, and the neighbour does not aggregate; the overload bit is set, and it is overloaded
    cond (among f.way (15 ∷ [])) (is_set (get_or b 1 0 / 2 % 2) && not (is_set (c.flags / 2 % 2)))
    (cond (among f.way (16 ∷ [])) (is_set (get_or b 1 0 % 2) && is_set (c.flags % 2))
    -- energy, hops, throughput, latency, ETX and link quality are not known
    (cond (among f.way (19 ∷ 22 ∷ [])) (not (is_set (c.flags / 4 % 2)))
    (cond (among f.way (24 ∷ [])) (is_unknown s.hops)
    (cond (among f.way (26 ∷ [])) (not (is_set (c.flags / 32 % 2)))
    (cond (among f.way (29 ∷ [])) (not (is_set (c.flags / 16 % 2)))
    (cond (among f.way (32 ∷ [])) (not (is_set (c.flags / 8 % 2)))
    (cond (among f.way (34 ∷ [])) (eqb c.lql 0)
    true)))))))

-- of every candidate that is barred by 19, at the object that bars it
abbrev pub FlagsHold : Type 0
FlagsHold = (own : Own) (lent : List ℕ) (c : Candidate) (p : ℕ) (os : List Object) (o : Object) → verdict own lent c ≡ Barred 19 p
    → read_run (run_of lent c) ≡ well_formed os → get_elem? os p ≡ some o → holds_of c.neighbour (summary os) o.body (finding_of own c lent) ≡ true
