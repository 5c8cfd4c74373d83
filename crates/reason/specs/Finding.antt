-- What was asked of a candidate that is barred by 11, 12, 14, 19, 22 or 23, and what was found, by the ways of specs/Way.antt.
use Rattle.std.specs.Prelude.{ℕ, zero, suc, ◌+◌, ◌-◌, ◌/◌, ◌%◌, cond, not, ◌&&◌, ◌||◌, List, [], ◌∷◌, length, drop, get_or, ltb, eqb}
use Rattle.std.proofs.Math.Option.{Option, none, some}
use Rattle.std.proofs.Math.ListN.{get_elem?}
use Rattle.model.specs.Number.{Quantity}
use Rattle.std.specs.Prelude.{Some, None}
use Rattle.model.specs.declared.Summary.{Summary}
use Rattle.model.specs.declared.Own.{Own}
use Rattle.model.specs.declared.Neighbour.{Neighbour}
use Rattle.model.specs.declared.Candidate.{Candidate}
use Rattle.model.specs.Verdict.{Verdict}
use Rattle.model.specs.Verdict.{Unbarred, Barred}
use Rattle.model.specs.Number.{is_set}
use Rattle.model.specs.Object.{Object}
use Rattle.model.specs.Reading.{Reading, refused, well_formed}
use Rattle.model.specs.Run.{containers_in, read_run}
use Rattle.model.specs.Constraint.{is_aggregator, summary, colour_in}
use Rattle.model.specs.Verdict.{is_second, run_of, outside, verdict}
use Rattle.wire.specs.Number.{number_in}
use Rattle.reason.specs.declared.findings.Finding.{Finding}

-- a way and its numbers
abbrev pub finding : (way which asked found : ℕ) → Finding
finding w k a f = record { way = w; which = k; asked = a; found = f }

-- nothing to tell
abbrev pub nothing : Finding
nothing = finding 0 0 0 0

-- ---- bar 11: the first number out of range, and the range

-- in edition 2 interface order, then root preference
unfoldable pub site_range : Own → Neighbour → Finding
site_range own c = cond (is_second own) (cond (ltb 7 c.order) (finding 7 0 7 c.order) (cond (ltb 7 c.preference) (finding 8 0 7 c.preference) nothing)) nothing

-- colour, then what edition 2 reads
unfoldable pub word_range : Own → Neighbour → Finding
word_range own c = cond (ltb 1023 c.colour) (finding 6 0 1023 c.colour) (site_range own c)

-- Sp, Rf, Sr, LQL, type, colour, order, preference
unfoldable pub range_finding : Own → Neighbour → Finding
range_finding own c =
    cond (ltb c.sp 1 || ltb 9 c.sp) (finding 1 1 9 c.sp)
    (cond (ltb c.rf 1 || ltb 4 c.rf) (finding 2 1 4 c.rf)
    (cond (ltb 5 c.sr) (finding 3 0 5 c.sr)
    (cond (ltb 7 c.lql) (finding 4 0 7 c.lql)
    (cond (ltb 3 c.nodetype) (finding 5 0 3 c.nodetype)
    (word_range own c)))))

-- ---- bar 12: start and size of the run, and how many bytes are lent

unfoldable pub outside_finding : Candidate → (lent : ℕ) → Finding
outside_finding c n = finding 9 c.start c.size n

-- ---- bars 22 and 23: the options of a run

-- the option that is cut short, from one on at an index of the run: a type byte alone, or too little data. `limit` bounds their number
unfoldable pub cut_option_from : (limit : ℕ) → List ℕ → (at : ℕ) → Finding
cut_option_from zero bs at = nothing
cut_option_from (suc k) [] at = nothing
cut_option_from (suc k) (zero ∷ bs) at = cut_option_from k bs (at + 1)
cut_option_from (suc k) (suc t ∷ []) at = finding 37 at 2 1
cut_option_from (suc k) (suc t ∷ n ∷ bs) at = cond (ltb (length bs) n) (finding 38 at n (length bs)) (cut_option_from k (drop n bs) (at + 2 + n))

-- of a run, which has no more options than bytes
unfoldable pub cut_option_finding : List ℕ → Finding
cut_option_finding bs = cut_option_from (length bs) bs 0

-- eight containers at most, and how many there are
unfoldable pub containers_finding : List ℕ → Finding
containers_finding bs = finding 39 0 8 (length (containers_in bs))

-- ---- bar 14: the object that is cut short

-- the objects of a container: one is cut short, as is told of it; or all are whole, with the index behind the last
pub data Objects : Type 0 where
  Short : Finding → Objects
  All : (index : ℕ) → Objects

-- in a container's data, from an object of an index on: a header of four bytes, or a body; else the index behind all. `limit` bounds their number
unfoldable pub told_from : (limit : ℕ) → List ℕ → (index : ℕ) → Objects
told_from zero bs i = All i
told_from (suc k) [] i = All i
told_from (suc k) (t ∷ []) i = Short (finding 13 i 4 1)
told_from (suc k) (t ∷ f ∷ []) i = Short (finding 13 i 4 2)
told_from (suc k) (t ∷ f ∷ m ∷ []) i = Short (finding 13 i 4 3)
told_from (suc k) (t ∷ f ∷ m ∷ n ∷ bs) i = cond (ltb (length bs) n) (Short (finding 14 i n (length bs))) (told_from k (drop n bs) (i + 1))

-- of a container, which has no more objects than bytes
unfoldable pub objects_told : List ℕ → (index : ℕ) → Objects
objects_told bs i = told_from (length bs) bs i

-- what is told of an object that is cut short, else what the containers behind tell
abbrev pub or_else : (rest : ℕ → Finding) → Objects → Finding
or_else rest (Short f) = f
or_else rest (All i) = rest i

-- in the data of containers, one after another
unfoldable pub overrun_from : List (List ℕ) → (index : ℕ) → Finding
overrun_from [] i = nothing
overrun_from (d ∷ ds) i = or_else (λ j. overrun_from ds j) (objects_told d i)

-- of a run, by the index among its joined objects
unfoldable pub overrun_finding : List ℕ → Finding
overrun_finding bs = overrun_from (containers_in bs) 0

-- ---- bar 19: what a constraint asks, and what the neighbour, the link or the path has

-- NSA: an aggregating neighbour; else one that is not overloaded
unfoldable pub nsa_finding : (flags asked : ℕ) → Finding
nsa_finding f a = cond (is_set (a / 2 % 2) && not (is_aggregator f)) (finding 15 0 0 0) (finding 16 0 0 0)

-- the energy of a neighbour of a type, known by flag 0x04, beside the one asked
unfoldable pub energy_finding : Neighbour → (known unknown type limit : ℕ) → Finding
energy_finding c k u t limit = cond (is_set (c.flags / 4 % 2)) (finding k t limit c.energy) (finding u t limit 0)

-- NE: I (0x08), T (0x06) and E (0x01) of the flags byte. I=1: another type, else the energy. I=0: the energy if E=1, else the type
unfoldable pub ne_finding : Neighbour → (flags limit : ℕ) → Finding
ne_finding c f limit =
    cond (is_set (f / 8 % 2))
    (cond (eqb c.nodetype (f / 2 % 4)) (energy_finding c 18 19 (f / 2 % 4) limit) (finding 17 0 (f / 2 % 4) c.nodetype))
    (cond (is_set (f % 2)) (energy_finding c 21 22 (f / 2 % 4) limit) (finding 20 0 (f / 2 % 4) c.nodetype))

-- HP: the count of the run's HP metric
abbrev pub hops_finding : Quantity → (limit : ℕ) → Finding
hops_finding (Some v) limit = finding 23 0 limit v
hops_finding None limit = finding 24 0 limit 0

-- throughput: the link's, known by flag 0x20
unfoldable pub throughput_finding : Neighbour → (limit : ℕ) → Finding
throughput_finding c limit = cond (is_set (c.flags / 32 % 2)) (finding 25 0 limit c.throughput) (finding 26 0 limit 0)

-- latency and ETX: the link's value, known by a bit, alone or with what was received of the path, in whole numbers
unfoldable pub limit_finding : (way received limit bit value : ℕ) → Finding
limit_finding w r limit b v = cond (is_set b) (cond (eqb r 0) (finding w r limit (r + v)) (finding (w + 1) r limit (r + v))) (finding (w + 2) r limit 0)

-- LQL: the link's value, 0 unknown, beside Val
unfoldable pub level_finding : Neighbour → (asked : ℕ) → Finding
level_finding c a = cond (eqb c.lql 0) (finding 34 0 (a / 32) 0) (finding 33 0 (a / 32) c.lql)

-- colour: the link's beside the constraint's, by I
unfoldable pub colour_finding : Neighbour → (x y : ℕ) → Finding
colour_finding c x y = cond (is_set (y % 2)) (finding 35 0 (colour_in x y) c.colour) (finding 36 0 (colour_in x y) c.colour)

-- a constraint by its type and body, with the finding of an HP constraint and what was received of latency and ETX
unfoldable pub asked_with : Neighbour → (hops : Finding) → (latency etx : ℕ) → (type : ℕ) → List ℕ → Finding
asked_with c h l x t b =
    cond (eqb t 1) (nsa_finding c.flags (get_or b 1 0))
    (cond (eqb t 2) (ne_finding c (get_or b 0 0) (get_or b 1 0))
    (cond (eqb t 3) h
    (cond (eqb t 4) (throughput_finding c (number_in 4 b))
    (cond (eqb t 5) (limit_finding 27 l (number_in 4 b) (c.flags / 16 % 2) c.latency)
    (cond (eqb t 6) (level_finding c (get_or b 1 0))
    (cond (eqb t 7) (limit_finding 30 x (number_in 2 b) (c.flags / 8 % 2) c.etx)
    (cond (eqb t 8) (colour_finding c (get_or b 1 0) (get_or b 2 0))
    nothing)))))))

-- the object of an index, if there is one, by what its run tells
abbrev pub object_finding : Neighbour → Summary → Option Object → Finding
object_finding c s none = nothing
object_finding c s (some o) = asked_with c (hops_finding s.hops (get_or o.body 1 0)) s.latency s.etx o.type o.body

-- the object of an index in a run that is read
abbrev pub unmet_finding : Neighbour → Reading → (place : ℕ) → Finding
unmet_finding c (refused n i) p = nothing
unmet_finding c (well_formed os) p = object_finding c (summary os) (get_elem? os p)

-- ---- by the bar

-- bars 14, 19, 22 and 23, by the run
unfoldable pub run_finding : Neighbour → (number place : ℕ) → List ℕ → Finding
run_finding c n p bs =
    cond (eqb n 22) (cut_option_finding bs)
    (cond (eqb n 23) (containers_finding bs)
    (cond (eqb n 14) (overrun_finding bs)
    (cond (eqb n 19) (unmet_finding c (read_run bs) p)
    nothing)))

-- bar 11, then 12, then those
unfoldable pub bar_finding : Own → Candidate → (number place : ℕ) → (lent : List ℕ) → Finding
bar_finding own c n p lent =
    cond (eqb n 11) (range_finding own c.neighbour) (cond (outside lent c) (outside_finding c (length lent)) (run_finding c.neighbour n p (run_of lent c)))

-- by the verdict
abbrev pub verdict_finding : Own → Candidate → (lent : List ℕ) → Verdict → Finding
verdict_finding own c lent (Unbarred r) = nothing
verdict_finding own c lent (Barred n p) = bar_finding own c n p lent

-- what was asked of a candidate, and what was found
unfoldable pub finding_of : Own → Candidate → (lent : List ℕ) → Finding
finding_of own c lent = verdict_finding own c lent (verdict own lent c)
