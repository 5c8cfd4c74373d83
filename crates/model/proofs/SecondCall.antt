-- Demand 3's second call exists: the cut containers one behind the other.
use mathlib.Core.Path.{◌≡◌, refl}
use Prim.Native.Nat.{ℕ, zero, suc, ◌+◌, ◌≤◌, ◌<◌}
use mathlib.Core.List.{List, [], ◌∷◌, ◌++◌, map}
use mathlib.Core.Option.{some, none-ne-some}
use native.Mathlib.Omega.{arith}
use lib.ListN.{length, length-append, get_elem?}
use lib.Seq.{take-append_seam, drop-append-add}
use borrow.Author.Tests.{ltb-false, le-ltb}
use Rattle.model.specs.declared.Candidate.{Candidate}
use Rattle.model.specs.Verdict.{run_of}
use Rattle.model.specs.Run.{cut_run}
use Rattle.model.specs.Unknown.{Each, nil, cons, WellFormed, CutBeside, EndToEnd, SecondCallExists}

-- a candidate with its container at the head of the lent run, and one with bytes put before the run
abbrev at_head : List ℕ → Candidate → Candidate
at_head bs c = record { neighbour = c.neighbour; start = 0; size = length bs }

abbrev behind : (count : ℕ) → Candidate → Candidate
behind n c = record { neighbour = c.neighbour; start = n + c.start; size = c.size }

head_beside : (lent rest : List ℕ) (c : Candidate) → WellFormed lent c
    → CutBeside lent (cut_run (run_of lent c) ++ rest) c (at_head (cut_run (run_of lent c)) c)
head_beside lent rest c w =
    let bs = cut_run (run_of lent c) in
    record {
      whole = w;
      numbers = refl;
      inside = le-ltb (length (bs ++ rest)) (0 + length bs) (simp length-append (omega arith));
      cut = take-append_seam bs rest;
    }

behind_beside : (lent bs rest : List ℕ) (cs ds : List Candidate) → Each (CutBeside lent rest) cs ds → Each (CutBeside lent (bs ++ rest)) cs (map (behind (length bs)) ds)
behind_beside lent bs rest cs ds nil = nil
behind_beside lent bs rest cs ds (cons {b = d} {s = cs'} {t = ds'} x xs) =
    let h = ltb-false (length rest) (d.start + d.size) x.inside in
    cons
    record {
      whole = x.whole;
      numbers = x.numbers;
      inside = le-ltb (length (bs ++ rest)) (length bs + d.start + d.size) (simp length-append (omega arith));
      cut = rw drop-append-add x.cut;
    }
    (behind_beside lent bs rest cs' ds' xs)

-- ---- bytes of their own

-- containers end to end, with bytes put before their run
behind_ends : (n from end : ℕ) (cs : List Candidate) → EndToEnd from end cs → EndToEnd (from + n) (n + end) (map (behind n) cs)
behind_ends n from end [] e = omega arith
behind_ends n from end (c ∷ cs) e =
    let q : from + c.size + n ≡ from + n + c.size = omega arith in
    (omega (arith, e.0), rw q at (behind_ends n (from + c.size) end cs e.1))

-- each begins no earlier than the first index
begins_from : (from end : ℕ) (cs : List Candidate) → EndToEnd from end cs → (j : ℕ) (d : Candidate) → get_elem? cs j ≡ some d → from ≤ d.start
begins_from from end [] e j d q = absurd (none-ne-some d q)
begins_from from end (c ∷ cs) e zero d q = let s : c ≡ d = cc in let t : d.start ≡ from = rw s at e.0 in omega arith
begins_from from end (c ∷ cs) e (suc j) d q = let h = begins_from (from + c.size) end cs e.1 j d q in omega arith

ends_apart : (from end : ℕ) (cs : List Candidate) → EndToEnd from end cs
    → (i j : ℕ) (c d : Candidate) → i < j → get_elem? cs i ≡ some c → get_elem? cs j ≡ some d → c.start + c.size ≤ d.start
ends_apart from end [] e i j c d l p q = absurd (none-ne-some c p)
ends_apart from end (x ∷ cs) e i zero c d l p q = absurd (omega arith)
ends_apart from end (x ∷ cs) e zero (suc j) c d l p q =
    let s : x ≡ c = cc in
    let t : c.start ≡ from = rw s at e.0 in
    let h : from + c.size ≤ d.start = rw s at (begins_from (from + x.size) end cs e.1 j d q) in
    omega arith
ends_apart from end (x ∷ cs) e (suc i) (suc j) c d l p q = ends_apart (from + x.size) end cs e.1 i j c d (omega arith) p q

-- the cut containers one behind the other
beside_all : (cs : List Candidate) (lent : List ℕ) → ((i : ℕ) (c : Candidate) → get_elem? cs i ≡ some c → WellFormed lent c)
    → (ds : List Candidate) × (rest : List ℕ) × Each (CutBeside lent rest) cs ds × EndToEnd 0 (length rest) ds
beside_all [] lent w = ([], [], nil, refl)
beside_all (c ∷ cs) lent w =
    let (ds, rest, e, t) = beside_all cs lent (λ i. w (suc i)) in
    let bs = cut_run (run_of lent c) in (
      at_head bs c ∷ map (behind (length bs)) ds,
      bs ++ rest,
      cons (head_beside lent rest c (w 0 c refl)) (behind_beside lent bs rest cs ds e),
      (refl, rw (length-append bs rest) (behind_ends (length bs) 0 (length rest) ds t)),
    )

pub second_call : SecondCallExists
second_call cs lent w =
    let (ds, rest, e, t) = beside_all cs lent w in
    record { candidates = ds; bytes = rest; beside = e; own = record { end_to_end = t; apart = ends_apart 0 (length rest) ds t } }
