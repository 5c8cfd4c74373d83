-- The call: refusals, the choice of a preferred parent, and the answer with the output bytes.
use Rattle.std.specs.Prelude.{ℕ, zero, suc, ◌+◌, ◌-◌, ◌*◌, ◌/◌, ◌%◌, Bool, false, cond, not, ◌&&◌, ◌||◌, List, [], ◌∷◌, ◌++◌, map, length, drop, replicate, leb, ltb, eqb}
use Rattle.std.proofs.Math.Option.{Option, none, some}
use Rattle.std.proofs.Math.ListN.{get_elem?}
use Rattle.std.specs.Int.Count.{ones}
use Rattle.model.specs.Number.{Quantity}
use Rattle.model.specs.declared.Rank.{Rank}
use Rattle.model.specs.declared.Offer.{Offer}
use Rattle.model.specs.declared.Own.{Own}
use Rattle.model.specs.declared.Neighbour.{Neighbour}
use Rattle.model.specs.declared.Candidate.{Candidate}
use Rattle.model.specs.Verdict.{Verdict}
use Rattle.model.specs.Verdict.{Unbarred, Barred}
use Rattle.model.specs.declared.Answer.{Answer}
use Rattle.model.specs.declared.Parent as code
use Rattle.std.specs.Prelude as std
use Rattle.model.specs.Number.{known_if, satisfies, Case, ◌when◌, first_case}
use Rattle.model.specs.Reading.{no_place, Reading, refused, well_formed}
use Rattle.model.specs.Run.{read_run}
use Rattle.model.specs.Pack.{packed}
use Rattle.model.specs.Rank.{infinite}
use Rattle.model.specs.Verdict.{run_of, verdict, number_of, place_of}
use Rattle.model.specs.Update.{update, leaf_answer}

-- the preferred parent, where there is one
pub data Choice : Type 0 where
  Nobody : Choice
  Parent : (position : ℕ) → Offer → Choice

-- the parent that code has in its Option
abbrev pub choice_in : std.Option code.Parent → Choice
choice_in std.None = Nobody
choice_in (std.Some p) = Parent p.position p.offer

-- ---- refusals

-- 1: MinHopRankIncrease is 0, or own type above 3
unfoldable pub bad_own : Own → Bool
bad_own own = eqb own.minhop 0 || ltb 3 own.nodetype

-- 2: more than 16 candidates
abbrev pub too_many : (count : ℕ) → Bool
too_many n = ltb 16 n

-- the current parent's position
abbrev pub current_of : Own → Quantity
current_of own = known_if (own.flags / 16 % 2) own.current

-- 3: current position given and not below the count
abbrev pub current_past : Own → (count : ℕ) → Bool
current_past own n = satisfies (λ p. leb n p) (current_of own)

-- 4: output shorter than 2,056 bytes
abbrev pub short_output : (room : ℕ) → Bool
short_output m = ltb m 2056

-- 5: edition other than 1 or 2
abbrev pub bad_edition : Own → Bool
bad_edition own = not (eqb own.edition 1 || eqb own.edition 2)

-- the refusals in document 01's order
abbrev pub refusal_cases : Own → (count room : ℕ) → List Case
refusal_cases own n m = 1 when bad_own own ∷ 2 when too_many n ∷ 3 when current_past own n ∷ 4 when short_output m ∷ 5 when bad_edition own ∷ []

-- the whole-call refusal; 0 for none
unfoldable pub refusal : Own → (count room : ℕ) → ℕ
refusal own n m = first_case (refusal_cases own n m)

-- ---- the choice

-- 0 for the current parent, 1 for any other
abbrev pub not_current : (current : Quantity) → (position : ℕ) → ℕ
not_current q p = cond (satisfies (λ i. eqb i p) q) 0 1

-- what candidates are compared by, in order: interface order, grounded, root preference, resulting rank, being the current parent, position
abbrev pub criteria : (current : Quantity) → (position : ℕ) → Offer → List ℕ
criteria q p r = r.ahead / 16 ∷ r.ahead / 8 % 2 ∷ r.ahead % 8 ∷ r.rank.0 ∷ not_current q p ∷ p ∷ []

-- the first criterion on which two differ is lower
unfoldable pub precedes : List ℕ → List ℕ → Bool
precedes [] ys = false
precedes (x ∷ xs) [] = false
precedes (x ∷ xs) (y ∷ ys) = ltb x y || eqb x y && precedes xs ys

-- an unbarred candidate beside the best so far
abbrev pub preferred : (current : Quantity) → Choice → (position : ℕ) → Offer → Choice
preferred q Nobody p r = Parent p r
preferred q (Parent b s) p r = cond (precedes (criteria q p r) (criteria q b s)) (Parent p r) (Parent b s)

-- a verdict beside the best so far: a barred candidate changes nothing
abbrev pub after_verdict : (current : Quantity) → Choice → (position : ℕ) → Verdict → Choice
after_verdict q b p (Unbarred r) = preferred q b p r
after_verdict q b p (Barred n i) = b

-- the best so far, and the verdicts from a position on
unfoldable pub choose_from : (current : Quantity) → Choice → (position : ℕ) → List Verdict → Choice
choose_from q b p [] = b
choose_from q b p (v ∷ vs) = choose_from q (after_verdict q b p v) (suc p) vs

-- the preferred parent
abbrev pub choose : (current : Quantity) → List Verdict → Choice
choose q vs = choose_from q Nobody 0 vs

-- a candidate's bit
abbrev pub unbarred_bit : Verdict → ℕ
unbarred_bit (Unbarred r) = 1
unbarred_bit (Barred n i) = 0

-- one bit per candidate, the lowest for position 0
unfoldable pub bits_of : List Verdict → ℕ
bits_of [] = 0
bits_of (v ∷ vs) = unbarred_bit v + 2 * bits_of vs

-- ---- the container to send on

-- no container, for want of a parent (0) or by a leaf answer; or the container for the next hop
pub data Outgoing : Type 0 where
  no_container : (leaf : ℕ) → Outgoing
  next_hop : List ℕ → Outgoing

-- a leaf answer withholds the container
abbrev pub unless_leaf : (leaf : ℕ) → List ℕ → Outgoing
unless_leaf zero bs = next_hop bs
unless_leaf (suc n) bs = no_container (suc n)

-- for a parent whose container is read; a refused container has no unbarred candidate
abbrev pub outgoing_read : Own → Neighbour → Reading → Outgoing
outgoing_read own c (refused n i) = no_container 0
outgoing_read own c (well_formed os) = unless_leaf (leaf_answer own c os) (packed (update own c os))

-- for the candidate at the parent's position
abbrev pub outgoing_at : Own → (lent : List ℕ) → Option Candidate → Outgoing
outgoing_at own lent none = no_container 0
outgoing_at own lent (some c) = outgoing_read own c.neighbour (read_run (run_of lent c))

-- what the chosen parent has the node send on
unfoldable pub outgoing : Own → List Candidate → (lent : List ℕ) → Choice → Outgoing
outgoing own cs lent Nobody = no_container 0
outgoing own cs lent (Parent p r) = outgoing_at own lent (get_elem? cs p)

-- ---- the answer

-- the parent's position where there is none
abbrev pub no_parent : ℕ
no_parent = 255

-- the parent's position that is reported
abbrev pub parent_of : Choice → ℕ
parent_of Nobody = no_parent
parent_of (Parent p r) = p

-- the node's rank that is reported: the parent's resulting rank, infinite for none
abbrev pub rank_of : Choice → Rank
rank_of Nobody = record { 0 = infinite }
rank_of (Parent p r) = r.rank

-- the leaf number that is reported: 0 where no leaf answer is given
abbrev pub leaf_of : Outgoing → ℕ
leaf_of (no_container n) = n
leaf_of (next_hop bs) = 0

-- the length that is reported
abbrev pub size_of : Outgoing → ℕ
size_of (no_container n) = 0
size_of (next_hop bs) = length bs

-- the lent output: untouched, or with the container in its first bytes
abbrev pub output_of : Outgoing → List ℕ → List ℕ
output_of (no_container n) out = out
output_of (next_hop bs) out = bs ++ drop (length bs) out

-- positions past the count have a value of their own
abbrev pub sixteen : (past : ℕ) → List ℕ → List ℕ
sixteen x ns = ns ++ replicate (16 - length ns) x

-- what a call gives back: the answer, and the lent output as it is left
pub record Result : Type 0 where
  pub answer : Answer
  pub output : List ℕ

-- the result of a call that is not refused
abbrev pub answered : List Verdict → Choice → Outgoing → List ℕ → Result
answered vs choice o out = record {
  answer = record {
    refusal = 0;
    parent = parent_of choice;
    rank = rank_of choice;
    verdicts = sixteen 0 (map number_of vs);
    places = sixteen no_place (map place_of vs);
    bits = bits_of vs;
    count = ones (bits_of vs);
    leaf = leaf_of o;
    size = size_of o;
  };
  output = output_of o out;
}

-- the result of a refused call: the number, and nothing else
abbrev pub refused_by : (number : ℕ) → List ℕ → Result
refused_by n out = record {
  answer = record {
    refusal = n;
    parent = no_parent;
    rank = record { 0 = infinite };
    verdicts = replicate 16 0;
    places = replicate 16 no_place;
    bits = 0;
    count = 0;
    leaf = 0;
    size = 0;
  };
  output = out;
}

-- the verdicts by position
abbrev pub verdicts : Own → List Candidate → (lent : List ℕ) → List Verdict
verdicts own cs lent = map (verdict own lent) cs

-- the choice among the candidates
abbrev pub choice_of : Own → List Candidate → (lent : List ℕ) → Choice
choice_of own cs lent = choose (current_of own) (verdicts own cs lent)

-- a refusal takes the place of the result
abbrev pub unless_refused : (refusal : ℕ) → Result → List ℕ → Result
unless_refused zero r out = r
unless_refused (suc n) r out = refused_by (suc n) out

-- the whole call, on the lent run of bytes and the lent output
unfoldable pub call : Own → List Candidate → (lent out : List ℕ) → Result
call own cs lent out =
    unless_refused (refusal own (length cs) (length out)) (answered (verdicts own cs lent) (choice_of own cs lent) (outgoing own cs lent (choice_of own cs lent)) out) out
