-- What holds along a whole path: a chain of nodes, each of which chose the one before as parent and passed its objects and rank on.
use Rattle.std.specs.Prelude.{◌≡◌, ℕ, zero, suc, ◌+◌, ◌*◌, ◌/◌, ◌%◌, ◌≤◌, min, max, Bool, true, false, not, List, [], ◌∷◌, map, length, get_or}
use Rattle.std.proofs.Math.Option.{some}
use Rattle.std.proofs.Math.ListN.{get_elem?}
use Rattle.model.specs.declared.Own.{Own}
use Rattle.model.specs.declared.Candidate.{Candidate}
use Rattle.model.specs.Number.{is_set, any_of, number}
use Rattle.model.specs.Object.{Object, field_a, Scalar, throughput, latency, etx, type_of, aggregated, role}
use Rattle.model.specs.Reading.{well_formed}
use Rattle.model.specs.Run.{read_run}
use Rattle.model.specs.Verdict.{run_of}
use Rattle.model.specs.Choice.{Result, call}
use Rattle.model.specs.RoundTrip.{Bytes}
use Rattle.model.specs.Untouched.{PassedOn, passed_on}
use Rattle.model.specs.ReadBack.{LinkWithin}

-- ---- the nodes

-- a hop: what a node's call is given and what it gives back, and the candidate that is its parent
pub record Hop : Type 0 where
  pub own : Own
  pub candidates : List Candidate
  pub lent : List ℕ
  pub out : List ℕ
  pub result : Result
  pub parent : Candidate

-- the result is that of the call, by its definition
abbrev pub ByDefinition : Hop → Type 0
ByDefinition h = h.result ≡ call h.own h.candidates h.lent h.out

-- a node hears objects from a node of a rank, chooses it among any candidates, and passes objects on at its own rank, the next
pub record Joins (Called : Hop → Type 0) (minhop : ℕ) (heard : List Object) (rank : ℕ) (h : Hop) (sent : List Object) (next : ℕ) : Type 0 where
  pub called : Called h
  -- numbers are within their types
  pub energy : h.own.energy ≤ 255
  pub link : LinkWithin h.parent.neighbour
  -- MinHopRankIncrease is that of all
  pub shared : h.own.minhop ≡ minhop
  -- there is a parent, and no leaf answer
  pub passes : PassedOn h.result
  pub chosen : get_elem? h.candidates h.result.answer.parent ≡ some h.parent
  pub hears : read_run (run_of h.lent h.parent) ≡ well_formed heard
  pub advertised : h.parent.neighbour.rank.0 ≡ rank
  pub sends : read_run (passed_on h.result) ≡ well_formed sent
  pub takes : h.result.answer.rank.0 ≡ next

-- a chain from a root's objects and rank to those of its last node, over hops of any number, the latest first
pub data Chain (Called : Hop → Type 0) (minhop : ℕ) (start : List Object) (rank : ℕ) : List Hop → List Object → ℕ → Type 0 where
  root : Chain Called minhop start rank [] start rank
  onward : {hs : List Hop} {heard : List Object} {before : ℕ} → Chain Called minhop start rank hs heard before
      → {h : Hop} {sent : List Object} {next : ℕ} → Joins Called minhop heard before h sent next → Chain Called minhop start rank (h ∷ hs) sent next

-- ---- the values that are aggregated

-- NSA has two, every other metric one
pub data Field : Type 0 where
  aggregator overload energy hops : Field
  link : Scalar → Field

-- the type of its metric
abbrev pub type_at : Field → ℕ
type_at aggregator = 1
type_at overload = 1
type_at energy = 2
type_at hops = 3
type_at (link s) = type_of s

-- the value in a metric's body: NSA's flags, E_E, the hop count, or the number that the body is
abbrev pub value_in : Field → List ℕ → ℕ
value_in aggregator b = get_or b 1 0 / 2 % 2
value_in overload b = get_or b 1 0 % 2
value_in energy b = get_or b 1 0
value_in hops b = get_or b 1 0
value_in (link s) b = number b

-- the local value of a hop: own flags and energy, one hop, the link's number
abbrev pub local_at : Field → Hop → ℕ
local_at aggregator h = h.own.flags / 2 % 2
local_at overload h = h.own.flags % 2
local_at energy h = h.own.energy
local_at hops h = 1
local_at (link throughput) h = h.parent.neighbour.throughput
local_at (link latency) h = h.parent.neighbour.latency
local_at (link etx) h = h.parent.neighbour.etx

-- whether the hop knows it
abbrev pub knows : Field → Hop → Bool
knows aggregator h = true
knows overload h = true
knows energy h = is_set (h.own.flags / 4 % 2)
knows hops h = true
knows (link throughput) h = is_set (h.parent.neighbour.flags / 32 % 2)
knows (link latency) h = is_set (h.parent.neighbour.flags / 16 % 2)
knows (link etx) h = is_set (h.parent.neighbour.flags / 8 % 2)

-- ETX stops at 65535; nothing else is stopped, since a sum that does not fit is a leaf answer
abbrev pub stopped : Field → ℕ → ℕ
stopped aggregator n = n
stopped overload n = n
stopped energy n = n
stopped hops n = n
stopped (link throughput) n = n
stopped (link latency) n = n
stopped (link etx) n = min 65535 n

-- ---- start and local values together

-- by A: 0 adds, 1 takes the larger, 2 the smaller; any other A is a leaf answer
abbrev pub together : (a x v : ℕ) → ℕ
together zero x v = x + v
together (suc zero) x v = max x v
together (suc (suc a)) x v = min x v

-- of the start and all local values, in whole numbers
unfoldable pub along : (a start : ℕ) → List ℕ → ℕ
along a x [] = x
along a x (v ∷ vs) = together a (along a x vs) v

-- the sum of some numbers
unfoldable pub sum_of : List ℕ → ℕ
sum_of [] = 0
sum_of (n ∷ ns) = n + sum_of ns

-- one of some numbers, beside which each of them stands in a relation
pub record Extreme (n : ℕ) (ns : List ℕ) (Beside : ℕ → Type 0) : Type 0 where
  pub index : ℕ
  pub among : get_elem? ns index ≡ some n
  pub others : (i m : ℕ) → get_elem? ns i ≡ some m → Beside m

-- none of them is larger
abbrev pub Largest : ℕ → List ℕ → Type 0
Largest n ns = Extreme n ns (λ m. m ≤ n)

-- none of them is smaller
abbrev pub Smallest : ℕ → List ℕ → Type 0
Smallest n ns = Extreme n ns (λ m. n ≤ m)

-- what such a fold is, by A
pub record Folded (a start : ℕ) (vs : List ℕ) (n : ℕ) : Type 0 where
  pub sum : a ≡ 0 → n ≡ start + sum_of vs
  pub largest : a ≡ 1 → Largest n (start ∷ vs)
  pub smallest : a ≡ 2 → Smallest n (start ∷ vs)

-- of every fold
abbrev pub Folds : Type 0
Folds = (a start : ℕ) (vs : List ℕ) → Folded a start vs (along a start vs)

-- Rf × Sp + Sr of a hop's link
abbrev pub units_at : Hop → ℕ
units_at h = h.parent.neighbour.rf * h.parent.neighbour.sp + h.parent.neighbour.sr

-- ---- the statements

-- a value of an aggregated metric of the root, and of the same metric at the end
pub record Grown (f : Field) (hs : List Hop) (o p : Object) : Type 0 where
  pub same_type : p.type ≡ o.type
  pub same_role : role p ≡ role o
  pub same_a : field_a p ≡ field_a o
  -- behind a hop A is one of those that the fold knows, and every hop knew its local value
  pub operation : 1 ≤ length hs → field_a o ≤ 2
  pub known : any_of (λ h. not (knows f h)) hs ≡ false
  -- the fold, in one equation for every field and A
  pub value : value_in f p.body ≡ stopped f (along (field_a o) (value_in f o.body) (map (local_at f) hs))
  -- and by A: the start and all local values, or the largest or smallest of them
  pub sum : field_a o ≡ 0 → value_in f p.body ≡ stopped f (value_in f o.body + sum_of (map (local_at f) hs))
  pub largest : field_a o ≡ 1 → Largest (value_in f p.body) (value_in f o.body ∷ map (local_at f) hs)
  pub smallest : field_a o ≡ 2 → Smallest (value_in f p.body) (value_in f o.body ∷ map (local_at f) hs)

-- what holds at the end of a chain
pub record AlongPath (minhop : ℕ) (start : List Object) (rank : ℕ) (hs : List Hop) (last : List Object) (end : ℕ) : Type 0 where
  -- every object stands where it stood, by its type
  pub objects : map (λ o. o.type) last ≡ map (λ o. o.type) start
  pub metrics : (f : Field) (i : ℕ) (o p : Object) → get_elem? start i ≡ some o → get_elem? last i ≡ some p → o.type ≡ type_at f → role o ≡ aggregated
      → Grown f hs o p
  -- HP, whatever its A: the starting count plus the number of hops
  pub counts : (i : ℕ) (o p : Object) → get_elem? start i ≡ some o → get_elem? last i ≡ some p → o.type ≡ 3 → role o ≡ aggregated
      → get_or p.body 1 0 ≡ get_or o.body 1 0 + length hs
  pub ranks : end / minhop ≡ rank / minhop + sum_of (map units_at hs)

-- of every chain, of nodes whose calls are told by `Called`, that starts at a well-formed run of bytes
abbrev pub Along : (Called : Hop → Type 0) → Type 0
Along Called = (minhop : ℕ) (bs : List ℕ) (start : List Object) (rank : ℕ) (hs : List Hop) (last : List Object) (end : ℕ)
    → Bytes bs → read_run bs ≡ well_formed start → Chain Called minhop start rank hs last end → AlongPath minhop start rank hs last end

-- at each hop the rank, divided by MinHopRankIncrease and rounded down, rises by Rf × Sp + Sr of its link
abbrev pub Rises : (Called : Hop → Type 0) → Type 0
Rises Called = (minhop : ℕ) (heard : List Object) (rank : ℕ) (h : Hop) (sent : List Object) (next : ℕ)
    → Joins Called minhop heard rank h sent next → next / minhop ≡ rank / minhop + units_at h

-- of the call by its definition
abbrev pub AlongPathHolds : Type 0
AlongPathHolds = Along ByDefinition

abbrev pub RankRises : Type 0
RankRises = Rises ByDefinition
