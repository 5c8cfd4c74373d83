-- Numbers, objects and calls from which the tables of examples are made.
use Rattle.std.specs.Prelude.{◌≡◌, ℕ, List, [], ◌∷◌, ◌++◌, map, length, drop, replicate, get_or}
use Prim.Native.Char.{code}
use Prim.Native.String.{String, [] as no_text, ◌∷◌ as ◌then◌}
use Rattle.model.specs.declared.Own.{Own}
use Rattle.model.specs.declared.Neighbour.{Neighbour}
use Rattle.model.specs.declared.Candidate.{Candidate}
use Rattle.model.specs.Choice.{Result, call}
use Rattle.model.specs.Untouched.{passed_on}

-- ---- tables

-- a row: what is given, and what document 01 says of it
pub record Example (A B : Type 0) : Type 0 where
  pub given : A
  pub said : B

-- a row
infix 80 ◌gives◌
abbrev pub ◌gives◌ : {A B : Type 0} → A → B → Example A B
a gives b = record { given = a; said = b }

-- every row of a table holds of `f`
abbrev pub Holds : {A B : Type 0} → (A → B) → List (Example A B) → Type 0
Holds f table = map (λ r. f r.given) table ≡ map (λ r. r.said) table

-- ---- own numbers

-- own numbers in an edition
abbrev pub own_as : (edition minhop maxincrease lowest nodetype flags energy current : ℕ) → Own
own_as d m x l t f e p = record { minhop = m; maxincrease = x; lowest = record { 0 = l }; nodetype = t; flags = f; energy = e; current = p; edition = d }

-- own numbers in edition 1
abbrev pub own_with : (minhop maxincrease lowest nodetype flags energy current : ℕ) → Own
own_with = own_as 1

-- MinHopRankIncrease 256, DAGMaxRankIncrease 0, type 0, no flag; energy, L and current parent not given
abbrev pub own0 : Own
own0 = own_with 256 0 0 0 0x00 0 0

-- with L given
abbrev pub own_limits : (minhop maxincrease lowest : ℕ) → Own
own_limits m x l = own_with m x l 0 0x08 0 0

-- flags: 0x01 overloaded, 0x02 aggregator, 0x04 energy is known
abbrev pub own_node : (nodetype flags energy : ℕ) → Own
own_node t f e = own_with 256 0 0 t f e 0

-- with the current parent's position given
abbrev pub own_current : (position : ℕ) → Own
own_current p = own_with 256 0 0 0 0x10 0 p

-- own0 in an edition; flag 0x10: the current parent's position is given
abbrev pub own_in : (edition flags current : ℕ) → Own
own_in d f p = own_as d 256 0 0 0 f 0 p

-- ---- a neighbour's numbers

-- a neighbour's numbers, the formula's first
abbrev pub neighbour_with : (rank rf sp sr nodetype flags energy lql etx latency throughput : ℕ) → Neighbour
neighbour_with r rf sp sr t f e q x l p =
    record { rank = record { 0 = r }; sp = sp; rf = rf; sr = sr; nodetype = t; flags = f; energy = e; lql = q; etx = x; latency = l; throughput = p; colour = 0; order = 0; preference = 0 }

-- the formula's numbers
abbrev pub ranked : (rank rf sp sr : ℕ) → Neighbour
ranked r rf sp sr = neighbour_with r rf sp sr 0 0x00 0 0 0 0 0

-- rank 256 and one unit; type 0, no flag, LQL 0, nothing known
abbrev pub neighbour0 : Neighbour
neighbour0 = ranked 256 1 1 0

-- flags: 0x01 overloaded, 0x02 aggregator, 0x04 energy is known
abbrev pub node_of : (nodetype flags energy : ℕ) → Neighbour
node_of t f e = neighbour_with 256 1 1 0 t f e 0 0 0 0

-- flags: 0x08 etx is known, 0x10 latency is known, 0x20 throughput is known
abbrev pub link_of : (flags lql etx latency throughput : ℕ) → Neighbour
link_of f q x l p = neighbour_with 256 1 1 0 0 f 0 q x l p

-- a link of known ETX
abbrev pub etx_of : (value : ℕ) → Neighbour
etx_of v = link_of 0x08 0 v 0 0

-- a link of known latency
abbrev pub latency_of : (value : ℕ) → Neighbour
latency_of v = link_of 0x10 0 0 v 0

-- a link of known throughput
abbrev pub throughput_of : (value : ℕ) → Neighbour
throughput_of v = link_of 0x20 0 0 0 v

-- a link of this LQL
abbrev pub lql_of : (value : ℕ) → Neighbour
lql_of v = link_of 0x00 v 0 0 0

-- a neighbour one unit away, of type 0, nothing of whose link is known but its colour
abbrev pub plain : (rank flags colour order preference : ℕ) → Neighbour
plain r f v o p =
    record { rank = record { 0 = r }; sp = 1; rf = 1; sr = 0; nodetype = 0; flags = f; energy = 0; lql = 0; etx = 0; latency = 0; throughput = 0; colour = v; order = o; preference = p }

-- a link of this colour
abbrev pub colour_of : (value : ℕ) → Neighbour
colour_of v = plain 256 0x00 v 0 0

-- what edition 2 reads, with a rank; flag 0x40: grounded
abbrev pub sited : (order flags preference rank : ℕ) → Neighbour
sited o f p r = plain r f 0 o p

-- ---- bytes

-- a container with these bytes of data
abbrev pub holding : (data' : List ℕ) → List ℕ
holding bs = 0x02 ∷ length bs ∷ bs

-- a container without objects
abbrev pub empty : List ℕ
empty = 0x02 ∷ 0x00 ∷ []

-- the bytes of one object
abbrev pub one : (type flags mode : ℕ) → (body : List ℕ) → List ℕ
one t f m b = t ∷ f ∷ m ∷ length b ∷ b

-- the bytes of a text in ASCII
abbrev pub ascii : String → List ℕ
ascii no_text = []
ascii (c then t) = code c ∷ ascii t

-- the lent output: as short as it may be, none of its bytes a container's first
abbrev pub output : List ℕ
output = replicate 2056 0xAA

-- ---- calls

-- a neighbour whose container stands at a start, with a size
abbrev pub candidate : Neighbour → (start size : ℕ) → Candidate
candidate c s n = record { neighbour = c; start = s; size = n }

-- a call with candidates and a lent run
pub record Calling : Type 0 where
  pub own : Own
  pub candidates : List Candidate
  pub lent : List ℕ

-- a call from its parts
abbrev pub calling : Own → List Candidate → (lent : List ℕ) → Calling
calling own cs lent = record { own = own; candidates = cs; lent = lent }

-- one candidate, whose container is the whole lent run
abbrev pub single : Own → Neighbour → (lent : List ℕ) → Calling
single own c lent = calling own (candidate c 0 (length lent) ∷ []) lent

-- one candidate, whose container has these bytes of data
abbrev pub hop : Own → Neighbour → (data' : List ℕ) → Calling
hop own c bs = single own c (holding bs)

-- the result of a call on the sample output
abbrev pub result_of : Calling → Result
result_of w = call w.own w.candidates w.lent output

-- the verdict on the first candidate
abbrev pub verdict_of : Calling → ℕ
verdict_of w = get_or (result_of w).answer.verdicts 0 0

-- the container passed on
abbrev pub passed_by : Calling → List ℕ
passed_by w = passed_on (result_of w)

-- ---- what a call tells

-- a whole result but for the places
pub record Outcome : Type 0 where
  pub refusal : ℕ
  pub parent : ℕ
  pub rank : ℕ
  pub verdicts : List ℕ
  pub bits : ℕ
  pub count : ℕ
  pub leaf : ℕ
  pub size : ℕ
  pub output : List ℕ

-- what a result tells
abbrev pub outcome : Result → Outcome
outcome r = record {
  refusal = r.answer.refusal;
  parent = r.answer.parent;
  rank = r.answer.rank.0;
  verdicts = r.answer.verdicts;
  bits = r.answer.bits;
  count = r.answer.count;
  leaf = r.answer.leaf;
  size = r.answer.size;
  output = r.output;
}

-- what a call tells
abbrev pub outcome_of : Calling → Outcome
outcome_of w = outcome (result_of w)

-- a refused call: no parent is 255, no rank 65535
abbrev pub refused_with : (number : ℕ) → (output : List ℕ) → Outcome
refused_with n out =
    record { refusal = n; parent = 255; rank = 65535; verdicts = replicate 16 0; bits = 0; count = 0; leaf = 0; size = 0; output = out }

-- no unbarred candidate
abbrev pub nobody : (verdicts : List ℕ) → Outcome
nobody vs = record { refusal = 0; parent = 255; rank = 65535; verdicts = vs; bits = 0; count = 0; leaf = 0; size = 0; output = output }

-- a parent, and the container passed on in the first output bytes
abbrev pub chosen : (parent rank : ℕ) → (verdicts : List ℕ) → (bits count : ℕ) → (passed : List ℕ) → Outcome
chosen p r vs b n bs =
    record { refusal = 0; parent = p; rank = r; verdicts = vs; bits = b; count = n; leaf = 0; size = length bs; output = bs ++ drop (length bs) output }

-- a parent with a leaf answer
abbrev pub stopped : (parent rank : ℕ) → (verdicts : List ℕ) → (bits count leaf : ℕ) → Outcome
stopped p r vs b n l = record { refusal = 0; parent = p; rank = r; verdicts = vs; bits = b; count = n; leaf = l; size = 0; output = output }
