-- Along a whole path: each field's values on the chain of three nodes, the folds, and where a value stops.
use Rattle.std.specs.Prelude.{ℕ, Bool, true, false, List, [], ◌∷◌, map, get_or}
use Rattle.model.specs.Object.{object, throughput, latency, etx}
use Rattle.model.specs.Samples.{Example, ◌gives◌, own_node, link_of, candidate, calling}
use Rattle.model.specs.Chain.{Hop, Field, aggregator, overload, energy, hops, link, value_in, local_at, knows, stopped, along}
use Rattle.model.specs.ThreeHops.{office, pump_house, relay, sensor, sent, hop_of}

-- ---- the chain of three nodes

-- a field, and the index of its metric in the containers of the chain
pub record At : Type 0 where
  pub field : Field
  pub index : ℕ

abbrev pub at : Field → (index : ℕ) → At
at f i = record { field = f; index = i }

-- its value at the root, at the end, and the local values, the latest first
abbrev pub values_of : At → List ℕ
values_of x =
    value_in x.field (get_or office x.index (object 0 0 0 [])).body
    ∷ value_in x.field (get_or sent x.index (object 0 0 0 [])).body
    ∷ map (local_at x.field) (sensor ∷ relay ∷ pump_house ∷ [])

abbrev pub fields : List (Example At (List ℕ))
fields =
    at hops 0 gives (1 ∷ 4 ∷ 1 ∷ 1 ∷ 1 ∷ [])
    ∷ at (link etx) 1 gives (0 ∷ 576 ∷ 256 ∷ 192 ∷ 128 ∷ [])
    ∷ at (link latency) 2 gives (1500 ∷ 42000 ∷ 20000 ∷ 8500 ∷ 12000 ∷ [])
    ∷ at (link throughput) 3 gives (1000000 ∷ 31250 ∷ 62500 ∷ 31250 ∷ 250000 ∷ [])
    ∷ at energy 4 gives (100 ∷ 35 ∷ 80 ∷ 35 ∷ 100 ∷ [])
    ∷ at aggregator 5 gives (0 ∷ 0 ∷ 0 ∷ 0 ∷ 0 ∷ [])
    ∷ at overload 5 gives (0 ∷ 1 ∷ 0 ∷ 1 ∷ 0 ∷ [])
    ∷ []

-- Rf × Sp + Sr of its links
abbrev pub units : List (Example Hop ℕ)
units = pump_house gives 3 ∷ relay gives 4 ∷ sensor gives 5 ∷ []

-- ---- which flag says that a value is known: 0x04 of the own ones, 0x08, 0x10 and 0x20 of the link's

-- a field, own flags and the link's
pub record Flags : Type 0 where
  pub field : Field
  pub own : ℕ
  pub link : ℕ

abbrev pub flags : Field → (own link : ℕ) → Flags
flags f o l = record { field = f; own = o; link = l }

abbrev pub known_by : Flags → Bool
known_by x = knows x.field (hop_of (calling (own_node 0 x.own 0) [] []) (candidate (link_of x.link 0 0 0 0) 0 0))

abbrev pub knowing : List (Example Flags Bool)
knowing =
    flags energy 0x04 0x00 gives true
    ∷ flags energy 0xFB 0xFF gives false
    ∷ flags (link etx) 0x00 0x08 gives true
    ∷ flags (link etx) 0xFF 0xF7 gives false
    ∷ flags (link latency) 0x00 0x10 gives true
    ∷ flags (link latency) 0xFF 0xEF gives false
    ∷ flags (link throughput) 0x00 0x20 gives true
    ∷ flags (link throughput) 0xFF 0xDF gives false
    ∷ flags hops 0x00 0x00 gives true
    ∷ flags aggregator 0x00 0x00 gives true
    ∷ flags overload 0x00 0x00 gives true
    ∷ []

-- ---- start and local values together

-- A, the start, and local values
pub record Fold : Type 0 where
  pub a : ℕ
  pub start : ℕ
  pub locals : List ℕ

abbrev pub fold : (a start : ℕ) → List ℕ → Fold
fold a x vs = record { a = a; start = x; locals = vs }

abbrev pub folded : Fold → ℕ
folded x = along x.a x.start x.locals

abbrev pub folds : List (Example Fold ℕ)
folds =
    -- no hop: the start, whatever A is
    fold 0 5 [] gives 5
    ∷ fold 1 5 [] gives 5
    ∷ fold 2 5 [] gives 5
    -- the sum; the largest and the smallest, where that is the start, the first, one between, and the last
    ∷ fold 0 5 (1 ∷ 0 ∷ 7 ∷ []) gives 13
    ∷ fold 0 65535 (1 ∷ 1 ∷ []) gives 65537
    ∷ fold 1 5 (1 ∷ 4 ∷ 2 ∷ []) gives 5
    ∷ fold 1 5 (1 ∷ 4 ∷ 6 ∷ []) gives 6
    ∷ fold 1 5 (1 ∷ 6 ∷ 2 ∷ []) gives 6
    ∷ fold 1 5 (6 ∷ 4 ∷ 2 ∷ []) gives 6
    ∷ fold 2 5 (9 ∷ 6 ∷ 8 ∷ []) gives 5
    ∷ fold 2 5 (9 ∷ 6 ∷ 4 ∷ []) gives 4
    ∷ fold 2 5 (9 ∷ 4 ∷ 8 ∷ []) gives 4
    ∷ fold 2 5 (4 ∷ 6 ∷ 8 ∷ []) gives 4
    ∷ []

abbrev pub sums : List (Example (List ℕ) ℕ)
sums = [] gives 0 ∷ (7 ∷ []) gives 7 ∷ (1 ∷ 0 ∷ 65535 ∷ []) gives 65536 ∷ []

-- ---- where a value stops

-- a field and a whole number
pub record Whole : Type 0 where
  pub field : Field
  pub number : ℕ

abbrev pub whole : Field → (number : ℕ) → Whole
whole f n = record { field = f; number = n }

abbrev pub stopped_at : Whole → ℕ
stopped_at x = stopped x.field x.number

abbrev pub stops : List (Example Whole ℕ)
stops =
    whole (link etx) 65534 gives 65534
    ∷ whole (link etx) 65535 gives 65535
    ∷ whole (link etx) 65536 gives 65535
    ∷ whole (link latency) 4294967296 gives 4294967296
    ∷ whole (link throughput) 4294967296 gives 4294967296
    ∷ whole hops 256 gives 256
    ∷ whole energy 256 gives 256
    ∷ whole aggregator 2 gives 2
    ∷ whole overload 2 gives 2
    ∷ []
