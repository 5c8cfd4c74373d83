-- A chain of three nodes, computed, so that what the statements on chains ask is seen to be met: an office, which is the root, a pump
-- house, a relay and a sensor. README.md has the same numbers.
use Rattle.std.specs.Prelude.{◌≡◌, ℕ, List, [], ◌∷◌, ◌++◌, length, take, drop}
use Rattle.model.specs.declared.Candidate.{Candidate}
use Rattle.model.specs.Number.{big_endian}
use Rattle.model.specs.Object.{Object, object, container}
use Rattle.model.specs.Reading.{well_formed}
use Rattle.model.specs.Run.{read_run}
use Rattle.model.specs.RoundTrip.{Bytes}
use Rattle.model.specs.Samples.{own_node, neighbour_with, output, candidate, Calling, calling, result_of, passed_by}
use Rattle.model.specs.Chain.{Hop, ByDefinition, Chain}

-- HP, ETX and latency, which are added up; of throughput and energy the smaller (A=2), of NSA's flags the larger (A=1)
abbrev pub metrics : (count etx latency throughput energy flags : ℕ) → List Object
metrics n x l t e f =
    object 3 0x00 0x00 (0x00 ∷ n ∷ [])
    ∷ object 7 0x00 0x00 (big_endian 2 x)
    ∷ object 5 0x00 0x00 (big_endian 4 l)
    ∷ object 4 0x00 0x20 (big_endian 4 t)
    ∷ object 2 0x00 0x20 (0x01 ∷ e ∷ [])
    ∷ object 1 0x00 0x10 (0x00 ∷ f ∷ [])
    ∷ []

-- what the office sends: a count of 1, as the first node must (RFC 6551, section 3.3), and a latency of its own
abbrev pub office : List Object
office = metrics 1 0 1500 1000000 100 0

-- in two containers, with padding before each
abbrev pub office_run : List ℕ
office_run = 0x00 ∷ container (take 2 office) ++ (0x01 ∷ 0x02 ∷ 0x00 ∷ 0x00 ∷ container (drop 2 office))

-- a node's call on the sample output
abbrev pub hop_of : Calling → (parent : Candidate) → Hop
hop_of w c = record { own = w.own; candidates = w.candidates; lent = w.lent; out = output; result = result_of w; parent = c }

-- the pump house, on mains, hears the office: three units, ETX 128, 12,000 microseconds, 250,000 bytes per second
abbrev pub heard_office : Candidate
heard_office = candidate (neighbour_with 256 1 3 0 0 0x38 0 1 128 12000 250000) 0 (length office_run)

abbrev pub pump_house_call : Calling
pump_house_call = calling (own_node 0 0x04 100) (heard_office ∷ []) office_run

abbrev pub pump_house : Hop
pump_house = hop_of pump_house_call heard_office

-- the relay, overloaded and at 35 percent, hears the office too, at nine units; the pump house, behind padding, at four
abbrev pub relay_runs : List ℕ
relay_runs = office_run ++ (0x00 ∷ passed_by pump_house_call)

abbrev pub heard_far_office : Candidate
heard_far_office = candidate (neighbour_with 256 1 9 0 0 0x38 0 7 640 30000 9600) 0 (length office_run)

abbrev pub heard_pump_house : Candidate
heard_pump_house = candidate (neighbour_with 1024 1 4 0 0 0x38 0 2 192 8500 31250) (length office_run) (length (0x00 ∷ passed_by pump_house_call))

abbrev pub relay_call : Calling
relay_call = calling (own_node 1 0x05 35) (heard_far_office ∷ heard_pump_house ∷ []) relay_runs

abbrev pub relay : Hop
relay = hop_of relay_call heard_pump_house

-- the sensor, at 80 percent, hears the relay: 2 × 2 + 1 units
abbrev pub heard_relay : Candidate
heard_relay = candidate (neighbour_with 2048 2 2 1 1 0x38 0 3 256 20000 62500) 0 (length (passed_by relay_call))

abbrev pub sensor : Hop
sensor = hop_of (calling (own_node 2 0x04 80) (heard_relay ∷ []) (passed_by relay_call)) heard_relay

-- a count of 1 and three hops; ETX 128 + 192 + 256; 1,500 + 12,000 + 8,500 + 20,000 microseconds; the smallest throughput and energy;
-- somebody is overloaded
abbrev pub sent : List Object
sent = metrics 4 576 42000 31250 35 1

-- all that is asked of a chain; the rank is 256 and 3 + 4 + 5 units of 256
pub record Three (Called : Hop → Type 0) : Type 0 where
  pub bytes : Bytes office_run
  pub read : read_run office_run ≡ well_formed office
  pub chain : Chain Called 256 office 256 (sensor ∷ relay ∷ pump_house ∷ []) sent 3328

-- of the call by its definition
abbrev pub ThreeHops : Type 0
ThreeHops = Three ByDefinition
