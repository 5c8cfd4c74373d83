-- The types of metrics and constraints in the enum of code, and the model's kind of each.
use Rattle.std.specs.Prelude.{◌≡◌, ℕ}
use Rattle.model.specs.Object.{Kind, unknown, lql, colour, node, scalar, nsa, ne, hp, throughput, latency, etx, kind_of}
use Rattle.wire.specs.declared.metric_type.MetricType.{MetricType}
use Rattle.wire.specs.declared.metric_type.MetricType.TheVariants.{NodeState, NodeEnergy, HopCount, Throughput, Latency, LinkQuality, Etx, LinkColour, Unknown}

-- the model's kind of a type
abbrev pub kind_in : MetricType → Kind
kind_in NodeState = node nsa
kind_in NodeEnergy = node ne
kind_in HopCount = node hp
kind_in Throughput = scalar throughput
kind_in Latency = scalar latency
kind_in LinkQuality = lql
kind_in Etx = scalar etx
kind_in LinkColour = colour
kind_in Unknown = unknown

-- the type that a header's byte names
abbrev pub TypeOf : (mctype : ℕ) → MetricType → Type 0
TypeOf n t = kind_in t ≡ kind_of n
