-- The ways to fall short, by number.
use Rattle.std.specs.Prelude.{ℕ}
use Rattle.reason.specs.declared.findings.Way.{Way}
use Rattle.reason.specs.declared.findings.Way.TheVariants.{Sp, Rf, Sr, Lql, NodeType, Colour, Order, Preference, Outside, Header, Body, Aggregator, Overloaded, OtherType, LittleEnergy, UnknownEnergy, BarredType, BarredEnergy, BarredUnknown, Hops, UnknownHops, Throughput, UnknownThroughput, Latency, PathLatency, UnknownLatency, Etx, PathEtx, UnknownEtx, Quality, UnknownQuality, LacksColour, HasColour, Option, OptionData, Containers}

-- a way's number
abbrev pub number_of : Way → ℕ
number_of Sp = 1
number_of Rf = 2
number_of Sr = 3
number_of Lql = 4
number_of NodeType = 5
number_of Colour = 6
number_of Order = 7
number_of Preference = 8
number_of Outside = 9
number_of Header = 13
number_of Body = 14
number_of Aggregator = 15
number_of Overloaded = 16
number_of OtherType = 17
number_of LittleEnergy = 18
number_of UnknownEnergy = 19
number_of BarredType = 20
number_of BarredEnergy = 21
number_of BarredUnknown = 22
number_of Hops = 23
number_of UnknownHops = 24
number_of Throughput = 25
number_of UnknownThroughput = 26
number_of Latency = 27
number_of PathLatency = 28
number_of UnknownLatency = 29
number_of Etx = 30
number_of PathEtx = 31
number_of UnknownEtx = 32
number_of Quality = 33
number_of UnknownQuality = 34
number_of LacksColour = 35
number_of HasColour = 36
number_of Option = 37
number_of OptionData = 38
number_of Containers = 39
