use Rattle.model.specs.Constraint.{met}
use Rattle.wire.proofs.NumberLaws.{number_two, number_four}
use Rattle.verdict.proofs.constraints.is_met.Goals as goal

pub returns-in-NodeState-len2-up : goal.returns-in-NodeState-len2-up
unfolding met
returns-in-NodeState-len2-up c = rw c.in-NodeState-len2-up.is-0 c.meets_nsa.ensures

pub returns-in-NodeEnergy-len2-up : goal.returns-in-NodeEnergy-len2-up
unfolding met
returns-in-NodeEnergy-len2-up c = rw c.in-NodeEnergy-len2-up.is-0 c.meets_ne.ensures

pub returns-in-HopCount-len2-up : goal.returns-in-HopCount-len2-up
unfolding met
returns-in-HopCount-len2-up c = rw c.in-HopCount-len2-up.is-0 c.meets_hp.ensures

pub returns-in-Throughput-len4 : goal.returns-in-Throughput-len4
unfolding met
returns-in-Throughput-len4 c =
    let n = number_four c.args.body.now c.in-Throughput-len4.len_at_least c.in-Throughput-len4.len_below in
    rw (c.in-Throughput-len4.is-0, ← n, ← c.from_be_bytes.ensures) c.meets_throughput.ensures

pub returns-in-Latency-len4 : goal.returns-in-Latency-len4
unfolding met
returns-in-Latency-len4 c =
    let n = number_four c.args.body.now c.in-Latency-len4.len_at_least c.in-Latency-len4.len_below in
    rw (c.in-Latency-len4.is-0, ← n, ← c.from_be_bytes-in-Latency-len4.ensures) c.meets_latency.ensures

pub returns-in-LinkQuality-len2-up : goal.returns-in-LinkQuality-len2-up
unfolding met
returns-in-LinkQuality-len2-up c = rw c.in-LinkQuality-len2-up.is-0 c.meets_lql.ensures

pub returns-in-Etx-len2 : goal.returns-in-Etx-len2
unfolding met
returns-in-Etx-len2 c =
    let n = number_two c.args.body.now c.in-Etx-len2.len_at_least c.in-Etx-len2.len_below in
    rw (c.in-Etx-len2.is-0, ← n, ← c.from_be_bytes-in-Etx-len2.ensures) c.meets_etx.ensures

pub returns-in-LinkColour-len3-up : goal.returns-in-LinkColour-len3-up
unfolding met
returns-in-LinkColour-len3-up c = rw c.in-LinkColour-len3-up.is-0 c.meets_colour.ensures

pub returns-in_default-12 : goal.returns-in_default-12
unfolding met
returns-in_default-12 c = rw c.in_default.is-0
