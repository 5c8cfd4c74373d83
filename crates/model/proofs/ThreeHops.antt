-- The chain of three nodes, computed.
use mathlib.Core.Path.{refl}
use native.Mathlib.Omega.{arith}
use Rattle.model.specs.Chain.{Hop, Joins, ByDefinition, root, onward}
use Rattle.model.specs.ThreeHops.{metrics, office, pump_house, relay, sensor, sent, Three, ThreeHops}
use Rattle.model.proofs.Computed.{model}

-- by whatever tells a call's result
module _ (Called : Hop → Type 0) (of : (h : Hop) → ByDefinition h → Called h) where
  first : Joins Called 256 office 256 pump_house (metrics 2 128 13500 250000 100 0) 1024
  unfolding model
  first = record {
    called = of pump_house refl;
    energy = omega arith;
    link = record { etx = omega arith; latency = omega arith; throughput = omega arith };
    shared = refl;
    passes = record { unrefused = refl; parent = refl; no_leaf = refl };
    chosen = refl;
    hears = refl;
    advertised = refl;
    sends = refl;
    takes = refl;
  }

  second : Joins Called 256 (metrics 2 128 13500 250000 100 0) 1024 relay (metrics 3 320 22000 31250 35 1) 2048
  unfolding model
  second = record {
    called = of relay refl;
    energy = omega arith;
    link = record { etx = omega arith; latency = omega arith; throughput = omega arith };
    shared = refl;
    passes = record { unrefused = refl; parent = refl; no_leaf = refl };
    chosen = refl;
    hears = refl;
    advertised = refl;
    sends = refl;
    takes = refl;
  }

  third : Joins Called 256 (metrics 3 320 22000 31250 35 1) 2048 sensor sent 3328
  unfolding model
  third = record {
    called = of sensor refl;
    energy = omega arith;
    link = record { etx = omega arith; latency = omega arith; throughput = omega arith };
    shared = refl;
    passes = record { unrefused = refl; parent = refl; no_leaf = refl };
    chosen = refl;
    hears = refl;
    advertised = refl;
    sends = refl;
    takes = refl;
  }

  pub three_hops_of : Three Called
  unfolding model
  three_hops_of = record { bytes = refl; read = refl; chain = onward (onward (onward root first) second) third }

pub three_hops : ThreeHops
three_hops = three_hops_of ByDefinition (λ h e. e)
