-- Bars 18 and 19 at an object, by the tests that code makes.
use mathlib.Core.Path.{◌≡◌, refl}
use mathlib.Core.Bool.{true, false}
use Rattle.model.specs.declared.Neighbour.{Neighbour}
use Rattle.model.specs.declared.Summary.{Summary}
use Rattle.model.specs.Object.{Object, kind, known}
use Rattle.model.specs.Constraint.{met, mandatory, constraint_bar}
use Rattle.wire.specs.MetricType.{kind_in}
use Rattle.wire.specs.declared.metric_type.MetricType.{MetricType}
use Rattle.wire.specs.declared.metric_type.MetricType.TheVariants as type

-- a type that has a name here is known
pub named_known : (t : MetricType) → (t ≡ type.Unknown → ⊥) → known (kind_in t) ≡ true
named_known type.NodeState h = refl
named_known type.NodeEnergy h = refl
named_known type.HopCount h = refl
named_known type.Throughput h = refl
named_known type.Latency h = refl
named_known type.LinkQuality h = refl
named_known type.Etx h = refl
named_known type.LinkColour h = refl
named_known type.Unknown h = absurd (h refl)

module _ (c : Neighbour) (s : Summary) (o : Object) where
  pub optional_free : mandatory o ≡ false → 0 ≡ constraint_bar c s o
  unfolding constraint_bar
  optional_free m = rw m

  pub unknown_bars : mandatory o ≡ true → known (kind o) ≡ false → 18 ≡ constraint_bar c s o
  unfolding constraint_bar
  unknown_bars m k = rw (m, k)

  pub met_free : mandatory o ≡ true → known (kind o) ≡ true → met c s (kind o) o.body ≡ true → 0 ≡ constraint_bar c s o
  unfolding constraint_bar
  met_free m k e = rw (m, k, e)

  pub unmet_bars : mandatory o ≡ true → known (kind o) ≡ true → met c s (kind o) o.body ≡ false → 19 ≡ constraint_bar c s o
  unfolding constraint_bar
  unmet_bars m k e = rw (m, k, e)
