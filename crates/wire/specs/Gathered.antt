-- Inside the crate: what the reading pass has gathered of the objects so far.
use Rattle.std.specs.Prelude.{◌≡◌, ℕ, ◌+◌, Bool, cond, ◌||◌, List, [], ◌∷◌, ◌++◌, length, get_or, Result, Ok, Err, Some, None}
use Rattle.std.proofs.Math.Option.{some}
use Rattle.model.specs.declared.Summary.{Summary}
use Rattle.model.specs.declared.verdicts.ObjectBar.{ObjectBar}
use Rattle.model.specs.declared.verdicts.Bar.{Bar}
use Rattle.model.specs.declared.verdicts.Bar.TheVariants.{Overrun, AtObject}
use Rattle.model.specs.Number.{any_of, number, first_of}
use Rattle.model.specs.Object.{Object, latency, etx, standings}
use Rattle.model.specs.Reading.{object_bar, read_objects}
use Rattle.model.specs.Reading as model
use Rattle.model.specs.Constraint.{counts_hops, adds_up, summary, mandatory}
use Rattle.model.specs.Bars.{object_bar_number}
use Rattle.wire.specs.declared.gathered.Gathered.{Gathered}
use Rattle.wire.specs.declared.objects.Header.{Header}
use Rattle.wire.specs.Step.{object_of}
use Rattle.wire.specs.Seen.{seen_after, with_use}
use Rattle.wire.specs.Mandatory.{shows_mandatory}

-- before the first object
abbrev pub untold : Gathered
untold = record { count = 0; uses = record { 0 = 0 }; summary = record { hops = None; latency = 0; etx = 0 }; flags = record { 0 = 0 } }

-- what an object tells: the count of an HP metric, a latency or an ETX that is added up along the path
abbrev pub told_by : Summary → Object → Summary
told_by s o = record {
  hops = cond (counts_hops o) (Some (get_or o.body 1 0)) s.hops;
  latency = cond (adds_up latency o) (number o.body) s.latency;
  etx = cond (adds_up etx o) (number o.body) s.etx;
}

-- of objects that have no bar: their number, the uses seen, what they tell, and whether some are mandatory constraints
pub record Gathers (g : Gathered) (es : List Object) : Type 0 where
  pub clear : first_of object_bar (standings [] es) ≡ 0
  pub count : g.count ≡ length es
  pub uses : g.uses.0 ≡ seen_after es
  pub told : g.summary ≡ summary es
  pub shown : shows_mandatory g.flags.0 ≡ any_of mandatory es

-- one object more is counted, with its use and its flags, behind which that much is told
pub record With (g : Gathered) (h : Header) (t : Summary) (r : Gathered) : Type 0 where
  pub count : r.count ≡ g.count + 1
  pub uses : r.uses.0 ≡ with_use g.uses.0 (object_of h [])
  pub summary : r.summary ≡ t
  pub flags : shows_mandatory r.flags.0 ≡ shows_mandatory g.flags.0 || mandatory (object_of h [])

-- one object more is gathered too, or has a bar
abbrev pub Adds : List Object → Object → Result Gathered ObjectBar → Type 0
Adds es o (Ok g) = Gathers g (es ++ (o ∷ []))
Adds es o (Err b) = object_bar (record { earlier = es; object = o }) ≡ object_bar_number b

-- the reading of a run whose objects are whole
abbrev pub whole_reading : List Object → model.Reading
whole_reading os = read_objects (some os)

-- bar 14 where an object is cut short, else a bar among 15 to 17
abbrev pub bars_first : (cut : Bool) → ObjectBar → (place : ℕ) → Bar
bars_first c b p = cond c Overrun (AtObject b p)
