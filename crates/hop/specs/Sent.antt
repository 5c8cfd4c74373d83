-- What is sent on for a parent: the answer and every byte of the output.
use Rattle.std.specs.Prelude.{ℕ, Bool, cond, ◌||◌, List, ltb, Result, Ok, Err}
use Rattle.std.proofs.Math.Option.{Option, none, some}
use Rattle.model.specs.declared.Own.{Own}
use Rattle.model.specs.declared.Neighbour.{Neighbour}
use Rattle.model.specs.Object.{Object}
use Rattle.model.specs.Run.{run_objects}
use Rattle.model.specs.Pack.{packed}
use Rattle.model.specs.Update.{update, leaf_answer}
use Rattle.model.specs.Choice.{Outgoing, no_container, unless_leaf, leaf_of, size_of}
use Rattle.metric.specs.declared.leaf.Leaf.{Leaf}
use Rattle.metric.specs.Leaf.{number_of}

-- numbers that no parent of an unrefused call has: own type above 3, LQL above 7, a colour above 1023, an output under 2056
abbrev pub unfit : Own → Neighbour → (room : ℕ) → Bool
unfit own c room = ltb 3 own.nodetype || ltb 7 c.lql || ltb 1023 c.colour || ltb room 2056

-- by the joined objects of the parent's run, which are whole
abbrev pub sends_objects : Own → Neighbour → Option (List Object) → Outgoing
sends_objects own c none = no_container 0
sends_objects own c (some os) = unless_leaf (leaf_answer own c os) (packed (update own c os))

-- what is sent on for a parent with this run, into an output of so many bytes
unfoldable pub sends : Own → Neighbour → (run : List ℕ) → (room : ℕ) → Outgoing
sends own c run room = cond (unfit own c room) (no_container 0) (sends_objects own c (run_objects run))

-- leaf number and length, 0 each where there is none
pub record Sent : Type 0 where
  pub leaf : ℕ
  pub size : ℕ

-- what is to be told of what is sent on
abbrev pub sent_of : Outgoing → Sent
sent_of o = record { leaf = leaf_of o; size = size_of o }

-- what a result tells
abbrev pub told_by : Result ℕ Leaf → Sent
told_by (Ok size) = record { leaf = 0; size = size }
told_by (Err leaf) = record { leaf = number_of leaf; size = 0 }
