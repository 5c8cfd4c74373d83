use mathlib.Core.Path.{◌≡◌, sym, ◌∙◌}
use Prim.Native.Nat.{ℕ, ◌≤◌}
use mathlib.Core.List.{List, ◌++◌}
use mathlib.Core.Bool.{Bool, true, false}
use native.Mathlib.Omega.{arith}
use borrow.Author.Tests.{le-ltb}
use borrow.Author.Rules.{rules}
use lib.ListN.{length, drop, take}
use lib.Dec.{eqb}
use Rattle.std.proofs.lemmas.Bool.Decides.{nat_tests}
use Rattle.std.proofs.lemmas.List.{take-append-drop}
use denote.Enum.Bare.{sameb}
use Rattle.feed.specs.contracts.phase.Phase.{the_type}
use Rattle.feed.specs.declared.phase.Phase.{Phase}
use Rattle.feed.specs.declared.phase.Phase.TheVariants.{Short}
use Rattle.feed.specs.declared.bytes.Fed.{Fed}
use Rattle.feed.specs.Numbers.{phase_of}
use Rattle.feed.specs.Step.{fed, fed_in, fed_bytes, fed_bytes_in}
use Rattle.feed.proofs.StepLaws.{fed_none, fed_one_more, fed_all, bytes_in_room}
use Rattle.feed.proofs.bytes.feed.Goals as goal

-- what the test of the phase says of its number
short_test : (n : ℕ) → sameb the_type (phase_of n) Short ≡ eqb n 255
short_test n = grind (arith, nat_tests)

tested : (s : Fed) {p : Phase} {r a : Bool} → p ≡ phase_of s.phase → r ≡ sameb the_type p Short → r ≡ a → eqb s.phase 255 ≡ a
tested s p q r = sym (short_test s.phase) ∙ rw (← p) (sym q ∙ r)

-- where the buffer has room, and its first bytes are fed: behind a short one nothing changes
module _ (s : Fed) (part l front : List ℕ) (long : 2059 ≤ length l) (is : front ≡ take 2059 l) where
  stays : eqb s.phase 255 ≡ true → (s ≡ fed s part (length l)) × (front ++ drop 2059 l ≡ fed_in s part l)
  unfolding fed fed_in
  stays short = (rw (le-ltb _ _ long, short), rw (le-ltb _ _ long, short, is) (take-append-drop 2059 l))

  -- and else the part is fed into them
  goes : eqb s.phase 255 ≡ false → (now : Fed) (behind : List ℕ) → now ≡ fed_bytes s part → behind ≡ fed_bytes_in s part front
      → (now ≡ fed s part (length l)) × (behind ++ drop 2059 l ≡ fed_in s part l)
  unfolding fed fed_in
  goes going now behind p q = (rw (le-ltb _ _ long, going) p, rw (le-ltb _ _ long, going, q, is) (bytes_in_room part s l))

pub returns-then-eq : goal.returns-then-eq
returns-then-eq c =
    let room = c.in-Some.ensures.cases in
    let short = tested c.args.state c.phase.ensures c.eq.ensures c.if-eq.true in
    let (a, b) = stays c.args.state c.args.part.now c.args.kept.now _ room.enough room.same short in
    record { value = a; written = b }

pub loop-byte-init : goal.loop-byte-init
loop-byte-init c = fed_none c.args.part.now _

pub loop-byte-preserved : goal.loop-byte-preserved
loop-byte-preserved c = fed_one_more _ _ _ _ _ c.loop-byte.invariant c.loop-byte-test.true c.feed_byte.ensures

pub returns : goal.returns
returns c =
    let room = c.in-Some.ensures.cases in
    let going = tested c.args.state c.phase.ensures c.eq.ensures c.if-eq.false in
    let all = fed_all c.args.part.now _ _ _ c.loop-byte.invariant c.loop-byte-test.false in
    let (a, b) =
    goes c.args.state c.args.part.now c.args.kept.now _ room.enough room.same going _ _ all.state ((let k : _ ≡ c.loop-byte.keeper.kept.now = search rules in k) ∙ all.bytes) in
    record { value = a; written = b }
