-- The candidates that a call is given: as many as their count.
use mathlib.Core.Path.{◌≡◌, ◌∙◌}
use Prim.Native.Nat.{ℕ, ◌-◌, ◌≤◌}
use native.Mathlib.Omega.{arith}
use mathlib.Core.List.{List, append-nil}
use lib.ListN.{length, take, replicate, length-append, length-take, length-replicate}
use Rattle.model.specs.declared.Candidate.{Candidate}
use Rattle.choice.specs.Given.{blank, given}

pub given-length : (cs : List Candidate) (n : ℕ) → length (given cs n) ≡ n
unfolding given
given-length cs n = length-append (take n cs) (replicate (n - length cs) blank) ∙ rw (length-take, length-replicate) (omega arith)

pub given_within : (cs : List Candidate) (n : ℕ) → n ≤ length cs → given cs n ≡ take n cs
unfolding given
given_within cs n h = let z : n - length cs ≡ 0 = omega arith in rw z (append-nil (take n cs))
