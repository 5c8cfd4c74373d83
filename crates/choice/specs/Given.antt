-- The candidates that a call is given.
use Rattle.std.specs.Prelude.{List, ◌++◌, ℕ, ◌-◌, length, take, replicate}
use Rattle.model.specs.declared.Candidate.{Candidate}

-- a candidate of zeros
abbrev pub blank : Candidate
blank = record {
  neighbour = record {
    rank = record { 0 = 0 };
    sp = 0;
    rf = 0;
    sr = 0;
    nodetype = 0;
    flags = 0;
    energy = 0;
    lql = 0;
    etx = 0;
    latency = 0;
    throughput = 0;
    colour = 0;
    order = 0;
    preference = 0;
  };
  start = 0;
  size = 0;
}

-- the first `count` of the array; a count beyond it stands, the candidates that the array lacks being blank
unfoldable pub given : (array : List Candidate) → (count : ℕ) → List Candidate
given cs n = take n cs ++ replicate (n - length cs) blank
