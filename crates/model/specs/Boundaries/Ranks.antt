-- Bars 20 and 21, on each side of each boundary.
use Rattle.std.specs.Prelude.{ℕ, List, [], ◌∷◌}
use Rattle.model.specs.declared.Own.{Own}
use Rattle.model.specs.declared.Neighbour.{Neighbour}
use Rattle.model.specs.Samples.{Example, ◌gives◌, own_with, own_limits, ranked, empty, holding, one, Calling, single}

-- MinHopRankIncrease alone
abbrev pub minhop : ℕ → Own
minhop m = own_with m 0 0 0 0x00 0 0

abbrev pub judging : Own → Neighbour → Calling
judging own c = single own c empty

abbrev pub ranks : List (Example Calling ℕ)
ranks =
    -- 20: resulting 65534 and 65535
    judging (minhop 1) (ranked 65533 1 1 0) gives 10
    ∷ judging (minhop 1) (ranked 65534 1 1 0) gives 20
    ∷ judging (minhop 65534) (ranked 0 1 1 0) gives 10
    ∷ judging (minhop 65535) (ranked 0 1 1 0) gives 20
    ∷ judging (minhop 1) (ranked 65493 4 9 5) gives 10
    ∷ judging (minhop 1) (ranked 65494 4 9 5) gives 20
    -- advertised 65535
    ∷ judging (minhop 1) (ranked 65535 1 1 0) gives 20
    -- in whole numbers: 65536, and 41 units of 65535
    ∷ judging (minhop 65535) (ranked 1 1 1 0) gives 20
    ∷ judging (minhop 65535) (ranked 0 4 9 5) gives 20
    -- 21: equal to L + DAGMaxRankIncrease, and one above
    ∷ judging (own_limits 1 768 1024) (ranked 1791 1 1 0) gives 10
    ∷ judging (own_limits 1 768 1024) (ranked 1792 1 1 0) gives 21
    ∷ judging (own_limits 1 1 0) (ranked 0 1 1 0) gives 10
    ∷ judging (own_limits 1 1 0) (ranked 1 1 1 0) gives 21
    -- L not given, though its field is 1024; DAGMaxRankIncrease 0
    ∷ judging (own_with 1 768 1024 0 0x00 0 0) (ranked 1792 1 1 0) gives 10
    ∷ judging (own_limits 1 0 1024) (ranked 1792 1 1 0) gives 10
    ∷ judging (own_limits 1 0 0) (ranked 65533 1 1 0) gives 10
    -- L + DAGMaxRankIncrease above 65535, in whole numbers
    ∷ judging (own_limits 1 1000 65000) (ranked 65533 1 1 0) gives 10
    ∷ judging (own_limits 1 65535 65535) (ranked 65533 1 1 0) gives 10
    -- the order: 20 before 21; 19 before 20
    ∷ judging (own_limits 1 768 1024) (ranked 65534 1 1 0) gives 20
    ∷ single (own_limits 1 768 1024) (ranked 65534 1 1 0) (holding (one 7 0x02 0x00 (0x01 ∷ 0x00 ∷ []))) gives 19
    ∷ []
