-- The place of a bar: the index of the first barring object, counted from 0; 65535 for a bar at no object, and for none.
use Rattle.std.specs.Prelude.{ℕ, List, [], ◌∷◌, ◌++◌, get_or}
use Rattle.model.specs.Samples.{Example, ◌gives◌, own0, ranked, neighbour0, etx_of, one, Calling, hop, result_of}

-- the place of the first candidate's bar
abbrev pub place_given : Calling → ℕ
place_given w = get_or (result_of w).answer.places 0 0

-- a recorded object of unknown type, at which there is no bar
abbrev pub other : List ℕ
other = one 200 0x00 0x80 []

abbrev pub places : List (Example Calling ℕ)
places =
    -- unbarred; bars 11, 14 and 20
    hop own0 neighbour0 other gives 65535
    ∷ hop own0 (ranked 256 1 0 0) other gives 65535
    ∷ hop own0 neighbour0 (other ++ (0xC8 ∷ [])) gives 65535
    ∷ hop own0 (ranked 65535 1 1 0) other gives 65535
    -- 15, first and third
    ∷ hop own0 neighbour0 (one 7 0x00 0x00 (0x00 ∷ []) ++ other) gives 0
    ∷ hop own0 neighbour0 (other ++ other ++ one 7 0x00 0x00 (0x00 ∷ [])) gives 2
    -- 16, at the repeat; 17
    ∷ hop own0 neighbour0 (one 7 0x00 0x00 (0x00 ∷ 0x80 ∷ []) ++ other ++ one 7 0x00 0x00 (0x00 ∷ 0x80 ∷ [])) gives 2
    ∷ hop own0 neighbour0 (other ++ one 1 0x00 0x80 [] ++ one 7 0x00 0x00 (0x00 ∷ [])) gives 1
    -- 18 and 19, behind an optional constraint that isn't met
    ∷ hop own0 neighbour0 (one 200 0x02 0x00 []) gives 0
    ∷ hop own0 neighbour0 (one 200 0x03 0x00 [] ++ one 200 0x02 0x00 []) gives 1
    ∷ hop own0 neighbour0 (one 7 0x03 0x00 (0x00 ∷ 0x80 ∷ []) ++ other ++ one 3 0x02 0x00 (0x00 ∷ 4 ∷ []) ++ one 200 0x02 0x00 []) gives 2
    -- 19 at a limit of the path, the metric before it and behind it
    ∷ hop own0 (etx_of 57) (one 7 0x00 0x00 (0x00 ∷ 0xC8 ∷ []) ++ other ++ one 7 0x02 0x00 (0x01 ∷ 0x00 ∷ [])) gives 2
    ∷ hop own0 (etx_of 57) (other ++ one 7 0x02 0x00 (0x01 ∷ 0x00 ∷ []) ++ one 7 0x00 0x00 (0x00 ∷ 0xC8 ∷ [])) gives 1
    ∷ []
