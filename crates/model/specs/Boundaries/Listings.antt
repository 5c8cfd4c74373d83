-- The listing's text: every field as received, every bar that it tells.
use Rattle.std.specs.Prelude.{ℕ, List, [], ◌∷◌, ◌++◌, replicate}
use Rattle.model.specs.Samples.{Example, ◌gives◌, holding, empty, one, ascii}

abbrev pub lines : List (Example (List ℕ) (List ℕ))
lines =
    -- numbers of one, two and three digits, as type and as length
    empty gives ascii ""
    ∷ holding (one 0 0x00 0x80 []) gives ascii "0 0 0 1 0 0 0\n"
    ∷ holding (one 9 0x00 0x80 (replicate 9 0x00)) gives ascii "9 0 0 1 0 0 9\n"
    ∷ holding (one 10 0x00 0x80 (replicate 10 0x00)) gives ascii "10 0 0 1 0 0 10\n"
    ∷ holding (one 99 0x00 0x80 (replicate 99 0x00)) gives ascii "99 0 0 1 0 0 99\n"
    ∷ holding (one 100 0x00 0x80 (replicate 100 0x00)) gives ascii "100 0 0 1 0 0 100\n"
    ∷ holding (one 255 0x00 0x80 (replicate 251 0x00)) gives ascii "255 0 0 1 0 0 251\n"
    -- C, O, R, A and Prec one by one, also O when C=0 and R when C=1
    ∷ holding (one 200 0x02 0x00 []) gives ascii "200 1 0 0 0 0 0\n"
    ∷ holding (one 200 0x01 0x00 []) gives ascii "200 0 1 0 0 0 0\n"
    ∷ holding (one 200 0x02 0x80 []) gives ascii "200 1 0 1 0 0 0\n"
    ∷ holding (one 200 0x00 0x10 []) gives ascii "200 0 0 0 1 0 0\n"
    ∷ holding (one 200 0x00 0x40 []) gives ascii "200 0 0 0 4 0 0\n"
    ∷ holding (one 200 0x00 0x09 []) gives ascii "200 0 0 0 0 9 0\n"
    ∷ holding (one 200 0x00 0x0A []) gives ascii "200 0 0 0 0 10 0\n"
    ∷ holding (one 200 0xFF 0xFF []) gives ascii "200 1 1 1 7 15 0\n"
    -- neither P nor reserved bits
    ∷ holding (one 200 0xFC 0x00 []) gives ascii "200 0 0 0 0 0 0\n"
    -- a constraint bars nothing here, met or not; the order is kept
    ∷ holding (one 7 0x02 0x00 (0x00 ∷ 0x80 ∷ []) ++ one 3 0x00 0x00 (0x00 ∷ 0xFF ∷ [])) gives ascii "7 1 0 0 0 0 2\n3 0 0 0 0 0 2\n"
    -- bars 13 to 17: one line only, also behind a well-formed object
    ∷ [] gives ascii "refused 13\n"
    ∷ (0x03 ∷ 0x00 ∷ []) gives ascii "refused 13\n"
    ∷ holding (one 200 0x00 0x80 [] ++ (0x07 ∷ 0x00 ∷ 0x00 ∷ [])) gives ascii "refused 14\n"
    ∷ holding (one 200 0x00 0x80 [] ++ one 7 0x00 0x00 (0x00 ∷ [])) gives ascii "refused 15\n"
    ∷ holding (one 7 0x00 0x00 (0x00 ∷ 0x80 ∷ []) ++ one 7 0x00 0x00 (0x00 ∷ 0x80 ∷ [])) gives ascii "refused 16\n"
    ∷ holding (one 200 0x00 0x80 [] ++ one 6 0x00 0x00 (0x00 ∷ 0x45 ∷ [])) gives ascii "refused 17\n"
    ∷ []
