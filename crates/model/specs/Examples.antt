-- Document 01's boundary examples, the starred ones, as rows of one table; and its examples of a listing.
use Rattle.std.specs.Prelude.{ℕ, List, [], ◌∷◌, length, drop, get_or}
use Rattle.model.specs.Choice.{Result}
use Rattle.model.specs.Listing.{listing}
use Rattle.model.specs.Untouched.{passed_on}
use Rattle.model.specs.Samples.{Example, ◌gives◌, Holds, own0, own_limits, ranked, neighbour0, etx_of, lql_of, empty, ascii, output, Calling, single, result_of}

-- what a call tells of one candidate: `passed` is the container passed on, `rest` the output behind it; no rank is 65535
pub record Told : Type 0 where
  pub refusal : ℕ
  pub verdict : ℕ
  pub rank : ℕ
  pub leaf : ℕ
  pub passed : List ℕ
  pub rest : List ℕ

-- what a result tells of its first candidate
abbrev pub told : Result → Told
told r = record {
  refusal = r.answer.refusal;
  verdict = get_or r.answer.verdicts 0 0;
  rank = r.answer.rank.0;
  leaf = r.answer.leaf;
  passed = passed_on r;
  rest = drop r.answer.size r.output;
}

-- the candidate is unbarred, and its container is passed on; the rest of the output is untouched
abbrev pub passes : (rank : ℕ) → (passed : List ℕ) → Told
passes r bs = record { refusal = 0; verdict = 10; rank = r; leaf = 0; passed = bs; rest = drop (length bs) output }

-- the candidate is barred, the output untouched
abbrev pub bars : (number : ℕ) → Told
bars n = record { refusal = 0; verdict = n; rank = 65535; leaf = 0; passed = []; rest = output }

-- ---- the starred examples

-- an HP constraint with limit 4, and an HP metric behind it
abbrev pub hops : (count : ℕ) → List ℕ
hops n = 0x02 ∷ 0x0C ∷ 0x03 ∷ 0x02 ∷ 0x00 ∷ 0x02 ∷ 0x00 ∷ 0x04 ∷ 0x03 ∷ 0x00 ∷ 0x00 ∷ 0x02 ∷ 0x00 ∷ n ∷ []

-- the whole container of the last example
abbrev pub whole : List ℕ
whole =
    0x02 ∷ 0x11 ∷ 0x07 ∷ 0x00 ∷ 0x00 ∷ 0x02 ∷ 0x01 ∷ 0xC9 ∷ 0x02 ∷ 0x02 ∷ 0x00 ∷ 0x02 ∷ 0x08 ∷ 0x00 ∷ 0xC8 ∷ 0x00 ∷ 0x80 ∷ 0x01 ∷ 0xAA ∷ []

-- the starred examples, in document 01's order
abbrev pub table : List (Example Calling Told)
table =
    -- MinHop 256, rank 256, 1 × 3 + 0
    single own0 (ranked 256 1 3 0) empty gives passes 1024 empty
    -- 4 × 9 + 5 units of 256
    ∷ single own0 (ranked 0 4 9 5) empty gives passes 10496 empty
    -- one unit of 256: rank 65278, and 65279
    ∷ single own0 (ranked 65278 1 1 0) empty gives passes 65534 empty
    ∷ single own0 (ranked 65279 1 1 0) empty gives bars 20
    -- L 1024, maximum increase 768: 1792, and 1793
    ∷ single (own_limits 1 768 1024) (ranked 1791 1 1 0) empty gives passes 1792 empty
    ∷ single (own_limits 1 768 1024) (ranked 1792 1 1 0) empty gives bars 21
    -- HP metric 3 under limit 4, and 4
    ∷ single own0 neighbour0 (hops 3) gives passes 512 (hops 4)
    ∷ single own0 neighbour0 (hops 4) gives bars 19
    -- ETX 65407 + 128, and 65408 + 128
    ∷ single own0 (etx_of 128) (0x02 ∷ 0x06 ∷ 0x07 ∷ 0x00 ∷ 0x00 ∷ 0x02 ∷ 0xFF ∷ 0x7F ∷ [])
    gives passes 512 (0x02 ∷ 0x06 ∷ 0x07 ∷ 0x00 ∷ 0x00 ∷ 0x02 ∷ 0xFF ∷ 0xFF ∷ [])
    ∷ single own0 (etx_of 128) (0x02 ∷ 0x06 ∷ 0x07 ∷ 0x00 ∷ 0x00 ∷ 0x02 ∷ 0xFF ∷ 0x80 ∷ [])
    gives passes 512 (0x02 ∷ 0x06 ∷ 0x07 ∷ 0x00 ∷ 0x00 ∷ 0x02 ∷ 0xFF ∷ 0xFF ∷ [])
    -- LQL body 00 45, link 2, and body 00 5F
    ∷ single own0 (lql_of 2) (0x02 ∷ 0x06 ∷ 0x06 ∷ 0x00 ∷ 0x80 ∷ 0x02 ∷ 0x00 ∷ 0x45 ∷ [])
    gives passes 512 (0x02 ∷ 0x06 ∷ 0x06 ∷ 0x00 ∷ 0x80 ∷ 0x02 ∷ 0x00 ∷ 0x46 ∷ [])
    ∷ single own0 (lql_of 2) (0x02 ∷ 0x06 ∷ 0x06 ∷ 0x00 ∷ 0x80 ∷ 0x02 ∷ 0x00 ∷ 0x5F ∷ [])
    gives passes 512 (0x02 ∷ 0x07 ∷ 0x06 ∷ 0x00 ∷ 0x80 ∷ 0x03 ∷ 0x00 ∷ 0x5F ∷ 0x41 ∷ [])
    -- link ETX 128, neighbour mains (type 0), whole container
    ∷ single own0 (etx_of 128) whole
    gives passes 512
    (0x02 ∷ 0x11 ∷ 0x07 ∷ 0x00 ∷ 0x00 ∷ 0x02 ∷ 0x02 ∷ 0x49 ∷ 0x02 ∷ 0x02 ∷ 0x00 ∷ 0x02 ∷ 0x08 ∷ 0x00 ∷ 0xC8 ∷ 0x04 ∷ 0x80 ∷ 0x01 ∷ 0xAA ∷ [])
    ∷ []

-- ---- listings

-- the examples of a listing
abbrev pub listings : List (Example (List ℕ) (List ℕ))
listings =
    -- the whole container
    whole gives ascii "7 0 0 0 0 0 2\n2 1 0 0 0 0 2\n200 0 0 1 0 0 1\n"
    -- an empty container gives no line
    ∷ empty gives ascii ""
    -- its data cut inside a header
    ∷ (0x02 ∷ 0x03 ∷ 0x07 ∷ 0x00 ∷ 0x00 ∷ []) gives ascii "refused 14\n"
    ∷ []

-- every row holds of the model's call and of its listing
pub record Examples : Type 0 where
  pub calls : Holds (λ w. told (result_of w)) table
  pub texts : Holds listing listings
