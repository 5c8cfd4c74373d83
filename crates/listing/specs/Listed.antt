-- The text that lists a container, in an output.
use Rattle.std.specs.Prelude.{◌≡◌, ℕ, ◌≤◌, cond, List, ◌++◌, length, take, drop, ltb, Result, Ok, Err}
use Rattle.model.specs.RoundTrip.{Bytes}
use Rattle.model.specs.Listing.{listing}
use Rattle.listing.specs.declared.ShortOutput.{ShortOutput}

-- the length of output that holds the text of any container
abbrev pub text_room : ℕ
text_room = 1100

-- what is answered for an output that is too short for every text
abbrev pub too_short : Result ℕ ShortOutput
too_short = Err (record {})

-- the answer, by the container and the length of the output
unfoldable pub listed : List ℕ → (room : ℕ) → Result ℕ ShortOutput
listed bs room = cond (ltb room text_room) too_short (Ok (length (listing bs)))

-- the output as it is left: the text and the bytes behind it as they were; or untouched
unfoldable pub listed_in : List ℕ → (output : List ℕ) → List ℕ
listed_in bs output = cond (ltb (length output) text_room) output (listing bs ++ drop (length (listing bs)) output)

-- ---- statements

-- the text of any container of bytes has that room
abbrev pub TextFits : Type 0
TextFits = (bs : List ℕ) → Bytes bs → length (listing bs) ≤ text_room

-- the first 258 bytes of an input have its listing: a container has 257 at most
abbrev pub ListingOfFront : Type 0
ListingOfFront = (bs : List ℕ) → Bytes bs → listing (take 258 bs) ≡ listing bs
