-- The bytes that a text spells, each by a space and two hexadecimal digits.
use Rattle.std.specs.Prelude.{ℕ, cond, List, [], ◌∷◌, ◌++◌, length, take, drop, eqb, Option, Some, None}
use Rattle.words.specs.Digits.{byte_of}

-- a byte and those behind it; none where the digits spell none
unfoldable pub ahead : Option ℕ → (behind : List ℕ) → List ℕ
ahead (Some b) bs = b ∷ bs
ahead None bs = []

-- all bytes that a text spells, up to what is no space with two digits
unfoldable pub bytes_from : List ℕ → List ℕ
bytes_from [] = []
bytes_from (s ∷ []) = []
bytes_from (s ∷ h ∷ []) = []
bytes_from (s ∷ h ∷ l ∷ text) = cond (eqb s 32) (ahead (byte_of h l) (bytes_from text)) []

-- those for which an output of so many bytes has room
unfoldable pub spelled : List ℕ → (room : ℕ) → List ℕ
spelled text room = take room (bytes_from text)

-- the output as it is left: these bytes, and behind them the bytes as they were
unfoldable pub spelled_in : List ℕ → (output : List ℕ) → List ℕ
spelled_in text output = spelled text (length output) ++ drop (length (spelled text (length output))) output
