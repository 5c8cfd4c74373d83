-- Where words stand in a text.
use Rattle.std.specs.Prelude.{◌≡◌, ℕ, ◌+◌, Bool, not, ◌&&◌, ◌||◌, List, drop, eqb}
use Rattle.std.specs.List.{prefix_len}

-- space, tab and carriage return stand between words
abbrev pub is_space : ℕ → Bool
is_space b = (eqb b 32 || eqb b 9) || eqb b 13

-- every byte but these and `#` can stand in a word
abbrev pub in_word : ℕ → Bool
in_word b = ((not (eqb b 32) && not (eqb b 9)) && not (eqb b 13)) && not (eqb b 35)

-- a byte other than the one that is looked for
abbrev pub is_other : (sought : ℕ) → ℕ → Bool
is_other sought b = not (eqb b sought)

-- the first index from an index on whose byte fails a test, or the length; an index beyond the length is its own
unfoldable pub behind : (ℕ → Bool) → List ℕ → (from : ℕ) → ℕ
behind test bs from = from + prefix_len test (drop from bs)

-- inside the crate: a closure answers what a test says
abbrev pub IsTest : (ℕ → Bool → Type 0) → (ℕ → Bool) → Type 0
IsTest post test = (b : ℕ) (r : Bool) → post b r → r ≡ test b
