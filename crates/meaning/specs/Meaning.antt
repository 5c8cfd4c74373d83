-- What each number of documents 01 and 02 means, in words.
use Rattle.std.specs.Prelude.{ℕ, zero, suc, cond, List, [], ◌∷◌, ◌++◌, length, drop, ltb, eqb}
use Prim.Native.Char.{code}
use Prim.Native.String.{String, len, char_at}

-- the numbers and their words
unfoldable pub table : List (ℕ × String)
table =
    (0, "nothing to report: not refused, no leaf answer, or no candidate at this position") ∷
    (1, "MinHopRankIncrease is 0, or the node's own type is above 3") ∷
    (2, "more than 16 candidates") ∷
    (3, "the current parent's position is not below the number of candidates") ∷
    (4, "the output is shorter than 2056 bytes") ∷
    (5, "the edition is not 1 or 2") ∷
    (6, "the position is not below the number of candidates") ∷
    (10, "unbarred") ∷
    (11, "Sp, Rf, Sr, LQL, type or colour out of range; in edition 2 also interface order or root preference") ∷
    (12, "the run of options is not inside the lent bytes") ∷
    (13, "the container is under 2 bytes, does not start with 2, or its data length is wrong") ∷
    (14, "an object's header or body runs past the end of its container") ∷
    (15, "an object of known type has a body that its type does not allow, or a TLV overruns") ∷
    (16, "an object of known type stood before, as constraint or as metric both times") ∷
    (17, "an NSA or HP metric is recorded, or an LQL or colour metric is not") ∷
    (18, "a mandatory constraint of unknown type") ∷
    (19, "a mandatory constraint is not met") ∷
    (20, "the advertised rank is 65535, or the resulting rank is 65535 or more") ∷
    (21, "the resulting rank is above the lowest rank advertised plus DAGMaxRankIncrease") ∷
    (22, "an option is cut short at the end of the run") ∷
    (23, "a ninth container") ∷
    (31, "an aggregated metric of unknown type") ∷
    (32, "a metric is aggregated in a way that its type does not allow") ∷
    (33, "the local value of an aggregated metric is unknown, or energy came without an estimate") ∷
    (34, "the hop count is 255 already") ∷
    (35, "an object to send on would have more than 255 bytes, or a ninth container would be needed") ∷
    (36, "a throughput or latency added up along the path would be above 4294967295") ∷
    []

-- the words for a number; none for one that is not in the table
unfoldable pub words_in : List (ℕ × String) → ℕ → String
words_in [] n = ""
words_in ((k, words) ∷ rows) n = cond (eqb n k) words (words_in rows n)

-- the codes of so many characters of a text, from a position on
unfoldable pub codes_from : (count at : ℕ) → String → List ℕ
codes_from zero i s = []
codes_from (suc k) i s = code (char_at s i) ∷ codes_from k (suc i) s

-- what a number means, in ASCII
unfoldable pub meaning : ℕ → List ℕ
meaning n = codes_from (len (words_in table n)) 0 (words_in table n)

-- the length of output that holds the words for any number
abbrev pub meaning_room : ℕ
meaning_room = 100

-- the length of the words that are put into an output, by its own length
unfoldable pub told : (number room : ℕ) → ℕ
told n room = cond (ltb room meaning_room) 0 (length (meaning n))

-- the output as it is left: the words and the bytes behind them as they were; or untouched
unfoldable pub told_in : ℕ → (output : List ℕ) → List ℕ
told_in n output = cond (ltb (length output) meaning_room) output (meaning n ++ drop (length (meaning n)) output)
