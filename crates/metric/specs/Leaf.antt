-- The numbers of leaf answers.
use Rattle.std.specs.Prelude.{ℕ, Result, Ok, Err}
use Rattle.metric.specs.declared.leaf.Leaf.{Leaf}
use Rattle.metric.specs.declared.leaf.Leaf.TheVariants.{Unknown, Aggregation, Value, Count, Length, Sum}

-- the number of a leaf answer
abbrev pub number_of : Leaf → ℕ
number_of Unknown = 31
number_of Aggregation = 32
number_of Value = 33
number_of Count = 34
number_of Length = 35
number_of Sum = 36

-- the number of the leaf answer in a result; 0 where there is none
abbrev pub leaf_number : {T : Type 0} → Result T Leaf → ℕ
leaf_number (Ok t) = 0
leaf_number (Err leaf) = number_of leaf
