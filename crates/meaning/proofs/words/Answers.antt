use Rattle.std.proofs.Common.{refl, arith}
use Rattle.meaning.specs.Meaning.{meaning, table, words_in, codes_from}
use Rattle.meaning.proofs.WordLaws.{Other, no_words}
use Rattle.meaning.proofs.words.Goals as goal

-- the words for each number of the table, and none for any other
pub returns-in-0-clause-value : goal.returns-in-0-clause-value
unfolding meaning table words_in codes_from
returns-in-0-clause-value c = rw c.in-0.is refl

pub returns-in-1-clause-value : goal.returns-in-1-clause-value
unfolding meaning table words_in codes_from
returns-in-1-clause-value c = rw c.in-1.is refl

pub returns-in-2-clause-value : goal.returns-in-2-clause-value
unfolding meaning table words_in codes_from
returns-in-2-clause-value c = rw c.in-2.is refl

pub returns-in-3-clause-value : goal.returns-in-3-clause-value
unfolding meaning table words_in codes_from
returns-in-3-clause-value c = rw c.in-3.is refl

pub returns-in-4-clause-value : goal.returns-in-4-clause-value
unfolding meaning table words_in codes_from
returns-in-4-clause-value c = rw c.in-4.is refl

pub returns-in-5-clause-value : goal.returns-in-5-clause-value
unfolding meaning table words_in codes_from
returns-in-5-clause-value c = rw c.in-5.is refl

pub returns-in-6-clause-value : goal.returns-in-6-clause-value
unfolding meaning table words_in codes_from
returns-in-6-clause-value c = rw c.in-6.is refl

pub returns-in-10-clause-value : goal.returns-in-10-clause-value
unfolding meaning table words_in codes_from
returns-in-10-clause-value c = rw c.in-10.is refl

pub returns-in-11-clause-value : goal.returns-in-11-clause-value
unfolding meaning table words_in codes_from
returns-in-11-clause-value c = rw c.in-11.is refl

pub returns-in-12-clause-value : goal.returns-in-12-clause-value
unfolding meaning table words_in codes_from
returns-in-12-clause-value c = rw c.in-12.is refl

pub returns-in-13-clause-value : goal.returns-in-13-clause-value
unfolding meaning table words_in codes_from
returns-in-13-clause-value c = rw c.in-13.is refl

pub returns-in-14-clause-value : goal.returns-in-14-clause-value
unfolding meaning table words_in codes_from
returns-in-14-clause-value c = rw c.in-14.is refl

pub returns-in-15-clause-value : goal.returns-in-15-clause-value
unfolding meaning table words_in codes_from
returns-in-15-clause-value c = rw c.in-15.is refl

pub returns-in-16-clause-value : goal.returns-in-16-clause-value
unfolding meaning table words_in codes_from
returns-in-16-clause-value c = rw c.in-16.is refl

pub returns-in-17-clause-value : goal.returns-in-17-clause-value
unfolding meaning table words_in codes_from
returns-in-17-clause-value c = rw c.in-17.is refl

pub returns-in-18-clause-value : goal.returns-in-18-clause-value
unfolding meaning table words_in codes_from
returns-in-18-clause-value c = rw c.in-18.is refl

pub returns-in-19-clause-value : goal.returns-in-19-clause-value
unfolding meaning table words_in codes_from
returns-in-19-clause-value c = rw c.in-19.is refl

pub returns-in-20-clause-value : goal.returns-in-20-clause-value
unfolding meaning table words_in codes_from
returns-in-20-clause-value c = rw c.in-20.is refl

pub returns-in-21-clause-value : goal.returns-in-21-clause-value
unfolding meaning table words_in codes_from
returns-in-21-clause-value c = rw c.in-21.is refl

pub returns-in-22-clause-value : goal.returns-in-22-clause-value
unfolding meaning table words_in codes_from
returns-in-22-clause-value c = rw c.in-22.is refl

pub returns-in-23-clause-value : goal.returns-in-23-clause-value
unfolding meaning table words_in codes_from
returns-in-23-clause-value c = rw c.in-23.is refl

pub returns-in-31-clause-value : goal.returns-in-31-clause-value
unfolding meaning table words_in codes_from
returns-in-31-clause-value c = rw c.in-31.is refl

pub returns-in-32-clause-value : goal.returns-in-32-clause-value
unfolding meaning table words_in codes_from
returns-in-32-clause-value c = rw c.in-32.is refl

pub returns-in-33-clause-value : goal.returns-in-33-clause-value
unfolding meaning table words_in codes_from
returns-in-33-clause-value c = rw c.in-33.is refl

pub returns-in-34-clause-value : goal.returns-in-34-clause-value
unfolding meaning table words_in codes_from
returns-in-34-clause-value c = rw c.in-34.is refl

pub returns-in-35-clause-value : goal.returns-in-35-clause-value
unfolding meaning table words_in codes_from
returns-in-35-clause-value c = rw c.in-35.is refl

pub returns-in-36-clause-value : goal.returns-in-36-clause-value
unfolding meaning table words_in codes_from
returns-in-36-clause-value c = rw c.in-36.is refl

pub returns-in_default-clause-value : goal.returns-in_default-clause-value
unfolding meaning table codes_from
returns-in_default-clause-value c =
    let other : Other c.args.number table = omega arith in
    let none = no_words c.args.number table other in
    rw none refl
