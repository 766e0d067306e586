-- The answer to a question: number, lowest and highest. Document 01, "Question and answer" and "Why a question comes back"; document 02, e
-- and f.
use Rattle.std.specs.Prelude.{ℕ, List, ◌++◌, cond, eqb, length, codes, decimal, Option, Some, None, Ok, Err}
use Rattle.ladder.specs.Ladder.{Prices}
use Rattle.limits.specs.declared.Percentage.{Percentage}
use Rattle.limits.specs.Terms.{Found, bad_terms_number}
use Rattle.questions.specs.declared.Question.{Question}
use Rattle.little_endian.specs.Numbers.{Bytes}
use Rattle.questions.specs.Record.{question_bytes, decoded}
use Rattle.ranges.specs.declared.Range.{Range}
use Rattle.ranges.specs.declared.Refusal.{Refusal}
use Rattle.ranges.specs.Readings.{Reading, reading_of}
use Rattle.preparing.specs.declared.PreparedNumbers.{PreparedNumbers}
use Rattle.preparing.specs.Prepared.{Prepared}
use Rattle.preparing.specs.Numbers.{wrong_length, refusal_number, unprepared_number, range_from}
use Rattle.judging.specs.declared.Answer.{Answer}
use Rattle.judging.specs.declared.Shown.{Shown}
use Rattle.judging.specs.Shown.{shown_of}
use Rattle.judging.specs.Verdicts.{verdict_of}
use Rattle.judging.specs.Numbers.{verdict_number}

-- "Answers 2 to 5 show 0 and 0: a question refused for its codes or references has no range." 15 too is "shown with 0 and 0"
abbrev pub none_shown : ℕ → Answer
none_shown n = record { number = n; lowest = 0; highest = 0 }

abbrev pub refused_answer : Refusal → Answer
refused_answer refusal = none_shown (refusal_number refusal)

-- "Answers 0 and 6 to 10 show the range."
abbrev pub answer_with : ℕ → Shown → Answer
answer_with n shown = record { number = n; lowest = shown.lowest; highest = shown.highest }

abbrev pub answer_on : Prices → Range → ℕ → Answer
answer_on l range p = answer_with (verdict_number (verdict_of l range p)) (shown_of l range)

-- the answer to a price, by the reading of its question
abbrev pub answer_by : Prices → Reading → ℕ → Answer
answer_by l (Ok range) p = answer_on l range p
answer_by l (Err refusal) p = refused_answer refusal

-- the answer to a question: by its reading, and its order price
abbrev pub answer_to : Prices → Percentage → Question → Answer
answer_to l percent q = answer_by l (reading_of l percent q.codes q.references) q.price

-- the answer to a question as bytes; to bytes of another length 1, with 0 and 0
abbrev pub answer_decoded : Prices → Percentage → Option Question → Answer
answer_decoded l percent (Some q) = answer_to l percent q
answer_decoded l percent None = none_shown wrong_length

unfoldable pub judged : Prices → Percentage → Bytes → Answer
judged l percent s = answer_decoded l percent (decoded s)

-- the answer to a question as bytes for a call that names a table, by what there is to work by: "14 .., checked after 1 and before 2", with 0 and 0
abbrev pub judged_by : Found → Bytes → Answer
judged_by (Ok basis) s = judged basis.prices basis.percentage s
judged_by (Err bad) s = none_shown (cond (eqb (length s) question_bytes) (bad_terms_number bad) wrong_length)

-- ---- by two parts. Document 02, e: "The second takes these, an order price and the same table, and gives 0 or 6 to 10 with the shown range"

-- that is answer_on, with any range; for a call that names a table, "a bad table gives 14 with 0 and 0 in either part"
abbrev pub prepared_judged_by : Found → Range → ℕ → Answer
prepared_judged_by (Ok basis) range p = answer_on basis.prices range p
prepared_judged_by (Err bad) range p = none_shown (bad_terms_number bad)

-- what the first part gives, and then a price
abbrev pub then_judged : Prices → Prepared → ℕ → Answer
then_judged l (Ok range) p = answer_on l range p
then_judged l (Err why) p = none_shown (unprepared_number why)

-- the same by plain numbers: where the first part gives 0 the second is asked, with its three other numbers; else its number is the answer
abbrev pub numbers_judged : Found → PreparedNumbers → ℕ → Answer
numbers_judged found n p = cond (eqb n.number 0) (prepared_judged_by found (range_from n.lowest n.highest n.nine_fold) p) (none_shown n.number)

-- ---- in print

-- an answer in print: its numbers in decimal, with single blanks
abbrev pub answer_text : Answer → List ℕ
answer_text a = decimal a.number ++ codes " " ++ decimal a.lowest ++ codes " " ++ decimal a.highest
