-- A batch of questions, and the buffer of its answers. Document 01, "Question and answer".
use Rattle.std.specs.Prelude.{ℕ, zero, suc, ◌*◌, ◌%◌, Bool, not, ◌||◌, cond, [], ◌++◌, eqb, ltb, length, drop, Result, Ok, Err}
use Rattle.ladder.specs.Ladder.{Prices}
use Rattle.limits.specs.declared.Percentage.{Percentage}
use Rattle.limits.specs.Terms.{Found, bad_terms_number}
use Rattle.little_endian.specs.Numbers.{Bytes}
use Rattle.questions.specs.Record.{question_bytes, count_of, question_at}
use Rattle.preparing.specs.Numbers.{wrong_length}
use Rattle.judging.specs.Answers.{judged}
use Rattle.batch.specs.declared.Outcome.{Outcome}
use Rattle.batch.specs.declared.TurnedAway.{TurnedAway}
use Rattle.batch.specs.declared.TurnedAway.TheVariants.{NotABatch, WithBadTerms}
use Rattle.batch.specs.Record.{answer_bytes, encoded}

-- "A batch is up to 1,000 questions."
abbrev pub most_questions : ℕ
most_questions = 1000

-- 1: batch not a multiple of a question's bytes, "over 1,000 questions, or answer buffer under 12 bytes a question." By the bytes of the
-- batch and of the buffer.
abbrev pub refused : ℕ → ℕ → Bool
refused asked room = not (eqb (asked % question_bytes) 0) || ltb most_questions (count_of asked) || ltb room (count_of asked * answer_bytes)

-- the answers to the first n questions, end to end: "The answer of question k (from 0) goes into bytes 12k to 12k+11 of the answer
-- buffer"
unfoldable pub answers_to : Prices → Percentage → ℕ → Bytes → Bytes
answers_to l percent zero s = []
answers_to l percent (suc n) s = answers_to l percent n s ++ encoded (judged l percent (question_at n s))

-- "bytes after the last answer keep their content"
abbrev pub answered : Prices → Percentage → ℕ → Bytes → Bytes → Bytes
answered l percent n s a = answers_to l percent n s ++ drop (n * answer_bytes) a

-- how many questions are judged, or that the batch is turned away, by the bytes of the batch and of the buffer
abbrev pub counted : ℕ → ℕ → Result ℕ TurnedAway
counted asked room = cond (refused asked room) (Err NotABatch) (Ok (count_of asked))

-- the number of why it is turned away
abbrev pub turned_away_number : TurnedAway → ℕ
turned_away_number NotABatch = wrong_length
turned_away_number (WithBadTerms bad) = bad_terms_number bad

-- "the number of questions is returned with number 0"; with any other number "Count 0"
abbrev pub outcome_by : Result ℕ TurnedAway → Outcome
outcome_by (Ok n) = record { number = 0; count = n }
outcome_by (Err why) = record { number = turned_away_number why; count = 0 }

abbrev pub outcome_of : Bytes → Bytes → Outcome
outcome_of s a = outcome_by (counted (length s) (length a))

-- the buffer after the call, where it was a before; with number 1 "buffer untouched"
abbrev pub buffer_after : Prices → Percentage → Bytes → Bytes → Bytes
buffer_after l percent s a = cond (refused (length s) (length a)) a (answered l percent (count_of (length s)) s a)

-- ---- for a call that names a table

-- by what there is to work by: "14 .., checked after 1 ..; the batch gives count 0 and an untouched buffer"
abbrev pub counted_by : Found → ℕ → ℕ → Result ℕ TurnedAway
counted_by (Ok basis) asked room = counted asked room
counted_by (Err bad) asked room = Err (cond (refused asked room) NotABatch (WithBadTerms bad))

abbrev pub outcome_found : Found → Bytes → Bytes → Outcome
outcome_found found s a = outcome_by (counted_by found (length s) (length a))

abbrev pub buffer_found : Found → Bytes → Bytes → Bytes
buffer_found (Ok basis) s a = buffer_after basis.prices basis.percentage s a
buffer_found (Err bad) s a = a
