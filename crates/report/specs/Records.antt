-- The records of a file, and what the report looks at: the side and the answer of each. Document 02, g: "a file of questions .. judged as by
-- a batch that names no table".
use Rattle.std.specs.Prelude.{ℕ, zero, suc, ◌*◌, List, [], ◌∷◌, ◌++◌, map, length}
use Rattle.ladder.specs.Ladder.{Prices}
use Rattle.limits.specs.declared.Percentage.{Percentage}
use Rattle.little_endian.specs.Numbers.{Bytes}
use Rattle.questions.specs.Record.{count_of, question_at, side_of}
use Rattle.judging.specs.declared.Answer.{Answer}
use Rattle.judging.specs.Answers.{judged}
use Rattle.batch.specs.Record.{answer_bytes, answer_at}

-- the whole records of a file, in its order: "left-over bytes are not counted"
unfoldable pub first_records : ℕ → Bytes → List Bytes
first_records zero s = []
first_records (suc n) s = first_records n s ++ (question_at n s ∷ [])

abbrev pub records_of : Bytes → List Bytes
records_of s = first_records (count_of (length s)) s

-- a record that was judged: its side, and the number of its answer
pub record Entry : Type 0 where
  pub side : ℕ
  pub number : ℕ

abbrev pub entry_of : ℕ → Answer → Entry
entry_of side answer = record { side = side; number = answer.number }

-- of a record
abbrev pub entry : Prices → Percentage → Bytes → Entry
entry l percent q = entry_of (side_of q) (judged l percent q)

-- those of a file, and its answers
abbrev pub entries_of : Prices → Percentage → Bytes → List Entry
entries_of l percent s = map (entry l percent) (records_of s)

abbrev pub answers_of : Prices → Percentage → Bytes → List Answer
answers_of l percent s = map (judged l percent) (records_of s)

-- ---- of a batch: by the bytes of its questions and of its answers

unfoldable pub entries_in : ℕ → Bytes → Bytes → List Entry
entries_in zero s a = []
entries_in (suc n) s a = entries_in n s a ++ (entry_of (side_of (question_at n s)) (answer_at (n * answer_bytes) a) ∷ [])

unfoldable pub answers_in : ℕ → Bytes → List Answer
answers_in zero a = []
answers_in (suc n) a = answers_in n a ++ (answer_at (n * answer_bytes) a ∷ [])
