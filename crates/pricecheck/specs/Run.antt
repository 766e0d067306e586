-- What pricecheck prints, how it cuts its input, and what a run writes.
use Rattle.std.specs.Prelude.{◌≡◌, ℕ, suc, ◌+◌, ◌*◌, Bool, true, not, ◌&&◌, cond, List, [], ◌∷◌, ◌++◌, eqb, Ok, Err, length, take, drop}
use Rattle.text.specs.Decimal.{Text}
use Rattle.limits.specs.Terms.{Basis, Found}
use Rattle.little_endian.specs.Numbers.{Bytes}
use Rattle.questions.specs.Record.{question_bytes, count_of}
use Rattle.pages.specs.Lines.{page, refusal_line}
use Rattle.pages.specs.Pages.{line_room, left_room}

-- the lines of the bytes s, if the first question has the number `first`, by the table of the run
abbrev pub page_from : Basis → ℕ → Bytes → Text
page_from basis first s = page basis.prices basis.percentage first s

-- all that is printed of an input: "question number from 1"
abbrev pub printed : Basis → Bytes → Text
printed basis s = page_from basis 1 s

-- all that is printed, by the table that the arguments name and the input: where they name none, only the line that says so. A model of the
-- program, as `run_from` below: what `print` and `print_refusal` require ties the program to it, and that `main` works by what `terms_named`
-- answers is read and tested
abbrev pub output : Found → Bytes → Text
output (Ok basis) s = printed basis s
output (Err bad) s = refusal_line bad

-- a text that ends with a page
pub record EndsWith (text lines : Text) : Type 0 where
  pub start : ℕ
  pub is_page : drop start text ≡ lines

-- how many questions are read at a time, the bytes that they have, and the characters that their page may have
abbrev pub piece_questions : ℕ
piece_questions = 1600

abbrev pub piece_bytes : ℕ
piece_bytes = piece_questions * question_bytes

abbrev pub text_bytes : ℕ
text_bytes = piece_questions * line_room + left_room

-- the number of the first question of piece k, from 0
abbrev pub first_of : ℕ → ℕ
first_of k = k * piece_questions + 1

-- the bytes of a piece that are answered: all that came; after a read that failed only whole questions, as more might have come
abbrev pub answered_bytes : Bool → ℕ → ℕ
answered_bytes failed bytes = cond failed (count_of bytes * question_bytes) bytes

abbrev pub answered_part : Bool → ℕ → Bytes → Bytes
answered_part failed bytes s = take (answered_bytes failed bytes) s

-- whether another piece is read: this one came whole, no read failed, and its page was written
abbrev pub goes_on : Bool → Bool → ℕ → Bool
goes_on written failed bytes = written && not failed && eqb bytes piece_bytes

-- What came of a piece: bytes, and whether a read failed after them. What a run writes, piece after piece from piece k, if every write
-- goes well: the page of what is answered, and then of the next piece, if it goes on.
abbrev pub run_from : Basis → ℕ → List (Bytes × Bool) → Text
run_from basis k [] = []
run_from basis k ((s, failed) ∷ rest) =
    page_from basis (first_of k) (answered_part failed (length s) s) ++ cond (goes_on true failed (length s)) (run_from basis (suc k) rest) []
