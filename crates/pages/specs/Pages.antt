-- A page that is written at the end of a text.
use Rattle.std.specs.Prelude.{ℕ, ◌+◌, ◌*◌, ◌-◌, Bool, ◌||◌, cond, Option, Some, None, ltb, length}
use Rattle.text.specs.Decimal.{Text}
use Rattle.text.specs.Ending.{ending_at}
use Rattle.ladder.specs.Ladder.{Prices}
use Rattle.limits.specs.declared.Percentage.{Percentage}
use Rattle.little_endian.specs.Numbers.{Bytes}
use Rattle.questions.specs.Record.{count_of}
use Rattle.pages.specs.Lines.{page}

-- the characters that a line may have: a question number of 20 digits, four numbers of 10, and one after each
abbrev pub line_room : ℕ
line_room = 65

-- the characters that the last line may have: "left 43", and one after it
abbrev pub left_room : ℕ
left_room = 8

-- A page is refused where the text may be too short for it, or where the number after its last question has more than 64 bits. By the
-- number of the first question, the bytes of the questions and those of the text.
abbrev pub page_refused : ℕ → ℕ → ℕ → Bool
page_refused first asked room = ltb room (count_of asked * line_room + left_room) || ltb 18446744073709551615 (first + count_of asked)

-- how many questions a page has, by the same numbers; none where it is refused
abbrev pub page_count : ℕ → ℕ → ℕ → Option ℕ
page_count first asked room = cond (page_refused first asked room) None (Some (count_of asked))

-- where the page stands: from there to the end of the text; none where it is refused
abbrev pub page_place : Prices → Percentage → ℕ → Bytes → Text → Option ℕ
page_place l percent first s text =
    cond (page_refused first (length s) (length text)) None (Some (length text - length (page l percent first s)))

-- the text after the call, where it was `text` before
abbrev pub text_after : Prices → Percentage → ℕ → Bytes → Text → Text
text_after l percent first s text =
    cond (page_refused first (length s) (length text)) text (ending_at (length text) (page l percent first s) text)
