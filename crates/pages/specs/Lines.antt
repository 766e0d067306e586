-- The lines of pricecheck. Document 01, "Prices worked out"; document 02, f.
use Rattle.std.specs.Prelude.{ℕ, zero, suc, ◌+◌, ◌%◌, [], ◌∷◌, ◌++◌, length}
use Rattle.text.specs.Decimal.{Text, blank, newline, field}
use Rattle.ladder.specs.Ladder.{Prices}
use Rattle.limits.specs.declared.Percentage.{Percentage}
use Rattle.limits.specs.declared.terms.BadTerms.{BadTerms}
use Rattle.limits.specs.Terms.{bad_terms_number}
use Rattle.little_endian.specs.Numbers.{Bytes}
use Rattle.questions.specs.Record.{question_bytes, count_of, question_at, security_code_of}
use Rattle.judging.specs.declared.Answer.{Answer}
use Rattle.judging.specs.Answers.{judged}

-- "one line each: question number from 1, answer number, lowest, highest, in decimal mils with single blanks", and "the code, as read, as a
-- fifth number"
unfoldable pub line : ℕ → Answer → ℕ → Text
line n a code = field n blank ++ field a.number blank ++ field a.lowest blank ++ field a.highest blank ++ field code newline

-- the lines of the first n questions, of which the first has the number `first`
unfoldable pub lines_to : Prices → Percentage → ℕ → ℕ → Bytes → Text
lines_to l percent first zero s = []
lines_to l percent first (suc n) s =
    lines_to l percent first n s ++ line (first + n) (judged l percent (question_at n s)) (security_code_of (question_at n s))

-- "Left-over bytes k .. give a last line "left k"": k is 1 to 43
unfoldable pub left_line : ℕ → Text
left_line zero = []
left_line (suc k) = (108 ∷ 101 ∷ 102 ∷ 116 ∷ blank ∷ []) ++ field (suc k) newline

-- all that is printed of the bytes s, if the first question has the number `first`
abbrev pub page : Prices → Percentage → ℕ → Bytes → Text
page l percent first s = lines_to l percent first (count_of (length s)) s ++ left_line (length s % question_bytes)

-- "and pricecheck, for any other argument or more than one, prints only "14""
abbrev pub refusal_line : BadTerms → Text
refusal_line bad = field (bad_terms_number bad) newline
