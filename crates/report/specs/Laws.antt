-- The laws of the day report. Each is a field of the record ReportLaws at the end, which proofs/Laws.antt proves as report_laws: PartsJoin is
-- the field parts_join.
use Rattle.std.specs.Prelude.{◌≡◌, ℕ, ◌+◌, ◌*◌, ◌%◌, ◌≤◌, ◌<◌, false, List, [], ◌∷◌, ◌++◌, T, eqb, length, count_by, sum, Some}
use Rattle.tables.specs.Bands.{Table, well_formed}
use Rattle.facts.specs.Lists.{holds}
use Rattle.ladder.specs.Ladder.{Prices, ladder}
use Rattle.ladder.specs.Places.{last_price}
use Rattle.limits.specs.declared.Percentage.{Percentage}
use Rattle.little_endian.specs.Numbers.{Bytes}
use Rattle.little_endian.specs.Laws.{number_bound}
use Rattle.questions.specs.Record.{question_bytes, count_of}
use Rattle.judging.specs.Answers.{judged}
use Rattle.judging.specs.Laws.{is_question_number}
use Rattle.batch.specs.Batch.{buffer_after}
use Rattle.batch.specs.Laws.{is_judged}
use Rattle.report.specs.Records.{Entry, entry, records_of, entries_of, answers_of, entries_in, answers_in}
use Rattle.report.specs.Counts.{numbers, is_unknown, count, row, counts_of, file_counts, all_added, total, place_in, column_of, raised}
use Rattle.report.specs.Widths.{width, smallest, largest, file_widths, together}

-- ---- a file in parts

-- How a file is cut does not show: what is counted of its parts, of which the first has whole records only, is together what is counted of
-- it.
pub record Joined (l : Prices) (percent : Percentage) (s t : Bytes) : Type 0 where
  pub counts : file_counts l percent (s ++ t) ≡ all_added (file_counts l percent s) (file_counts l percent t)
  pub widths : file_widths l percent (s ++ t) ≡ together (file_widths l percent s) (file_widths l percent t)

abbrev pub PartsJoin : Type 0
PartsJoin = (l : Prices) (percent : Percentage) (s t : Bytes) → length s % question_bytes ≡ 0 → Joined l percent s t

-- "Left-over bytes are not counted": after whole records, fewer bytes than a record has are none.
abbrev pub LeftOver : Type 0
LeftOver = (s t : Bytes) → length s % question_bytes ≡ 0 → length t < question_bytes → records_of (s ++ t) ≡ records_of s

-- ---- each record, once

-- "The total .. equals the number of whole records in the file and the sum of all counts."
pub record Total (l : Prices) (percent : Percentage) (s : Bytes) : Type 0 where
  pub records : length (records_of s) ≡ count_of (length s)
  pub counts : total (file_counts l percent s) ≡ count_of (length s)

abbrev pub TotalIsRecords : Type 0
TotalIsRecords = (l : Prices) (percent : Percentage) (s : Bytes) → Total l percent s

-- A record is counted once: of whatever records it comes after, the count in the row of its number and the column of its side is one more, and
-- all others are what they were. By itself it is one in its own row, and none in any other.
pub record CountedOnce (e : Entry) : Type 0 where
  pub place : ℕ
  pub placed : place_in numbers e.number ≡ Some place
  pub counts : (es : List Entry) → counts_of (es ++ (e ∷ [])) ≡ raised (counts_of es) place (column_of e.side)
  pub own_row : sum (row e.number (e ∷ [])) ≡ 1
  pub other_rows : (n : ℕ) → eqb e.number n ≡ false → row n (e ∷ []) ≡ 0 ∷ 0 ∷ 0 ∷ []
  pub all_rows : total (counts_of (e ∷ [])) ≡ 1

abbrev pub EachOnce : Type 0
EachOnce = (l : Prices) (percent : Percentage) (q : Bytes) → length q ≡ question_bytes → CountedOnce (entry l percent q)

-- There is a row for each number that a question can get, and no other row.
abbrev pub RowsAreNumbers : Type 0
RowsAreNumbers = (n : ℕ) → holds n numbers ≡ is_question_number n

-- The third column is 0 but for number 2, which every record of an unknown side gets.
pub record InRow2 (l : Prices) (percent : Percentage) (s : Bytes) : Type 0 where
  pub all : count 2 is_unknown (entries_of l percent s) ≡ count_by is_unknown (entries_of l percent s)
  pub no_other : (n : ℕ) → eqb n 2 ≡ false → count n is_unknown (entries_of l percent s) ≡ 0

abbrev pub UnknownSides : Type 0
UnknownSides = (l : Prices) (percent : Percentage) (s : Bytes) → InRow2 l percent s

-- ---- widths

-- Of any answer highest is lowest and its width.
abbrev pub WidthOfARange : Type 0
WidthOfARange =
    (t : Table) → T (well_formed t) → (percent : Percentage) (q : Bytes) →
    (judged (ladder t) percent q).lowest + width (judged (ladder t) percent q) ≡ (judged (ladder t) percent q).highest

-- The smallest and the largest of some numbers are two of them, and none is below or above; of none they are 0.
pub record Ends (ws : List ℕ) : Type 0 where
  pub smallest_is : 0 < length ws → T (holds (smallest ws) ws)
  pub none_below : (w : ℕ) → T (holds w ws) → smallest ws ≤ w
  pub largest_is : 0 < length ws → T (holds (largest ws) ws)
  pub none_above : (w : ℕ) → T (holds w ws) → w ≤ largest ws
  pub of_none : length ws ≡ 0 → (smallest ws ≡ 0) × (largest ws ≡ 0)

abbrev pub SmallestAndLargest : Type 0
SmallestAndLargest = (ws : List ℕ) → Ends ws

-- ---- room

-- How large the numbers of a report can get: there are no more ranges than records, and none is wider than the ladder.
pub record Within (t : Table) (percent : Percentage) (s : Bytes) : Type 0 where
  pub count : (file_widths (ladder t) percent s).ranges ≤ count_of (length s)
  pub sum_lem : (file_widths (ladder t) percent s).sum ≤ count_of (length s) * last_price (ladder t)
  pub smallest : (file_widths (ladder t) percent s).smallest ≤ (file_widths (ladder t) percent s).largest
  pub largest : (file_widths (ladder t) percent s).largest ≤ last_price (ladder t)

abbrev pub WidthsWithin : Type 0
WidthsWithin = (t : Table) → T (well_formed t) → (percent : Percentage) (s : Bytes) → Within t percent s

-- "For any number of records below 2^32" (4,294,967,296) 64 bits are enough: with prices below 2^24 (16,777,216) no sum gets to 2^56
-- (72,057,594,037,927,936).
pub record Fits (t : Table) (percent : Percentage) (s : Bytes) : Type 0 where
  pub total_lem : total (file_counts (ladder t) percent s) < 4294967296
  pub count : (file_widths (ladder t) percent s).ranges < 4294967296
  pub sum_lem : (file_widths (ladder t) percent s).sum < 72057594037927936
  pub largest : (file_widths (ladder t) percent s).largest < 16777216

abbrev pub ReportFits : Type 0
ReportFits =
    (t : Table) → T (well_formed t) → last_price (ladder t) < 16777216 → (percent : Percentage) (s : Bytes) → count_of (length s) < 4294967296 →
    Fits t percent s

-- ---- by the bytes of a batch

-- Counted by the questions of a batch and the buffer of its answers, the records are those of the file that the questions are.
pub record OfBatch (t : Table) (percent : Percentage) (s a : Bytes) : Type 0 where
  pub entries : entries_in (count_of (length s)) s (buffer_after (ladder t) percent s a) ≡ entries_of (ladder t) percent s
  pub answers : answers_in (count_of (length s)) (buffer_after (ladder t) percent s a) ≡ answers_of (ladder t) percent s

abbrev pub BatchesAreFiles : Type 0
BatchesAreFiles =
    (t : Table) → T (well_formed t) → last_price (ladder t) < number_bound → (percent : Percentage) (s a : Bytes) → T (is_judged s a) →
    OfBatch t percent s a

-- ---- all of them

pub record ReportLaws : Type 0 where
  pub parts_join : PartsJoin
  pub left_over : LeftOver
  pub total_is_records : TotalIsRecords
  pub each_once : EachOnce
  pub rows_are_numbers : RowsAreNumbers
  pub unknown_sides : UnknownSides
  pub width_of_a_range : WidthOfARange
  pub smallest_and_largest : SmallestAndLargest
  pub widths_within : WidthsWithin
  pub report_fits : ReportFits
  pub batches_are_files : BatchesAreFiles
