-- The thirteen lines of a day report. Document 02, g: "All lines are decimal numbers with single blanks".
use Rattle.std.specs.Prelude.{ℕ, zero, suc, ◌+◌, ◌*◌, List, [], ◌++◌, length, get_or}
use Rattle.text.specs.Decimal.{Text, blank, newline, field}
use Rattle.ladder.specs.Ladder.{Prices}
use Rattle.limits.specs.declared.Percentage.{Percentage}
use Rattle.little_endian.specs.Numbers.{Bytes}
use Rattle.report.specs.declared.Widths.{Widths}
use Rattle.report.specs.Counts.{Counts, numbers, total, file_counts}
use Rattle.report.specs.Widths.{file_widths}

-- "one line for each number .. : the number, then buy, sell and unknown", of its row
abbrev pub row_line : ℕ → List ℕ → Text
row_line n row = field n blank ++ field (get_or row 0 0) blank ++ field (get_or row 1 0) blank ++ field (get_or row 2 0) newline

-- the lines of the first i rows
unfoldable pub row_lines : ℕ → Counts → Text
row_lines zero counts = []
row_lines (suc i) counts = row_lines i counts ++ row_line (get_or numbers i 0) (get_or counts i [])

-- "Then one line gives the number of questions with a shown range, the sum .., and the smallest and largest such width"
abbrev pub widths_line : Widths → Text
widths_line w = field w.ranges blank ++ field w.sum blank ++ field w.smallest blank ++ field w.largest newline

-- "The last line is the total"
abbrev pub total_line : Counts → Text
total_line counts = field (total counts) newline

unfoldable pub page : Counts → Widths → Text
page counts widths = row_lines (length numbers) counts ++ widths_line widths ++ total_line counts

-- all that is printed of a file
abbrev pub file_page : Prices → Percentage → Bytes → Text
file_page l percent s = page (file_counts l percent s) (file_widths l percent s)

-- ---- how many characters it may have

-- a line of a row: the number of an answer, 10 digits at most, and three of 20 digits at most, with one character after each; the line of the
-- widths, and the last one, likewise
abbrev pub row_room : ℕ
row_room = 74

abbrev pub widths_room : ℕ
widths_room = 64

abbrev pub total_room : ℕ
total_room = 21

abbrev pub page_room : ℕ
page_room = length numbers * row_room + widths_room + total_room
