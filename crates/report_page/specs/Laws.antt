-- The laws of a day report's page. Each is a field of the record ReportPageLaws at the end, which proofs/Laws.antt proves as
-- report_page_laws: ThirteenLines is the field thirteen_lines.
use Rattle.std.specs.Prelude.{◌≡◌, ℕ, List, [], ◌++◌, codes}
use Rattle.text.specs.Decimal.{Text, blank, newline, field}
use Rattle.ladder.specs.Ladder.{Prices}
use Rattle.limits.specs.declared.Percentage.{Percentage}
use Rattle.report.specs.declared.Widths.{Widths}
use Rattle.report.specs.Records.{Entry}
use Rattle.report.specs.Counts.{is_buy, is_sell, is_unknown, count, counts_of}
use Rattle.report_page.specs.Page.{widths_line, total_line, page, file_page}

-- a line: a number, and how many records got it, by their sides
abbrev pub line_of : ℕ → List Entry → Text
line_of n es = field n blank ++ field (count n is_buy es) blank ++ field (count n is_sell es) blank ++ field (count n is_unknown es) newline

-- The thirteen lines of a page, of any records.
abbrev pub ThirteenLines : Type 0
ThirteenLines =
    (es : List Entry) (widths : Widths) →
    page (counts_of es) widths ≡
    line_of 0 es ++ line_of 2 es ++ line_of 3 es ++ line_of 4 es ++ line_of 5 es ++ line_of 6 es ++ line_of 7 es ++ line_of 8 es ++ line_of 9 es ++
    line_of 10 es ++ line_of 15 es ++ widths_line widths ++ total_line (counts_of es)

-- An empty file gives zeros, one line for each number.
abbrev pub EmptyFile : Type 0
EmptyFile =
    (l : Prices) (percent : Percentage) →
    file_page l percent [] ≡ codes "0 0 0 0\n2 0 0 0\n3 0 0 0\n4 0 0 0\n5 0 0 0\n6 0 0 0\n7 0 0 0\n8 0 0 0\n9 0 0 0\n10 0 0 0\n15 0 0 0\n0 0 0 0\n0\n"

-- ---- all of them

pub record ReportPageLaws : Type 0 where
  pub thirteen_lines : ThirteenLines
  pub empty_file : EmptyFile
