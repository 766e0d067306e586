-- The laws of specs/Laws.antt, proved. Other crates see them as fields of report_page_laws.
use mathlib.Core.Path.{refl}
use Rattle.text.specs.Decimal.{decimal, up_to}
use Rattle.report.specs.Counts.{counts_of, total}
use Rattle.report.specs.Records.{first_records}
use Rattle.report.specs.Widths.{widths_of, shown, smallest, largest}
use Rattle.report_page.specs.Page.{row_lines, page}
use Rattle.report_page.specs.Laws.{ThirteenLines, EmptyFile, ReportPageLaws}

thirteen_lines : ThirteenLines
unfolding page row_lines counts_of
thirteen_lines es widths = refl

empty_file : EmptyFile
unfolding page row_lines counts_of total first_records widths_of shown smallest largest decimal up_to
empty_file l percent = refl

pub report_page_laws : ReportPageLaws
report_page_laws = record { thirteen_lines = thirteen_lines; empty_file = empty_file }
