-- The lines of the first i rows are still to be written, and there is room for them.
use Rattle.std.proofs.Common.{◌*◌, ◌≤◌, length}
use Rattle.text.specs.Ending.{Filled}
use Rattle.report.specs.Counts.{numbers}
use Rattle.report_page.specs.Page.{row_lines, row_room}
use Rattle.report_page.proofs.put_rows.Given as goal

abbrev pub invariant-loop-i : goal.invariant-loop-i
invariant-loop-i l =
    (l.i * row_room ≤ l.text.start) × Filled (row_lines (length numbers) l.counts) (row_lines l.i l.counts) l.fn.text l.text
