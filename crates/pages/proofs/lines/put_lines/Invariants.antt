-- The lines of the first k questions are still to be written, and there is room for them.
use Rattle.std.proofs.Common.{◌*◌, ◌≤◌}
use Rattle.ladder.specs.Layout.{prices_of}
use Rattle.text.specs.Ending.{Filled}
use Rattle.pages.specs.Lines.{lines_to}
use Rattle.pages.specs.Pages.{line_room}
use Rattle.pages.proofs.lines.put_lines.Given as goal

abbrev pub invariant-loop-k : goal.invariant-loop-k
invariant-loop-k l =
    let lines = lines_to (prices_of l.terms.table) l.terms.percentage l.first in
    (l.k * line_room ≤ l.text.start) × Filled (lines l.count l.questions) (lines l.k l.questions) l.fn.text l.text
