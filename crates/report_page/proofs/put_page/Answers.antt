-- The total, before it the widths, and before them the rows.
use Rattle.text.proofs.Laws.{text_laws}
use Rattle.report_page.specs.Page.{page}
use Rattle.report_page.proofs.put_page.Goals as goal

pub returns : goal.returns
unfolding page
returns c =
    let total = rw c.total.ensures at c.put_field.ensures in
    let lines = text_laws.written_in_front _ _ _ _ _ c.put_widths.ensures.line c.put_rows.ensures in
    text_laws.written_in_front _ _ _ _ _ total lines
