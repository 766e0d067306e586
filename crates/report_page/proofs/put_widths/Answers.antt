-- Four numbers, from the last to the first.
use Rattle.text.proofs.Laws.{text_laws}
use Rattle.report_page.proofs.put_widths.Goals as goal

pub returns-clause-line : goal.returns-clause-line
returns-clause-line c =
    let largest = rw c.from.ensures at c.put_field.ensures in
    let smallest = rw c.from-2.ensures at c.put_field-2.ensures in
    let first_two = text_laws.written_in_front _ _ _ _ _ c.put_field-3.ensures c.put_field-4.ensures in
    let first_three = text_laws.written_in_front _ _ _ _ _ smallest first_two in
    text_laws.written_in_front _ _ _ _ _ largest first_three
