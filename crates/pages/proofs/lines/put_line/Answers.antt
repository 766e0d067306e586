-- Five numbers, from the last to the first.
use Rattle.text.proofs.Laws.{text_laws}
use Rattle.pages.specs.Lines.{line}
use Rattle.pages.proofs.lines.put_line.Goals as goal

pub returns-clause-line : goal.returns-clause-line
unfolding line
returns-clause-line c =
    let code = rw c.from.ensures at c.put_field.ensures in
    let highest = rw c.from-2.ensures at c.put_field-2.ensures in
    let lowest = rw c.from-3.ensures at c.put_field-3.ensures in
    let number = rw c.from-4.ensures at c.put_field-4.ensures in
    let first_two = text_laws.written_in_front _ _ _ _ _ number c.put_field-5.ensures in
    let first_three = text_laws.written_in_front _ _ _ _ _ lowest first_two in
    let first_four = text_laws.written_in_front _ _ _ _ _ highest first_three in
    text_laws.written_in_front _ _ _ _ _ code first_four
