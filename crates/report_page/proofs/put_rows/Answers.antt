-- One line after the other, each before those after it.
use Rattle.std.proofs.Common.{◌≡◌, ℕ, suc, ◌-◌, ◌≤◌, List, [], ◌++◌, get_or, ap, arith}
use Rattle.text.proofs.Laws.{text_laws}
use Rattle.report.specs.Counts.{numbers}
use Rattle.report_page.specs.Page.{row_line, row_lines}
use Rattle.report_page.proofs.put_rows.Goals as goal

last_line : (counts : List (List ℕ)) (i : ℕ) → 1 ≤ i →
    row_lines i counts ≡ row_lines (i - 1) counts ++ row_line (get_or numbers (i - 1) 0) (get_or counts (i - 1) [])
unfolding row_lines
last_line counts i h = let m = i - 1 in let e : i ≡ suc m = omega arith in ap (λ (n : ℕ). row_lines n counts) e

pub put_row-requires : goal.put_row-requires
put_row-requires c = omega (arith, c.loop-i.invariant.0)

pub loop-i-preserved : goal.loop-i-preserved
loop-i-preserved c = (
  omega (arith, c.loop-i.invariant.0, c.put_row.ensures.room),
  (text_laws.filled_by_parts _ _).further c.loop-i.invariant.1 (last_line c.args.counts.now c.loop-i.i (omega arith))
      (rw (← c.number_of.ensures) c.put_row.ensures.line),
)

pub returns : goal.returns
unfolding row_lines
returns c =
    let none : c.loop-i.i ≡ 0 = omega arith in
    (text_laws.filled_by_parts _ _).ended (rw none at c.loop-i.invariant.1)
