-- What was counted is the report of all that came.
use Rattle.std.proofs.Common.{◌≡◌, ℕ, ◌-◌, List, length, take, drop, length-drop, refl, ◌∙◌, arith}
use lib.Seq.{take_all}
use Rattle.dayreport.proofs.Pieces.{end_fits}
use Rattle.dayreport.proofs.write_report.Goals as goal

pub write_page-start-requires-clause-total : goal.write_page-start-requires-clause-total
write_page-start-requires-clause-total g c = end_fits c.args.index c.args.input.has_failed _ c.args.counts.now c.args.widths c.requires

-- the text from its start on, to its end
to_the_end : (text : List ℕ) (n start : ℕ) → length text ≡ n → take (n - start) (drop start text) ≡ drop start text
to_the_end text n start long = take_all (n - start) (drop start text) (omega (arith, length-drop start text, long))

pub print-requires : goal.print-requires
print-requires g c =
    let counts = c.requires.counts_lem in
    let widths = c.requires.widths_lem in
    record {
      all = c.requires.all;
      is_page = to_the_end c.write_page-start.new.text _ c.write_page-start.result c.write_page-start.array_long ∙ c.write_page-start.ensures.is_x ∙ rw (counts, widths) refl;
    }
