-- An answer that shows a range, and one that does not.
use Rattle.std.proofs.Common.{sym, ap, not, refl, arith}
use Rattle.report.specs.declared.Widths.{Widths}
use Rattle.report.specs.Widths.{widths_of, together}
use Rattle.report.proofs.Widening.{no_wider, with_width}
use Rattle.report.proofs.measuring.one_wider.Goals as goal

pub returns-then-answer : goal.returns-then-answer
returns-then-answer c = sym (no_wider c.args.widths c.args.answer (ap not c.if-answer.true))

pub returns : goal.returns
returns c =
    rw (c.from.ensures, c.smallest_with.ensures, c.max.ensures, c.saturating_sub-width.ensures, with_width c.args.widths c.args.answer (ap not c.if-answer.false))
    refl

pub overflow_add-result-2 : goal.overflow_add-result-2
unfolding together widths_of
overflow_add-result-2 c =
    let wider = ap (λ (w : Widths). w.sum) (with_width c.args.widths c.args.answer (ap not c.if-answer.false)) in
    rw (c.from.ensures, c.saturating_sub-width.ensures) (omega (arith, wider, c.requires.sum))
