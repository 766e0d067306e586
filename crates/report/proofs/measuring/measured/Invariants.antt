-- The widths of the first k answers are taken.
use Rattle.std.proofs.Common.{◌≡◌}
use Rattle.report.specs.Records.{answers_in}
use Rattle.report.specs.Widths.{widths_of, together}
use Rattle.report.proofs.measuring.measured.Given as goal

abbrev pub invariant-loop-k : goal.invariant-loop-k
invariant-loop-k l = l.widths ≡ together l.fn.widths (widths_of (answers_in l.k l.answers))
