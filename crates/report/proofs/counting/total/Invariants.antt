-- The first i rows are summed.
use Rattle.std.proofs.Common.{◌≡◌, take}
use Rattle.report.specs.Counts.{total}
use Rattle.report.proofs.counting.total.Given as goal

abbrev pub invariant-loop-i : goal.invariant-loop-i
invariant-loop-i l = l.sum ≡ total (take l.i l.counts)
