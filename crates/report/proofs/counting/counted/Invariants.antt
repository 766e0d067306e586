-- The records of the first k questions are counted.
use Rattle.std.proofs.Common.{◌≡◌}
use Rattle.report.specs.Records.{entries_in}
use Rattle.report.specs.Counts.{counts_of, all_added}
use Rattle.report.proofs.counting.counted.Given as goal

abbrev pub invariant-loop-k : goal.invariant-loop-k
invariant-loop-k l = l.counts ≡ all_added l.fn.counts (counts_of (entries_in l.k l.questions l.answers))
