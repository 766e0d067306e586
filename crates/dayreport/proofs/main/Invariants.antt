-- What came in the pieces passed is counted.
use Rattle.dayreport.specs.Run.{SoFar}
use Rattle.dayreport.proofs.main.Given as goal

abbrev pub invariant-loop-index : goal.invariant-loop-index
invariant-loop-index l = SoFar l.index l.counts l.widths
