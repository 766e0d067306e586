-- The digits from the last to the first: what is not yet written is the number that is left.
use Rattle.text.specs.Decimal.{decimal}
use Rattle.text.specs.Ending.{Filled}
use Rattle.text.proofs.Filling.put_decimal.Given as goal

abbrev pub invariant-loop-rest : goal.invariant-loop-rest
invariant-loop-rest l = Filled (decimal l.n) (decimal l.rest) l.fn.self l.self

abbrev pub decreases-loop-rest : goal.decreases-loop-rest
decreases-loop-rest l = l.rest
