-- The walk between two bands.
use Rattle.std.proofs.Common.{◌+◌}
use Rattle.ladder.proofs.Tables.Rise.{Rise}
use Rattle.ladder.proofs.table.SpreadTable.rise.Given as goal

abbrev pub invariant-loop-band : goal.invariant-loop-band
invariant-loop-band l = Rise l.self.bands.now l.price l.n l.at l.left (l.index + l.band-index)
