-- The places of the bands passed.
use Rattle.std.proofs.Common.{◌≡◌}
use Rattle.ladder.specs.Arithmetic.{places_below}
use Rattle.ladder.proofs.table.SpreadTable.places_below.Given as goal

abbrev pub invariant-loop-band : goal.invariant-loop-band
invariant-loop-band l = l.places ≡ places_below l.band-index l.self.bands.now
