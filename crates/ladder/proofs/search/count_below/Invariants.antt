-- The bands looked at are counted.
use Rattle.std.proofs.Common.{◌≡◌, ◌≤◌, take}
use Rattle.ladder.specs.Arithmetic.{count_below}
use Rattle.ladder.proofs.search.count_below.Given as goal

abbrev pub invariant-loop-band : goal.invariant-loop-band
invariant-loop-band l = (l.below ≡ count_below l.scale l.y (take l.band-index l.bands)) × (l.below ≤ l.band-index)
