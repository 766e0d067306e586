-- The bands that are left are the first of the table, and the walk stands between the last of them and the one after it.
use Rattle.std.proofs.Common.{◌≡◌, ◌≤◌, length, take}
use Rattle.ladder.proofs.Tables.Walks.{Fall}
use Rattle.ladder.proofs.table.SpreadTable.walk_down.Given as goal

abbrev pub invariant-loop-band : goal.invariant-loop-band
invariant-loop-band l =
    let t = l.self.bands.now in
    let bands = l.band-iterator.iter.rest.now in
    (bands ≡ take (length bands) t) × (length bands ≤ length t) ×
    Fall t l.price l.n l.at l.left (length bands)
