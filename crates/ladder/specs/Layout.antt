-- The ladder of a spread table as the code holds it: a struct of the bands, which are lent.
use Rattle.ladder.specs.declared.table.SpreadTable.{SpreadTable}
use Rattle.ladder.specs.Ladder.{Prices, ladder}

-- all prices of a table
abbrev pub prices_of : SpreadTable → Prices
prices_of table = ladder table.bands.now
