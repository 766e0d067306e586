-- The ladders that a call may name by the number of a table. Document 02, c.
use Rattle.std.specs.Prelude.{ℕ}
use Rattle.tables.specs.Named.{table_named, usual_table}
use Rattle.ladder.specs.Ladder.{Prices, ladder}

-- the ladder of the table that a number names; where it names none, the ladder with no price
abbrev pub ladder_named : ℕ → Prices
ladder_named n = ladder (table_named n)

-- the ladder of the calls that name no table
abbrev pub usual_ladder : Prices
usual_ladder = ladder_named usual_table
