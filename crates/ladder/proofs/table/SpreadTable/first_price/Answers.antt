-- The first price is the first bottom.
use Rattle.std.proofs.Common.{sym}
use Rattle.ladder.proofs.Tables.Table.{table_facts, first_is_start}
use Rattle.ladder.proofs.table.SpreadTable.first_price.Goals as goal

pub bounds-self-0 : goal.bounds-self-0
bounds-self-0 c = (table_facts c.args.self.now.bands.now c.args.self.now.is_well_formed).some

pub returns : goal.returns
returns c = sym (first_is_start c.args.self.now.bands.now c.args.self.now.is_well_formed)
