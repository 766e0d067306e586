-- Outside the ladder is what is below its first price or above its last.
use Rattle.std.proofs.Common.{rules}
use Rattle.ladder.proofs.Tables.Table.{outside_is}
use Rattle.ladder.proofs.table.SpreadTable.is_outside.Goals as goal

pub returns : goal.returns
returns c = rw (outside_is c.args.self.now.bands.now c.args.self.now.is_well_formed c.args.price) (search rules)
