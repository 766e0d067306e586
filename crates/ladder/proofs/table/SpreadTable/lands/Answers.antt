-- Past the end of a table there is no band that holds anything.
use Rattle.ladder.proofs.Tables.Trying.{past_end}
use Rattle.ladder.proofs.table.SpreadTable.lands.Goals as goal

pub returns-in-None : goal.returns-in-None
returns-in-None c = past_end c.args.self.now.bands.now c.args.self.now.is_well_formed c.args.scale c.args.y c.args.k c.in-None.ensures.lookup.3
