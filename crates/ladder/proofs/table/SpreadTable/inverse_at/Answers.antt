-- The inverses are those of the spreads, band by band.
use Rattle.ladder.proofs.Tables.Stands.{inverse_there, inverse_is}
use Rattle.ladder.proofs.table.SpreadTable.inverse_at.Goals as goal

pub bounds-self-k : goal.bounds-self-k
bounds-self-k c = inverse_there c.args.self.now.bands.now c.args.self.now.inverses.now c.args.self.now.has_inverses c.args.k c.requires

pub returns : goal.returns
returns c = inverse_is c.args.self.now.bands.now c.args.self.now.inverses.now c.args.self.now.has_inverses c.args.k c.requires
