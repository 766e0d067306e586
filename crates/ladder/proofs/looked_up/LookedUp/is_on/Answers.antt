-- A price that lies in a band is told by it; one that lies nowhere is not on the ladder.
use Rattle.std.proofs.Common.{is_none, ◌∙◌, ap, sym}
use Rattle.ladder.proofs.Tables.Stands.{outside_off}
use Rattle.ladder.proofs.looked_up.LookedUp.is_on.Goals as goal

pub is_on-requires : goal.is_on-requires
is_on-requires c = c.args.self.now.lies c.in-Some.found c.in-Some.is

pub returns-in-None : goal.returns-in-None
returns-in-None c =
    sym (outside_off c.args.self.now.table.bands.now c.args.self.now.table.is_well_formed c.args.self.now.price
    (ap is_none (sym c.in-None.is) ∙ c.args.self.now.missing))
