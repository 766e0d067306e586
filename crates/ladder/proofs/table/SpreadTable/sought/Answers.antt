-- The search for a band: where all may be tried it matters not in which order, since one band at the most holds y / scale.
use Rattle.std.proofs.Common.{◌∙◌}
use Rattle.ladder.specs.Trying.{indexes}
use Rattle.ladder.proofs.Tables.Trying.{sought_part, sought_rest}
use Rattle.ladder.proofs.table.SpreadTable.sought.Goals as goal

pub returns-in-Some : goal.returns-in-Some
returns-in-Some c =
    sought_part c.args.self.now.bands.now c.args.self.now.is_well_formed c.args.scale c.args.y c.args.allowed c.if-allowed-count.false
    (indexes 2 5) _ c.in-Some.k c.in-Some.is c.sought_between.ensures

pub returns-in-Some-sought_between : goal.returns-in-Some-sought_between
returns-in-Some-sought_between c =
    sought_part c.args.self.now.bands.now c.args.self.now.is_well_formed c.args.scale c.args.y c.args.allowed c.if-allowed-count.false
    (indexes 5 _) _ c.in-Some-sought_between.k c.in-Some-sought_between.is c.sought_between-2.ensures

pub returns : goal.returns
returns c =
    c.sought_between-3.ensures ∙
    sought_rest c.args.self.now.bands.now c.args.self.now.is_well_formed c.args.scale c.args.y c.args.allowed c.if-allowed-count.false _ _
    c.in_default.is c.sought_between.ensures c.in_default-sought_between.is c.sought_between-2.ensures
