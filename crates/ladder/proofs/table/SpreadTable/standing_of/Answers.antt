-- Where a price stands: nowhere outside the ends, in its band, or between two prices of its band.
use Rattle.std.proofs.Common.{ap, ◌∙◌}
use Rattle.std.specs.Bool.{then_some}
use Rattle.ladder.proofs.Tables.Stands.{stands_where}
use Rattle.ladder.proofs.table.SpreadTable.standing_of.Goals as goal

pub returns : goal.returns
returns c =
    c.then_some.ensures ∙
    (ap (λ on. then_some on c.in_ok-found.found.index) c.is_on-is_on.ensures ∙
    stands_where c.args.self.now.bands.now c.args.self.now.is_well_formed c.args.price c.in_ok-found.found.index c.in_ok-found.ensures.index)
