-- The smallest ladder price at or above a threshold: above the ladder none, below it the first, inside it the upper neighbour.
use Rattle.std.proofs.Common.{Some, ◌*◌, ap, sym, ◌∙◌, arith}
use Rattle.ladder.specs.Ladder.{ladder}
use Rattle.ladder.proofs.Lists.Moves.{none_at_least, all_at_least}
use Rattle.ladder.proofs.Tables.Table.{start, ladder_rises, start_held}
use Rattle.ladder.proofs.table.SpreadTable.at_least.Goals as goal

pub returns-then-product-y : goal.returns-then-product-y
returns-then-product-y c =
    let t = c.args.self.now.bands.now in
    let high = c.product.ensures ∙ ap (λ x. c.args.scale * x) c.last_price.ensures in
    sym (none_at_least (ladder t) (ladder_rises t c.args.self.now.is_well_formed) (start t) (start_held t c.args.self.now.is_well_formed) c.args.scale c.args.y (omega (arith, high)))

pub returns-then-y-product : goal.returns-then-y-product
returns-then-y-product c =
    let t = c.args.self.now.bands.now in
    let first = c.first_price-first_price.ensures in
    let low = c.product-2.ensures ∙ ap (λ x. c.args.scale * x) first in
    ap Some first ∙
    sym (all_at_least (ladder t) (ladder_rises t c.args.self.now.is_well_formed) (start t) (start_held t c.args.self.now.is_well_formed) c.args.scale c.args.y (omega (arith, low)))
