-- The largest ladder price at or below a threshold: below the ladder none, above it the last, inside it the lower neighbour.
use Rattle.std.proofs.Common.{Some, ◌*◌, ap, sym, ◌∙◌, arith}
use Rattle.ladder.specs.Ladder.{ladder}
use Rattle.ladder.proofs.Lists.Moves.{none_at_most, all_at_most}
use Rattle.ladder.proofs.Tables.Table.{start, ladder_rises, start_held}
use Rattle.ladder.proofs.table.SpreadTable.at_most.Goals as goal

pub returns-then-y-product : goal.returns-then-y-product
returns-then-y-product c =
    let t = c.args.self.now.bands.now in
    let low = c.product.ensures ∙ ap (λ x. c.args.scale * x) c.first_price.ensures in
    sym (none_at_most (ladder t) (ladder_rises t c.args.self.now.is_well_formed) (start t) (start_held t c.args.self.now.is_well_formed) c.args.scale c.args.y (omega (arith, low)))

pub returns-then-product-y : goal.returns-then-product-y
returns-then-product-y c =
    let t = c.args.self.now.bands.now in
    let last = c.last_price-last_price.ensures in
    let high = c.product-2.ensures ∙ ap (λ x. c.args.scale * x) last in
    ap Some last ∙
    sym (all_at_most (ladder t) (ladder_rises t c.args.self.now.is_well_formed) (start t) (start_held t c.args.self.now.is_well_formed) c.args.scale c.args.y (omega (arith, high)))
