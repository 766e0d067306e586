-- Among some of the bands: outside their ends there is none, and inside them as many bands on as end below.
use Rattle.std.proofs.Common.{◌*◌, ap, ◌∙◌}
use Rattle.ladder.proofs.Tables.Trying.{found_between, nothing_between}
use Rattle.ladder.proofs.table.SpreadTable.sought_between.Goals as goal

pub returns-then-y-top : goal.returns-then-y-top
returns-then-y-top c =
    rw c.count_below.ensures
    (found_between c.args.self.now.bands.now c.args.self.now.is_well_formed c.args.scale c.args.y c.args.first c.args.end c.requires.some
    c.requires.there _ _ (c.product-bottom.ensures ∙ ap (λ b. c.args.scale * b.bottom) c.band_at.ensures)
    (c.product-top.ensures ∙ ap (λ b. c.args.scale * b.top) c.band_at-2.ensures) c.is_over.result c.is_over.ensures c.if-is_over.true c.if-y-top.true)

pub returns : goal.returns
returns c =
    nothing_between c.args.self.now.bands.now c.args.self.now.is_well_formed c.args.scale c.args.y c.args.first c.args.end c.requires.some
    c.requires.there _ _ (c.product-bottom.ensures ∙ ap (λ b. c.args.scale * b.bottom) c.band_at.ensures)
    (c.product-top.ensures ∙ ap (λ b. c.args.scale * b.top) c.band_at-2.ensures) c.is_over.result c.is_over.ensures c.else-is_over.either
