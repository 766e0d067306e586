-- The one division: a threshold inside the ladder falls between two neighbours of the band where it lands.
use Rattle.std.proofs.Common.{arith}
use Rattle.ladder.proofs.Tables.Gaps.{scaled, is_found, inside, divisor, starts_below, gap_fits, spreads_fit, is_between}
use Rattle.ladder.proofs.table.SpreadTable.between.Goals as goal

pub unwrap-index-requires : goal.unwrap-index-requires
unwrap-index-requires c =
    is_found c.args.self.now.bands.now c.args.self.now.is_well_formed c.args.scale c.args.y c.requires.over_the_first c.requires.up_to_the_last
    c.sought.result c.sought.ensures

pub band_at-band-requires : goal.band_at-band-requires
band_at-band-requires c =
    inside c.args.self.now.bands.now c.args.self.now.is_well_formed c.args.scale c.args.y c.requires.over_the_first c.requires.up_to_the_last
    _ _ c.unwrap-index.ensures c.sought.ensures

pub overflow_sub-spreads-2 : goal.overflow_sub-spreads-2
overflow_sub-spreads-2 c =
    let below = starts_below c.args.self.now.bands.now c.args.self.now.is_well_formed c.args.scale c.args.y c.requires.over_the_first
    c.requires.up_to_the_last _ _ c.unwrap-index.ensures c.sought.ensures _ c.band_at-band.ensures in
    omega (arith, c.product.ensures)

pub nonzero_div-spreads : goal.nonzero_div-spreads
nonzero_div-spreads c =
    let t = c.args.self.now.bands.now in
    let positive = divisor t c.args.self.now.is_well_formed c.args.scale c.args.y c.requires.over_the_first c.requires.up_to_the_last
    _ _ c.unwrap-index.ensures c.sought.ensures _ c.band_at-band.ensures in
    let scale_positive = scaled t c.args.self.now.is_well_formed c.args.scale c.args.y c.requires.over_the_first c.requires.up_to_the_last in
    omega (arith, c.product-2.ensures, positive, scale_positive)

-- the lower neighbour, and the upper one, lie within the band
pub overflow_add-result : goal.overflow_add-result
overflow_add-result c =
    let gap = gap_fits c.args.self.now.bands.now c.args.self.now.is_well_formed c.args.scale c.args.y c.requires.over_the_first
    c.requires.up_to_the_last _ _ c.unwrap-index.ensures c.sought.ensures _ c.band_at-band.ensures in
    rw (c.product.ensures, c.product-2.ensures) (omega (arith, gap))

pub overflow_add-below : goal.overflow_add-below
overflow_add-below c = omega (arith, overflow_add-result c)

pub overflow_mul-below : goal.overflow_mul-below
overflow_mul-below c = omega (arith, overflow_add-result c)

pub overflow_cast-below : goal.overflow_cast-below
overflow_cast-below c =
    let gap = gap_fits c.args.self.now.bands.now c.args.self.now.is_well_formed c.args.scale c.args.y c.requires.over_the_first
    c.requires.up_to_the_last _ _ c.unwrap-index.ensures c.sought.ensures _ c.band_at-band.ensures in
    let some = spreads_fit c.args.self.now.bands.now c.args.self.now.is_well_formed c.args.scale c.args.y c.requires.over_the_first
    c.requires.up_to_the_last _ _ c.unwrap-index.ensures c.sought.ensures _ c.band_at-band.ensures in
    rw (c.product.ensures, c.product-2.ensures) (omega (arith, gap, some))

pub returns : goal.returns
returns c =
    rw (c.product.ensures, c.product-2.ensures)
    (is_between c.args.self.now.bands.now c.args.self.now.is_well_formed c.args.scale c.args.y c.requires.over_the_first
    c.requires.up_to_the_last _ _ c.unwrap-index.ensures c.sought.ensures _ c.band_at-band.ensures)
