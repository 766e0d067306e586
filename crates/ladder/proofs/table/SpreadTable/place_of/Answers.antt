-- The place of a price: the places below its band, and its spreads over the bottom.
use Rattle.std.proofs.Common.{sym, arith}
use Rattle.ladder.proofs.Lists.Entries.{place_off}
use Rattle.ladder.proofs.Tables.Table.{band_facts}
use Rattle.ladder.proofs.Tables.Stands.{standing_stands, standing_off}
use Rattle.ladder.proofs.Tables.Counting.{place_fits, place_here}
use Rattle.ladder.proofs.table.SpreadTable.place_of.Goals as goal

pub returns-in_err-index : goal.returns-in_err-index
returns-in_err-index c =
    rw c.from_residual.ensures
    (sym
    (place_off _ 0 c.args.price
    (standing_off c.args.self.now.bands.now c.args.self.now.is_well_formed c.args.price (sym c.in_err-index.ensures))))

-- the price is in the band found
pub band_at-band-requires : goal.band_at-band-requires
band_at-band-requires c =
    (standing_stands c.args.self.now.bands.now c.args.self.now.is_well_formed c.args.price c.in_ok-index.index (sym c.in_ok-index.ensures)).index

pub places_below-requires : goal.places_below-requires
places_below-requires c =
    (standing_stands c.args.self.now.bands.now c.args.self.now.is_well_formed c.args.price c.in_ok-index.index (sym c.in_ok-index.ensures)).index

pub overflow_sub-result : goal.overflow_sub-result
overflow_sub-result c =
    rw c.band_at-band.ensures (standing_stands c.args.self.now.bands.now c.args.self.now.is_well_formed c.args.price c.in_ok-index.index (sym c.in_ok-index.ensures)).low

pub nonzero_div-result : goal.nonzero_div-result
nonzero_div-result c =
    let t = c.args.self.now.bands.now in
    let wf = c.args.self.now.is_well_formed in
    let on = standing_stands t wf c.args.price c.in_ok-index.index (sym c.in_ok-index.ensures) in
    (band_facts t wf c.in_ok-index.index on.index _ c.band_at-band.ensures).spreads

pub overflow_add-result : goal.overflow_add-result
overflow_add-result c =
    let t = c.args.self.now.bands.now in
    let wf = c.args.self.now.is_well_formed in
    let on = standing_stands t wf c.args.price c.in_ok-index.index (sym c.in_ok-index.ensures) in
    omega (arith, c.places_below.ensures, place_fits t wf c.in_ok-index.index on.index _ c.band_at-band.ensures c.args.price on)

pub returns : goal.returns
returns c =
    let t = c.args.self.now.bands.now in
    let wf = c.args.self.now.is_well_formed in
    let on = standing_stands t wf c.args.price c.in_ok-index.index (sym c.in_ok-index.ensures) in
    rw c.places_below.ensures (place_here t wf c.in_ok-index.index on.index _ c.band_at-band.ensures c.args.price on)
