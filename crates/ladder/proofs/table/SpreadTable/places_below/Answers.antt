-- The places below a band, summed band by band.
use Rattle.std.proofs.Common.{◌≡◌, refl, arith}
use Rattle.std.proofs.lemmas.List.{length-take}
use Rattle.ladder.specs.Arithmetic.{places_below}
use Rattle.ladder.proofs.Tables.Chain.{first_band, first_under}
use Rattle.ladder.proofs.Tables.Table.{band_facts}
use Rattle.ladder.proofs.Tables.Counting.{places_fit, places_more}
use Rattle.ladder.proofs.table.SpreadTable.places_below.Goals as goal

pub loop-band-init : goal.loop-band-init
unfolding places_below
loop-band-init c = refl

pub overflow_sub-spreads : goal.overflow_sub-spreads
overflow_sub-spreads c =
    let t = c.args.self.now.bands.now in
    let k = c.loop-band.band-index in
    let under = first_under t c.args.index k (omega arith) in
    let whole = band_facts t c.args.self.now.is_well_formed k under _ (first_band t c.args.index k (omega arith)) in
    omega (arith, whole.rises)

pub nonzero_div-spreads : goal.nonzero_div-spreads
nonzero_div-spreads c =
    let t = c.args.self.now.bands.now in
    let k = c.loop-band.band-index in
    let under = first_under t c.args.index k (omega arith) in
    (band_facts t c.args.self.now.is_well_formed k under _ (first_band t c.args.index k (omega arith))).spreads

pub overflow_add-places : goal.overflow_add-places
overflow_add-places c =
    let t = c.args.self.now.bands.now in
    let k = c.loop-band.band-index in
    let under = first_under t c.args.index k (omega arith) in
    let fit = places_fit t c.args.self.now.is_well_formed k under _ (first_band t c.args.index k (omega arith)) in
    omega (arith, fit)

pub loop-band-preserved : goal.loop-band-preserved
loop-band-preserved c =
    let t = c.args.self.now.bands.now in
    let k = c.loop-band.band-index in
    let under = first_under t c.args.index k (omega arith) in
    let more = places_more t c.args.self.now.is_well_formed k under _ (first_band t c.args.index k (omega arith)) in
    omega (arith, more)

pub returns : goal.returns
returns c =
    let t = c.args.self.now.bands.now in
    let all : c.loop-band.band-index ≡ c.args.index = omega (arith, length-take c.args.index t) in
    rw (← all) c.loop-band.invariant
