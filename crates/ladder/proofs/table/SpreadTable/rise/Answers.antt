-- So many places up, band by band.
use Rattle.std.proofs.Common.{◌≡◌, ◌+◌, ◌<◌, length, arith}
use Rattle.ladder.proofs.Tables.Chain.{rest_band, rest_length}
use Rattle.ladder.proofs.Tables.Table.{band_facts}
use Rattle.ladder.proofs.Tables.Rise.{rise_ends, rise_leaves}
use Rattle.ladder.proofs.table.SpreadTable.rise.Goals as goal

pub loop-band-init : goal.loop-band-init
loop-band-init c =
    record {
      stands = λ h. let zero : c.args.index + 0 ≡ c.args.index = omega arith in rw zero c.requires;
      past = λ h. absurd (h (omega (arith, c.requires.index)));
      leads = λ r u. u;
    }

pub overflow_sub-band : goal.overflow_sub-band
overflow_sub-band c =
    let t = c.args.self.now.bands.now in
    let l = c.loop-band in
    rw (rest_band t c.args.index l.band-index) (l.invariant.stands (omega (arith, rest_length t c.args.index))).high

pub turn_in-requires : goal.turn_in-requires
turn_in-requires c =
    let t = c.args.self.now.bands.now in
    (band_facts t c.args.self.now.is_well_formed (c.args.index + c.loop-band.band-index) (omega (arith, rest_length t c.args.index)) _
    (rest_band t c.args.index c.loop-band.band-index)).spreads

pub returns-in-Ends : goal.returns-in-Ends
returns-in-Ends c =
    let t = c.args.self.now.bands.now in
    let l = c.loop-band in
    let more : c.args.index + l.band-index < length t = omega (arith, rest_length t c.args.index) in
    rise_ends t c.args.self.now.is_well_formed c.args.price c.args.n l.at l.left (c.args.index + l.band-index) more _
    (rest_band t c.args.index l.band-index) l.invariant _ c.in-Ends.ensures

pub loop-band-preserved : goal.loop-band-preserved
loop-band-preserved c =
    let t = c.args.self.now.bands.now in
    let l = c.loop-band in
    let k = c.args.index + l.band-index in
    let more : k < length t = omega (arith, rest_length t c.args.index) in
    let next : c.args.index + (l.band-index + 1) ≡ k + 1 = omega arith in
    rw next
    (rise_leaves t c.args.self.now.is_well_formed c.args.price c.args.n l.at l.left k more _ (rest_band t c.args.index l.band-index)
    l.invariant _ c.in-Leaves.ensures)

-- the place is past the last band
pub returns : goal.returns
returns c =
    let l = c.loop-band in
    l.invariant.leads _ (l.invariant.past (λ h. omega (arith, rest_length c.args.self.now.bands.now c.args.index)))
