-- Where a price lies: in the band found, and outside the ends nowhere.
use Rattle.std.proofs.Common.{is_none, ◌∙◌, ap}
use Rattle.ladder.proofs.Tables.Stands.{found_inside, found_lies, found_within, none_outside}
use Rattle.ladder.proofs.table.SpreadTable.lies.Goals as goal

pub returns-in_err-index-clause-missing : goal.returns-in_err-index-clause-missing
returns-in_err-index-clause-missing c =
    ap is_none c.from_residual.ensures ∙ none_outside c.args.self.now.bands.now c.args.self.now.is_well_formed c.args.price c.in_err-index.ensures

pub band_at-requires : goal.band_at-requires
band_at-requires c =
    (found_inside c.args.self.now.bands.now c.args.self.now.is_well_formed c.args.price c.in_ok-index.index c.in_ok-index.ensures).index

pub inverse_at-requires : goal.inverse_at-requires
inverse_at-requires c =
    (found_inside c.args.self.now.bands.now c.args.self.now.is_well_formed c.args.price c.in_ok-index.index c.in_ok-index.ensures).index

pub returns-clause-lies : goal.returns-clause-lies
returns-clause-lies c =
    found_lies c.args.self.now.bands.now c.args.self.now.is_well_formed c.args.price c.in_ok-index.index c.in_ok-index.ensures
    c.args.self.now.is_low _ c.band_at.ensures _ c.inverse_at.ensures

pub returns-clause-missing : goal.returns-clause-missing
returns-clause-missing c =
    found_within c.args.self.now.bands.now c.args.self.now.is_well_formed c.args.price c.in_ok-index.index c.in_ok-index.ensures
