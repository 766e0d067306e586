-- n spreads up: none from a price outside the ends; the price itself for 0; else so many places up from the ladder price at it or behind it, or
-- the last price.
use Rattle.std.proofs.Common.{Some, ◌∙◌, ap, arith}
use Rattle.ladder.specs.Ladder.{ladder}
use Rattle.ladder.proofs.Lists.Ends.{answers, stays}
use Rattle.ladder.proofs.Lists.Going.{rise_halts}
use Rattle.ladder.proofs.Tables.Table.{ladder_rises}
use Rattle.ladder.proofs.Tables.Stands.{in_band_held}
use Rattle.ladder.proofs.Tables.Starts.{starts_up}
use Rattle.ladder.proofs.table.SpreadTable.up.Goals as goal

pub returns-then-n-eq0 : goal.returns-then-n-eq0
returns-then-n-eq0 c = stays _ c.args.price c.in_ok-found.ensures.missing _ c.args.n c.if-n-eq0.true

-- the walk starts behind
pub rise-requires : goal.rise-requires
rise-requires c = (starts_up c.args.self.now.bands.now c.args.self.now.is_well_formed c.args.price _ c.in_ok-found.ensures.lies _ c.remainder.ensures).stands

pub returns : goal.returns
returns c =
    let t = c.args.self.now.bands.now in
    let wf = c.args.self.now.is_well_formed in
    let start = starts_up t wf c.args.price _ c.in_ok-found.ensures.lies _ c.remainder.ensures in
    rw (c.unwrap_or.ensures, c.last_price.ensures)
    (ap Some
    (rise_halts (ladder t) (ladder_rises t wf) c.args.n _ (in_band_held t wf _ _ start.stands) _ c.rise.ensures ∙
    start.leads c.args.n (omega (arith, c.if-n-eq0.false))) ∙
    answers (ladder t) c.args.price c.in_ok-found.ensures.missing _)
