-- n spreads down: none from a price outside the ends; the price itself for 0; else a walk from the ladder price at it or behind it.
use Rattle.std.proofs.Common.{Some, ◌∙◌, ap, arith}
use Rattle.ladder.proofs.Lists.Ends.{answers, stays}
use Rattle.ladder.proofs.Tables.Starts.{starts_down}
use Rattle.ladder.proofs.table.SpreadTable.down.Goals as goal

pub returns-then-n-eq0 : goal.returns-then-n-eq0
returns-then-n-eq0 c = stays _ c.args.price c.in_ok-found.ensures.missing _ c.args.n c.if-n-eq0.true

-- the walk starts behind
pub walk_down-requires : goal.walk_down-requires
walk_down-requires c = (starts_down c.args.self.now.bands.now c.args.self.now.is_well_formed c.args.price _ c.in_ok-found.ensures.lies _ c.remainder.ensures).stands

pub returns : goal.returns
returns c =
    let start = starts_down c.args.self.now.bands.now c.args.self.now.is_well_formed c.args.price _ c.in_ok-found.ensures.lies _ c.remainder.ensures in
    ap Some (c.walk_down.ensures ∙ start.leads c.args.n (omega (arith, c.if-n-eq0.false))) ∙
    answers _ c.args.price c.in_ok-found.ensures.missing _
