-- The last price is the last top.
use Rattle.std.proofs.Common.{◌-◌, length, sym, arith}
use Rattle.ladder.proofs.Tables.Table.{table_facts, last_is_top}
use Rattle.ladder.proofs.table.SpreadTable.last_price.Goals as goal

pub overflow_sub-result : goal.overflow_sub-result
overflow_sub-result c = omega (arith, (table_facts c.args.self.now.bands.now c.args.self.now.is_well_formed).some)

pub bounds-self-self : goal.bounds-self-self
bounds-self-self c = omega (arith, (table_facts c.args.self.now.bands.now c.args.self.now.is_well_formed).some)

pub returns : goal.returns
returns c =
    let t = c.args.self.now.bands.now in
    let wf = c.args.self.now.is_well_formed in
    sym (last_is_top t wf (length t - 1) (omega (arith, (table_facts t wf).some)))
