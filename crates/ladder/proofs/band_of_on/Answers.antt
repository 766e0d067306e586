-- No named table has so many bands that an index does not fit.
use Rattle.ladder.proofs.ByNumber.{index_fits}
use Rattle.ladder.proofs.band_of_on.Goals as goal

pub overflow_cast-result : goal.overflow_cast-result
overflow_cast-result c =
    index_fits c.args.table c.in_ok-table_of.field-0.bands.now c.in_ok-table_of.ensures.bands c.args.price _ c.in_ok-index.index c.in_ok-index.ensures
