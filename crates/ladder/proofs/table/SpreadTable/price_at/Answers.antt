-- The price at a place: so many places up from the first price, whose place is 0.
use Rattle.std.proofs.Common.{◌≡◌, ◌+◌, arith}
use Rattle.ladder.proofs.Tables.Rise.{starts, first_place}
use Rattle.ladder.proofs.table.SpreadTable.price_at.Goals as goal

pub rise-requires : goal.rise-requires
rise-requires c = starts c.args.self.now.bands.now c.args.self.now.is_well_formed _ c.first_price.ensures

pub returns : goal.returns
returns c =
    let place : 0 + c.from.result ≡ c.args.place = omega (arith, c.from.ensures) in
    rw (← place) (c.rise.ensures.found 0 (first_place c.args.self.now.bands.now c.args.self.now.is_well_formed _ c.first_price.ensures))
