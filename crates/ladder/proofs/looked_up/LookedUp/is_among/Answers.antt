-- All three lie in the band of the one that was looked up.
use Rattle.std.proofs.Common.{arith}
use Rattle.ladder.proofs.Tables.Stands.{lies_too}
use Rattle.ladder.proofs.looked_up.LookedUp.is_among.Goals as goal

pub is_on-requires-in-Some : goal.is_on-requires-in-Some
is_on-requires-in-Some c = c.args.self.now.lies c.in-Some.found c.in-Some.is

pub is_on-requires : goal.is_on-requires
is_on-requires c =
    let here = c.args.self.now.lies c.in-Some.found c.in-Some.is in
    lies_too c.args.self.now.table.bands.now c.args.self.now.price c.in-Some.found here c.args.low c.if-found-low.true
    (omega (arith, c.requires.low, here.high))

pub is_on-requires-in-Some-2 : goal.is_on-requires-in-Some-2
is_on-requires-in-Some-2 c =
    let here = c.args.self.now.lies c.in-Some.found c.in-Some.is in
    lies_too c.args.self.now.table.bands.now c.args.self.now.price c.in-Some.found here c.args.high (omega (arith, c.requires.high, here.low))
    c.if-high-found.true
