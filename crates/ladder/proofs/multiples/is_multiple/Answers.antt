-- The quotient that the inverse tells, times the spread, is the number exactly where the spread divides it.
use Rattle.ladder.proofs.Divides.{multiple_told}
use Rattle.ladder.proofs.multiples.is_multiple.Goals as goal

pub returns : goal.returns
returns c = rw c.told.ensures (multiple_told c.args.n c.args.spread c.args.inverse c.requires.some c.requires.low c.requires.inverse)
