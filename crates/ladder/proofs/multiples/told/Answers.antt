-- The multiple told has 32 bits.
use Rattle.std.proofs.Common.{arith}
use Rattle.ladder.proofs.Divides.{told_fits}
use Rattle.ladder.proofs.multiples.told.Goals as goal

pub overflow_mul-result : goal.overflow_mul-result
overflow_mul-result c = rw c.product.ensures (omega (arith, told_fits c.args.n c.args.spread c.args.inverse c.requires.some c.requires.low c.requires.inverse))
