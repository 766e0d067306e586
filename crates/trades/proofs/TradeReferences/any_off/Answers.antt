-- The close, or any of four, one after the other.
use Rattle.std.proofs.Math.Bool.{or_assoc, or-false}
use Rattle.trades.specs.Trades.{any_trade_off}
use Rattle.trades.proofs.TradeReferences.any_off.Goals as goal

pub returns : goal.returns
unfolding any_trade_off
returns c = rw (c.lies_outside.ensures, c.any_off.ensures) (simp (or_assoc, or-false))
