-- How far a limit moves when its reference moves up by one spread, at 5 percent: asked for ladder prices. Document 02, h.
use Rattle.std.specs.Prelude.{◌≡◌, ℕ, ◌-◌, ◌≤◌, ◌<◌, Option, Some}
use Rattle.tables.specs.Bands.{Table}
use Rattle.ladder.specs.Ladder.{Prices, ladder}
use Rattle.ladder.specs.Named.{ladder_named}
use Rattle.ladder.specs.Spreads.{spread_up, times, spreads_up}
use Rattle.limits.specs.Limits.{five_percent, lower_limit, upper_limit, lower_limit_found, upper_limit_found}

-- "up by at most" n spreads "and never down": from one price some number of single spreads, n or fewer, leads up to the other
pub record UpAtMost (l : Prices) (n from to : ℕ) : Type 0 where
  pub spreads : ℕ
  pub few : spreads ≤ n
  pub lead : times spreads (spread_up l) from ≡ to

-- the limits of r and those of the next price, which at the last price is r itself: "its lower limit up by at most three spreads and its upper
-- limit by at most two, and never down"
pub record MovesLittle (t : Table) (r : ℕ) : Type 0 where
  pub lower : UpAtMost (ladder t) 3 (lower_limit (ladder t) five_percent r) (lower_limit (ladder t) five_percent (spread_up (ladder t) r))
  pub upper : UpAtMost (ladder t) 2 (upper_limit (ladder t) five_percent r) (upper_limit (ladder t) five_percent (spread_up (ladder t) r))

-- two prices that a call answers, for r and for the next price: the second at most n spreads up from the first
pub record AnswersMove (l : Prices) (limit : ℕ → Option ℕ) (n r next : ℕ) : Type 0 where
  pub from : ℕ
  pub to : ℕ
  pub of_r : limit r ≡ Some from
  pub of_next : limit next ≡ Some to
  pub moves : UpAtMost l n from to

-- the same by the calls that name a table: that for a spread up, and those for the two limits
pub record OneSpread (table r : ℕ) : Type 0 where
  pub next : ℕ
  pub up : spreads_up (ladder_named table) r 1 ≡ Some next
  pub lower : AnswersMove (ladder_named table) (lower_limit_found (ladder_named table) five_percent) 3 r next
  pub upper : AnswersMove (ladder_named table) (upper_limit_found (ladder_named table) five_percent) 2 r next

-- it takes n spreads, no fewer, from one price up to another: n lead there, and one fewer ends lower
pub record Takes (l : Prices) (n from to : ℕ) : Type 0 where
  pub lead : times n (spread_up l) from ≡ to
  pub fewer : times (n - 1) (spread_up l) from < to
