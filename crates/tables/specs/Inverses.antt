-- What stands beside the spreads of a table, so that a price is tested against a spread by multiplication. No answer depends on it.
use Rattle.std.specs.Prelude.{ℕ, ◌+◌, ◌-◌, ◌/◌, List, map}
use Rattle.tables.specs.Bands.{Table}

-- 2^31: below it are the prices that are tested by an inverse
abbrev pub price_limit : ℕ
price_limit = 2147483648

-- the inverse of a spread: the least number that, times the spread, is at least the limit
abbrev pub inverse_of : ℕ → ℕ
inverse_of spread = (price_limit - 1) / spread + 1

-- those of all bands
abbrev pub inverses_of : Table → List ℕ
inverses_of t = map (λ b. inverse_of b.spread) t
