-- The limits of a reference r, any price within the ends of a ladder, worked out by the plain count over the list of all its prices. Document
-- 01, "The two limits of a reference R"; document 02, b. A limit has two names: lower_limit is the number, lower_limit_found what a call answers.
use Rattle.std.specs.Prelude.{ℕ, ◌*◌, min, max, Option}
use Rattle.ladder.specs.Ladder.{Prices}
use Rattle.limits.specs.declared.Percentage.{Percentage}
use Rattle.ladder.specs.Search.{first, latest, or_else, at_least, at_most}
use Rattle.ladder.specs.Places.{first_price, last_price}
use Rattle.ladder.specs.Spreads.{spread_up, spread_down, times, if_within}

-- how many spreads a limit reaches at least
abbrev pub limit_spreads : ℕ
limit_spreads = 24

-- 5 percent: below r it is 95 * r, and above it 105 * r, against 100 * q
abbrev pub five_percent : Percentage
five_percent = record { scale = 100; lower = 95; upper = 105 }

-- the percentage limits by themselves, before spreads are looked at: the first price q with scale * q at least lower * r, the latest with
-- scale * q at most upper * r. It is r as given that counts, not a ladder price next to it. Where there is none, the last price and the first
-- price stand in (at 5 percent that does not happen: the law PercentageFinds)
abbrev pub percent_lower : Prices → Percentage → ℕ → ℕ
percent_lower l percent r = or_else (last_price l) (first (at_least percent.scale (percent.lower * r)) l)

abbrev pub percent_upper : Prices → Percentage → ℕ → ℕ
percent_upper l percent r = or_else (first_price l) (latest (at_most percent.scale (percent.upper * r)) l)

-- the lower limit: the smaller of r after so many single spreads down and the percentage limit
abbrev pub lower_limit : Prices → Percentage → ℕ → ℕ
lower_limit l percent r = min (times limit_spreads (spread_down l) r) (percent_lower l percent r)

-- the upper limit: the larger of r after so many single spreads up and the percentage limit
abbrev pub upper_limit : Prices → Percentage → ℕ → ℕ
upper_limit l percent r = max (times limit_spreads (spread_up l) r) (percent_upper l percent r)

-- what the calls answer: from a reference outside the ends, no price. At 5 percent the last two are Low(R) and High(R) of document 01.
abbrev pub percent_lower_found : Prices → Percentage → ℕ → Option ℕ
percent_lower_found l percent r = if_within r l (percent_lower l percent r)

abbrev pub percent_upper_found : Prices → Percentage → ℕ → Option ℕ
percent_upper_found l percent r = if_within r l (percent_upper l percent r)

abbrev pub lower_limit_found : Prices → Percentage → ℕ → Option ℕ
lower_limit_found l percent r = if_within r l (lower_limit l percent r)

abbrev pub upper_limit_found : Prices → Percentage → ℕ → Option ℕ
upper_limit_found l percent r = if_within r l (upper_limit l percent r)
