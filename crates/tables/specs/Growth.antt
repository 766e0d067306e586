-- How fast the spreads of a table grow from band to band. Over a table that passes this test, one spread of a reference moves its lower limit at
-- 5 percent by at most three spreads and its upper limit by at most two: law LimitsMoveLittle (crates/limits/specs/Laws.antt). Document 02, h.
use Rattle.std.specs.Prelude.{◌*◌, Bool, true, ◌&&◌, ◌||◌, [], ◌∷◌, leb}
use Rattle.std.specs.List.{list_all}
use Rattle.tables.specs.declared.Band.{Band}
use Rattle.tables.specs.Bands.{Table}

-- a band has low prices: from wherever 5 percent leads down to one of them, 24 of its spreads lead down at least as far. (5 percent leads down to p
-- from 100 / 95 of p, over 5 / 95 of p. In the first band that is some 13 spreads at most, from the 0.250 at its top.)
abbrev pub low_priced : Band → Bool
low_priced b = leb (5 * b.top) (95 * (24 * b.spread))

-- two bands, the lower one first, are far apart: 95 percent of the bottom of the higher one is at the top of the lower one, or over it
abbrev pub far_apart : Band → Band → Bool
far_apart low high = leb (100 * low.top) (95 * high.bottom)

-- a spread of the higher one is at most three of the lower one: by so many a lower limit may move
abbrev pub at_most_thrice : Band → Band → Bool
at_most_thrice low high = leb high.spread (3 * low.spread)

-- from a lower band to a higher one: the spread does not fall, and grows little where 5 percent below the higher one makes a limit in the lower one
abbrev pub grows_little : Band → Band → Bool
grows_little low high = leb low.spread high.spread && (low_priced low || far_apart low high || at_most_thrice low high)

-- so it is for every two bands of a table
unfoldable pub grows_slowly : Table → Bool
grows_slowly [] = true
grows_slowly (b ∷ bs) = list_all (grows_little b) bs && grows_slowly bs
