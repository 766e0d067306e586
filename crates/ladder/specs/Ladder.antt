-- The ladder of a table: the rising list of all its prices; and a ladder price in the words of document 01, "The ladder".
use Rattle.std.specs.Prelude.{ℕ, zero, suc, ◌+◌, ◌-◌, ◌/◌, ◌%◌, Bool, false, ◌&&◌, ◌||◌, List, [], ◌∷◌, ◌++◌, eqb, ltb, leb}
use Rattle.tables.specs.declared.Band.{Band}
use Rattle.tables.specs.Bands.{Table}

-- prices of a ladder, from the first to the last
abbrev pub Prices : Type 0
Prices = List ℕ

-- how many spreads wide a band is
abbrev pub width : Band → ℕ
width b = (b.top - b.bottom) / b.spread

-- the next n prices above a, a spread s apart
unfoldable pub rungs : ℕ → ℕ → ℕ → Prices
rungs s a zero = []
rungs s a (suc n) = (a + s) ∷ rungs s (a + s) n

-- the prices that the bands hold, band by band
unfoldable pub band_prices : Table → Prices
band_prices [] = []
band_prices (b ∷ bs) = rungs b.spread b.bottom (width b) ++ band_prices bs

-- the ladder: the first bottom, and every price that a band holds
unfoldable pub ladder : Table → Prices
ladder [] = []
ladder (b ∷ bs) = b.bottom ∷ band_prices (b ∷ bs)

-- "a price in a band that exceeds the band's bottom by a multiple of its spread"
abbrev pub in_band : ℕ → Band → Bool
in_band p b = ltb b.bottom p && leb p b.top && eqb ((p - b.bottom) % b.spread) 0

unfoldable pub in_some_band : ℕ → Table → Bool
in_some_band p [] = false
in_some_band p (b ∷ bs) = in_band p b || in_some_band p bs

-- "A ladder price is 10, or a price in a band that exceeds the band's bottom by a multiple of its spread": 10 is the first bottom.
-- The law TheLadder says that the ladder holds exactly these.
unfoldable pub is_ladder_price : ℕ → Table → Bool
is_ladder_price p [] = false
is_ladder_price p (b ∷ bs) = eqb p b.bottom || in_some_band p (b ∷ bs)
