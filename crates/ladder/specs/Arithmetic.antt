-- Band arithmetic: in which band a price lies and whether it stands there, one turn of a walk, and so many places up.
-- Only functions inside this crate speak of these; what other crates may call is told by the other files.
use Rattle.std.specs.Prelude.{◌≡◌, ℕ, zero, suc, ◌+◌, ◌-◌, ◌*◌, ◌/◌, ◌%◌, ◌≤◌, ◌<◌, Bool, false, ◌&&◌, cond, List, [], ◌∷◌, leb, ltb, length, get_or, Option, Some, None, count_by}
use Rattle.ladder.specs.declared.search.Lies.{Lies}
use Rattle.ladder.specs.declared.turns.Turn.{Turn}
use Rattle.ladder.specs.declared.turns.Turn.TheVariants.{Ends, Leaves}
use Rattle.ladder.specs.declared.rounding.Gap.{Gap}
use Rattle.tables.specs.Bands.{Table, no_band}
use Rattle.ladder.specs.Ladder.{width, ladder}
use Rattle.facts.specs.Lists.{holds}
use Rattle.ladder.specs.Search.{first, latest, at_least, at_most}
use Rattle.ladder.specs.Places.{price_at}
use Rattle.ladder.specs.Trying.{band_of}
use Rattle.tables.specs.Inverses.{price_limit, inverse_of}

-- how many bands of a table end below y / scale
abbrev pub count_below : ℕ → ℕ → Table → ℕ
count_below scale y t = count_by (λ b. ltb (scale * b.top) y) t

-- the band of a ladder price
abbrev pub standing_of : ℕ → Table → Option ℕ
standing_of p t = cond (holds p (ladder t)) (band_of p (length t) t) None

-- what is told of the band where p lies: p is in it, or on its bottom
pub record LiesIn (t : Table) (p : ℕ) (found : Lies) : Type 0 where
  pub index : found.index < length t
  pub is : found.band ≡ get_or t found.index no_band
  pub low : found.band.bottom ≤ p
  pub high : p ≤ found.band.top
  pub low_top : found.band.top < price_limit
  pub spread : 0 < found.band.spread
  pub inverse : found.inverse ≡ inverse_of found.band.spread

-- two prices lie between the ends of band k
abbrev pub spans : ℕ → ℕ → Table → Option ℕ → Bool
spans low high t None = false
spans low high t (Some k) = leb (get_or t k no_band).bottom low && leb high (get_or t k no_band).top

-- p is a ladder price, and so are a lower and a higher one, all three of the band where p lies
abbrev pub in_one_band : ℕ → ℕ → ℕ → Table → Bool
in_one_band low p high t = spans low high t (band_of p (length t) t) && (holds low (ladder t) && holds p (ladder t) && holds high (ladder t))

-- p stands in band k of a table, or on its bottom: it is a ladder price
pub record StandsIn (t : Table) (k p : ℕ) : Type 0 where
  pub index : k < length t
  pub low : (get_or t k no_band).bottom ≤ p
  pub high : p ≤ (get_or t k no_band).top
  pub multiple : (p - (get_or t k no_band).bottom) % (get_or t k no_band).spread ≡ 0

-- how many places lie below the bottom of band k: the spreads of the bands before it
unfoldable pub places_below : ℕ → Table → ℕ
places_below zero t = 0
places_below (suc k) [] = 0
places_below (suc k) (b ∷ bs) = width b + places_below k bs

-- "it takes at once as many of the spreads as the band still has that way, and carries the rest into the next band":
-- n spreads in a band that has `room` mils that way
abbrev pub turn_of : ℕ → ℕ → ℕ → Turn
turn_of n spread room = cond (leb (n * spread) room) (Ends (n * spread)) (Leaves (n - room / spread))

-- r is the price n places above p, wherever p has its place: none above the last place
pub record PlacesUp (l : List ℕ) (p n : ℕ) (r : Option ℕ) : Type 0 where
  pub found : (k : ℕ) → price_at k l ≡ Some p → r ≡ price_at (k + n) l

-- the ladder prices on either side of a threshold: the largest that, times scale, is below y, and the smallest that is not
pub record Between (scale y : ℕ) (l : List ℕ) (gap : Gap) : Type 0 where
  pub is_below : latest (at_most scale (y - 1)) l ≡ Some gap.below
  pub is_above : first (at_least scale y) l ≡ Some gap.above
