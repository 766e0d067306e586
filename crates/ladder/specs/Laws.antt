-- The laws of the ladder, over any well-formed table, in the order in which a reader meets the notions: table, list, places, bands, searches,
-- spreads, order. Each is a field of the record LadderLaws at the end, which proofs/Laws.antt proves as ladder_laws: TheLadder is the field
-- the_ladder.
-- That band arithmetic ends where the plain count ends is not a law in this list: it is what the contracts of the calls say.
use Rattle.std.specs.Prelude.{◌≡◌, ℕ, suc, ◌+◌, ◌-◌, min, ◌≤◌, ◌<◌, Bool, true, false, not, ◌&&◌, T, ltb, leb, length, get_or, Option, Some, None, is_some}
use Rattle.facts.specs.Lists.{holds, Rising}
use Rattle.tables.specs.Bands.{Table, no_band, well_formed}
use Rattle.tables.specs.Named.{phase1, table_named, unknown_table}
use Rattle.ladder.specs.Ladder.{Prices, ladder, is_ladder_price}
use Rattle.ladder.specs.Named.{ladder_named}
use Rattle.ladder.specs.Search.{first, latest, or_else, above, below, at_least, at_most}
use Rattle.ladder.specs.Places.{price_at, place_of, first_price, last_price, is_outside}
use Rattle.ladder.specs.Trying.{lands, band_of}
use Rattle.ladder.specs.Spreads.{spread_up, spread_down, times, if_within, spreads_up, spreads_down}

-- ---- the named tables

-- What is computed of a table: how many prices it has, with places 0 (0.010) to the last (9,995.000).
pub record Counted (t : Table) (count : ℕ) : Type 0 where
  pub prices : length (ladder t) ≡ count
  pub first_place : price_at 0 (ladder t) ≡ Some 10
  pub last_place : price_at (count - 1) (ladder t) ≡ Some 9995000
  pub no_more : price_at count (ladder t) ≡ None

-- "1 the table before Phase 1 (.. 10,340 prices), 2 Phase 1, 3 Phase 2 (.. 12,690 prices)"; Phase 1 has 11,740. That each is well formed is the
-- law NamedTables (crates/tables/specs/Laws.antt).
pub record TheTables : Type 0 where
  pub before_phase1_lem : Counted (table_named 1) 10340
  pub phase1_lem : Counted (table_named 2) 11740
  pub phase2_lem : Counted (table_named 3) 12690

-- Whichever table a number names, its ladder goes from 0.010 to 9,995.000.
pub record FromTo (l : Prices) (first last : ℕ) : Type 0 where
  pub from_first : first_price l ≡ first
  pub to_last : last_price l ≡ last

abbrev pub SameEnds : Type 0
SameEnds = (n : ℕ) → unknown_table n ≡ false → FromTo (ladder_named n) 10 9995000

-- On the ladder of a number that names no table nothing is found: no price lies within the ends, and from none is there a step; none has a place, no
-- place a price, and no price passes a test.
pub record Nothing (l : Prices) : Type 0 where
  pub outside : (p : ℕ) → is_outside p l ≡ true
  pub no_up : (p n : ℕ) → spreads_up l p n ≡ None
  pub no_down : (p n : ℕ) → spreads_down l p n ≡ None
  pub no_place : (p : ℕ) → place_of p l ≡ None
  pub no_price : (k : ℕ) → price_at k l ≡ None
  pub no_first : (test : ℕ → Bool) → first test l ≡ None
  pub no_latest : (test : ℕ → Bool) → latest test l ≡ None

abbrev pub NothingOnUnknown : Type 0
NothingOnUnknown = (n : ℕ) → unknown_table n ≡ true → Nothing (ladder_named n)

-- ---- the list of prices

-- The list holds exactly what document 01 calls ladder prices.
abbrev pub TheLadder : Type 0
TheLadder = (t : Table) → T (well_formed t) → (p : ℕ) → holds p (ladder t) ≡ is_ladder_price p t

-- The list rises: each price is below all that come after it.
abbrev pub LadderRises : Type 0
LadderRises = (t : Table) → T (well_formed t) → Rising (ladder t)

-- Its ends are the first bottom and the last top, they are ladder prices, and no ladder price lies outside them. What is not outside lies from
-- the first price to the last.
pub record Ends (t : Table) : Type 0 where
  pub first_is_bottom : first_price (ladder t) ≡ (get_or t 0 no_band).bottom
  pub last_is_top : last_price (ladder t) ≡ (get_or t (length t - 1) no_band).top
  pub first_on : T (is_ladder_price (first_price (ladder t)) t)
  pub last_on : T (is_ladder_price (last_price (ladder t)) t)
  pub none_below : (p : ℕ) → T (is_ladder_price p t) → first_price (ladder t) ≤ p
  pub none_above : (p : ℕ) → T (is_ladder_price p t) → p ≤ last_price (ladder t)
  pub none_outside : (p : ℕ) → T (is_ladder_price p t) → is_outside p (ladder t) ≡ false
  pub within : (p : ℕ) → is_outside p (ladder t) ≡ false → (first_price (ladder t) ≤ p) × (p ≤ last_price (ladder t))
  pub not_outside : (p : ℕ) → first_price (ladder t) ≤ p → p ≤ last_price (ladder t) → is_outside p (ladder t) ≡ false

abbrev pub EndsAreTheTables : Type 0
EndsAreTheTables = (t : Table) → T (well_formed t) → Ends t

-- No price within the ends is 0, so 0 can stand for a price that is missing.
abbrev pub NeverZero : Type 0
NeverZero = (t : Table) → T (well_formed t) → (p : ℕ) → is_outside p (ladder t) ≡ false → 0 < p

-- ---- places

-- Place of price and price of place are inverse, both ways and without loss: each ladder price has a place, and each place a price;
-- a price off the ladder has no place, and a place above the last no price.
pub record Inverse (t : Table) : Type 0 where
  pub place_of_price : (k p : ℕ) → price_at k (ladder t) ≡ Some p → place_of p (ladder t) ≡ Some k
  pub price_of_place : (k p : ℕ) → place_of p (ladder t) ≡ Some k → price_at k (ladder t) ≡ Some p
  pub price_has_place : (p : ℕ) → T (is_ladder_price p t) → (k : ℕ) × (place_of p (ladder t) ≡ Some k)
  pub place_has_price : (k : ℕ) → k < length (ladder t) → (p : ℕ) × (price_at k (ladder t) ≡ Some p)
  pub off_the_ladder : (p : ℕ) → (T (is_ladder_price p t) → ⊥) → place_of p (ladder t) ≡ None
  pub above_the_last : (k : ℕ) → length (ladder t) ≤ k → price_at k (ladder t) ≡ None

abbrev pub PlacesAreInverse : Type 0
PlacesAreInverse = (t : Table) → T (well_formed t) → Inverse t

-- ---- bands, and the band of a price

-- Bands are in order: each ends at or below where any later one starts.
abbrev pub BandsInOrder : Type 0
BandsInOrder =
    (t : Table) → T (well_formed t) → (j k : ℕ) → j < k → k < length t → (get_or t j no_band).top ≤ (get_or t k no_band).bottom

-- A band that is found is a band of the table and holds the price: whatever the table, and however few bands may be tried.
pub record IsHeld (t : Table) (p k : ℕ) : Type 0 where
  pub index : k < length t
  pub held : T (lands 1 p t k)

abbrev pub FoundHolds : Type 0
FoundHolds = (t : Table) → (p allowed k : ℕ) → band_of p allowed t ≡ Some k → IsHeld t p k

-- No two bands hold the same price, nor the same threshold over a scale.
abbrev pub OneHolds : Type 0
OneHolds = (t : Table) → T (well_formed t) → (scale y j k : ℕ) → T (lands scale y t j) → T (lands scale y t k) → j ≡ k

-- A band that is found is found too where more bands may be tried.
abbrev pub MoreFind : Type 0
MoreFind = (t : Table) → (p a b k : ℕ) → a ≤ b → band_of p a t ≡ Some k → band_of p b t ≡ Some k

-- "Allowed three bands, the search still finds the band of every price over 0.50 to 50, on each of the three tables": of these prices, and of no
-- others.
abbrev pub ThreeFind : Type 0
ThreeFind = (n : ℕ) → unknown_table n ≡ false → (p : ℕ) → is_some (band_of p 3 (table_named n)) ≡ (ltb 500 p && leb p 50000)

-- "allowed all, of every price within the ends": of these prices, and of no others.
abbrev pub AllFind : Type 0
AllFind = (t : Table) → T (well_formed t) → (p allowed : ℕ) → length t ≤ allowed → is_some (band_of p allowed t) ≡ not (is_outside p (ladder t))

-- By a number that names no table no band is found.
abbrev pub NoBandOnUnknown : Type 0
NoBandOnUnknown = (n : ℕ) → unknown_table n ≡ true → (p allowed : ℕ) → band_of p allowed (table_named n) ≡ None

-- ---- searches

-- q is the extreme one of the ladder prices that pass a test: for Least the smallest, for Greatest the largest
pub record Extreme (R : ℕ → ℕ → Type 0) (t : Table) (test : ℕ → Bool) (q : ℕ) : Type 0 where
  pub on : T (is_ladder_price q t)
  pub passes : T (test q)
  pub extreme : (x : ℕ) → T (is_ladder_price x t) → T (test x) → R q x

abbrev pub Least : ℕ → ℕ → Type 0
Least q x = q ≤ x

abbrev pub Greatest : ℕ → ℕ → Type 0
Greatest q x = x ≤ q

abbrev pub NonePasses : Table → (ℕ → Bool) → Type 0
NonePasses t test = (x : ℕ) → T (is_ladder_price x t) → T (test x) → ⊥

-- a search answers the extreme price, exactly where a ladder price passes, and nothing, exactly where none does
pub record Finds (R : ℕ → ℕ → Type 0) (t : Table) (test : ℕ → Bool) (answer : Option ℕ) : Type 0 where
  pub found : (q : ℕ) → answer ≡ Some q → Extreme R t test q
  pub finds : (q : ℕ) → Extreme R t test q → answer ≡ Some q
  pub nothing : answer ≡ None → NonePasses t test
  pub none : NonePasses t test → answer ≡ None

-- The first price in the list that passes a test is the smallest ladder price that passes it, the latest is the largest: whatever the test.
abbrev pub FirstIsSmallest : Type 0
FirstIsSmallest = (t : Table) → T (well_formed t) → (test : ℕ → Bool) → Finds Least t test (first test (ladder t))

abbrev pub LatestIsLargest : Type 0
LatestIsLargest = (t : Table) → T (well_formed t) → (test : ℕ → Bool) → Finds Greatest t test (latest test (ladder t))

-- ---- spreads

-- A single spread up is the smallest ladder price above p, and stays where there is none: from any p, on the ladder or off it.
pub record SingleUp (t : Table) (p : ℕ) : Type 0 where
  pub moves : (x : ℕ) → T (is_ladder_price x t) → p < x → Extreme Least t (above p) (spread_up (ladder t) p)
  pub stays : ((x : ℕ) → T (is_ladder_price x t) → x ≤ p) → spread_up (ladder t) p ≡ p

abbrev pub SpreadUpIsNext : Type 0
SpreadUpIsNext = (t : Table) → T (well_formed t) → (p : ℕ) → SingleUp t p

-- A spread up is that of the band above: from a ladder price below the last it leads up by the spread of a band that goes on above the price, and
-- no further than that band's top.
pub record UpInBand (t : Table) (p k : ℕ) : Type 0 where
  pub there : k < length t
  pub over : (get_or t k no_band).bottom ≤ p
  pub by_spread : spread_up (ladder t) p ≡ p + (get_or t k no_band).spread
  pub up_to : spread_up (ladder t) p ≤ (get_or t k no_band).top

abbrev pub SpreadOfTheBandAbove : Type 0
SpreadOfTheBandAbove =
    (t : Table) → T (well_formed t) → (p : ℕ) → T (is_ladder_price p t) → p < last_price (ladder t) → (k : ℕ) × UpInBand t p k

-- A single spread down is the largest ladder price below p, and stays where there is none.
pub record SingleDown (t : Table) (p : ℕ) : Type 0 where
  pub moves : (x : ℕ) → T (is_ladder_price x t) → x < p → Extreme Greatest t (below p) (spread_down (ladder t) p)
  pub stays : ((x : ℕ) → T (is_ladder_price x t) → p ≤ x) → spread_down (ladder t) p ≡ p

abbrev pub SpreadDownIsPrevious : Type 0
SpreadDownIsPrevious = (t : Table) → T (well_formed t) → (p : ℕ) → SingleDown t p

-- From a price within the ends that is no ladder price, the first spread goes to the nearest ladder price that way, and counts as one: n + 1
-- spreads from p are n spreads from that price.
pub record Nearest (t : Table) (p : ℕ) : Type 0 where
  pub above_has : (q : ℕ) × Extreme Least t (above p) q
  pub up : (q n : ℕ) → Extreme Least t (above p) q → spreads_up (ladder t) p (suc n) ≡ spreads_up (ladder t) q n
  pub below_has : (q : ℕ) × Extreme Greatest t (below p) q
  pub down : (q n : ℕ) → Extreme Greatest t (below p) q → spreads_down (ladder t) p (suc n) ≡ spreads_down (ladder t) q n

abbrev pub FirstToTheNearest : Type 0
FirstToTheNearest =
    (t : Table) → T (well_formed t) → (p : ℕ) → is_outside p (ladder t) ≡ false → (T (is_ladder_price p t) → ⊥) → Nearest t p

-- n spreads from a price end up not below it and down not above it. From a ladder price they end on the ladder; from any other price within
-- the ends they do once at least one spread is taken.
pub record Stays (t : Table) (n p : ℕ) : Type 0 where
  pub up_above : p ≤ times n (spread_up (ladder t)) p
  pub down_below : times n (spread_down (ladder t)) p ≤ p
  pub up_on : T (is_ladder_price p t) → T (is_ladder_price (times n (spread_up (ladder t)) p) t)
  pub down_on : T (is_ladder_price p t) → T (is_ladder_price (times n (spread_down (ladder t)) p) t)
  pub up_lands : is_outside p (ladder t) ≡ false → T (is_ladder_price (times (suc n) (spread_up (ladder t)) p) t)
  pub down_lands : is_outside p (ladder t) ≡ false → T (is_ladder_price (times (suc n) (spread_down (ladder t)) p) t)

abbrev pub SpreadsStay : Type 0
SpreadsStay = (t : Table) → T (well_formed t) → (n p : ℕ) → Stays t n p

-- What is asked from a price p is answered where p lies within the ends, by the number due, and from no other price.
pub record Answers (p : ℕ) (l : Prices) (number : ℕ) : Type 0 where
  pub within : is_outside p l ≡ false → if_within p l number ≡ Some number
  pub price : (q : ℕ) → if_within p l number ≡ Some q → (is_outside p l ≡ false) × (q ≡ number)
  pub nothing : if_within p l number ≡ None → is_outside p l ≡ true

abbrev pub OnlyWithinTheEnds : Type 0
OnlyWithinTheEnds = (p : ℕ) (l : Prices) (number : ℕ) → Answers p l number

-- n spreads, and then m from where they end, are n + m spreads: up, and down.
pub record Adds (t : Table) (n m p q : ℕ) : Type 0 where
  pub up : spreads_up (ladder t) p n ≡ Some q → spreads_up (ladder t) q m ≡ spreads_up (ladder t) p (n + m)
  pub down : spreads_down (ladder t) p n ≡ Some q → spreads_down (ladder t) q m ≡ spreads_down (ladder t) p (n + m)

abbrev pub NThenM : Type 0
NThenM = (t : Table) → T (well_formed t) → (n m p q : ℕ) → Adds t n m p q

-- Going by places is the same: n spreads up from place k lead n places on, or to the last, and n spreads down n places back, or to the first.
pub record ByPlaces (t : Table) (k p n : ℕ) : Type 0 where
  pub up : spreads_up (ladder t) p n ≡ price_at (min (k + n) (length (ladder t) - 1)) (ladder t)
  pub down : spreads_down (ladder t) p n ≡ price_at (k - n) (ladder t)

abbrev pub GoingByPlaces : Type 0
GoingByPlaces = (t : Table) → T (well_formed t) → (k p n : ℕ) → place_of p (ladder t) ≡ Some k → ByPlaces t k p n

-- Up and then down need not return: a spread up from 9,995.000 halts there, and a spread down from there is 9,990.000.
pub record UpThenDown : Type 0 where
  pub up : spreads_up (ladder phase1) 9995000 1 ≡ Some 9995000
  pub then_down : spreads_down (ladder phase1) 9995000 1 ≡ Some 9990000

-- ---- order

-- Of two prices, on the ladder or off it, the higher one is no lower after n spreads up, nor after n spreads down.
pub record SpreadsOrdered (t : Table) (n p q : ℕ) : Type 0 where
  pub up : times n (spread_up (ladder t)) p ≤ times n (spread_up (ladder t)) q
  pub down : times n (spread_down (ladder t)) p ≤ times n (spread_down (ladder t)) q

abbrev pub SpreadsKeepOrder : Type 0
SpreadsKeepOrder = (t : Table) → T (well_formed t) → (n p q : ℕ) → p ≤ q → SpreadsOrdered t n p q

-- Of two thresholds the higher one is rounded to no lower price, where the end of the ladder stands in for no price.
pub record RoundingOrdered (t : Table) (scale y z : ℕ) : Type 0 where
  pub at_least_lem :
      or_else (last_price (ladder t)) (first (at_least scale y) (ladder t)) ≤ or_else (last_price (ladder t)) (first (at_least scale z) (ladder t))
  pub at_most_lem :
      or_else (first_price (ladder t)) (latest (at_most scale y) (ladder t)) ≤ or_else (first_price (ladder t)) (latest (at_most scale z) (ladder t))

abbrev pub RoundingKeepsOrder : Type 0
RoundingKeepsOrder = (t : Table) → T (well_formed t) → (scale y z : ℕ) → y ≤ z → RoundingOrdered t scale y z

-- ---- all of them

pub record LadderLaws : Type 0 where
  pub the_tables : TheTables
  pub same_ends : SameEnds
  pub nothing_on_unknown : NothingOnUnknown
  pub the_ladder : TheLadder
  pub ladder_rises : LadderRises
  pub ends_are_the_tables : EndsAreTheTables
  pub never_zero : NeverZero
  pub places_are_inverse : PlacesAreInverse
  pub bands_in_order : BandsInOrder
  pub found_holds : FoundHolds
  pub one_holds : OneHolds
  pub more_find : MoreFind
  pub three_find : ThreeFind
  pub all_find : AllFind
  pub no_band_on_unknown : NoBandOnUnknown
  pub first_is_smallest : FirstIsSmallest
  pub latest_is_largest : LatestIsLargest
  pub spread_up_is_next : SpreadUpIsNext
  pub spread_of_the_band_above : SpreadOfTheBandAbove
  pub spread_down_is_previous : SpreadDownIsPrevious
  pub first_to_the_nearest : FirstToTheNearest
  pub spreads_stay : SpreadsStay
  pub only_within_the_ends : OnlyWithinTheEnds
  pub n_then_m : NThenM
  pub going_by_places : GoingByPlaces
  pub up_then_down : UpThenDown
  pub spreads_keep_order : SpreadsKeepOrder
  pub rounding_keeps_order : RoundingKeepsOrder
