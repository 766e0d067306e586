-- The laws of the limits. Each is a field of the record LimitLaws at the end, which proofs/Laws.antt proves as limit_laws: LimitsAreOrdered is
-- the field limits_are_ordered.
use Rattle.std.specs.Prelude.{◌≡◌, ℕ, ◌*◌, ◌≤◌, true, false, T, Option, Some, None}
use Rattle.tables.specs.Bands.{Table, well_formed}
use Rattle.tables.specs.Named.{phase1, unknown_table}
use Rattle.tables.specs.Growth.{grows_slowly}
use Rattle.ladder.specs.Ladder.{Prices, ladder, is_ladder_price}
use Rattle.ladder.specs.Named.{ladder_named}
use Rattle.ladder.specs.Search.{first, latest, at_least, at_most}
use Rattle.ladder.specs.Places.{is_outside}
use Rattle.ladder.specs.Spreads.{spread_up}
use Rattle.limits.specs.declared.Percentage.{Percentage}
use Rattle.limits.specs.Limits.{five_percent, lower_limit, upper_limit, lower_limit_found, upper_limit_found, percent_lower_found, percent_upper_found}
use Rattle.limits.specs.Moves.{MovesLittle, OneSpread, Takes}

-- A percentage limit of a price within the ends always finds a price, where the percentage is taken off for the lower limit and added for the
-- upper one, as at 5 percent: for the lower limit the last ladder price passes, for the upper the first. The end of the ladder stands in only at
-- other percentages.
pub record FindsPrices (t : Table) (percent : Percentage) (r : ℕ) : Type 0 where
  pub lower : percent.lower ≤ percent.scale → (q : ℕ) × (first (at_least percent.scale (percent.lower * r)) (ladder t) ≡ Some q)
  pub upper : percent.scale ≤ percent.upper → (q : ℕ) × (latest (at_most percent.scale (percent.upper * r)) (ladder t) ≡ Some q)

abbrev pub PercentageFinds : Type 0
PercentageFinds = (t : Table) → T (well_formed t) → (percent : Percentage) (r : ℕ) → is_outside r (ladder t) ≡ false → FindsPrices t percent r

-- The limits of a price within the ends are ladder prices, the lower one not above it and the upper one not below it.
pub record Encloses (t : Table) (percent : Percentage) (r : ℕ) : Type 0 where
  pub lower_on : T (is_ladder_price (lower_limit (ladder t) percent r) t)
  pub upper_on : T (is_ladder_price (upper_limit (ladder t) percent r) t)
  pub lower_below : lower_limit (ladder t) percent r ≤ r
  pub upper_above : r ≤ upper_limit (ladder t) percent r

abbrev pub LimitsEnclose : Type 0
LimitsEnclose = (t : Table) → T (well_formed t) → (percent : Percentage) (r : ℕ) → is_outside r (ladder t) ≡ false → Encloses t percent r

-- Of two references, on the ladder or off it, the higher one has no smaller limit: over any well-formed table, at any percentage.
pub record Ordered (t : Table) (percent : Percentage) (p q : ℕ) : Type 0 where
  pub lower : lower_limit (ladder t) percent p ≤ lower_limit (ladder t) percent q
  pub upper : upper_limit (ladder t) percent p ≤ upper_limit (ladder t) percent q

abbrev pub LimitsAreOrdered : Type 0
LimitsAreOrdered = (t : Table) → T (well_formed t) → (percent : Percentage) (p q : ℕ) → p ≤ q → Ordered t percent p q

-- both references have a limit, and that of the higher one, q, is not the smaller
pub record NoSmaller (limit : ℕ → Option ℕ) (p q : ℕ) : Type 0 where
  pub of_p : ℕ
  pub of_q : ℕ
  pub p_has : limit p ≡ Some of_p
  pub q_has : limit q ≡ Some of_q
  pub ordered : of_p ≤ of_q

-- Demand 3c at 5 percent, on the table that a number names: for every two prices within the ends as references, the higher never has a smaller
-- lower or upper limit. (By a number that names no table no price is within the ends: ladder law NothingOnUnknown.)
pub record HigherHasNoSmaller (n p q : ℕ) : Type 0 where
  pub lower : NoSmaller (lower_limit_found (ladder_named n) five_percent) p q
  pub upper : NoSmaller (upper_limit_found (ladder_named n) five_percent) p q

abbrev pub HigherReference : Type 0
HigherReference =
    (n p q : ℕ) → is_outside p (ladder_named n) ≡ false → is_outside q (ladder_named n) ≡ false → p ≤ q → HigherHasNoSmaller n p q

-- From no price is there a limit by a number that names no table.
pub record NoLimit (l : Prices) (r : ℕ) : Type 0 where
  pub no_lower : lower_limit_found l five_percent r ≡ None
  pub no_upper : upper_limit_found l five_percent r ≡ None
  pub no_percent_lower : percent_lower_found l five_percent r ≡ None
  pub no_percent_upper : percent_upper_found l five_percent r ≡ None

abbrev pub NoLimitOnUnknown : Type 0
NoLimitOnUnknown = (n r : ℕ) → unknown_table n ≡ true → NoLimit (ladder_named n) r

-- ---- one spread more

-- "One argument serves the tables": over any well-formed table whose spreads grow slowly the limits of every price within the ends move little;
-- of every ladder price, as is asked, and of a price between two, which moves up to the nearest one.
abbrev pub LimitsMoveLittle : Type 0
LimitsMoveLittle = (t : Table) → T (well_formed t) → T (grows_slowly t) → (r : ℕ) → is_outside r (ladder t) ≡ false → MovesLittle t r

-- The spreads of each table that a number names grow slowly (tables law NamedGrowSlowly), so the limits that the calls answer on it move little.
abbrev pub OneSpreadMovesLittle : Type 0
OneSpreadMovesLittle = (table r : ℕ) → is_outside r (ladder_named table) ≡ false → OneSpread table r

-- "The lower limit from 50.00 to 50.05 and the upper from 10.19 to 10.20, both on Phase 1, reach the bounds": the next price, both limits, and how
-- many spreads it takes from the one to the other. (So the two limits that are compared are those of two references.)
pub record BoundsAreReached : Type 0 where
  pub next_of_50_00 : spread_up (ladder phase1) 50000 ≡ 50050
  pub lower_of_50_00 : lower_limit (ladder phase1) five_percent 50000 ≡ 47500
  pub lower_of_50_05 : lower_limit (ladder phase1) five_percent 50050 ≡ 47560
  pub lower_takes_three : Takes (ladder phase1) 3 47500 47560
  pub next_of_10_19 : spread_up (ladder phase1) 10190 ≡ 10200
  pub upper_of_10_19 : upper_limit (ladder phase1) five_percent 10190 ≡ 10690
  pub upper_of_10_20 : upper_limit (ladder phase1) five_percent 10200 ≡ 10710
  pub upper_takes_two : Takes (ladder phase1) 2 10690 10710

-- ---- all of them

pub record LimitLaws : Type 0 where
  pub percentage_finds : PercentageFinds
  pub limits_enclose : LimitsEnclose
  pub limits_are_ordered : LimitsAreOrdered
  pub higher_reference : HigherReference
  pub no_limit_on_unknown : NoLimitOnUnknown
  pub limits_move_little : LimitsMoveLittle
  pub one_spread_moves_little : OneSpreadMovesLittle
  pub bounds_are_reached : BoundsAreReached
