-- The laws of trades. Each is a field of the record TradeLaws at the end, which proofs/Laws.antt proves as trade_laws: TradeNumbers is the
-- field trade_numbers.
use Rattle.std.specs.Prelude.{◌≡◌, ℕ, Bool, true, false, ◌&&◌, ◌||◌, T, eqb, leb}
use Rattle.tables.specs.Bands.{Table, well_formed}
use Rattle.tables.specs.Named.{unknown_table}
use Rattle.ladder.specs.Ladder.{Prices, ladder}
use Rattle.ladder.specs.Named.{ladder_named}
use Rattle.limits.specs.declared.Percentage.{Percentage}
use Rattle.limits.specs.Limits.{five_percent}
use Rattle.limits.specs.Terms.{terms_on}
use Rattle.questions.specs.Checks.{is_off}
use Rattle.judging.specs.declared.Answer.{Answer}
use Rattle.judging.specs.Answers.{none_shown}
use Rattle.judging.specs.Laws.{LadderRange}
use Rattle.trades.specs.declared.TradeReferences.{TradeReferences}
use Rattle.trades.specs.Trades.{any_trade_off, trade_judged, trade_judged_by}

-- 3 and 4
abbrev pub is_trade_refusal : ℕ → Bool
is_trade_refusal n = eqb n 3 || eqb n 4

-- The numbers that a trade can get: 0, 3, 4, 6, 8, 9; 3 and 4 show 0 and 0.
pub record Numbers (a : Answer) : Type 0 where
  pub one_of : T (eqb a.number 0 || eqb a.number 3 || eqb a.number 4 || eqb a.number 6 || eqb a.number 8 || eqb a.number 9)
  pub refused : T (is_trade_refusal a.number) → a ≡ none_shown a.number

abbrev pub TradeNumbers : Type 0
TradeNumbers = (l : Prices) (percent : Percentage) (p : ℕ) (r : TradeReferences) → Numbers (trade_judged l percent p r)

-- A trade that is not refused: the range shown goes from a ladder price to one that is not lower, and the trade is accepted exactly
-- where its price, on the ladder or not, lies from the lowest shown to the highest shown.
pub record FromTo (t : Table) (a : Answer) (p : ℕ) : Type 0 where
  pub range : LadderRange t a
  pub accepted : eqb a.number 0 ≡ (leb a.lowest p && leb p a.highest)

abbrev pub TradeRange : Type 0
TradeRange =
    (t : Table) → T (well_formed t) → (percent : Percentage) (p : ℕ) (r : TradeReferences) →
    (T (is_trade_refusal (trade_judged (ladder t) percent p r).number) → ⊥) → FromTo t (trade_judged (ladder t) percent p r) p

-- Where the previous close is a ladder price or missing, check 3 is one question put to all five references: is there one that is no ladder
-- price?
abbrev pub TradeCheckedAlike : Type 0
TradeCheckedAlike =
    (t : Table) → T (well_formed t) → (r : TradeReferences) → is_off (ladder t) r.previous_close ≡ false →
    any_trade_off (ladder t) r ≡
    (is_off (ladder t) r.previous_close || is_off (ladder t) r.lowest_bid || is_off (ladder t) r.lowest_ask ||
    is_off (ladder t) r.highest_bid || is_off (ladder t) r.highest_ask)

-- A trade to a call that names a table: 14 with 0 and 0 by a number that names none; else it is judged over that table, at 5 percent.
pub record OnTable (n p : ℕ) (r : TradeReferences) : Type 0 where
  pub unknown : unknown_table n ≡ true → trade_judged_by (terms_on n) p r ≡ none_shown 14
  pub named : unknown_table n ≡ false → trade_judged_by (terms_on n) p r ≡ trade_judged (ladder_named n) five_percent p r

abbrev pub TradeOnTable : Type 0
TradeOnTable = (n p : ℕ) (r : TradeReferences) → OnTable n p r

-- ---- all of them

pub record TradeLaws : Type 0 where
  pub trade_numbers : TradeNumbers
  pub trade_range_lem : TradeRange
  pub trade_checked_alike : TradeCheckedAlike
  pub trade_on_table : TradeOnTable
