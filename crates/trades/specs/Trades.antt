-- Document 01, "Off-System trades": "Six numbers of 4 bytes, in mils, handed over as numbers and not as a record: trade price, previous close, lowest
-- bid, lowest ask, highest bid, highest ask of the day so far." Over any ladder l, the list of its prices, and any percentage. House reading: a trade
-- price need not be on the ladder.
use Rattle.std.specs.Prelude.{ℕ, Bool, cond, ◌||◌, Ok, Err}
use Rattle.ladder.specs.Ladder.{Prices}
use Rattle.limits.specs.declared.Percentage.{Percentage}
use Rattle.limits.specs.Limits.{lower_limit_found, upper_limit_found}
use Rattle.limits.specs.Terms.{Found, bad_terms_number}
use Rattle.questions.specs.declared.Reference.TheVariants.{Missing}
use Rattle.questions.specs.Missing.{reference_of, least, greatest, price_or}
use Rattle.questions.specs.Checks.{is_off, lies_outside, bad_pair}
use Rattle.ranges.specs.declared.Range.{Range}
use Rattle.ranges.specs.declared.Refusal.TheVariants.{OffLadder, Disagreement}
use Rattle.ranges.specs.Readings.{Reading}
use Rattle.ranges.specs.Bounds.{from_reference, bottom, top}
use Rattle.judging.specs.declared.Answer.{Answer}
use Rattle.judging.specs.declared.Verdict.{Verdict}
use Rattle.judging.specs.declared.Verdict.TheVariants.{Accepted, OutsideLadder, BelowLowest, AboveHighest}
use Rattle.judging.specs.Verdicts.{outside, below_lowest, above_highest}
use Rattle.judging.specs.Numbers.{verdict_number}
use Rattle.judging.specs.Answers.{none_shown, refused_answer}
use Rattle.trades.specs.declared.TradeReferences.{TradeReferences}

-- "After the trade price, 0 means missing."
unfoldable pub trade_references_of : ℕ → ℕ → ℕ → ℕ → ℕ → TradeReferences
trade_references_of close lowest_bid lowest_ask highest_bid highest_ask =
    record {
      previous_close = reference_of close;
      lowest_bid = reference_of lowest_bid;
      lowest_ask = reference_of lowest_ask;
      highest_bid = reference_of highest_bid;
      highest_ask = reference_of highest_ask;
    }

-- The reference feed. 3: "a reference present but no ladder price", or a previous close outside "the ladder's ends" (document 02, b)
unfoldable pub any_trade_off : Prices → TradeReferences → Bool
any_trade_off l r =
    lies_outside l r.previous_close || is_off l r.lowest_bid || is_off l r.lowest_ask || is_off l r.highest_bid ||
    is_off l r.highest_ask

-- The reference feed. 4: "For trades: a lowest bid without a highest bid or the reverse, or lowest above highest, and the same for asks."
abbrev pub trade_disagrees : TradeReferences → Bool
trade_disagrees r = bad_pair r.lowest_bid r.highest_bid || bad_pair r.lowest_ask r.highest_ask

-- "Lowest is the least of Low(previous close), lowest bid, lowest ask; highest the greatest of High(previous close), highest bid,
-- highest ask. Missing ones are skipped; if all are missing the range is the whole ladder."
abbrev pub trade_lowest : Prices → Percentage → TradeReferences → ℕ
trade_lowest l percent r =
    price_or (bottom l) (least (from_reference (lower_limit_found l percent) r.previous_close) (least r.lowest_bid r.lowest_ask))

abbrev pub trade_highest : Prices → Percentage → TradeReferences → ℕ
trade_highest l percent r =
    price_or (top l) (greatest (from_reference (upper_limit_found l percent) r.previous_close) (greatest r.highest_bid r.highest_ask))

-- the range of a trade; the nine-fold rule is for orders
abbrev pub trade_range : Prices → Percentage → TradeReferences → Range
trade_range l percent r = record { lowest = trade_lowest l percent r; highest = trade_highest l percent r; nine_fold = Missing }

-- checks 3 and 4, then the range
unfoldable pub trade_reading : Prices → Percentage → TradeReferences → Reading
trade_reading l percent r =
    cond (any_trade_off l r) (Err OffLadder)
    (cond (trade_disagrees r) (Err Disagreement)
    (Ok (trade_range l percent r)))

-- checks 6, 8 and 9: "A trade price need not be on the ladder."
unfoldable pub trade_verdict : Prices → Range → ℕ → Verdict
trade_verdict l range p =
    cond (outside l p) OutsideLadder
    (cond (below_lowest range p) BelowLowest
    (cond (above_highest range p) AboveHighest
    Accepted))

-- the answer: "The outcome is the same three numbers as a question's."
abbrev pub trade_by : Prices → Reading → ℕ → Answer
trade_by l (Ok range) p =
    record { number = verdict_number (trade_verdict l range p); lowest = range.lowest; highest = range.highest }
trade_by l (Err refusal) p = refused_answer refusal

unfoldable pub trade_judged : Prices → Percentage → ℕ → TradeReferences → Answer
trade_judged l percent p r = trade_by l (trade_reading l percent r) p

-- the answer for a call that names a table: a bad one "gives 14 with 0 and 0"
abbrev pub trade_judged_by : Found → ℕ → TradeReferences → Answer
trade_judged_by (Ok basis) p r = trade_judged basis.prices basis.percentage p r
trade_judged_by (Err bad) p r = none_shown (bad_terms_number bad)
