-- The permitted range: "The side, order type and queue code together choose the range." Document 01, "Permitted range".
-- House reading: at the opening with no previous close, bottom and top.
use Rattle.std.specs.Prelude.{ℕ, not, cond, ◌&&◌}
use Rattle.ladder.specs.Ladder.{Prices}
use Rattle.limits.specs.declared.Percentage.{Percentage}
use Rattle.limits.specs.Limits.{lower_limit_found, upper_limit_found}
use Rattle.questions.specs.declared.Reference.{Reference}
use Rattle.questions.specs.declared.Reference.TheVariants.{Missing}
use Rattle.questions.specs.declared.References.{References}
use Rattle.rules.specs.declared.Queues.{Queues}
use Rattle.rules.specs.declared.Queues.TheVariants.{Opening, Both, BuyOnly, SellOnly, Neither}
use Rattle.rules.specs.declared.Rule.{Rule}
use Rattle.rules.specs.declared.Rule.TheVariants.{BuyLimit, BuyEnhanced, BuySpecial, SellLimit, SellEnhanced, SellSpecial}
use Rattle.questions.specs.Missing.{present, least, greatest, price_or}
use Rattle.rules.specs.Rules.{ask_of, bid_of}
use Rattle.ranges.specs.declared.Range.{Range}
use Rattle.ranges.specs.Bounds.{from_reference, enhanced_above, enhanced_below, bottom, top}

-- a reference, but none where these two are missing both
abbrev pub unless_both_missing : Reference → Reference → Reference → Reference
unless_both_missing a b reference = cond (not (present a) && not (present b)) Missing reference

-- Buy, lowest: the lower limit of this reference, or bottom where it is missing.
--   opening: the previous close;
--   both, or buy only: the current bid;
--   sell only: the least of current ask, previous close, day low;
--   neither: the least of last ask, previous close, day low, but none if both previous close and day low are missing.
abbrev pub buy_reference : Queues → Reference → Reference → Reference
buy_reference Opening close low = close
buy_reference (Both bid ask) close low = bid
buy_reference (BuyOnly bid) close low = bid
buy_reference (SellOnly ask) close low = least ask (least close low)
buy_reference (Neither last_bid last_ask) close low = unless_both_missing close low (least last_ask (least close low))

-- Sell, highest, the mirror: the upper limit of this reference, or top where it is missing.
--   opening: the previous close;
--   both, or sell only: the current ask;
--   buy only: the greatest of current bid, previous close, day high;
--   neither: the greatest of last bid, previous close, day high, but none if both previous close and day high are missing.
abbrev pub sell_reference : Queues → Reference → Reference → Reference
sell_reference Opening close high = close
sell_reference (Both bid ask) close high = ask
sell_reference (SellOnly ask) close high = ask
sell_reference (BuyOnly bid) close high = greatest bid (greatest close high)
sell_reference (Neither last_bid last_ask) close high = unless_both_missing close high (greatest last_bid (greatest close high))

abbrev pub buy_lowest : Prices → Percentage → Queues → References → ℕ
buy_lowest l percent q r = price_or (bottom l) (from_reference (lower_limit_found l percent) (buy_reference q r.previous_close r.day_low))

abbrev pub sell_highest : Prices → Percentage → Queues → References → ℕ
sell_highest l percent q r = price_or (top l) (from_reference (upper_limit_found l percent) (sell_reference q r.previous_close r.day_high))

-- The permitted lowest. A special buy has an ask: check 5 asks for the sell queue, and check 4 for its price.
unfoldable pub lowest_of : Prices → Percentage → Rule → Queues → References → ℕ
lowest_of l percent BuyLimit q r = buy_lowest l percent q r
lowest_of l percent BuyEnhanced q r = buy_lowest l percent q r
lowest_of l percent BuySpecial q r = price_or (bottom l) (ask_of q)
lowest_of l percent SellLimit q r = price_or (bottom l) (bid_of q)
lowest_of l percent SellEnhanced q r = price_or (bottom l) (enhanced_below l (bid_of q))
lowest_of l percent SellSpecial q r = bottom l

-- The permitted highest. A special sell has a bid, likewise.
unfoldable pub highest_of : Prices → Percentage → Rule → Queues → References → ℕ
highest_of l percent BuyLimit q r = price_or (top l) (ask_of q)
highest_of l percent BuyEnhanced q r = price_or (top l) (enhanced_above l (ask_of q))
highest_of l percent BuySpecial q r = top l
highest_of l percent SellLimit q r = sell_highest l percent q r
highest_of l percent SellEnhanced q r = sell_highest l percent q r
highest_of l percent SellSpecial q r = price_or (top l) (bid_of q)

-- The reference of the nine-fold rule: "the previous close for opening, else the nominal".
abbrev pub nine_fold_reference : Queues → Reference → Reference → Reference
nine_fold_reference Opening close nominal = close
nine_fold_reference (Both bid ask) close nominal = nominal
nine_fold_reference (BuyOnly bid) close nominal = nominal
nine_fold_reference (SellOnly ask) close nominal = nominal
nine_fold_reference (Neither last_bid last_ask) close nominal = nominal

-- the permitted range
unfoldable pub range_of : Prices → Percentage → Rule → Queues → References → Range
range_of l percent rule q r =
    record {
      lowest = lowest_of l percent rule q r;
      highest = highest_of l percent rule q r;
      nine_fold = nine_fold_reference q r.previous_close r.nominal;
    }
