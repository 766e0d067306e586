-- Checks 4 and 5: references that disagree with the queues or with each other, and special orders with no opposite queue. Document 01, "Why a
-- question comes back".
use Rattle.std.specs.Prelude.{Bool, true, false, not, ◌||◌}
use Rattle.questions.specs.declared.Reference.{Reference}
use Rattle.questions.specs.declared.References.{References}
use Rattle.questions.specs.Missing.{present, is_below}
use Rattle.questions.specs.Checks.{differ, bad_pair}
use Rattle.rules.specs.declared.Queues.{Queues}
use Rattle.rules.specs.declared.Queues.TheVariants.{Opening, Both, BuyOnly, SellOnly, Neither}
use Rattle.rules.specs.declared.Rule.{Rule}
use Rattle.rules.specs.declared.Rule.TheVariants.{BuyLimit, BuyEnhanced, BuySpecial, SellLimit, SellEnhanced, SellSpecial}

-- a buy queue in codes 2 and 3, a sell queue in codes 2 and 4
abbrev pub buy_queue : Queues → Bool
buy_queue Opening = false
buy_queue (Both bid ask) = true
buy_queue (BuyOnly bid) = true
buy_queue (SellOnly ask) = false
buy_queue (Neither last_bid last_ask) = false

abbrev pub sell_queue : Queues → Bool
sell_queue Opening = false
sell_queue (Both bid ask) = true
sell_queue (BuyOnly bid) = false
sell_queue (SellOnly ask) = true
sell_queue (Neither last_bid last_ask) = false

-- The reference feed. 4: "current bid or ask present or missing against the queue code; with code 2, bid not below ask; with code 1,
-- a last bid or last ask present; day low without day high or the reverse, or low above high"
abbrev pub locked_or_crossed : Queues → Bool
locked_or_crossed Opening = false
locked_or_crossed (Both bid ask) = not (is_below bid ask)
locked_or_crossed (BuyOnly bid) = false
locked_or_crossed (SellOnly ask) = false
locked_or_crossed (Neither last_bid last_ask) = false

abbrev pub quoted_before : Queues → Reference → Reference → Bool
quoted_before Opening last_bid last_ask = present last_bid || present last_ask
quoted_before (Both bid ask) last_bid last_ask = false
quoted_before (BuyOnly bid) last_bid last_ask = false
quoted_before (SellOnly ask) last_bid last_ask = false
quoted_before (Neither a b) last_bid last_ask = false

unfoldable pub disagree : Queues → References → Bool
disagree q r =
    differ (buy_queue q) (present r.current_bid) || differ (sell_queue q) (present r.current_ask) ||
    locked_or_crossed q || quoted_before q r.last_bid r.last_ask || bad_pair r.day_low r.day_high

-- The client who enters the order. 5: "special limit with no opposite queue (buy in codes 1, 3, 5; sell in 1, 4, 5)"
abbrev pub unopposed : Rule → Queues → Bool
unopposed BuyLimit q = false
unopposed BuyEnhanced q = false
unopposed BuySpecial q = not (sell_queue q)
unopposed SellLimit q = false
unopposed SellEnhanced q = false
unopposed SellSpecial q = not (buy_queue q)
