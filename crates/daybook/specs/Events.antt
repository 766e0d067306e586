-- Events: what can happen to a security in a day. Document 02 (a).
use Rattle.std.specs.Prelude.{ℕ, List}

-- an event: its kind, and the price that comes with it
pub record Event : Type 0 where
  pub kind : ℕ
  pub price : ℕ

abbrev pub event : ℕ → ℕ → Event
event kind price = record { kind = kind; price = price }

-- "1 best bid is now this price, 2 best ask is now this price, 3 buy queue empty, 4 sell queue empty, 5 System trade at this price"
abbrev pub best_bid : ℕ
best_bid = 1

abbrev pub best_ask : ℕ
best_ask = 2

abbrev pub buy_queue_empty : ℕ
buy_queue_empty = 3

abbrev pub sell_queue_empty : ℕ
sell_queue_empty = 4

abbrev pub system_trade : ℕ
system_trade = 5

-- the two queues, and the kinds of event that tell of each: of its best price, and that it is empty
pub data Queue : Type 0 where
  Buy : Queue
  Sell : Queue

abbrev pub best_of : Queue → ℕ
best_of Buy = best_bid
best_of Sell = best_ask

abbrev pub empty_of : Queue → ℕ
empty_of Buy = buy_queue_empty
empty_of Sell = sell_queue_empty

-- events one after the other, THE LATEST FIRST: those that are entered, or those of them that are accepted
abbrev pub History : Type 0
History = List Event
