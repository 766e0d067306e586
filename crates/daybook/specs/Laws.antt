-- The laws of a day book, for every list of events that is entered into a fresh day, of any length; lists have the latest event first. Each
-- is a field of the record DayLaws at the end, which proofs/Laws.antt proves as day_laws: KeptPrices is the field kept_prices.
use Rattle.std.specs.Prelude.{◌≡◌, ℕ, true, false, cond, ◌||◌, [], T, eqb, ltb}
use Rattle.facts.specs.Lists.{holds}
use Rattle.ladder.specs.Ladder.{Prices}
use Rattle.questions.specs.declared.Reference.{Reference}
use Rattle.questions.specs.declared.Reference.TheVariants.{Missing, Price}
use Rattle.questions.specs.Missing.{present}
use Rattle.questions.specs.Checks.{is_off, lies_outside, bad_pair}
use Rattle.daybook.specs.declared.Quotes.{Quotes}
use Rattle.daybook.specs.declared.Traded.{Traded}
use Rattle.daybook.specs.declared.Day.{Day}
use Rattle.daybook.specs.Events.{Event, event, best_bid, best_ask, system_trade, Queue, empty_of, History}
use Rattle.daybook.specs.Accepted.{meet, number_after, accepted}
use Rattle.daybook.specs.Days.{day_of, taken_close, opened, quotes_of, entered, played}

-- "After any events each kept price equals what the list of accepted events says."
abbrev pub KeptPrices : Type 0
KeptPrices = (l : Prices) (close : Reference) (events : History) → played l close events ≡ day_of (taken_close l close) (accepted l events)

-- The number that the next event gets goes by that list too.
abbrev pub NumbersByTheList : Type 0
NumbersByTheList =
    (l : Prices) (close : Reference) (events : History) (e : Event) →
    (entered l (played l close events) e).number ≡ number_after l (accepted l events) e

-- The number of every event, kind by kind, on every day, whatever it keeps.
pub record NumbersOn (l : Prices) (d : Day) (p : ℕ) : Type 0 where
  pub unknown : (kind : ℕ) → T (eqb kind 0 || ltb 5 kind) → (entered l d (event kind p)).number ≡ 11
  pub emptying : (queue : Queue) → (entered l d (event (empty_of queue) p)).number ≡ cond (eqb p 0) 0 11
  pub trade : (entered l d (event system_trade p)).number ≡ cond (holds p l) 0 12
  pub bid_alone : d.asks.current ≡ Missing → (entered l d (event best_bid p)).number ≡ cond (holds p l) 0 12
  pub bid : (ask : ℕ) → d.asks.current ≡ Price ask → (entered l d (event best_bid p)).number ≡ cond (holds p l) (cond (ltb p ask) 0 13) 12
  pub ask_alone : d.bids.current ≡ Missing → (entered l d (event best_ask p)).number ≡ cond (holds p l) 0 12
  pub ask : (bid : ℕ) → d.bids.current ≡ Price bid → (entered l d (event best_ask p)).number ≡ cond (holds p l) (cond (ltb bid p) 0 13) 12

abbrev pub NumbersByKind : Type 0
NumbersByKind = (l : Prices) (d : Day) (p : ℕ) → NumbersOn l d p

-- "A refused event leaves the day unchanged": every day, whatever it keeps.
abbrev pub RefusedChangesNothing : Type 0
RefusedChangesNothing = (l : Prices) (d : Day) (e : Event) → ((entered l d e).number ≡ 0 → ⊥) → (entered l d e).day ≡ d

-- Emptying a queue leaves no current price, and "emptying an empty queue changes nothing": on every day, for either queue.
pub record Empties (l : Prices) (d : Day) (queue : Queue) : Type 0 where
  pub none_left : (quotes_of queue (entered l d (event (empty_of queue) 0)).day).current ≡ Missing
  pub empty_stays : (quotes_of queue d).current ≡ Missing → entered l d (event (empty_of queue) 0) ≡ record { number = 0; day = d }

abbrev pub EmptyingAQueue : Type 0
EmptyingAQueue = (l : Prices) (d : Day) (queue : Queue) → Empties l d queue

-- "A fresh day is given the previous close, or none; a refused close gives a day with none."
pub record Opens (l : Prices) (close : Reference) : Type 0 where
  pub number : (opened l close).number ≡ cond (lies_outside l close) 12 0
  pub taken : lies_outside l close ≡ false → (opened l close).day ≡ day_of close []
  pub refused : lies_outside l close ≡ true → (opened l close).day ≡ day_of Missing []

abbrev pub OpeningADay : Type 0
OpeningADay = (l : Prices) (close : Reference) → Opens l close

-- what is kept of a queue, in order: each price is missing or on the ladder; lowest, last and highest are all there or all missing, and do not
-- fall; where there is a current one, it is the last one
pub record QuotesInOrder (l : Prices) (q : Quotes) : Type 0 where
  pub current_on : is_off l q.current ≡ false
  pub last_on : is_off l q.last ≡ false
  pub lowest_on : is_off l q.lowest ≡ false
  pub highest_on : is_off l q.highest ≡ false
  pub pair : bad_pair q.lowest q.highest ≡ false
  pub from_lowest : bad_pair q.lowest q.last ≡ false
  pub to_highest : bad_pair q.last q.highest ≡ false
  pub current_is_last : present q.current ≡ true → q.last ≡ q.current

pub record TradedInOrder (l : Prices) (t : Traded) : Type 0 where
  pub low_on : is_off l t.low ≡ false
  pub high_on : is_off l t.high ≡ false
  pub pair : bad_pair t.low t.high ≡ false

-- and of the day: the close is missing or within the ends; where there are both, the current bid is below the current ask
pub record DayInOrder (l : Prices) (d : Day) : Type 0 where
  pub close_within : lies_outside l d.previous_close ≡ false
  pub bids : QuotesInOrder l d.bids
  pub asks : QuotesInOrder l d.asks
  pub apart : meet d.bids.current d.asks.current ≡ false
  pub traded : TradedInOrder l d.traded

-- Every day that events lead to is in order.
abbrev pub DaysAreInOrder : Type 0
DaysAreInOrder = (l : Prices) (close : Reference) (events : History) → DayInOrder l (played l close events)

-- ---- all of them

pub record DayLaws : Type 0 where
  pub kept_prices : KeptPrices
  pub numbers_by_the_list : NumbersByTheList
  pub numbers_by_kind : NumbersByKind
  pub refused_changes_nothing : RefusedChangesNothing
  pub emptying_a_queue : EmptyingAQueue
  pub opening_a_day : OpeningADay
  pub days_are_in_order : DaysAreInOrder
