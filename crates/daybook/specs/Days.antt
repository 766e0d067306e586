-- The day: what it keeps, and what an event makes of it. "Each event takes the day and gives the day back." Document 02 (a).
use Rattle.std.specs.Prelude.{ℕ, cond, [], ◌∷◌, eqb}
use Rattle.ladder.specs.Ladder.{Prices}
use Rattle.questions.specs.declared.Reference.{Reference}
use Rattle.questions.specs.declared.Reference.TheVariants.{Missing, Price}
use Rattle.questions.specs.Missing.{least, greatest}
use Rattle.questions.specs.Checks.{lies_outside}
use Rattle.daybook.specs.declared.Quotes.{Quotes}
use Rattle.daybook.specs.declared.Traded.{Traded}
use Rattle.daybook.specs.declared.Day.{Day}
use Rattle.daybook.specs.declared.Entered.{Entered}
use Rattle.daybook.specs.Events.{Event, Queue, Buy, Sell, best_of, empty_of, system_trade, History}
use Rattle.daybook.specs.Kept.{current_of, last_of, lowest_of, highest_of}
use Rattle.daybook.specs.Accepted.{off_ladder_number, event_number}

-- ---- a day by the list of its accepted events

abbrev pub quotes_in : Queue → History → Quotes
quotes_in queue h =
    record {
      current = current_of queue h;
      last = last_of (best_of queue) h;
      lowest = lowest_of (best_of queue) h;
      highest = highest_of (best_of queue) h;
    }

abbrev pub traded_in : History → Traded
traded_in h = record { low = lowest_of system_trade h; high = highest_of system_trade h }

abbrev pub day_of : Reference → History → Day
day_of close h = record { previous_close = close; bids = quotes_in Buy h; asks = quotes_in Sell h; traded = traded_in h }

-- ---- a day by what it keeps, whatever that is: what the calls do

-- a fresh day: no event yet
abbrev pub fresh_day : Reference → Day
fresh_day close = day_of close []

-- "A fresh day is given the previous close, or none; a refused close gives a day with none"; "12 .. a close other than 0 (none) for a
-- fresh day", which from document 02, b, on is one outside "the ladder's ends"
abbrev pub taken_close : Prices → Reference → Reference
taken_close l close = cond (lies_outside l close) Missing close

unfoldable pub opened : Prices → Reference → Entered
opened l close = record { number = cond (lies_outside l close) off_ladder_number 0; day = fresh_day (taken_close l close) }

-- the quotes of a queue after an event gives its best price, and after one says that it is empty
abbrev pub quoted : ℕ → Quotes → Quotes
quoted p q = record { current = Price p; last = Price p; lowest = least (Price p) q.lowest; highest = greatest (Price p) q.highest }

abbrev pub emptied : Quotes → Quotes
emptied q = record { current = Missing; last = q.last; lowest = q.lowest; highest = q.highest }

-- the traded prices after a System trade
abbrev pub traded_at : ℕ → Traded → Traded
traded_at p t = record { low = least (Price p) t.low; high = greatest (Price p) t.high }

-- what an accepted event makes of the quotes of a queue, of the traded prices, and of the day: an event of another kind, nothing
abbrev pub quotes_after : Queue → Event → Quotes → Quotes
quotes_after queue e q = cond (eqb e.kind (best_of queue)) (quoted e.price q) (cond (eqb e.kind (empty_of queue)) (emptied q) q)

abbrev pub traded_after : Event → Traded → Traded
traded_after e t = cond (eqb e.kind system_trade) (traded_at e.price t) t

abbrev pub day_after : Event → Day → Day
day_after e d =
    record {
      previous_close = d.previous_close;
      bids = quotes_after Buy e d.bids;
      asks = quotes_after Sell e d.asks;
      traded = traded_after e d.traded;
    }

-- the quotes that a day keeps of a queue
abbrev pub quotes_of : Queue → Day → Quotes
quotes_of Buy d = d.bids
quotes_of Sell d = d.asks

-- the number that an event gets on a day
abbrev pub number_on : Prices → Day → Event → ℕ
number_on l d e = event_number l d.bids.current d.asks.current e

-- "A refused event leaves the day unchanged."
unfoldable pub entered : Prices → Day → Event → Entered
entered l d e = record { number = number_on l d e; day = cond (eqb (number_on l d e) 0) (day_after e d) d }

-- the day after all these events, entered one after the other into a fresh one
unfoldable pub played : Prices → Reference → History → Day
played l close [] = (opened l close).day
played l close (e ∷ earlier) = (entered l (played l close earlier) e).day
