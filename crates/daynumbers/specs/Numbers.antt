-- A day as plain numbers, 0 where there is none: the form in which C holds it. Any eleven numbers are a day.
use Rattle.std.specs.Prelude.{ℕ, [], ◌∷◌}
use Rattle.ladder.specs.Ladder.{Prices}
use Rattle.questions.specs.Missing.{reference_of, number_of}
use Rattle.daybook.specs.declared.Quotes.{Quotes}
use Rattle.daybook.specs.declared.Traded.{Traded}
use Rattle.daybook.specs.declared.Day.{Day}
use Rattle.daybook.specs.declared.Entered.{Entered}
use Rattle.daynumbers.specs.declared.DayNumbers.{DayNumbers}
use Rattle.daynumbers.specs.declared.EnteredNumbers.{EnteredNumbers}
use Rattle.daybook.specs.Events.{History}
use Rattle.daybook.specs.Days.{opened, entered}

unfoldable pub numbers_of_day : Day → DayNumbers
numbers_of_day d =
    record {
      previous_close = number_of d.previous_close;
      current_bid = number_of d.bids.current;
      current_ask = number_of d.asks.current;
      last_bid = number_of d.bids.last;
      last_ask = number_of d.asks.last;
      lowest_bid = number_of d.bids.lowest;
      highest_bid = number_of d.bids.highest;
      lowest_ask = number_of d.asks.lowest;
      highest_ask = number_of d.asks.highest;
      day_low = number_of d.traded.low;
      day_high = number_of d.traded.high;
    }

abbrev pub quotes_from : ℕ → ℕ → ℕ → ℕ → Quotes
quotes_from current last lowest highest =
    record { current = reference_of current; last = reference_of last; lowest = reference_of lowest; highest = reference_of highest }

abbrev pub traded_from : ℕ → ℕ → Traded
traded_from low high = record { low = reference_of low; high = reference_of high }

unfoldable pub day_from : DayNumbers → Day
day_from n =
    record {
      previous_close = reference_of n.previous_close;
      bids = quotes_from n.current_bid n.last_bid n.lowest_bid n.highest_bid;
      asks = quotes_from n.current_ask n.last_ask n.lowest_ask n.highest_ask;
      traded = traded_from n.day_low n.day_high;
    }

abbrev pub entered_numbers : Entered → EnteredNumbers
entered_numbers e = record { number = e.number; day = numbers_of_day e.day }

-- the day after all these events, handed from call to call as numbers
unfoldable pub played_in_numbers : Prices → ℕ → History → DayNumbers
played_in_numbers l close [] = (entered_numbers (opened l (reference_of close))).day
played_in_numbers l close (e ∷ earlier) = (entered_numbers (entered l (day_from (played_in_numbers l close earlier)) e)).day
