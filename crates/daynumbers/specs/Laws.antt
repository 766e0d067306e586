-- The laws of a day as plain numbers, for every list of events that was entered into a fresh one. Each is a field of the record
-- DayNumberLaws at the end, which proofs/Laws.antt proves as day_number_laws: NumbersLoseNothing is the field numbers_lose_nothing.
use Rattle.std.specs.Prelude.{◌≡◌, ℕ, ◌<◌, T}
use Rattle.little_endian.specs.Numbers.{Bytes}
use Rattle.little_endian.specs.Laws.{number_bound}
use Rattle.tables.specs.Bands.{Table, well_formed}
use Rattle.ladder.specs.Ladder.{Prices, ladder}
use Rattle.ladder.specs.Places.{last_price}
use Rattle.limits.specs.declared.Percentage.{Percentage}
use Rattle.questions.specs.Missing.{reference_of}
use Rattle.judging.specs.declared.Answer.{Answer}
use Rattle.judging.specs.Answers.{judged}
use Rattle.trades.specs.Trades.{trade_references_of, trade_judged}
use Rattle.trades.specs.Laws.{is_trade_refusal}
use Rattle.daybook.specs.declared.Day.{Day}
use Rattle.daybook.specs.Events.{Event, History}
use Rattle.daybook.specs.Days.{entered, played}
use Rattle.dayquestion.specs.declared.Order.{Order}
use Rattle.dayquestion.specs.Filling.{is_room, filled}
use Rattle.dayquestion.specs.Laws.{OrderFits, CallersFault}
use Rattle.daynumbers.specs.declared.DayNumbers.{DayNumbers}
use Rattle.daynumbers.specs.Numbers.{numbers_of_day, day_from, entered_numbers, played_in_numbers}

-- the numbers are those of the day, and stand for it
pub record SameDay (n : DayNumbers) (d : Day) : Type 0 where
  pub numbers : n ≡ numbers_of_day d
  pub back : day_from n ≡ d

-- Handed from call to call as numbers, 0 where there is none, a day is the same as without: nothing is lost.
abbrev pub NumbersLoseNothing : Type 0
NumbersLoseNothing =
    (t : Table) → T (well_formed t) → (close : ℕ) (events : History) →
    SameDay (played_in_numbers (ladder t) close events) (played (ladder t) (reference_of close) events)

-- Any eleven numbers come back as they were; so a refused event leaves the numbers as they were too.
pub record ComeBack (l : Prices) (n : DayNumbers) : Type 0 where
  pub as_they_were : numbers_of_day (day_from n) ≡ n
  pub refused : (e : Event) → ((entered l (day_from n) e).number ≡ 0 → ⊥) → (entered_numbers (entered l (day_from n) e)).day ≡ n

abbrev pub NumbersComeBack : Type 0
NumbersComeBack = (l : Prices) (n : DayNumbers) → ComeBack l n

-- What holds of a filled question holds of one that the calls for C have filled, over room of as many bytes as a question has: it never gets
-- 4, and 2 and 3 only for what the caller gave.
abbrev pub OnlyTheCallerInC : Type 0
OnlyTheCallerInC =
    (t : Table) → T (well_formed t) → last_price (ladder t) < number_bound → (percent : Percentage) (close : ℕ) (events : History) (o : Order) →
    OrderFits o → (s : Bytes) → T (is_room s) →
    CallersFault t o (judged (ladder t) percent (filled (day_from (played_in_numbers (ladder t) close events)) o s))

-- the answer to an off-System trade that is given the numbers of a day
abbrev pub trade_on : Prices → Percentage → DayNumbers → ℕ → Answer
trade_on l percent n price =
    trade_judged l percent price
    (trade_references_of n.previous_close n.lowest_bid n.lowest_ask n.highest_bid n.highest_ask)

-- So given, no trade is refused for its references, with 3 or 4.
abbrev pub TradeNotRefused : Type 0
TradeNotRefused =
    (t : Table) → T (well_formed t) → (percent : Percentage) (close : ℕ) (events : History) (price : ℕ) →
    T (is_trade_refusal (trade_on (ladder t) percent (played_in_numbers (ladder t) close events) price).number) → ⊥

-- ---- all of them

pub record DayNumberLaws : Type 0 where
  pub numbers_lose_nothing : NumbersLoseNothing
  pub numbers_come_back : NumbersComeBack
  pub only_the_caller_in_c : OnlyTheCallerInC
  pub trade_not_refused : TradeNotRefused
