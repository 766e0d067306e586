-- The laws of specs/Laws.antt, proved. Other crates see them as fields of day_number_laws.
use Rattle.facts.proofs.Tests.{passed}
use Rattle.ladder.specs.Ladder.{ladder}
use Rattle.questions.specs.Missing.{reference_of}
use Rattle.daybook.specs.Days.{played}
use Rattle.daybook.proofs.Laws.{day_laws}
use Rattle.dayquestion.specs.Filling.{is_room}
use Rattle.dayquestion.proofs.Laws.{filling_laws}
use Rattle.daynumbers.specs.Numbers.{day_from}
use Rattle.daynumbers.specs.Laws.{NumbersLoseNothing, NumbersComeBack, OnlyTheCallerInC, TradeNotRefused, DayNumberLaws}
use Rattle.daynumbers.proofs.Same.{same_day, same_back, trade_on_lem}

numbers_lose_nothing : NumbersLoseNothing
numbers_lose_nothing t wf close events = same_day t wf close events

numbers_come_back : NumbersComeBack
numbers_come_back l n =
    record {
      as_they_were = same_back n;
      refused = λ e refused. rw (day_laws.refused_changes_nothing l (day_from n) e refused) (same_back n);
    }

only_the_caller_in_c : OnlyTheCallerInC
only_the_caller_in_c t wf small percent close events o fits s room =
    rw ((same_day t wf close events).back, passed (is_room s) room)
    (filling_laws.only_the_caller t wf small percent (reference_of close) events o fits)

trade_not_refused : TradeNotRefused
trade_not_refused t wf percent close events price =
    rw (same_day t wf close events).numbers
    (trade_on_lem t wf percent (played (ladder t) (reference_of close) events) price (day_laws.days_are_in_order (ladder t) (reference_of close) events))

pub day_number_laws : DayNumberLaws
day_number_laws =
    record {
      numbers_lose_nothing = numbers_lose_nothing;
      numbers_come_back = numbers_come_back;
      only_the_caller_in_c = only_the_caller_in_c;
      trade_not_refused = trade_not_refused;
    }
