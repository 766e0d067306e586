-- The laws of specs/Laws.antt, proved. Other crates see them as fields of day_laws.
use mathlib.Core.Path.{refl}
use borrow.Author.Tests.{ne_eqb}
use Rattle.daybook.specs.Events.{Buy, Sell}
use Rattle.daybook.specs.Accepted.{event_number}
use Rattle.daybook.specs.Days.{opened, number_on, entered}
use Rattle.daybook.specs.Laws.{KeptPrices, NumbersByTheList, NumbersByKind, RefusedChangesNothing, EmptyingAQueue, OpeningADay, DaysAreInOrder, DayLaws}
use Rattle.daybook.proofs.Following.{followed}
use Rattle.daybook.proofs.ByKind.{numbers_on}
use Rattle.daybook.proofs.InOrder.{played_in_order}

kept_prices : KeptPrices
kept_prices l close events = followed l close events

numbers_by_the_list : NumbersByTheList
unfolding entered
numbers_by_the_list l close events e = rw (followed l close events) refl

numbers_by_kind : NumbersByKind
numbers_by_kind l d p = numbers_on l d p

refused_changes_nothing : RefusedChangesNothing
unfolding entered
refused_changes_nothing l d e refused = rw (ne_eqb (number_on l d e) 0 refused) refl

emptying_a_queue : EmptyingAQueue
unfolding entered event_number
emptying_a_queue l d Buy = record { none_left = refl; empty_stays = λ none. rw (← none) refl }
emptying_a_queue l d Sell = record { none_left = refl; empty_stays = λ none. rw (← none) refl }

opening_a_day : OpeningADay
unfolding opened
opening_a_day l close = record { number = refl; taken = λ on. rw on refl; refused = λ off. rw off refl }

days_are_in_order : DaysAreInOrder
days_are_in_order l close events = played_in_order l close events

pub day_laws : DayLaws
day_laws =
    record {
      kept_prices = kept_prices;
      numbers_by_the_list = numbers_by_the_list;
      numbers_by_kind = numbers_by_kind;
      refused_changes_nothing = refused_changes_nothing;
      emptying_a_queue = emptying_a_queue;
      opening_a_day = opening_a_day;
      days_are_in_order = days_are_in_order;
    }
