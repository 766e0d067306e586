-- Which events are accepted, and which number the others get. Document 02 (a), "Turned away".
use Rattle.std.specs.Prelude.{ℕ, Bool, not, cond, ◌&&◌, ◌||◌, [], ◌∷◌, eqb}
use Rattle.facts.specs.Lists.{holds}
use Rattle.ladder.specs.Ladder.{Prices}
use Rattle.questions.specs.declared.Reference.{Reference}
use Rattle.questions.specs.declared.Reference.TheVariants.{Price}
use Rattle.questions.specs.Missing.{present, is_below}
use Rattle.daybook.specs.declared.Told.{Told}
use Rattle.daybook.specs.declared.Told.TheVariants.{Accepted, UnknownEvent, OffLadder, QuotesCross}
use Rattle.daybook.specs.Events.{Event, Buy, Sell, best_bid, best_ask, buy_queue_empty, sell_queue_empty, system_trade, History}
use Rattle.daybook.specs.Kept.{current_of}

-- the kinds that come with a price, and those that come with none
abbrev pub is_priced : ℕ → Bool
is_priced kind = eqb kind best_bid || eqb kind best_ask || eqb kind system_trade

abbrev pub is_emptying : ℕ → Bool
is_emptying kind = eqb kind buy_queue_empty || eqb kind sell_queue_empty

-- "11 unknown event kind, or a price other than 0 with kinds 3 and 4"
abbrev pub unknown_event : Event → Bool
unknown_event e = not (is_priced e.kind || is_emptying e.kind) || is_emptying e.kind && not (eqb e.price 0)

-- "12 a price with kinds 1, 2 and 5 .. off the ladder"
abbrev pub off_ladder : Prices → Event → Bool
off_ladder l e = is_priced e.kind && not (holds e.price l)

-- both are there, and the bid is not below the ask
abbrev pub meet : Reference → Reference → Bool
meet bid ask = present bid && present ask && not (is_below bid ask)

-- "13 a bid not below the current ask, or an ask not above the current bid"
abbrev pub crosses : Reference → Reference → Event → Bool
crosses bid ask e = eqb e.kind best_bid && meet (Price e.price) ask || eqb e.kind best_ask && meet bid (Price e.price)

abbrev pub unknown_number : ℕ
unknown_number = 11

abbrev pub off_ladder_number : ℕ
off_ladder_number = 12

abbrev pub cross_number : ℕ
cross_number = 13

-- the number of what an event or a close is told
abbrev pub told_number : Told → ℕ
told_number Accepted = 0
told_number UnknownEvent = unknown_number
told_number OffLadder = off_ladder_number
told_number QuotesCross = cross_number

-- the number of an event, by the current bid and ask: 0 where it is accepted, else the first that applies
unfoldable pub event_number : Prices → Reference → Reference → Event → ℕ
event_number l bid ask e =
    cond (unknown_event e) unknown_number
    (cond (off_ladder l e) off_ladder_number
    (cond (crosses bid ask e) cross_number
    0))

-- the number of an event after a list of accepted ones
abbrev pub number_after : Prices → History → Event → ℕ
number_after l h e = event_number l (current_of Buy h) (current_of Sell h) e

-- the list with an event, where it is accepted
abbrev pub with_event : Prices → Event → History → History
with_event l e h = cond (eqb (number_after l h e) 0) (e ∷ h) h

-- the accepted ones of a list of events, each looked at after those before it
unfoldable pub accepted : Prices → History → History
accepted l [] = []
accepted l (e ∷ earlier) = with_event l e (accepted l earlier)
