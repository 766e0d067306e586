-- The day by events is the day by the list of those that are accepted.
use mathlib.Core.Path.{◌≡◌, refl}
use mathlib.Core.Bool.{Bool, true, false, cond}
use mathlib.Core.List.{[], ◌∷◌}
use lib.Dec.{eqb}
use Rattle.ladder.specs.Ladder.{Prices}
use Rattle.questions.specs.declared.Reference.{Reference}
use Rattle.questions.specs.declared.Reference.TheVariants.{Missing, Price}
use Rattle.questions.specs.Missing.{least, greatest}
use Rattle.daybook.specs.Events.{Event, Queue, Buy, Sell, best_of, empty_of, system_trade, History}
use Rattle.daybook.specs.Kept.{current_of, last_of, lowest_of, highest_of}
use Rattle.daybook.specs.Accepted.{number_after, with_event, accepted}
use Rattle.daybook.specs.Days.{quotes_in, traded_in, day_of, taken_close, opened, quoted, emptied, quotes_after, traded_at, traded_after, day_after, entered, played}

-- one more event in the list
quotes_follow : (queue : Queue) (e : Event) (h : History) → quotes_after queue e (quotes_in queue h) ≡ quotes_in queue (e ∷ h)
unfolding current_of last_of lowest_of highest_of
quotes_follow queue e h = go (eqb e.kind (best_of queue)) (eqb e.kind (empty_of queue))
  where
    go : (best empty : Bool) →
        cond best (quoted e.price (quotes_in queue h)) (cond empty (emptied (quotes_in queue h)) (quotes_in queue h)) ≡
        record {
          current = cond best (Price e.price) (cond empty Missing (current_of queue h));
          last = cond best (Price e.price) (last_of (best_of queue) h);
          lowest = cond best (least (Price e.price) (lowest_of (best_of queue) h)) (lowest_of (best_of queue) h);
          highest = cond best (greatest (Price e.price) (highest_of (best_of queue) h)) (highest_of (best_of queue) h);
        }
    go true empty = refl
    go false true = refl
    go false false = refl

traded_follow : (e : Event) (h : History) → traded_after e (traded_in h) ≡ traded_in (e ∷ h)
unfolding lowest_of highest_of
traded_follow e h = go (eqb e.kind system_trade)
  where
    go : (traded : Bool) →
        cond traded (traded_at e.price (traded_in h)) (traded_in h) ≡
        record {
          low = cond traded (least (Price e.price) (lowest_of system_trade h)) (lowest_of system_trade h);
          high = cond traded (greatest (Price e.price) (highest_of system_trade h)) (highest_of system_trade h);
        }
    go true = refl
    go false = refl

day_follows : (close : Reference) (e : Event) (h : History) → day_after e (day_of close h) ≡ day_of close (e ∷ h)
day_follows close e h = rw (quotes_follow Buy e h, quotes_follow Sell e h, traded_follow e h)

-- and so for all of them
pub followed : (l : Prices) (close : Reference) (events : History) → played l close events ≡ day_of (taken_close l close) (accepted l events)
unfolding played opened accepted entered
followed l close [] = refl
followed l close (e ∷ earlier) = step (played l close earlier) (followed l close earlier)
  where
    c : Reference
    c = taken_close l close

    h : History
    h = accepted l earlier

    go : (accepted : Bool) → cond accepted (day_after e (day_of c h)) (day_of c h) ≡ day_of c (cond accepted (e ∷ h) h)
    go true = day_follows c e h
    go false = refl

    step : (d : _) → d ≡ day_of c h → (entered l d e).day ≡ day_of c (with_event l e h)
    step d same = rw same (go (eqb (number_after l h e) 0))
