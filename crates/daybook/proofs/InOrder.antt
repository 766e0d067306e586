-- Every day that events lead to is in order: its close is within the ends, its other prices are on the ladder, its pairs rise, and its bid is
-- below its ask.
use mathlib.Core.Path.{◌≡◌, refl, sym}
use Prim.Native.Nat.{ℕ, min, max}
use native.Mathlib.Omega.{arith}
use mathlib.Core.Bool.{Bool, true, false, not, cond, ◌||◌}
use mathlib.Core.List.{[], ◌∷◌}
use lib.Dec.{eqb}
use borrow.Author.Tests.{le-ltb, ltb-false, eqb-true}
use Rattle.facts.specs.Lists.{holds}
use Rattle.std.proofs.lemmas.Bool.{or_parts, true≢false}
use Rattle.facts.proofs.Numbers.{of_smaller, of_larger}
use Rattle.ladder.specs.Ladder.{Prices}
use Rattle.questions.specs.declared.Reference.{Reference}
use Rattle.questions.specs.declared.Reference.TheVariants.{Missing, Price}
use Rattle.questions.specs.Missing.{least, greatest}
use Rattle.questions.specs.Checks.{is_off, lies_outside, bad_pair}
use Rattle.daybook.specs.declared.Quotes.{Quotes}
use Rattle.daybook.specs.declared.Traded.{Traded}
use Rattle.daybook.specs.declared.Day.{Day}
use Rattle.daybook.specs.Events.{Event, History}
use Rattle.daybook.specs.Kept.{current_of, last_of, lowest_of, highest_of}
use Rattle.daybook.specs.Accepted.{meet, off_ladder_number, cross_number, event_number}
use Rattle.daybook.specs.Days.{opened, quoted, emptied, traded_at, day_after, number_on, entered, played}
use Rattle.daybook.specs.Laws.{QuotesInOrder, TradedInOrder, DayInOrder}

-- a pair that takes in one more price
pair_kept : (p : ℕ) (low high : Reference) → bad_pair low high ≡ false → bad_pair (least (Price p) low) (greatest (Price p) high) ≡ false
pair_kept p Missing Missing e = le-ltb p p (omega arith)
pair_kept p Missing (Price y) e = absurd (true≢false e)
pair_kept p (Price x) Missing e = absurd (true≢false e)
pair_kept p (Price x) (Price y) e = let f = ltb-false y x e in le-ltb (max p y) (min p x) (omega arith)

-- a price beside the least, and beside the greatest, that took it in
above_least : (p : ℕ) (low : Reference) → bad_pair (least (Price p) low) (Price p) ≡ false
above_least p Missing = le-ltb p p (omega arith)
above_least p (Price x) = le-ltb p (min p x) (omega arith)

below_greatest : (p : ℕ) (high : Reference) → bad_pair (Price p) (greatest (Price p) high) ≡ false
below_greatest p Missing = le-ltb p p (omega arith)
below_greatest p (Price y) = le-ltb (max p y) p (omega arith)

module _ (l : Prices) (p : ℕ) (on : holds p l ≡ true) where
  price_on : is_off l (Price p) ≡ false
  price_on = rw on refl

  least_on : (r : Reference) → is_off l r ≡ false → is_off l (least (Price p) r) ≡ false
  least_on Missing e = price_on
  least_on (Price x) e = of_smaller (λ (n : ℕ). not (holds n l) ≡ false) p x price_on e

  greatest_on : (r : Reference) → is_off l r ≡ false → is_off l (greatest (Price p) r) ≡ false
  greatest_on Missing e = price_on
  greatest_on (Price x) e = of_larger (λ (n : ℕ). not (holds n l) ≡ false) p x price_on e

  quoted_in_order : (q : Quotes) → QuotesInOrder l q → QuotesInOrder l (quoted p q)
  quoted_in_order q s =
      record {
        current_on = price_on;
        last_on = price_on;
        lowest_on = least_on q.lowest s.lowest_on;
        highest_on = greatest_on q.highest s.highest_on;
        pair = pair_kept p q.lowest q.highest s.pair;
        from_lowest = above_least p q.lowest;
        to_highest = below_greatest p q.highest;
        current_is_last = λ there. refl;
      }

  traded_in_order : (t : Traded) → TradedInOrder l t → TradedInOrder l (traded_at p t)
  traded_in_order t s =
      record {
        low_on = least_on t.low s.low_on;
        high_on = greatest_on t.high s.high_on;
        pair = pair_kept p t.low t.high s.pair;
      }

emptied_in_order : (l : Prices) (q : Quotes) → QuotesInOrder l q → QuotesInOrder l (emptied q)
emptied_in_order l q s =
    record {
      current_on = refl;
      last_on = s.last_on;
      lowest_on = s.lowest_on;
      highest_on = s.highest_on;
      pair = s.pair;
      from_lowest = s.from_lowest;
      to_highest = s.to_highest;
      current_is_last = λ there. absurd (true≢false (sym there));
    }

meet_none : (bid : Reference) → meet bid Missing ≡ false
meet_none Missing = refl
meet_none (Price bid) = refl

-- ---- an accepted event

-- what is known of an event by its kind
by_kind : {C : Type 0} (kind : ℕ) → (kind ≡ 1 → C) → (kind ≡ 2 → C) → (kind ≡ 3 → C) → (kind ≡ 4 → C) → (kind ≡ 5 → C) →
    (eqb kind 1 ≡ false → eqb kind 2 ≡ false → eqb kind 3 ≡ false → eqb kind 4 ≡ false → eqb kind 5 ≡ false → C) → C
by_kind {C} kind one two three four five none =
    go (eqb kind 1) (eqb kind 2) (eqb kind 3) (eqb kind 4) (eqb kind 5) refl refl refl refl refl
  where
    go : (a b c d e : Bool) → eqb kind 1 ≡ a → eqb kind 2 ≡ b → eqb kind 3 ≡ c → eqb kind 4 ≡ d → eqb kind 5 ≡ e → C
    go true b c d e p q r s t = one (eqb-true kind 1 p)
    go false true c d e p q r s t = two (eqb-true kind 2 q)
    go false false true d e p q r s t = three (eqb-true kind 3 r)
    go false false false true e p q r s t = four (eqb-true kind 4 s)
    go false false false false true p q r s t = five (eqb-true kind 5 t)
    go false false false false false p q r s t = none p q r s t

-- the two checks that a price has passed
passed_both : (on crossed : Bool) → cond (not on) off_ladder_number (cond crossed cross_number 0) ≡ 0 → (on ≡ true) × (crossed ≡ false)
passed_both true false e = (refl, refl)
passed_both true true e = absurd (omega (arith, e))
passed_both false crossed e = absurd (omega (arith, e))

event_in_order : (l : Prices) (d : Day) (e : Event) → DayInOrder l d → number_on l d e ≡ 0 → DayInOrder l (day_after e d)
unfolding event_number
event_in_order l d e s n = by_kind e.kind bid ask buy sell trade none
  where
    p : ℕ
    p = e.price

    bid : e.kind ≡ 1 → DayInOrder l (day_after e d)
    bid k =
        let both = passed_both (holds p l) (meet (Price p) d.asks.current || false) (rw k at n) in
        rw k
        (record {
          close_within = s.close_within;
          bids = quoted_in_order l p both.0 d.bids s.bids;
          asks = s.asks;
          apart = (or_parts (meet (Price p) d.asks.current) false both.1).0;
          traded = s.traded;
        })

    ask : e.kind ≡ 2 → DayInOrder l (day_after e d)
    ask k =
        let both = passed_both (holds p l) (meet d.bids.current (Price p)) (rw k at n) in
        rw k
        (record {
          close_within = s.close_within;
          bids = s.bids;
          asks = quoted_in_order l p both.0 d.asks s.asks;
          apart = both.1;
          traded = s.traded;
        })

    buy : e.kind ≡ 3 → DayInOrder l (day_after e d)
    buy k =
        rw k
        (record { close_within = s.close_within; bids = emptied_in_order l d.bids s.bids; asks = s.asks; apart = refl; traded = s.traded })

    sell : e.kind ≡ 4 → DayInOrder l (day_after e d)
    sell k =
        rw k
        (record {
          close_within = s.close_within;
          bids = s.bids;
          asks = emptied_in_order l d.asks s.asks;
          apart = meet_none d.bids.current;
          traded = s.traded;
        })

    trade : e.kind ≡ 5 → DayInOrder l (day_after e d)
    trade k =
        let both = passed_both (holds p l) false (rw k at n) in
        rw k
        (record {
          close_within = s.close_within;
          bids = s.bids;
          asks = s.asks;
          apart = s.apart;
          traded = traded_in_order l p both.0 d.traded s.traded;
        })

    none : eqb e.kind 1 ≡ false → eqb e.kind 2 ≡ false → eqb e.kind 3 ≡ false → eqb e.kind 4 ≡ false →
        eqb e.kind 5 ≡ false → DayInOrder l (day_after e d)
    none a b c f g = rw (a, b, c, f, g) s

-- ---- every day that events lead to

fresh_in_order : (l : Prices) (close : Reference) → DayInOrder l (opened l close).day
unfolding opened current_of last_of lowest_of highest_of
fresh_in_order l close =
    record {
      close_within = taken (lies_outside l close) refl;
      bids = nothing;
      asks = nothing;
      apart = refl;
      traded = record { low_on = refl; high_on = refl; pair = refl };
    }
  where
    taken : (out : Bool) → lies_outside l close ≡ out → lies_outside l (cond out Missing close) ≡ false
    taken true e = refl
    taken false e = e

    nothing : QuotesInOrder l (record { current = Missing; last = Missing; lowest = Missing; highest = Missing })
    nothing =
        record { current_on = refl; last_on = refl; lowest_on = refl; highest_on = refl; pair = refl; from_lowest = refl; to_highest = refl; current_is_last = λ there. refl }

entered_in_order : (l : Prices) (d : Day) (e : Event) → DayInOrder l d → DayInOrder l (entered l d e).day
unfolding entered
entered_in_order l d e s = go (eqb (number_on l d e) 0) refl
  where
    go : (accepted : Bool) → eqb (number_on l d e) 0 ≡ accepted → DayInOrder l (cond accepted (day_after e d) d)
    go true a = event_in_order l d e s (eqb-true (number_on l d e) 0 a)
    go false a = s

pub played_in_order : (l : Prices) (close : Reference) (events : History) → DayInOrder l (played l close events)
unfolding played
played_in_order l close [] = fresh_in_order l close
played_in_order l close (e ∷ earlier) = entered_in_order l (played l close earlier) e (played_in_order l close earlier)
