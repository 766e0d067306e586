-- A day as plain numbers: nothing is lost, since no price within the ends is 0; and an off-System trade that is given these numbers.
use mathlib.Core.Path.{◌≡◌, refl}
use Prim.Native.Nat.{ℕ, zero, suc}
use native.Mathlib.Omega.{arith}
use mathlib.Core.Bool.{Bool, true, false, cond}
use mathlib.Core.List.{[], ◌∷◌}
use lib.Dec.{T}
use borrow.Author.Tests.{ne_eqb}
use Rattle.tables.specs.Bands.{Table, well_formed}
use Rattle.ladder.specs.Ladder.{Prices, ladder}
use Rattle.ladder.proofs.Laws.{ladder_laws}
use Rattle.limits.specs.declared.Percentage.{Percentage}
use Rattle.questions.specs.declared.Reference.{Reference}
use Rattle.questions.specs.declared.Reference.TheVariants.{Missing, Price}
use Rattle.questions.specs.Missing.{reference_of, number_of}
use Rattle.questions.specs.Checks.{is_off, lies_outside}
use Rattle.questions.proofs.Laws.{question_laws}
use Rattle.ranges.specs.declared.Range.{Range}
use Rattle.judging.specs.declared.Verdict.TheVariants.{Accepted, OutsideLadder, BelowLowest, AboveHighest}
use Rattle.judging.specs.Verdicts.{outside, below_lowest, above_highest}
use Rattle.judging.specs.Numbers.{verdict_number}
use Rattle.trades.specs.declared.TradeReferences.{TradeReferences}
use Rattle.trades.specs.Trades.{trade_references_of, any_trade_off, trade_range, trade_reading, trade_verdict, trade_judged}
use Rattle.trades.specs.Laws.{is_trade_refusal}
use Rattle.daybook.specs.declared.Day.{Day}
use Rattle.daybook.specs.Events.{History}
use Rattle.daybook.specs.Days.{played}
use Rattle.daynumbers.specs.declared.DayNumbers.{DayNumbers}
use Rattle.daynumbers.specs.Numbers.{numbers_of_day, day_from, played_in_numbers}
use Rattle.daybook.specs.Laws.{DayInOrder}
use Rattle.daybook.proofs.Laws.{day_laws}
use Rattle.daynumbers.specs.Laws.{SameDay, trade_on}

-- a number is the number of the reference that it stands for, and so are eleven
number_back : (x : ℕ) → number_of (reference_of x) ≡ x
number_back zero = refl
number_back (suc x) = rw (ne_eqb (suc x) 0 (λ e. omega (arith, e)))

pub same_back : (n : DayNumbers) → numbers_of_day (day_from n) ≡ n
unfolding day_from numbers_of_day
same_back n = simp number_back

module _ (t : Table) (wf : T (well_formed t)) where
  -- a price within the ends is not 0, so that its number stands for it
  close_back : (r : Reference) → lies_outside (ladder t) r ≡ false → reference_of (number_of r) ≡ r
  close_back Missing w = refl
  close_back (Price p) w = let positive = ladder_laws.never_zero t wf p w in rw (ne_eqb p 0 (λ z. omega arith))

  price_back : (r : Reference) → is_off (ladder t) r ≡ false → reference_of (number_of r) ≡ r
  price_back r on = close_back r (question_laws.none_outside t wf r on)

  day_back : (d : Day) → DayInOrder (ladder t) d → day_from (numbers_of_day d) ≡ d
  unfolding day_from numbers_of_day
  day_back d s =
      rw (
        close_back d.previous_close s.close_within,
        price_back d.bids.current s.bids.current_on,
        price_back d.bids.last s.bids.last_on,
        price_back d.bids.lowest s.bids.lowest_on,
        price_back d.bids.highest s.bids.highest_on,
        price_back d.asks.current s.asks.current_on,
        price_back d.asks.last s.asks.last_on,
        price_back d.asks.lowest s.asks.lowest_on,
        price_back d.asks.highest s.asks.highest_on,
        price_back d.traded.low s.traded.low_on,
        price_back d.traded.high s.traded.high_on,
      )

  same_numbers : (close : ℕ) (events : History) → played_in_numbers (ladder t) close events ≡ numbers_of_day (played (ladder t) (reference_of close) events)
  unfolding played_in_numbers played
  same_numbers close [] = refl
  same_numbers close (e ∷ earlier) =
      rw (same_numbers close earlier, day_back (played (ladder t) (reference_of close) earlier) (day_laws.days_are_in_order (ladder t) (reference_of close) earlier))

  pub same_day : (close : ℕ) (events : History) →
      SameDay (played_in_numbers (ladder t) close events) (played (ladder t) (reference_of close) events)
  same_day close events =
      record {
        numbers = same_numbers close events;
        back =
            rw (same_numbers close events)
            (day_back (played (ladder t) (reference_of close) events) (day_laws.days_are_in_order (ladder t) (reference_of close) events));
      }

-- ---- a trade

not_refused_lem : (l : Prices) (range : Range) (p : ℕ) → T (is_trade_refusal (verdict_number (trade_verdict l range p))) → ⊥
unfolding trade_verdict
not_refused_lem l range p = go (outside l p) (below_lowest range p) (above_highest range p)
  where
    go : (a b c : Bool) →
        T (is_trade_refusal (verdict_number (cond a OutsideLadder (cond b BelowLowest (cond c AboveHighest Accepted))))) → ⊥
    go true b c refused = refused
    go false true c refused = refused
    go false false true refused = refused
    go false false false refused = refused

pub trade_on_lem : (t : Table) → T (well_formed t) → (percent : Percentage) (d : Day) (price : ℕ) → DayInOrder (ladder t) d →
    T (is_trade_refusal (trade_on (ladder t) percent (numbers_of_day d) price).number) → ⊥
unfolding numbers_of_day trade_references_of any_trade_off trade_reading trade_judged
trade_on_lem t wf percent d price s refused =
    not_refused_lem (ladder t) (trade_range (ladder t) percent r) price
    (rw (
      close_back t wf d.previous_close s.close_within,
      price_back t wf d.bids.lowest s.bids.lowest_on,
      price_back t wf d.bids.highest s.bids.highest_on,
      price_back t wf d.asks.lowest s.asks.lowest_on,
      price_back t wf d.asks.highest s.asks.highest_on,
      s.close_within,
      s.bids.lowest_on,
      s.bids.highest_on,
      s.asks.lowest_on,
      s.asks.highest_on,
      s.bids.pair,
      s.asks.pair,
    ) at refused)
  where
    r : TradeReferences
    r =
        record {
          previous_close = d.previous_close;
          lowest_bid = d.bids.lowest;
          lowest_ask = d.asks.lowest;
          highest_bid = d.bids.highest;
          highest_ask = d.asks.highest;
        }
