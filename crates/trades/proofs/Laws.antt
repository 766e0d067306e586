-- The laws of specs/Laws.antt, proved. Other crates see them as fields of trade_laws.
use Rattle.std.specs.Prelude.{Ok, Err}
use mathlib.Core.Path.{◌≡◌, refl}
use Prim.Native.Nat.{ℕ, ◌≤◌}
use native.Mathlib.Omega.{arith}
use mathlib.Core.Bool.{Bool, true, false, not, cond, ◌&&◌}
use lib.Dec.{T, eqb, leb, leb→le}
use Rattle.tables.specs.Bands.{Table, well_formed}
use Rattle.tables.specs.Named.{usual_table}
use Rattle.tables.proofs.Laws.{table_laws}
use Rattle.ladder.specs.Named.{usual_ladder}
use Rattle.ladder.specs.Ladder.{Prices, ladder, is_ladder_price}
use Rattle.ladder.specs.Places.{first_price, last_price}
use Rattle.facts.proofs.Tests.{and_left, and_right, below}
use Rattle.std.proofs.lemmas.Bool.{or_parts, true≢false}
use Rattle.ladder.proofs.Laws.{ladder_laws}
use Rattle.limits.specs.declared.Percentage.{Percentage}
use Rattle.limits.specs.Limits.{five_percent, lower_limit_found, upper_limit_found}
use Rattle.limits.specs.Terms.{terms_on}
use Rattle.questions.specs.Checks.{is_off, lies_outside, bad_pair}
use Rattle.questions.proofs.Laws.{question_laws}
use Rattle.ranges.specs.declared.Range.{Range}
use Rattle.ranges.specs.declared.Refusal.TheVariants.{OffLadder, Disagreement}
use Rattle.ranges.specs.Bounds.{from_reference}
use Rattle.ranges.proofs.Laws.{range_laws}
use Rattle.judging.specs.declared.Verdict.TheVariants.{Accepted, OutsideLadder, BelowLowest, AboveHighest}
use Rattle.judging.specs.Verdicts.{outside, below_lowest, above_highest}
use Rattle.judging.specs.Numbers.{verdict_number}
use Rattle.trades.specs.declared.TradeReferences.{TradeReferences}
use Rattle.trades.specs.Trades.{any_trade_off, trade_disagrees, trade_range, trade_reading, trade_verdict, trade_by, trade_judged, trade_judged_by}
use Rattle.trades.specs.Laws.{is_trade_refusal, Numbers, TradeNumbers, FromTo, TradeRange, TradeCheckedAlike, TradeOnTable, TradeLaws}
use Rattle.trades.proofs.Pairs.{paired, range_rises, limits_paired}

-- ---- the range

-- a price from lowest to highest is within the ends of the ladder, so the verdict accepts it
accepts : (t : Table) → T (well_formed t) → (range : Range) (p : ℕ) → T (is_ladder_price range.lowest t) → T (is_ladder_price range.highest t) →
    eqb (verdict_number (trade_verdict (ladder t) range p)) 0 ≡ (leb range.lowest p && leb p range.highest)
unfolding trade_verdict
accepts t wf range p low high =
    rw (below p range.lowest, below range.highest p)
    (go (outside (ladder t) p) (leb range.lowest p) (leb p range.highest) within)
  where
    within : T (leb range.lowest p && leb p range.highest) → outside (ladder t) p ≡ false
    within h =
        let a : range.lowest ≤ p = leb→le range.lowest p (and_left (leb range.lowest p) _ h) in
        let b : p ≤ range.highest = leb→le p range.highest (and_right (leb range.lowest p) _ h) in
        let first = (ladder_laws.ends_are_the_tables t wf).none_below range.lowest low in
        let last = (ladder_laws.ends_are_the_tables t wf).none_above range.highest high in
        (ladder_laws.ends_are_the_tables t wf).not_outside p (omega arith) (omega arith)

    go : (o x y : Bool) → (T (x && y) → o ≡ false) →
        eqb (verdict_number (cond o OutsideLadder (cond (not x) BelowLowest (cond (not y) AboveHighest Accepted)))) 0 ≡ (x && y)
    go true true true f = absurd (true≢false (f tt))
    go true true false f = refl
    go true false y f = refl
    go false false y f = refl
    go false true false f = refl
    go false true true f = refl

module _ (t : Table) (wf : T (well_formed t)) (percent : Percentage) (r : TradeReferences) where
  on_and_paired : any_trade_off (ladder t) r ≡ false → trade_disagrees r ≡ false → (p : ℕ) → FromTo t (trade_by (ladder t) (Ok (trade_range (ladder t) percent r)) p) p
  unfolding any_trade_off
  on_and_paired off disagrees p =
      let a = or_parts _ (is_off (ladder t) r.highest_ask) off in
      let b = or_parts _ (is_off (ladder t) r.highest_bid) a.0 in
      let c = or_parts _ (is_off (ladder t) r.lowest_ask) b.0 in
      let d = or_parts (lies_outside (ladder t) r.previous_close) (is_off (ladder t) r.lowest_bid) c.0 in
      let stay = range_laws.references_stay_on t wf percent in
      let close = stay.close_passed r.previous_close d.0 in
      let ends = ladder_laws.ends_are_the_tables t wf in
      let low =
      stay.price_on _ _ ends.first_on
      (stay.least_on _ _ (stay.lower_on _ close) (stay.least_on _ _ (stay.passed r.lowest_bid d.1) (stay.passed r.lowest_ask c.1))) in
      let high =
      stay.price_on _ _ ends.last_on
      (stay.greatest_on _ _ (stay.upper_on _ close) (stay.greatest_on _ _ (stay.passed r.highest_bid b.1) (stay.passed r.highest_ask a.1))) in
      let pairs = or_parts (bad_pair r.lowest_bid r.highest_bid) (bad_pair r.lowest_ask r.highest_ask) disagrees in
      let first_below_last = ends.none_below (last_price (ladder t)) ends.last_on in
      record {
        range =
            record {
              lowest_on = low;
              highest_on = high;
              rises =
                  range_rises (first_price (ladder t)) (last_price (ladder t)) first_below_last
                  (from_reference (lower_limit_found (ladder t) percent) r.previous_close) r.lowest_bid
                  r.lowest_ask (from_reference (upper_limit_found (ladder t) percent) r.previous_close) r.highest_bid r.highest_ask
                  (limits_paired t wf percent _ close)
                  (paired _ _ pairs.0) (paired _ _ pairs.1);
            };
        accepted = accepts t wf (trade_range (ladder t) percent r) p low high;
      }

trade_range_lem : TradeRange
unfolding trade_judged trade_reading
trade_range_lem t wf percent p r not_refused_lem = go (any_trade_off (ladder t) r) (trade_disagrees r) refl refl not_refused_lem
  where
    go : (off disagrees : Bool) → any_trade_off (ladder t) r ≡ off → trade_disagrees r ≡ disagrees →
        (T (is_trade_refusal (trade_by (ladder t) (cond off (Err OffLadder) (cond disagrees (Err Disagreement) (Ok (trade_range (ladder t) percent r)))) p).number) → ⊥) →
        FromTo t (trade_by (ladder t) (cond off (Err OffLadder) (cond disagrees (Err Disagreement) (Ok (trade_range (ladder t) percent r)))) p) p
    go true b e f n = absurd (n tt)
    go false true e f n = absurd (n tt)
    go false false e f n = on_and_paired t wf percent r e f p

-- ---- the numbers

-- a trade with a range gets 0, 6, 8 or 9
priced : (l : Prices) (range : Range) (p : ℕ) → Numbers (trade_by l (Ok range) p)
unfolding trade_verdict
priced l range p = go (outside l p) (below_lowest range p) (above_highest range p)
  where
    go : (o b a : Bool) →
        Numbers (record { number = verdict_number (cond o OutsideLadder (cond b BelowLowest (cond a AboveHighest Accepted))); lowest = range.lowest; highest = range.highest })
    go true b a = record { one_of = tt; refused = λ h. absurd h }
    go false true a = record { one_of = tt; refused = λ h. absurd h }
    go false false true = record { one_of = tt; refused = λ h. absurd h }
    go false false false = record { one_of = tt; refused = λ h. absurd h }

trade_numbers : TradeNumbers
unfolding trade_judged trade_reading
trade_numbers l percent p d = go (any_trade_off l d) (trade_disagrees d)
  where
    go : (off disagrees : Bool) →
        Numbers (trade_by l (cond off (Err OffLadder) (cond disagrees (Err Disagreement) (Ok (trade_range l percent d)))) p)
    go true b = record { one_of = tt; refused = λ h. refl }
    go false true = record { one_of = tt; refused = λ h. refl }
    go false false = priced l (trade_range l percent d) p

-- ---- check 3

trade_checked_alike : TradeCheckedAlike
unfolding any_trade_off
trade_checked_alike t wf r close = rw (close, question_laws.none_outside t wf r.previous_close close)

-- ---- on a table by its number

trade_on_table : TradeOnTable
trade_on_table n p r = record { unknown = λ e. rw e refl; named = λ e. rw e refl }

pub usual : (p : ℕ) (r : TradeReferences) → trade_judged_by (terms_on usual_table) p r ≡ trade_judged usual_ladder five_percent p r
usual p r = (trade_on_table usual_table p r).named table_laws.usual_is_named

pub trade_laws : TradeLaws
trade_laws = record { trade_numbers = trade_numbers; trade_range_lem = trade_range_lem; trade_checked_alike = trade_checked_alike; trade_on_table = trade_on_table }
