-- The laws of specs/Laws.antt, proved. Other crates see them as fields of range_laws.
use native.Mathlib.Omega.{arith}
use Rattle.std.specs.Prelude.{Some, None, Ok, Err}
use mathlib.Core.Path.{◌≡◌, refl, ap}
use Prim.Native.Nat.{ℕ}
use mathlib.Core.Bool.{Bool, true, false, not, cond, ◌&&◌}
use lib.Dec.{T, eqb}
use Rattle.tables.specs.Bands.{Table, well_formed}
use Rattle.ladder.specs.Ladder.{ladder, is_ladder_price}
use Rattle.std.proofs.lemmas.Bool.{or_parts}
use Rattle.ladder.proofs.Laws.{ladder_laws}
use Rattle.limits.specs.declared.Percentage.{Percentage}
use Rattle.questions.specs.declared.Reference.{Reference}
use Rattle.questions.specs.declared.Reference.TheVariants.{Missing}
use Rattle.questions.specs.declared.References.{References}
use Rattle.rules.specs.declared.Queues.{Queues}
use Rattle.rules.specs.declared.Queues.TheVariants.{Opening, Both, BuyOnly, SellOnly, Neither}
use Rattle.rules.specs.declared.Rule.{Rule}
use Rattle.rules.specs.declared.Rule.TheVariants.{BuyLimit, BuyEnhanced, BuySpecial, SellLimit, SellEnhanced, SellSpecial}
use Rattle.questions.specs.Missing.{present, price_or}
use Rattle.questions.specs.Checks.{bad_security_code, is_off, lies_outside, any_off}
use Rattle.rules.specs.Checks.{disagree, unopposed}
use Rattle.rules.specs.Rules.{unknown_code, rule_of, queues_of, chosen, ask_of, bid_of}
use Rattle.ranges.specs.declared.Range.{Range}
use Rattle.ranges.specs.declared.Refusal.{Refusal}
use Rattle.ranges.specs.declared.Refusal.TheVariants.{BadSecurityCode}
use Rattle.ranges.specs.Bounds.{bottom, top}
use Rattle.ranges.specs.Permitted.{buy_reference, sell_reference, lowest_of, highest_of, range_of}
use Rattle.ranges.specs.Readings.{Reading, in_order, reading_by, reading_on, reading_of}
use Rattle.ranges.specs.Laws.{IfPresent, On, Within, StayOn, ReferencesStayOn, EndsOnLadder, BoundsOnLadder, RangeLaws}
use Rattle.ranges.proofs.OnLadder.{above_on, below_on, stay_on}

references_stay_on : ReferencesStayOn
references_stay_on t wf percent = stay_on t wf percent

module _ (t : Table) (wf : T (well_formed t)) (percent : Percentage) where
  stay : StayOn t percent
  stay = stay_on t wf percent

  -- the references that rules look at are on the ladder, or missing; the close is within its ends
  record AllOn (r : References) : Type 0 where
    current_bid : On t r.current_bid
    current_ask : On t r.current_ask
    last_bid : On t r.last_bid
    last_ask : On t r.last_ask
    previous_close : Within t r.previous_close
    day_low : On t r.day_low
    day_high : On t r.day_high

  all_on : (r : References) → any_off (ladder t) r ≡ false → AllOn r
  unfolding any_off
  all_on r off =
      let a = or_parts _ (lies_outside (ladder t) r.nominal) off in
      let b = or_parts _ (lies_outside (ladder t) r.previous_close) a.0 in
      let c = or_parts _ (is_off (ladder t) r.day_high) b.0 in
      let d = or_parts _ (is_off (ladder t) r.day_low) c.0 in
      let e = or_parts _ (is_off (ladder t) r.last_ask) d.0 in
      let f = or_parts _ (is_off (ladder t) r.last_bid) e.0 in
      let g = or_parts (is_off (ladder t) r.current_bid) (is_off (ladder t) r.current_ask) f.0 in
      record {
        current_bid = stay.passed _ g.0;
        current_ask = stay.passed _ g.1;
        last_bid = stay.passed _ f.1;
        last_ask = stay.passed _ e.1;
        previous_close = stay.close_passed _ b.1;
        day_low = stay.passed _ d.1;
        day_high = stay.passed _ c.1;
      }

  -- what is missing is not off it
  none_on : On t Missing
  unfolding IfPresent
  none_on = tt

  -- so are those that the queues hold
  QueuesOn : Queues → Type 0
  QueuesOn Opening = Unit {0}
  QueuesOn (Both bid ask) = On t bid × On t ask
  QueuesOn (BuyOnly bid) = On t bid
  QueuesOn (SellOnly ask) = On t ask
  QueuesOn (Neither bid ask) = On t bid × On t ask

  queues_on : (code : ℕ) (r : References) → AllOn r → QueuesOn (queues_of code r)
  unfolding QueuesOn
  queues_on code r h = go (eqb code 1) (eqb code 2) (eqb code 3) (eqb code 4)
    where
      go : (a b c d : Bool) →
          QueuesOn
          (cond a Opening
          (cond b (Both r.current_bid r.current_ask)
          (cond c (BuyOnly r.current_bid)
          (cond d (SellOnly r.current_ask)
          (Neither r.last_bid r.last_ask)))))
      go true b c d = tt
      go false true c d = (h.current_bid, h.current_ask)
      go false false true d = h.current_bid
      go false false false true = h.current_ask
      go false false false false = (h.last_bid, h.last_ask)

  bid_on : (q : Queues) → QueuesOn q → On t (bid_of q)
  unfolding QueuesOn
  bid_on Opening h = none_on
  bid_on (Both bid ask) h = h.0
  bid_on (BuyOnly bid) h = h
  bid_on (SellOnly ask) h = none_on
  bid_on (Neither bid ask) h = none_on

  ask_on : (q : Queues) → QueuesOn q → On t (ask_of q)
  unfolding QueuesOn
  ask_on Opening h = none_on
  ask_on (Both bid ask) h = h.1
  ask_on (BuyOnly bid) h = none_on
  ask_on (SellOnly ask) h = h
  ask_on (Neither bid ask) h = none_on

  -- a reference, or none
  none_or : (v : Bool) (r : Reference) → Within t r → Within t (cond v Missing r)
  none_or true r h = stay.on_within _ none_on
  none_or false r h = h

  buy_within : (q : Queues) (close low : Reference) → QueuesOn q → Within t close → On t low → Within t (buy_reference q close low)
  unfolding QueuesOn
  buy_within Opening close low h k m = k
  buy_within (Both bid ask) close low h k m = stay.on_within _ h.0
  buy_within (BuyOnly bid) close low h k m = stay.on_within _ h
  buy_within (SellOnly ask) close low h k m = stay.least_within _ _ (stay.on_within _ h) (stay.least_within _ _ k (stay.on_within _ m))
  buy_within (Neither bid ask) close low h k m =
      none_or (not (present close) && not (present low)) _
      (stay.least_within _ _ (stay.on_within _ h.1) (stay.least_within _ _ k (stay.on_within _ m)))

  sell_within : (q : Queues) (close high : Reference) → QueuesOn q → Within t close → On t high → Within t (sell_reference q close high)
  unfolding QueuesOn
  sell_within Opening close high h k m = k
  sell_within (Both bid ask) close high h k m = stay.on_within _ h.1
  sell_within (SellOnly ask) close high h k m = stay.on_within _ h
  sell_within (BuyOnly bid) close high h k m = stay.greatest_within _ _ (stay.on_within _ h) (stay.greatest_within _ _ k (stay.on_within _ m))
  sell_within (Neither bid ask) close high h k m =
      none_or (not (present close) && not (present high)) _
      (stay.greatest_within _ _ (stay.on_within _ h.0) (stay.greatest_within _ _ k (stay.on_within _ m)))

  module _ (q : Queues) (r : References) (queues : QueuesOn q) (all : AllOn r) where
    -- a bound, or the end of the ladder
    or_bottom : (x : Reference) → On t x → T (is_ladder_price (price_or (bottom (ladder t)) x) t)
    or_bottom x h = stay.price_on _ x (ladder_laws.ends_are_the_tables t wf).first_on h

    or_top : (x : Reference) → On t x → T (is_ladder_price (price_or (top (ladder t)) x) t)
    or_top x h = stay.price_on _ x (ladder_laws.ends_are_the_tables t wf).last_on h

    -- whichever quote a rule goes by, it is on the ladder
    lowest_on : (rule : Rule) → T (is_ladder_price (lowest_of (ladder t) percent rule q r) t)
    unfolding lowest_of
    lowest_on BuyLimit = or_bottom _ (stay.lower_on _ (buy_within q _ _ queues all.previous_close all.day_low))
    lowest_on BuyEnhanced = or_bottom _ (stay.lower_on _ (buy_within q _ _ queues all.previous_close all.day_low))
    lowest_on BuySpecial = search (or_bottom (ask_of q) (ask_on q queues), or_bottom (bid_of q) (bid_on q queues))
    lowest_on SellLimit = search (or_bottom (ask_of q) (ask_on q queues), or_bottom (bid_of q) (bid_on q queues))
    lowest_on SellEnhanced = search (or_bottom _ (below_on t wf (ask_of q) (ask_on q queues)), or_bottom _ (below_on t wf (bid_of q) (bid_on q queues)))
    lowest_on SellSpecial = (ladder_laws.ends_are_the_tables t wf).first_on

    highest_on : (rule : Rule) → T (is_ladder_price (highest_of (ladder t) percent rule q r) t)
    unfolding highest_of
    highest_on BuyLimit = search (or_top (ask_of q) (ask_on q queues), or_top (bid_of q) (bid_on q queues))
    highest_on BuyEnhanced = search (or_top _ (above_on t wf (ask_of q) (ask_on q queues)), or_top _ (above_on t wf (bid_of q) (bid_on q queues)))
    highest_on BuySpecial = (ladder_laws.ends_are_the_tables t wf).last_on
    highest_on SellLimit = or_top _ (stay.upper_on _ (sell_within q _ _ queues all.previous_close all.day_high))
    highest_on SellEnhanced = or_top _ (stay.upper_on _ (sell_within q _ _ queues all.previous_close all.day_high))
    highest_on SellSpecial = search (or_top (ask_of q) (ask_on q queues), or_top (bid_of q) (bid_on q queues))

-- the range of a reading; of a refusal none is asked for
range_in : Range → Reading → Range
range_in none (Ok range) = range
range_in none (Err refusal) = none

refused_or_permitted : {C : Type 0} (x : Refusal) (range : Range) → Err x ≡ Ok range → C
refused_or_permitted x range e = absurd (grind arith)

bounds_on_ladder : BoundsOnLadder
unfolding reading_of chosen reading_by range_of range_in
bounds_on_ladder t wf percent c r range = by_codes (unknown_code c)
  where
    rule : Rule
    rule = rule_of c.side c.order_type

    q : Queues
    q = queues_of c.queue r

    -- a range only where no check applies
    by_checks : (off disagrees alone : Bool) → any_off (ladder t) r ≡ off →
        in_order off disagrees alone (Ok (range_of (ladder t) percent rule q r)) ≡ Ok range → EndsOnLadder t range
    by_checks true true true a e = refused_or_permitted _ _ e
    by_checks true true false a e = refused_or_permitted _ _ e
    by_checks true false true a e = refused_or_permitted _ _ e
    by_checks true false false a e = refused_or_permitted _ _ e
    by_checks false true true a e = refused_or_permitted _ _ e
    by_checks false true false a e = refused_or_permitted _ _ e
    by_checks false false true a e = refused_or_permitted _ _ e
    by_checks false false false a e =
        let all = all_on t wf percent r a in
        let queues = queues_on t wf percent c.queue r all in
        rw (← (ap (range_in range) e))
        (record { lowest_on = lowest_on t wf percent q r queues all rule; highest_on = highest_on t wf percent q r queues all rule })

    by_security : (bad : Bool) → cond bad (Err BadSecurityCode) (reading_by (ladder t) percent rule q r) ≡ Ok range → EndsOnLadder t range
    by_security true e = refused_or_permitted _ _ e
    by_security false e = by_checks (any_off (ladder t) r) (disagree q r) (unopposed rule q) refl e

    by_codes : (unknown : Bool) →
        reading_on (ladder t) percent (cond unknown None (Some (record { rule = rule; queues = q }))) c.security_code r ≡ Ok range → EndsOnLadder t range
    by_codes true e = refused_or_permitted _ _ e
    by_codes false e = by_security (bad_security_code c.security_code) e

pub range_laws : RangeLaws
range_laws = record { references_stay_on = references_stay_on; bounds_on_ladder = bounds_on_ladder }
