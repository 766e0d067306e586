-- The laws of specs/Laws.antt, proved from the laws of the ladder. Other crates see them as fields of limit_laws.
use Rattle.std.specs.Prelude.{Option, Some, None}
use mathlib.Core.Path.{◌≡◌, refl}
use Prim.Native.Nat.{ℕ, ◌-◌, ◌*◌, ◌≤◌}
use native.Mathlib.Nat.{mul-le-mul, mul-le-mul_left}
use native.Mathlib.Omega.{arith}
use mathlib.Core.Bool.{false}
use lib.Dec.{T, le→leb}
use Rattle.facts.proofs.Numbers.{of_smaller, of_larger}
use Rattle.tables.specs.Bands.{Table, well_formed}
use Rattle.tables.specs.Named.{table_named}
use Rattle.tables.specs.Growth.{grows_slowly}
use Rattle.tables.proofs.Laws.{table_laws}
use Rattle.ladder.specs.Named.{ladder_named}
use Rattle.limits.proofs.ByNumber.{with_a_price}
use Rattle.ladder.specs.Ladder.{Prices, ladder, is_ladder_price}
use Rattle.ladder.specs.Search.{first, latest, or_else, at_least, at_most}
use Rattle.ladder.specs.Places.{is_outside}
use Rattle.ladder.specs.Spreads.{times, if_within}
use Rattle.ladder.proofs.Laws.{ladder_laws}
use Rattle.limits.specs.Limits.{limit_spreads, five_percent, lower_limit, upper_limit}
use Rattle.limits.specs.Moves.{UpAtMost, AnswersMove}
use Rattle.limits.specs.Laws.{PercentageFinds, LimitsEnclose, LimitsAreOrdered, NoSmaller, HigherReference, NoLimitOnUnknown, LimitsMoveLittle}
use Rattle.limits.specs.Laws.{OneSpreadMovesLittle, LimitLaws}
use Rattle.limits.proofs.Steps.{up, more}
use Rattle.limits.proofs.Moving.{moves_little, lower_moves, upper_moves}
use Rattle.limits.proofs.Reached.{bounds_are_reached}

-- a search that cannot find nothing finds a price
finds : (f : Option ℕ) → (f ≡ None → ⊥) → (q : ℕ) × (f ≡ Some q)
finds (Some q) never = (q, refl)
finds None never = absurd (never refl)

percentage_finds : PercentageFinds
percentage_finds t wf percent r w =
    let scale = percent.scale in
    let ends = ladder_laws.ends_are_the_tables t wf in
    record {
      lower =
          λ m.
          finds (first (at_least scale (percent.lower * r)) (ladder t))
          (λ e.
          (ladder_laws.first_is_smallest t wf (at_least scale (percent.lower * r))).nothing e _ ends.last_on
          (le→leb _ _ (mul-le-mul m (ends.within r w).1)));
      upper =
          λ m.
          finds (latest (at_most scale (percent.upper * r)) (ladder t))
          (λ e.
          (ladder_laws.latest_is_largest t wf (at_most scale (percent.upper * r))).nothing e _ ends.first_on
          (le→leb _ _ (mul-le-mul m (ends.within r w).0)));
    }

-- ---- order

limits_are_ordered : LimitsAreOrdered
limits_are_ordered t wf percent p q m =
    let spreads = ladder_laws.spreads_keep_order t wf limit_spreads p q m in
    let lower = ladder_laws.rounding_keeps_order t wf percent.scale _ _ (mul-le-mul_left percent.lower m) in
    let upper = ladder_laws.rounding_keeps_order t wf percent.scale _ _ (mul-le-mul_left percent.upper m) in
    record { lower = omega (arith, spreads.down, lower.at_least_lem); upper = omega (arith, spreads.up, upper.at_most_lem) }

-- ---- where a limit lies

-- a rounded price is on the ladder: what was found, or the end that stands in
rounded_on : (t : Table) (f : Option ℕ) (end : ℕ) → T (is_ladder_price end t) → ((q : ℕ) → f ≡ Some q → T (is_ladder_price q t)) →
    T (is_ladder_price (or_else end f) t)
rounded_on t (Some q) end on found = found q refl
rounded_on t None end on found = on

limits_enclose : LimitsEnclose
limits_enclose t wf percent r w =
    let spreads = ladder_laws.spreads_stay t wf limit_spreads r in
    let lands = ladder_laws.spreads_stay t wf (limit_spreads - 1) r in
    let ends = ladder_laws.ends_are_the_tables t wf in
    let at_least_lem = ladder_laws.first_is_smallest t wf (at_least percent.scale (percent.lower * r)) in
    let at_most_lem = ladder_laws.latest_is_largest t wf (at_most percent.scale (percent.upper * r)) in
    record {
      lower_on = of_smaller (λ q. T (is_ladder_price q t)) _ _ (lands.down_lands w) (rounded_on t _ _ ends.last_on (λ q e. (at_least_lem.found q e).on));
      upper_on = of_larger (λ q. T (is_ladder_price q t)) _ _ (lands.up_lands w) (rounded_on t _ _ ends.first_on (λ q e. (at_most_lem.found q e).on));
      lower_below = omega (arith, spreads.down_below);
      upper_above = omega (arith, spreads.up_above);
    }

-- ---- demand 3c

-- a limit of two references, from the numbers that it has for them
no_smaller : (l : Prices) (limit : ℕ → ℕ) (p q : ℕ) → is_outside p l ≡ false → is_outside q l ≡ false → limit p ≤ limit q →
    NoSmaller (λ r. if_within r l (limit r)) p q
no_smaller l limit p q v w m =
    record {
      of_p = limit p;
      of_q = limit q;
      p_has = (ladder_laws.only_within_the_ends p l (limit p)).within v;
      q_has = (ladder_laws.only_within_the_ends q l (limit q)).within w;
      ordered = m;
    }

higher_reference : HigherReference
higher_reference n p q v w m =
    let ordered = limits_are_ordered (table_named n) (with_a_price n p v) five_percent p q m in
    record {
      lower = no_smaller (ladder_named n) (lower_limit (ladder_named n) five_percent) p q v w ordered.lower;
      upper = no_smaller (ladder_named n) (upper_limit (ladder_named n) five_percent) p q v w ordered.upper;
    }

no_limit_on_unknown : NoLimitOnUnknown
no_limit_on_unknown n r unknown =
    let outside = (ladder_laws.nothing_on_unknown n unknown).outside r in
    record { no_lower = rw outside refl; no_upper = rw outside refl; no_percent_lower = rw outside refl; no_percent_upper = rw outside refl }

-- ---- one spread more

module _ (t : Table) (wf : T (well_formed t)) (slow : T (grows_slowly t)) (r : ℕ) (w : is_outside r (ladder t) ≡ false) where
  abbrev l : Prices
  l = ladder t

  lower_moves_little : UpAtMost l 3 (lower_limit l five_percent r) (lower_limit l five_percent (up t wf r))
  lower_moves_little =
      moves_little t wf (lower_limit l five_percent) 3 (λ p v. (limits_enclose t wf five_percent p v).lower_on)
      (λ p q m. (limits_are_ordered t wf five_percent p q m).lower) (lower_moves t wf slow) r w

  upper_moves_little : UpAtMost l 2 (upper_limit l five_percent r) (upper_limit l five_percent (up t wf r))
  upper_moves_little =
      moves_little t wf (upper_limit l five_percent) 2 (λ p v. (limits_enclose t wf five_percent p v).upper_on)
      (λ p q m. (limits_are_ordered t wf five_percent p q m).upper) (upper_moves t wf slow) r w

limits_move_little : LimitsMoveLittle
limits_move_little t wf slow r w =
    record {
      lower = more (ladder t) 3 _ _ _ (omega arith) (lower_moves_little t wf slow r w);
      upper = more (ladder t) 2 _ _ _ (omega arith) (upper_moves_little t wf slow r w);
    }

-- what a call answers for two prices within the ends, where one limit of theirs is at most n spreads up from the other
answers_move : (l : Prices) (limit : ℕ → ℕ) (n r next : ℕ) → is_outside r l ≡ false → is_outside next l ≡ false → UpAtMost l n (limit r) (limit next) →
    AnswersMove l (λ p. if_within p l (limit p)) n r next
answers_move l limit n r next v w moves =
    record {
      from = limit r;
      to = limit next;
      of_r = (ladder_laws.only_within_the_ends r l (limit r)).within v;
      of_next = (ladder_laws.only_within_the_ends next l (limit next)).within w;
      moves = moves;
    }

one_spread_moves_little : OneSpreadMovesLittle
unfolding times
one_spread_moves_little n r w =
    let t = table_named n in
    let l = ladder_named n in
    let wf = with_a_price n r w in
    let next = up t wf r in
    let v = (ladder_laws.ends_are_the_tables t wf).none_outside next ((ladder_laws.spreads_stay t wf 0 r).up_lands w) in
    let slow = table_laws.named_grow_slowly n in
    record {
      next = next;
      up = (ladder_laws.only_within_the_ends r l next).within w;
      lower = answers_move l (lower_limit l five_percent) _ r next w v (more l 3 _ _ _ (omega arith) (lower_moves_little t wf slow r w));
      upper = answers_move l (upper_limit l five_percent) _ r next w v (more l 2 _ _ _ (omega arith) (upper_moves_little t wf slow r w));
    }

-- ---- all of them

pub limit_laws : LimitLaws
limit_laws =
    record {
      percentage_finds = percentage_finds;
      limits_enclose = limits_enclose;
      limits_are_ordered = limits_are_ordered;
      higher_reference = higher_reference;
      no_limit_on_unknown = no_limit_on_unknown;
      limits_move_little = limits_move_little;
      one_spread_moves_little = one_spread_moves_little;
      bounds_are_reached = bounds_are_reached;
    }
