-- How far the limits of a price move when it moves up by one spread, over a table whose spreads grow slowly.
--
-- The lower limit, of a ladder price r. Where 24 spreads make it, they lead from the next price to at most one spread over it. Where 5 percent
-- make it, at p, look at the band above p and the band above r. Where that above p has low prices, 24 spreads up from p reach r, so 25 the next
-- price, and 24 spreads down from there lead to at most one over p. The two are not far apart: p is at least 95 percent of r, and below the top of
-- its band. Where a spread of the one above r is at most three of that above p, three spreads up from p reach 95 percent of the next price, or that
-- price itself.
--
-- The upper limit. 24 spreads up from the next price lead one spread up from where they lead from r. And were the 5 percent limit of the next price
-- three spreads or more over the limit of r, the first of them would end over 105 percent of r, and two more, each no smaller than that from r to
-- the next price, over 105 percent of the next price.
--
-- A price between two ladder prices has limits no lower than those of the one below it, and the same next price.
use Rattle.std.specs.Prelude.{Option, Some, None}
use mathlib.Core.Path.{◌≡◌, refl, ap, sym}
use Prim.Native.Nat.{ℕ, ◌*◌, ◌≤◌, ◌<◌, min, max}
use native.Mathlib.Nat.{le_trans}
use native.Mathlib.Decide.{dec_le}
use native.Mathlib.Omega.{arith}
use mathlib.Core.Bool.{Bool, false}
use mathlib.Core.Logic.{inl, inr, ⊎_elim}
use lib.Dec.{T, le→leb, leb→le}
use Rattle.facts.proofs.Numbers.{of_larger}
use Rattle.tables.specs.Bands.{Table, well_formed}
use Rattle.tables.specs.Growth.{grows_slowly}
use Rattle.ladder.specs.Ladder.{ladder, is_ladder_price}
use Rattle.ladder.specs.Search.{or_else, at_least, at_most}
use Rattle.ladder.specs.Places.{last_price, is_outside}
use Rattle.ladder.specs.Spreads.{times}
use Rattle.ladder.specs.Laws.{Least, Greatest, Extreme, Finds, UpInBand}
use Rattle.ladder.proofs.Laws.{ladder_laws}
use Rattle.limits.specs.Limits.{limit_spreads, five_percent, percent_lower, percent_upper, lower_limit, upper_limit}
use Rattle.limits.specs.Moves.{UpAtMost}
use Rattle.limits.proofs.Steps.{On, up, down, up_moves, up_leads, up_on, down_leads, up_order, down_order, up_at_most, behind, downs_after_ups}
use Rattle.limits.proofs.Steps.{downs_from_next, ups_from_next}
use Rattle.limits.proofs.Growing.{Way, band_at, grows, wide, reach}

-- the tests of the percentage limits of r
abbrev pub lower_test : ℕ → ℕ → Bool
lower_test r = at_least five_percent.scale (five_percent.lower * r)

abbrev pub upper_test : ℕ → ℕ → Bool
upper_test r = at_most five_percent.scale (five_percent.upper * r)

-- a search that some price passes ends on the extreme one, whatever stands in where it finds nothing
found_by : (R : ℕ → ℕ → Type 0) (t : Table) (test : ℕ → Bool) (answer : Option ℕ) (end r : ℕ) → Finds R t test answer → T (is_ladder_price r t) →
    T (test r) → Extreme R t test (or_else end answer)
found_by R t test (Some q) end r finds on passes = finds.found q refl
found_by R t test None end r finds on passes = absurd (finds.nothing refl r on passes)

module _ (t : Table) (wf : T (well_formed t)) where
  -- ---- the percentage limits of a ladder price, which passes both tests itself

  percent_lower_is : (r : ℕ) → On t wf r → Extreme Least t (lower_test r) (percent_lower (ladder t) five_percent r)
  percent_lower_is r on = found_by Least t _ _ _ r (ladder_laws.first_is_smallest t wf (lower_test r)) on (le→leb _ _ (omega arith))

  percent_upper_is : (r : ℕ) → On t wf r → Extreme Greatest t (upper_test r) (percent_upper (ladder t) five_percent r)
  percent_upper_is r on = found_by Greatest t _ _ _ r (ladder_laws.latest_is_largest t wf (upper_test r)) on (le→leb _ _ (omega arith))

  -- ---- from a ladder price r to the next one, where there is one

  module _ (slow : T (grows_slowly t)) (r : ℕ) (on : On t wf r) (rises : r < up t wf r) where
    abbrev next : ℕ
    next = up t wf r

    next_on : On t wf next
    unfolding times
    next_on = up_on t wf 1 r on

    below_last : r < last_price (ladder t)
    below_last = omega (arith, rises, (ladder_laws.ends_are_the_tables t wf).none_above next next_on)

    band_above : (k : ℕ) × UpInBand t r k
    band_above = ladder_laws.spread_of_the_band_above t wf r on below_last

    -- ---- the lower limit: of the two prices, so many spreads down, and the percentage limit

    abbrev spreads_of_r : ℕ
    spreads_of_r = times limit_spreads (down t wf) r

    abbrev spreads_of_next : ℕ
    spreads_of_next = times limit_spreads (down t wf) next

    abbrev percent_of_r : ℕ
    percent_of_r = percent_lower (ladder t) five_percent r

    abbrev percent_of_next : ℕ
    percent_of_next = percent_lower (ladder t) five_percent next

    -- where the percentage limit of r is the lower of its two
    module _ (p : ℕ) (is : p ≡ percent_of_r) (lower : p < spreads_of_r) where
      found : Extreme Least t (lower_test r) p
      found = rw is (percent_lower_is r on)

      reaches : five_percent.lower * r ≤ five_percent.scale * p
      reaches = leb→le _ _ found.passes

      p_below : p < r
      p_below = omega (arith, lower, down_leads t wf limit_spreads r)

      band_above_p : (k : ℕ) × UpInBand t p k
      band_above_p = ladder_laws.spread_of_the_band_above t wf p found.on (omega (arith, p_below, below_last))

      top_over_p : p < (band_at t band_above_p.0).top
      top_over_p = omega (arith, band_above_p.1.up_to, (up_moves t wf p r on p_below).0)

      -- where three spreads up from p pass, the percentage limit of the next price is no higher
      three_pass : five_percent.lower * next ≤ five_percent.scale * times 3 (up t wf) p → percent_of_next ≤ times 3 (up t wf) p
      three_pass m = (percent_lower_is next next_on).extreme _ (up_on t wf 3 p found.on) (le→leb _ _ m)

      -- where the spreads of a limit lead up from p to r, or over it, they lead down from the next price to one spread over p, or lower
      spreads_govern : r ≤ times limit_spreads (up t wf) p → spreads_of_next ≤ times 3 (up t wf) p
      unfolding times
      spreads_govern m =
          let over_p = up t wf p in
          let reached : next ≤ times limit_spreads (up t wf) over_p = omega (arith, up_order t wf 1 r _ m, ups_from_next t wf limit_spreads p) in
          let back = downs_after_ups t wf limit_spreads over_p (up_on t wf 1 p found.on) in
          omega (arith, down_order t wf limit_spreads next (times limit_spreads (up t wf) over_p) reached, back, up_leads t wf 2 over_p)

      by_way : Way (band_at t band_above_p.0) (band_at t band_above.0) → min spreads_of_next percent_of_next ≤ times 3 (up t wf) p
      by_way (inl low) =
          ⊎_elim (λ past. omega (arith, spreads_govern past))
          (λ far. omega (arith, spreads_govern (omega (arith, far, leb→le _ _ low, reaches, top_over_p))))
          (reach t wf slow p band_above_p.0 found.on band_above_p.1 limit_spreads p r found.on on (omega arith))
      by_way (inr (inl far)) = absurd (omega (arith, leb→le _ _ far, reaches, band_above.1.over, top_over_p))
      by_way (inr (inr thrice)) =
          ⊎_elim (λ past. omega (arith, past, down_leads t wf limit_spreads next))
          (λ far. omega (arith, three_pass (omega (arith, far, leb→le _ _ thrice, reaches, band_above.1.by_spread))))
          (reach t wf slow p band_above_p.0 found.on band_above_p.1 3 p next found.on next_on (omega arith))

      by_percentage : min spreads_of_next percent_of_next ≤ times 3 (up t wf) p
      by_percentage =
          by_way (grows t wf slow p r band_above_p.0 band_above.0 band_above_p.1 band_above.1 (omega (arith, p_below)) rises).way

    pub lower_moves : lower_limit (ladder t) five_percent next ≤ times 3 (up t wf) (lower_limit (ladder t) five_percent r)
    unfolding times
    lower_moves = go (dec_le spreads_of_r percent_of_r)
      where
        go : Dec (spreads_of_r ≤ percent_of_r) → min spreads_of_next percent_of_next ≤ times 3 (up t wf) (min spreads_of_r percent_of_r)
        go (yes m) =
            let e : min spreads_of_r percent_of_r ≡ spreads_of_r = omega arith in
            let one = downs_from_next t wf limit_spreads r on in
            rw e (omega (arith, one, up_leads t wf 2 (up t wf spreads_of_r)))
        go (no m) =
            let e : min spreads_of_r percent_of_r ≡ percent_of_r = omega arith in
            rw e (by_percentage percent_of_r refl (omega arith))

    -- ---- the upper limit of r, x, and the percentage limit of the next price, v

    module _ (x v : ℕ) (x_on : On t wf x) (over_r : r ≤ x) (over_percent : percent_upper (ladder t) five_percent r ≤ x)
        (found : Extreme Greatest t (upper_test next) v) where
      -- v is not above two spreads up from x
      not_three : times 2 (up t wf) x < v → ⊥
      unfolding times
      not_three m =
          let s = (band_at t band_above.0).spread in
          let one = up t wf x in
          let two = up t wf one in
          let low = up_leads t wf 1 x in
          let high = up_leads t wf 1 one in
          let first_up = up_moves t wf x v found.on (omega (arith, m, low, high)) in
          let wider = wide t wf slow r band_above.0 on band_above.1 in
          let second = wider one v first_up.2 found.on (omega (arith, over_r, first_up.0)) (omega (arith, m, high)) in
          let second_up = up_moves t wf one v found.on (omega (arith, m, high)) in
          let third = wider two v second_up.2 found.on (omega (arith, over_r, first_up.0, second_up.0)) m in
          let end = (up_moves t wf two v found.on m).1 in
          not_passed (λ p. omega (arith, over_percent, first_up.0, (percent_upper_is r on).extreme one first_up.2 p))
          (omega (arith, second, third, end, leb→le _ _ found.passes, band_above.1.by_spread))
        where
          not_passed : (T (upper_test r (up t wf x)) → ⊥) → five_percent.scale * up t wf x ≤ five_percent.upper * r → ⊥
          not_passed n m = n (le→leb _ _ m)

    pub upper_moves : upper_limit (ladder t) five_percent next ≤ times 2 (up t wf) (upper_limit (ladder t) five_percent r)
    unfolding times
    upper_moves =
        let u = times limit_spreads (up t wf) r in
        let v = percent_upper (ladder t) five_percent r in
        let x = max u v in
        let on_u = up_on t wf limit_spreads r on in
        let spreads = up_order t wf 1 u x (omega arith) in
        let x_on = of_larger (On t wf) u v on_u (percent_upper_is r on).on in
        let percent = not_three x _ x_on (omega (arith, up_leads t wf limit_spreads r)) (omega arith) (percent_upper_is next next_on) in
        omega (arith, ups_from_next t wf limit_spreads r, spreads, up_leads t wf 1 (up t wf x), percent)

-- ---- from any price within the ends

-- a limit that is ordered, and moves little from ladder price to ladder price: from a price r within the ends no more than from the ladder price
-- behind it; and where there is no next price, not at all
module _ (t : Table) (wf : T (well_formed t)) (limit : ℕ → ℕ) (n : ℕ) (on : (p : ℕ) → is_outside p (ladder t) ≡ false → On t wf (limit p))
    (ordered : (p q : ℕ) → p ≤ q → limit p ≤ limit q) (moves : (p : ℕ) → On t wf p → p < up t wf p → limit (up t wf p) ≤ times n (up t wf) (limit p))
    (r : ℕ) (w : is_outside r (ladder t) ≡ false) where
  pub moves_little : UpAtMost (ladder t) n (limit r) (limit (up t wf r))
  unfolding times
  moves_little = go (dec_le (up t wf r) r)
    where
      next_within : is_outside (up t wf r) (ladder t) ≡ false
      next_within = (ladder_laws.ends_are_the_tables t wf).none_outside (up t wf r) ((ladder_laws.spreads_stay t wf 0 r).up_lands w)

      low : r ≤ up t wf r
      low = up_leads t wf 1 r

      few : r < up t wf r → limit (up t wf r) ≤ times n (up t wf) (limit r)
      few rises =
          let b = behind t wf r w rises in
          let least = rw b.same_next at (moves b.p b.on (omega (arith, b.low, b.same_next, rises))) in
          le_trans least (up_order t wf n (limit b.p) (limit r) (ordered b.p r b.low))

      go : Dec (up t wf r ≤ r) → UpAtMost (ladder t) n (limit r) (limit (up t wf r))
      go (yes m) = let same : up t wf r ≡ r = omega (arith, low) in record { spreads = 0; few = omega arith; lead = ap limit (sym same) }
      go (no m) = up_at_most t wf n _ _ (on r w) (on (up t wf r) next_within) (ordered r (up t wf r) low) (few (omega arith))
