-- Rounding by one division: a threshold inside the ladder falls between two neighbours of the band where it lands.
use Rattle.std.specs.Prelude.{Option, Some}
use Rattle.std.specs.Option.{IsSome}
use mathlib.Core.Path.{◌≡◌, refl, ap, sym, ◌∙◌}
use Prim.Native.Nat.{ℕ, suc, ◌+◌, ◌-◌, ◌*◌, ◌/◌, ◌%◌, ◌≤◌, ◌<◌}
use native.Mathlib.Nat.{div-add-mod', mod-lt, mul-pos, zero-mul, eq-zero-or-pos, le_refl, mul-le-mul_right, le-mul_of_pos_right, lt_of_mul-lt-mul_right}
use native.Mathlib.Omega.{arith}
use mathlib.Core.Logic.{⊎_elim}
use mathlib.Core.List.{List}
use lib.Dec.{T}
use lib.ListN.{length, take}
use Rattle.tables.specs.declared.Band.{Band}
use Rattle.tables.specs.Bands.{well_formed}
use Rattle.ladder.specs.Ladder.{width, ladder}
use Rattle.ladder.specs.Search.{first, at_least}
use Rattle.ladder.specs.Places.{first_price, last_price}
use Rattle.ladder.specs.Trying.{order, sought}
use Rattle.ladder.specs.Arithmetic.{Between}
use Rattle.ladder.proofs.Lists.Moves.{between_below, between_above}
use Rattle.ladder.proofs.Tables.Chain.{Whole, band_at}
use Rattle.ladder.proofs.Tables.Table.{ladder_rises, first_is_start, band_next, is_whole}
use Rattle.ladder.proofs.Tables.Landing.{Lands}
use Rattle.ladder.proofs.Tables.Trying.{found_lands, sought_at, inside_lands}

-- ---- inside the ladder

module _ (t : List Band) (wf : T (well_formed t)) (scale y : ℕ) (low : scale * first_price (ladder t) < y) (high : y ≤ scale * last_price (ladder t)) where
  pub scaled : 0 < scale
  scaled =
      ⊎_elim (λ e. let h : y ≤ 0 * last_price (ladder t) = rw e at high in omega (arith, zero-mul (last_price (ladder t)))) (λ h. h)
      (eq-zero-or-pos scale)

  -- inside the ladder a band is found
  pub is_found : (answer : Option ℕ) → answer ≡ sought scale y (length t) t → IsSome answer
  is_found answer e =
      let l = inside_lands t wf scale y (omega arith) high in
      rw (e ∙ sought_at t wf scale y (length t) (le_refl (length t)) l.0 l.1) refl

  module _ (answer : Option ℕ) (k : ℕ) (is : answer ≡ Some k) (e : answer ≡ sought scale y (length t) t) where
    l : Lands scale y t k
    l = (found_lands t wf scale y k (take (length t) (order (length t))) (sym e ∙ is)).0

    pub inside : k < length t
    inside = l.index

    module _ (b : Band) (f : b ≡ band_at t k) where
      w : Whole b
      w = rw f (is_whole t wf k inside)

      pub divisor : 0 < scale * b.spread
      divisor = mul-pos scaled w.spreads

      pub starts_below : scale * b.bottom < y
      starts_below =
          rw f
          (⊎_elim (λ o. o)
          (λ e. absurd (omega (arith, low, e.1, ap (λ j. scale * (band_at t j).bottom) e.0, ap (λ p. scale * p) (first_is_start t wf)))) l.over)

      -- how many whole spreads of the band lie below the threshold
      abbrev spreads : ℕ
      spreads = (y - 1 - scale * b.bottom) / (scale * b.spread)

      whole : spreads * (scale * b.spread) + (y - 1 - scale * b.bottom) % (scale * b.spread) ≡ y - 1 - scale * b.bottom
      whole = div-add-mod' (y - 1 - scale * b.bottom) (scale * b.spread)

      part : (y - 1 - scale * b.bottom) % (scale * b.spread) < scale * b.spread
      part = mod-lt (y - 1 - scale * b.bottom) divisor

      less : spreads < width b
      less =
          let under : y ≤ scale * b.top = rw f l.under in
          lt_of_mul-lt-mul_right (scale * b.spread) (omega (arith, whole, starts_below, ap (λ x. scale * x) w.divides))

      pub gap_fits : b.bottom + spreads * b.spread + b.spread ≤ b.top
      gap_fits = omega (arith, w.divides, mul-le-mul_right b.spread less)

      -- the division itself, and its product, stay within the band
      pub spreads_fit : spreads ≤ spreads * b.spread
      spreads_fit = le-mul_of_pos_right spreads w.spreads

      pub is_between :
          Between scale y (ladder t)
          (record { below = b.bottom + spreads * b.spread; above = b.bottom + spreads * b.spread + b.spread })
      is_between =
          let n = band_next t wf k inside b f spreads less in
          let up : spreads * b.spread + b.bottom ≡ b.bottom + spreads * b.spread = omega arith in
          let over : suc spreads * b.spread + b.bottom ≡ b.bottom + spreads * b.spread + b.spread = omega arith in
          let under : scale * (spreads * b.spread + b.bottom) ≤ y - 1 = omega (arith, whole, starts_below) in
          let above : y - 1 < scale * (suc spreads * b.spread + b.bottom) = omega (arith, whole, part, starts_below) in
          let back : y - 1 + 1 ≡ y = omega arith in
          record {
            is_below = between_below (ladder t) (ladder_rises t wf) _ _ n scale (y - 1) under above ∙ ap Some up;
            is_above =
                ap (λ z. first (at_least scale z) (ladder t)) (sym back) ∙
                (between_above (ladder t) (ladder_rises t wf) _ _ n scale (y - 1) under above ∙ ap Some over);
          }
