-- A spread up from a ladder price below the last: by the spread of the band in which the next mil lands.
use mathlib.Core.Path.{◌≡◌, ap, ◌∙◌}
use Prim.Native.Nat.{ℕ, suc, ◌+◌, ◌*◌, ◌≤◌, ◌<◌}
use native.Mathlib.Nat.{lt_of_mul-lt-mul_right, mul-le-mul_right}
use native.Mathlib.Omega.{arith}
use mathlib.Core.Logic.{inl, inr}
use mathlib.Core.List.{List}
use lib.Dec.{T}
use Rattle.tables.specs.declared.Band.{Band}
use Rattle.tables.specs.Bands.{well_formed}
use Rattle.facts.specs.Lists.{holds}
use Rattle.ladder.specs.Ladder.{width, ladder}
use Rattle.ladder.specs.Places.{last_price}
use Rattle.ladder.specs.Spreads.{spread_up}
use Rattle.ladder.specs.Laws.{UpInBand}
use Rattle.ladder.proofs.Lists.Ends.{over_first}
use Rattle.ladder.proofs.Lists.Moves.{spread_up_lem}
use Rattle.ladder.proofs.Tables.Chain.{Whole, band_at}
use Rattle.ladder.proofs.Tables.Table.{Index, index_of, start, ladder_rises, first_is_start, entries_next, is_whole}
use Rattle.ladder.proofs.Tables.Landing.{Over, Lands}
use Rattle.ladder.proofs.Tables.Trying.{inside_lands}
use Rattle.ladder.proofs.Tables.Stands.{Inside, held_multiple}

module _ (t : List Band) (wf : T (well_formed t)) (p : ℕ) (on : T (holds p (ladder t))) where
  -- in a band that goes on above p
  module _ (k : ℕ) (lies : Inside t k p) (goes_on : p < (band_at t k).top) where
    abbrev b : Band
    b = band_at t k

    w : Whole b
    w = is_whole t wf k lies.index

    from_entry : Index b p → UpInBand t p k
    from_entry x = record { there = lies.index; over = omega (arith, lies.low); by_spread = rises; up_to = omega (arith, rises, next, fits, w.divides) }
      where
        less : x.i < width b
        less = lt_of_mul-lt-mul_right b.spread (omega (arith, x.is, w.divides))

        fits : suc x.i * b.spread ≤ width b * b.spread
        fits = mul-le-mul_right b.spread less

        next : suc x.i * b.spread + b.bottom ≡ p + b.spread
        next = omega (arith, x.is)

        rises : spread_up (ladder t) p ≡ p + b.spread
        rises = ap (spread_up (ladder t)) x.is ∙ spread_up_lem (ladder t) (ladder_rises t wf) _ _ (entries_next t wf k lies.index x.i less) ∙ next

    in_this_band : UpInBand t p k
    in_this_band = from_entry (index_of b p w lies.low lies.high (held_multiple t wf p on k lies))

  -- p + 1 lands over the bottom of a band, or it is the first bottom, which is not above p
  under_it : (k : ℕ) → Over 1 (suc p) t k → (band_at t k).bottom ≤ p
  under_it k (inl over) = omega (arith, over)
  under_it k (inr first) =
      let not : start t ≤ p = omega (arith, over_first (ladder t) (ladder_rises t wf) p on, first_is_start t wf) in
      rw first.0 not

  pub up_in_band : p < last_price (ladder t) → (k : ℕ) × UpInBand t p k
  up_in_band m = go (inside_lands t wf 1 (suc p) (omega (arith, over_first (ladder t) (ladder_rises t wf) p on)) (omega (arith, m)))
    where
      go : (k : ℕ) × Lands 1 (suc p) t k → (k : ℕ) × UpInBand t p k
      go (k, l) =
          let above : p < (band_at t k).top = omega (arith, l.under) in
          (k, in_this_band k (record { index = l.index; low = under_it k l.over; high = omega arith }) above)
