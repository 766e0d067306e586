-- Where a walk starts: on the price itself if it is a ladder price, and else on the ladder price behind it. From there the first spread ends where
-- it ends from the price itself, so that any number of spreads does, unless it is 0.
use mathlib.Core.Path.{◌≡◌, refl, ap, sym, ◌∙◌}
use Prim.Native.Nat.{ℕ, zero, suc, ◌+◌, ◌-◌, ◌*◌, ◌%◌, ◌≤◌, ◌<◌}
use native.Mathlib.Nat.{lt_irrefl, eq-zero-or-pos, add-sub_cancel, mul-mod_left, mul-le-mul_right, lt_of_mul-lt-mul_right}
use native.Mathlib.Omega.{arith}
use mathlib.Core.Logic.{⊎_elim}
use mathlib.Core.List.{List}
use lib.Dec.{T}
use Rattle.tables.specs.declared.Band.{Band}
use Rattle.tables.specs.Bands.{well_formed}
use Rattle.ladder.specs.Ladder.{width, ladder}
use Rattle.ladder.specs.Spreads.{spread_up, spread_down, times}
use Rattle.ladder.specs.declared.search.Lies.{Lies}
use Rattle.ladder.specs.Arithmetic.{LiesIn, StandsIn}
use Rattle.ladder.proofs.Lists.Moves.{spread_up_lem, spread_down_lem, up_between, down_between}
use Rattle.ladder.proofs.Tables.Chain.{Whole, band_at}
use Rattle.ladder.proofs.Tables.Table.{Index, ladder_rises, entries_next, is_whole}
use Rattle.ladder.proofs.Tables.Nearest.{at_below, at_above, below_entry, above_entry, below_near, above_near}
use Rattle.ladder.proofs.Tables.Stands.{Inside, is_inside}

-- a walk from p may start at `at`
pub record Start (step : ℕ → ℕ) (t : List Band) (k p at : ℕ) : Type 0 where
  pub stands : StandsIn t k at
  pub leads : (n : ℕ) → 0 < n → times n step at ≡ times n step p

-- two prices from which the first step ends at the same price
same_first : (step : ℕ → ℕ) (at p : ℕ) → step at ≡ step p → (n : ℕ) → 0 < n → times n step at ≡ times n step p
unfolding times
same_first step at p e zero h = absurd (lt_irrefl 0 h)
same_first step at p e (suc n) h = ap (times n step) e

module _ (t : List Band) (wf : T (well_formed t)) (k p : ℕ) (lies : Inside t k p) where
  abbrev here : Band
  here = band_at t k

  whole : Whole here
  whole = is_whole t wf k lies.index

  -- entry i of the band stands in it
  entry_stands : (i at : ℕ) → at ≡ i * here.spread + here.bottom → at ≤ here.top → StandsIn t k at
  entry_stands i at e high =
      record {
        index = lies.index;
        low = omega arith;
        high = high;
        multiple = rw (e, add-sub_cancel, mul-mod_left) refl;
      }

  -- up: from the entry at or below p, i spreads over the bottom
  up_here : Start (spread_up (ladder t)) t k p (at_below t wf k p lies)
  up_here =
      record {
        stands = entry_stands entry.i at entry.is (omega (arith, lies.high));
        leads = λ n pos. ⊎_elim (λ e. ap (times n (spread_up (ladder t))) (omega arith)) (λ m. same_first (spread_up (ladder t)) at p (between m) n pos) (eq-zero-or-pos over);
      }
    where
      at : ℕ
      at = at_below t wf k p lies

      over : ℕ
      over = (p - here.bottom) % here.spread

      entry : Index here at
      entry = below_entry t wf k p lies

      between : 0 < over → spread_up (ladder t) at ≡ spread_up (ladder t) p
      between m =
          let less : entry.i < width here = lt_of_mul-lt-mul_right here.spread (omega (arith, entry.is, whole.divides, lies.high)) in
          let next = entries_next t wf k lies.index entry.i less in
          rw entry.is
          (spread_up_lem (ladder t) (ladder_rises t wf) _ _ next ∙
          sym (up_between (ladder t) (ladder_rises t wf) _ _ next p (omega (arith, entry.is)) (omega (arith, entry.is, below_near t wf k p lies))))

  -- down: from the entry at or above p, which is not the first of the band where p lies below it
  down_here : Start (spread_down (ladder t)) t k p (at_above t wf k p lies)
  down_here =
      record {
        stands = entry_stands entry.i at entry.is (omega (arith, entry.is, entry.within, mul-le-mul_right here.spread entry.within, whole.divides));
        leads = λ n pos. ⊎_elim (λ e. ap (times n (spread_down (ladder t))) (omega arith)) (λ m. same_first (spread_down (ladder t)) at p (between m entry.i entry.is entry.within) n pos) (eq-zero-or-pos under);
      }
    where
      at : ℕ
      at = at_above t wf k p lies

      under : ℕ
      under = (here.top - p) % here.spread

      entry : Index here at
      entry = above_entry t wf k p lies

      between : 0 < under → (i : ℕ) → at ≡ i * here.spread + here.bottom → i ≤ width here → spread_down (ladder t) at ≡ spread_down (ladder t) p
      between m zero is fits = absurd (omega (arith, is, lies.low))
      between m (suc i) is fits =
          let next = entries_next t wf k lies.index i fits in
          rw is
          (spread_down_lem (ladder t) (ladder_rises t wf) _ _ next ∙
          sym (down_between (ladder t) (ladder_rises t wf) _ _ next p (omega (arith, is, above_near t wf k p lies)) (omega (arith, is))))

-- the price lies in the band found
module _ (t : List Band) (wf : T (well_formed t)) (p : ℕ) (found : Lies) (lies : LiesIn t p found) where
  inside : Inside t found.index p
  inside = is_inside t p found lies

  pub starts_up : (over : ℕ) → over ≡ (p - found.band.bottom) % found.band.spread → Start (spread_up (ladder t)) t found.index p (p - over)
  starts_up over e = rw (e, lies.is) (up_here t wf found.index p inside)

  pub starts_down : (under : ℕ) → under ≡ (found.band.top - p) % found.band.spread → Start (spread_down (ladder t)) t found.index p (p + under)
  starts_down under e = rw (e, lies.is) (down_here t wf found.index p inside)
