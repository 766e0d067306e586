-- One turn of a walk; and the walk down, band by band: within a band n spreads are n times its spread, and past it the walk goes on from its end.
use Rattle.std.specs.Prelude.{Some}
use mathlib.Core.Path.{◌≡◌, refl, ap, sym, ◌∙◌}
use Prim.Native.Nat.{ℕ, suc, ◌+◌, ◌-◌, ◌*◌, ◌/◌, ◌≤◌, ◌<◌}
use native.Mathlib.Numerals.{add-one}
use native.Mathlib.Nat.{sub_self, zero-mod, mul-sub, mul-div_cancel, lt_of_mul-lt-mul_right, le_of_mul-le-mul_right}
use native.Mathlib.Omega.{arith}
use mathlib.Core.List.{List}
use mathlib.Core.Bool.{Bool, true, false, cond}
use lib.Dec.{T, leb}
use borrow.Author.Tests.{leb-true, leb-false}
use lib.ListN.{length}
use Rattle.tables.specs.declared.Band.{Band}
use Rattle.tables.specs.Bands.{well_formed}
use Rattle.ladder.specs.Ladder.{width, ladder}
use Rattle.ladder.specs.Places.{price_at}
use Rattle.ladder.specs.Spreads.{spread_down, times}
use Rattle.ladder.specs.declared.turns.Turn.{Turn}
use Rattle.ladder.specs.declared.turns.Turn.TheVariants.{Ends, Leaves}
use Rattle.ladder.specs.Arithmetic.{StandsIn, places_below, turn_of}
use Rattle.ladder.proofs.Lists.Going.{downs_entry}
use Rattle.ladder.proofs.Tables.Chain.{Whole, band_at, band_after}
use Rattle.ladder.proofs.Tables.Table.{start, table_facts, Index, index_in, ladder_rises, entry, is_whole}

-- ---- what a turn is

module _ (n spread room : ℕ) where
  pub turn_ends : (mils : ℕ) → Ends mils ≡ turn_of n spread room → (mils ≡ n * spread) × (n * spread ≤ room)
  turn_ends mils e = go (leb (n * spread) room) refl (sym e)
    where
      go : (v : Bool) → leb (n * spread) room ≡ v → cond v (Ends (n * spread)) (Leaves (n - room / spread)) ≡ Ends mils →
          (mils ≡ n * spread) × (n * spread ≤ room)
      go true l i = ((cc), leb-true (n * spread) room l)
      go false l i = absurd (grind arith)

  pub turn_leaves : (rest : ℕ) → Leaves rest ≡ turn_of n spread room → (rest ≡ n - room / spread) × (room < n * spread)
  turn_leaves rest e = go (leb (n * spread) room) refl (sym e)
    where
      go : (v : Bool) → leb (n * spread) room ≡ v → cond v (Ends (n * spread)) (Leaves (n - room / spread)) ≡ Leaves rest →
          (rest ≡ n - room / spread) × (room < n * spread)
      go true l i = absurd (grind arith)
      go false l i = ((cc), leb-false (n * spread) room l)

-- what a turn tells a walk of n spreads from `price`: it ends in the band, or leaves it and goes on from the band's end with the spreads that
-- are left
pub record Told (step : ℕ → ℕ) (price n room end : ℕ) (move : ℕ → ℕ) (turn : Turn) : Type 0 where
  pub ends : (mils : ℕ) → turn ≡ Ends mils → (mils ≤ room) × (move mils ≡ times n step price)
  pub leaves : (rest : ℕ) → turn ≡ Leaves rest → times rest step end ≡ times n step price

-- what a walk down of n spreads from `price` keeps, from band to band: it stands in the last of the m bands that are left, or none is left,
-- and it halts; and the spreads that are left lead where all n lead
pub record Fall (t : List Band) (price n at left m : ℕ) : Type 0 where
  pub stands : 0 < m → StandsIn t (m - 1) at
  pub halts : m ≡ 0 → (i : ℕ) → times i (spread_down (ladder t)) at ≡ at
  pub leads : times left (spread_down (ladder t)) at ≡ times n (spread_down (ladder t)) price

-- ---- from band to band

module _ (t : List Band) (wf : T (well_formed t)) where
  pub on_bottom : (k : ℕ) → k < length t → StandsIn t k (band_at t k).bottom
  on_bottom k h =
      let w = is_whole t wf k h in
      record { index = h; low = omega arith; high = omega arith; multiple = rw sub_self (zero-mod (band_at t k).spread) }

  pub on_top : (k : ℕ) → k < length t → StandsIn t k (band_at t k).top
  on_top k h =
      let w = is_whole t wf k h in
      record { index = h; low = omega arith; high = omega arith; multiple = w.multiple }

  -- the top of a band is the bottom of the next
  pub into_next : (k : ℕ) → k + 1 < length t → StandsIn t (k + 1) (band_at t k).top
  into_next k h =
      let after : (band_at t (k + 1)).bottom ≡ (band_at t k).top = rw add-one (band_after (start t) t (table_facts t wf).chain k (rw add-one at h)) in
      rw (← after) (on_bottom (k + 1) h)

  -- the bottom of a band is the top of the one before
  into_previous : (k : ℕ) → suc k < length t → StandsIn t k (band_at t (suc k)).bottom
  into_previous k h = rw (band_after (start t) t (table_facts t wf).chain k h) (on_top k (omega arith))

  abbrev down : ℕ → ℕ
  down = spread_down (ladder t)

  -- two prices of one place
  one_price : (j p q : ℕ) → price_at j (ladder t) ≡ Some p → price_at j (ladder t) ≡ Some q → p ≡ q
  one_price j p q e g = cc

  module _ (k : ℕ) (h : k < length t) where
    abbrev here : Band
    here = band_at t k

    whole_band : Whole here
    whole_band = is_whole t wf k h

    -- n spreads down from entry i of the band lead n places down
    down_from : (n i p : ℕ) → i ≤ width here → p ≡ i * here.spread + here.bottom →
        price_at (places_below k t + i - n) (ladder t) ≡ Some (times n down p)
    down_from n i p w e = downs_entry (ladder t) (ladder_rises t wf) n (places_below k t + i) p (entry t wf k h i w ∙ ap Some (sym e))

    module _ (at : ℕ) (x : Index here at) (left : ℕ) where
      ends_down : left * here.spread ≤ at - here.bottom → at - left * here.spread ≡ times left down at
      ends_down m =
          let fits : left ≤ x.i = le_of_mul-le-mul_right (omega (arith, x.is)) whole_band.spreads in
          let place : places_below k t + (x.i - left) ≡ places_below k t + x.i - left = omega arith in
          let price : (x.i - left) * here.spread + here.bottom ≡ at - left * here.spread = omega (arith, x.is, mul-sub here.spread x.i left) in
          one_price (places_below k t + x.i - left) _ _ (rw (← place, ← price) (entry t wf k h (x.i - left) (omega (arith, x.within))))
          (down_from left x.i at x.within x.is)

      leaves_down : at - here.bottom < left * here.spread →
          times (left - (at - here.bottom) / here.spread) down here.bottom ≡ times left down at
      leaves_down m =
          let room : at - here.bottom ≡ x.i * here.spread = omega (arith, x.is) in
          let has : (at - here.bottom) / here.spread ≡ x.i = rw (room, mul-div_cancel x.i whole_band.spreads) in
          let more : x.i < left = lt_of_mul-lt-mul_right here.spread (omega arith) in
          let place : places_below k t + 0 - (left - x.i) ≡ places_below k t + x.i - left = omega arith in
          rw has
          (one_price (places_below k t + x.i - left) _ _ (rw (← place) (down_from (left - x.i) 0 here.bottom (omega arith) (omega arith)))
          (down_from left x.i at x.within x.is))

    -- a walk halts at the first bottom, the price of place 0
    down_halts : k ≡ 0 → (n : ℕ) → times n down here.bottom ≡ here.bottom
    unfolding places_below
    down_halts z n =
        let none : places_below k t ≡ 0 = rw z in
        let place : places_below k t + 0 ≡ places_below k t + 0 - n = omega arith in
        let price : 0 * here.spread + here.bottom ≡ here.bottom = omega arith in
        one_price (places_below k t + 0 - n) _ _ (down_from n 0 here.bottom (omega arith) (sym price))
        (rw (← place, ← price) (entry t wf k h 0 (omega arith)))

-- ---- a band of a walk, which the code reads as b

module _ (t : List Band) (wf : T (well_formed t)) (price n at left k : ℕ) (on : StandsIn t k at) (b : Band) (f : b ≡ band_at t k) where
  pub told_down : times left (spread_down (ladder t)) at ≡ times n (spread_down (ladder t)) price → (turn : Turn) →
      turn ≡ turn_of left b.spread (at - b.bottom) → Told (spread_down (ladder t)) price n (at - b.bottom) b.bottom (λ m. at - m) turn
  told_down leads turn is = record { ends = ends; leaves = leaves }
    where
      x : Index (band_at t k) at
      x = index_in t wf k on.index at on

      ends : (mils : ℕ) → turn ≡ Ends mils → (mils ≤ at - b.bottom) × (at - mils ≡ times n (spread_down (ladder t)) price)
      ends mils e =
          let r = turn_ends left b.spread (at - b.bottom) mils (sym e ∙ is) in
          (omega arith, rw (r.0, f) (ends_down t wf k on.index at x left (rw f at r.1)) ∙ leads)

      leaves : (rest : ℕ) → turn ≡ Leaves rest → times rest (spread_down (ladder t)) b.bottom ≡ times n (spread_down (ladder t)) price
      leaves rest e =
          let r = turn_leaves left b.spread (at - b.bottom) rest (sym e ∙ is) in
          rw (r.0, f) (leaves_down t wf k on.index at x left (rw f at r.1)) ∙ leads

module _ (t : List Band) (wf : T (well_formed t)) (price n at left m k : ℕ) (last : m ≡ k + 1) (h : k < length t) (b : Band) (f : b ≡ band_at t k)
    (w : Fall t price n at left m) where
  pub fall_stands : StandsIn t k at
  fall_stands = let i : m - 1 ≡ k = omega arith in rw (← i) (w.stands (omega arith))

  pub fall_ends : (mils : ℕ) → Ends mils ≡ turn_of left b.spread (at - b.bottom) → at - mils ≡ times n (spread_down (ladder t)) price
  fall_ends mils e = ((told_down t wf price n at left k fall_stands b f w.leads _ e).ends mils refl).1

  pub fall_leaves : (rest : ℕ) → Leaves rest ≡ turn_of left b.spread (at - b.bottom) → Fall t price n b.bottom rest k
  fall_leaves rest e =
      record {
        stands = rw f stands;
        halts = rw f (down_halts t wf k h);
        leads = (told_down t wf price n at left k fall_stands b f w.leads _ e).leaves rest refl;
      }
    where
      stands : 0 < k → StandsIn t (k - 1) (band_at t k).bottom
      stands l = let e : k ≡ suc (k - 1) = omega arith in rw (ap (band_at t) e) (into_previous t wf (k - 1) (rw e at h))
