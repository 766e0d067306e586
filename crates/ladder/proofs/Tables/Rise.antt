-- So many places up, band by band: within a band n places are n times its spread, and past it the rest is counted from its top.
use Rattle.std.specs.Prelude.{Option, Some, None}
use mathlib.Core.Path.{◌≡◌, refl, ap, sym, ◌∙◌}
use Prim.Native.Nat.{ℕ, ◌+◌, ◌-◌, ◌*◌, ◌/◌, ◌≤◌, ◌<◌}
use native.Mathlib.Nat.{le_refl, mul-sub, mul-div_cancel, le_of_mul-le-mul_right, lt_of_mul-lt-mul_right}
use native.Mathlib.Omega.{arith}
use mathlib.Core.List.{List}
use lib.Dec.{T}
use lib.ListN.{length}
use Rattle.tables.specs.declared.Band.{Band}
use Rattle.tables.specs.Bands.{well_formed}
use Rattle.ladder.specs.Ladder.{width, ladder}
use Rattle.ladder.specs.Places.{price_at, first_price}
use Rattle.ladder.specs.declared.turns.Turn.TheVariants.{Ends, Leaves}
use Rattle.ladder.specs.Arithmetic.{StandsIn, PlacesUp, places_below, turn_of}
use Rattle.ladder.proofs.Lists.Entries.{place_of_entry}
use Rattle.ladder.proofs.Tables.Chain.{Whole, band_at}
use Rattle.ladder.proofs.Tables.Table.{Index, index_in, table_facts, first_is_start, ladder_rises, entry, is_whole}
use Rattle.ladder.proofs.Tables.Walks.{turn_ends, turn_leaves, on_bottom, into_next}
use Rattle.ladder.proofs.Tables.Counting.{places_more, price_past}

-- what a walk of n places up from `price` keeps, from band to band: it stands in band k, the one to come, or there is no more, and no price;
-- and what lies the places that are left above, lies all n above
pub record Rise (t : List Band) (price n at left k : ℕ) : Type 0 where
  pub stands : k < length t → StandsIn t k at
  pub past : (k < length t → ⊥) → PlacesUp (ladder t) at left None
  pub leads : (r : Option ℕ) → PlacesUp (ladder t) at left r → PlacesUp (ladder t) price n r

module _ (t : List Band) (wf : T (well_formed t)) where
  -- a price has one place
  pinned : (m p n : ℕ) (r : Option ℕ) → price_at m (ladder t) ≡ Some p → r ≡ price_at (m + n) (ladder t) → PlacesUp (ladder t) p n r
  pinned m p n r e g = record { found = λ k i. rw (same k i) g }
    where
      same : (k : ℕ) → price_at k (ladder t) ≡ Some p → k ≡ m
      same k i =
          let one : Some (0 + k) ≡ Some (0 + m) =
          sym (place_of_entry (ladder t) (ladder_rises t wf) 0 k p i) ∙ place_of_entry (ladder t) (ladder_rises t wf) 0 m p e in
          let sums : 0 + k ≡ 0 + m = cc in
          omega arith

  module _ (k : ℕ) (h : k < length t) where
    abbrev here : Band
    here = band_at t k

    whole_band : Whole here
    whole_band = is_whole t wf k h

    top_entry : price_at (places_below k t + width here) (ladder t) ≡ Some here.top
    top_entry = entry t wf k h (width here) (le_refl (width here)) ∙ ap Some whole_band.divides

    past_top : k + 1 ≡ length t → (rest : ℕ) → 0 < rest → PlacesUp (ladder t) here.top rest None
    past_top e rest more =
        pinned (places_below k t + width here) here.top rest None top_entry
        (rw (← (places_more t wf k h here refl)) (price_past t wf (k + 1) e rest more))

    module _ (at : ℕ) (high : at ≤ here.top) (x : Index here at) (left : ℕ) where
      from : price_at (places_below k t + x.i) (ladder t) ≡ Some at
      from = entry t wf k h x.i x.within ∙ ap Some (sym x.is)

      ends_up : left * here.spread ≤ here.top - at → PlacesUp (ladder t) at left (Some (at + left * here.spread))
      ends_up m =
          let fits : x.i + left ≤ width here = le_of_mul-le-mul_right (omega (arith, whole_band.divides, x.is, high)) whole_band.spreads in
          let place : places_below k t + (x.i + left) ≡ places_below k t + x.i + left = omega arith in
          let price : (x.i + left) * here.spread + here.bottom ≡ at + left * here.spread = omega (arith, x.is) in
          pinned (places_below k t + x.i) at left _ from (rw (← place, ← price) (sym (entry t wf k h (x.i + left) fits)))

      leaves_up : here.top - at < left * here.spread →
          (0 < left - (here.top - at) / here.spread) ×
          ((r : Option ℕ) → PlacesUp (ladder t) here.top (left - (here.top - at) / here.spread) r → PlacesUp (ladder t) at left r)
      leaves_up m =
          let room : here.top - at ≡ (width here - x.i) * here.spread =
          omega (arith, whole_band.divides, x.is, x.within, mul-sub here.spread (width here) x.i) in
          let has : (here.top - at) / here.spread ≡ width here - x.i = rw (room, mul-div_cancel (width here - x.i) whole_band.spreads) in
          let more : width here - x.i < left = lt_of_mul-lt-mul_right here.spread (omega arith) in (
            omega arith,
            λ r u.
                let place : places_below k t + width here + (left - (here.top - at) / here.spread) ≡ places_below k t + x.i + left =
                omega (arith, x.within) in
                pinned (places_below k t + x.i) at left r from
                (u.found (places_below k t + width here) top_entry ∙ ap (λ m. price_at m (ladder t)) place),
          )

  -- the first price, and its place
  pub starts : (p : ℕ) → p ≡ first_price (ladder t) → StandsIn t 0 p
  starts p e = rw (e, first_is_start t wf) (on_bottom t wf 0 (table_facts t wf).some)

  pub first_place : (p : ℕ) → p ≡ first_price (ladder t) → price_at 0 (ladder t) ≡ Some p
  unfolding price_at
  first_place p e = rw (e, (table_facts t wf).list)

-- ---- a band of the walk, which the code reads as b

module _ (t : List Band) (wf : T (well_formed t)) (price n at left k : ℕ) (h : k < length t) (b : Band) (f : b ≡ band_at t k)
    (w : Rise t price n at left k) where
  pub rise_ends : (mils : ℕ) → Ends mils ≡ turn_of left b.spread (b.top - at) → PlacesUp (ladder t) price n (Some (at + mils))
  rise_ends mils e =
      let r = turn_ends left b.spread (b.top - at) mils e in
      w.leads (Some (at + mils)) (rw (r.0, f) (ends_up t wf k h at (w.stands h).high (index_in t wf k h at (w.stands h)) left (rw f at r.1)))

  pub rise_leaves : (rest : ℕ) → Leaves rest ≡ turn_of left b.spread (b.top - at) → Rise t price n b.top rest (k + 1)
  rise_leaves rest e =
      let r = turn_leaves left b.spread (b.top - at) rest e in
      let on = leaves_up t wf k h at (w.stands h).high (index_in t wf k h at (w.stands h)) left (rw f at r.1) in
      rw (r.0, f)
      (record {
        stands = λ m. into_next t wf k m;
        past = λ m. past_top t wf k h (omega (arith, m)) (left - ((band_at t k).top - at) / (band_at t k).spread) on.0;
        leads = λ v u. w.leads v (on.1 v u);
      })
