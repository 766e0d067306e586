-- Places counted band by band.
use Rattle.std.specs.Prelude.{Some, None}
use mathlib.Core.Path.{◌≡◌, ap, sym, ◌∙◌}
use Prim.Native.Nat.{ℕ, suc, ◌+◌, ◌-◌, ◌/◌, ◌%◌, ◌≤◌, ◌<◌}
use native.Mathlib.Nat.{div-le_self, div-eq_of_eq-mul_left, le-mul_of_pos_right}
use native.Mathlib.Numerals.{add-one}
use native.Mathlib.Omega.{arith}
use mathlib.Core.List.{List}
use lib.Dec.{T}
use lib.ListN.{length}
use Rattle.tables.specs.declared.Band.{Band}
use Rattle.tables.specs.Bands.{well_formed}
use Rattle.ladder.specs.Ladder.{width, ladder}
use Rattle.ladder.specs.Arithmetic.{places_below}
use Rattle.ladder.specs.Places.{price_at, place_of}
use Rattle.ladder.specs.Arithmetic.{StandsIn}
use Rattle.ladder.proofs.Lists.Entries.{place_of_entry}
use Rattle.ladder.proofs.Tables.Chain.{Whole, band_at, below_under, below_more, past_last}
use Rattle.ladder.proofs.Tables.Table.{Index, index_of, start, table_facts, ladder_rises, band_entry_at, is_whole}

module _ (t : List Band) (wf : T (well_formed t)) (k : ℕ) (h : k < length t) (b : Band) (f : b ≡ band_at t k) where
  w : Whole b
  w = rw f (is_whole t wf k h)

  below : places_below k t ≤ b.bottom
  below = let u = below_under (start t) t (table_facts t wf).chain k h in rw f (omega arith)

  -- the places of a band go no higher than its top
  pub places_fit : places_below k t + width b ≤ b.top
  places_fit = omega (arith, below, w.divides, le-mul_of_pos_right (width b) w.spreads)

  pub places_more : places_below (k + 1) t ≡ places_below k t + width b
  places_more = rw (add-one, f) (below_more t k h)

  -- the place of a price of the band
  module _ (p : ℕ) (on : StandsIn t k p) where
    low : b.bottom ≤ p
    low = rw f on.low

    high : p ≤ b.top
    high = rw f on.high

    multiple : (p - b.bottom) % b.spread ≡ 0
    multiple = rw f on.multiple

    pub place_fits : places_below k t + (p - b.bottom) / b.spread ≤ p
    place_fits = omega (arith, below, div-le_self (p - b.bottom) b.spread, low)

    pub place_here : Some (places_below k t + (p - b.bottom) / b.spread) ≡ place_of p (ladder t)
    place_here = go (index_of b p w low high multiple)
      where
        go : Index b p → Some (places_below k t + (p - b.bottom) / b.spread) ≡ place_of p (ladder t)
        go x =
            let index : (p - b.bottom) / b.spread ≡ x.i = div-eq_of_eq-mul_left w.spreads (omega (arith, x.is)) in
            let zero : 0 + (places_below k t + x.i) ≡ places_below k t + x.i = omega arith in
            rw index
            (sym
            (place_of_entry (ladder t) (ladder_rises t wf) 0 (places_below k t + x.i) p
            (band_entry_at t wf k h b f x.i x.within ∙ ap Some (sym x.is)) ∙
            ap Some zero))

-- past the last band there is no price
pub price_past : (t : List Band) → T (well_formed t) → (k : ℕ) → k ≡ length t → (i : ℕ) → 0 < i → None ≡ price_at (places_below k t + i) (ladder t)
price_past t wf k e i more =
    let facts = table_facts t wf in
    let last : i ≡ suc (i - 1) = omega arith in
    rw (e, facts.list) (sym (past_last (start t) t facts.chain (i - 1) (places_below (length t) t + i) (ap (λ m. places_below (length t) t + m) last)))
