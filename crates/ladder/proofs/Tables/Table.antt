-- What a well-formed table is, as facts; and the prices of its bands on the ladder.
use Rattle.std.specs.Prelude.{Some}
use mathlib.Core.Path.{◌≡◌, refl}
use Prim.Native.Nat.{ℕ, suc, ◌+◌, ◌-◌, ◌*◌, ◌/◌, ◌%◌, ◌≤◌, ◌<◌}
use native.Mathlib.Nat.{add-suc, div-add-mod', le_of_mul-le-mul_right}
use native.Mathlib.Omega.{arith}
use mathlib.Core.Bool.{◌||◌}
use mathlib.Core.List.{List, [], ◌∷◌}
use lib.Dec.{T, ltb, ltb→lt}
use lib.ListN.{length}
use Rattle.tables.specs.declared.Band.{Band}
use Rattle.tables.specs.Bands.{chained, well_formed}
use Rattle.ladder.specs.Ladder.{width, band_prices, ladder}
use Rattle.facts.specs.Lists.{holds, Rising}
use Rattle.ladder.specs.Arithmetic.{StandsIn, places_below}
use Rattle.ladder.specs.Places.{price_at, last_after, first_price, last_price, is_outside}
use Rattle.facts.proofs.Tests.{and_left, and_right}
use Rattle.facts.proofs.Lists.{held_first, Next}
use Rattle.ladder.proofs.Lists.Entries.{next_at, entry_held}
use Rattle.ladder.proofs.Tables.Chain.{Whole, Chain, band_at, chain_facts, band_entry, rises, band_whole, last_top}

-- the first bottom
abbrev pub start : List Band → ℕ
start t = (band_at t 0).bottom

-- what a well-formed table is, as facts
pub record Facts (t : List Band) : Type 0 where
  pub chain : Chain (start t) t
  pub some : 0 < length t
  pub positive : 0 < start t
  pub list : ladder t ≡ start t ∷ band_prices t

pub table_facts : (t : List Band) → T (well_formed t) → Facts t
unfolding well_formed ladder
table_facts [] w = absurd w
table_facts (b ∷ bs) w =
    record {
      chain = chain_facts b.bottom (b ∷ bs) (and_right (ltb 0 b.bottom) (chained b.bottom (b ∷ bs)) w);
      some = omega arith;
      positive = ltb→lt 0 b.bottom (and_left (ltb 0 b.bottom) (chained b.bottom (b ∷ bs)) w);
      list = refl;
    }

-- ---- a price in a band

-- the index of a price in its band
pub record Index (b : Band) (p : ℕ) : Type 0 where
  pub i : ℕ
  pub is : p ≡ i * b.spread + b.bottom
  pub within : i ≤ width b

pub index_of : (b : Band) (p : ℕ) → Whole b → b.bottom ≤ p → p ≤ b.top → (p - b.bottom) % b.spread ≡ 0 → Index b p
index_of b p w low high e =
    let d : (p - b.bottom) / b.spread * b.spread + (p - b.bottom) % b.spread ≡ p - b.bottom = div-add-mod' (p - b.bottom) b.spread in
    record {
      i = (p - b.bottom) / b.spread;
      is = omega arith;
      within = le_of_mul-le-mul_right (omega (arith, w.divides)) w.spreads;
    }

-- ---- the ladder of a table

module _ (t : List Band) (wf : T (well_formed t)) where
  pub ladder_rises : Rising (ladder t)
  ladder_rises = let f = table_facts t wf in rw f.list (rises (start t) t f.chain)

  -- its ends
  pub first_is_start : first_price (ladder t) ≡ start t
  first_is_start = rw (table_facts t wf).list

  pub last_is_top : (k : ℕ) → k + 1 ≡ length t → last_price (ladder t) ≡ (band_at t k).top
  unfolding last_after
  last_is_top k e = let f = table_facts t wf in rw f.list (last_top (start t) t f.chain k (omega arith))

  -- outside it is what is below the first or above the last
  pub outside_is : (p : ℕ) → is_outside p (ladder t) ≡ (ltb p (first_price (ladder t)) || ltb (last_price (ladder t)) p)
  unfolding is_outside
  outside_is p = rw (table_facts t wf).list

  pub start_held : T (holds (start t) (ladder t))
  start_held = rw (table_facts t wf).list (held_first (start t) (band_prices t))

  module _ (k : ℕ) (h : k < length t) where
    -- entry i of band k, at the place of its bottom and i
    pub entry : (i : ℕ) → i ≤ width (band_at t k) →
        price_at (places_below k t + i) (ladder t) ≡ Some (i * (band_at t k).spread + (band_at t k).bottom)
    entry i w = let f = table_facts t wf in rw f.list (band_entry (start t) t f.chain k i (places_below k t + i) h w refl)

    pub entry_on : (i : ℕ) → i ≤ width (band_at t k) → T (holds (i * (band_at t k).spread + (band_at t k).bottom) (ladder t))
    entry_on i w = entry_held (ladder t) (places_below k t + i) _ (entry i w)

    -- entries i and i + 1 are neighbours
    pub entries_next : (i : ℕ) → i < width (band_at t k) →
        Next (ladder t) (i * (band_at t k).spread + (band_at t k).bottom) (suc i * (band_at t k).spread + (band_at t k).bottom)
    entries_next i w =
        next_at (ladder t) ladder_rises (places_below k t + i) _ _ (entry i (omega arith))
        (rw (← (add-suc (places_below k t) i)) (entry (suc i) w))

    pub is_whole : Whole (band_at t k)
    is_whole = band_whole (start t) t (table_facts t wf).chain k h

    pub index_in : (p : ℕ) → StandsIn t k p → Index (band_at t k) p
    index_in p on = index_of (band_at t k) p is_whole on.low on.high on.multiple

    pub band_facts : (b : Band) → b ≡ band_at t k → Whole b
    band_facts b e = rw e is_whole

    pub band_next : (b : Band) → b ≡ band_at t k → (i : ℕ) → i < width b →
        Next (ladder t) (i * b.spread + b.bottom) (suc i * b.spread + b.bottom)
    band_next b e i m = rw e (entries_next i (rw e at m))

    pub band_entry_at : (b : Band) → b ≡ band_at t k → (i : ℕ) → i ≤ width b →
        price_at (places_below k t + i) (ladder t) ≡ Some (i * b.spread + b.bottom)
    band_entry_at b e i m = rw e (entry i (rw e at m))
