-- The band of a price within the ends: the band where it lands. A ladder price exceeds its bottom by a multiple of its spread.
use Rattle.std.specs.Prelude.{Some, None, is_some}
use mathlib.Core.Path.{◌≡◌, refl, sym, ap, ◌∙◌}
use Prim.Native.Nat.{ℕ, suc, ◌+◌, ◌-◌, ◌*◌, ◌/◌, ◌%◌, ◌≤◌, ◌<◌}
use native.Mathlib.Nat.{div-add-mod', mod-lt, eq-zero-or-pos, lt_of_mul-lt-mul_right, le_refl}
use native.Mathlib.Omega.{arith}
use mathlib.Core.Bool.{Bool, true, false, not, cond}
use mathlib.Core.Logic.{⊎_elim}
use mathlib.Core.List.{List}
use lib.Dec.{T, eqb}
use borrow.Author.Tests.{eqb-true, eqb-false}
use Rattle.std.specs.Bool.{then_some}
use Rattle.std.proofs.lemmas.Bool.{true≢false}
use lib.ListN.{length, get_or, take}
use Rattle.std.proofs.lemmas.List.{length-map, get_or-map}
use Rattle.tables.specs.declared.Band.{Band}
use Rattle.tables.specs.Bands.{no_band, well_formed}
use Rattle.ladder.specs.declared.search.Lies.{Lies}
use Rattle.ladder.specs.Ladder.{width, ladder}
use Rattle.facts.specs.Lists.{holds}
use Rattle.ladder.specs.Places.{last_price, is_outside}
use Rattle.tables.specs.Inverses.{inverse_of, inverses_of}
use Rattle.ladder.specs.Trying.{order, lands, band_of}
use Rattle.ladder.specs.Arithmetic.{standing_of, LiesIn, StandsIn}
use Rattle.facts.proofs.Tests.{passed, failed, true_of}
use Rattle.ladder.proofs.Lists.Ends.{within, not_outside, held_within}
use Rattle.ladder.proofs.Lists.Finding.{none_found}
use Rattle.ladder.proofs.Tables.Chain.{Whole, band_at}
use Rattle.ladder.proofs.Tables.Table.{Index, index_in, table_facts, start, start_held, ladder_rises, first_is_start, last_is_top, entry_on}
use Rattle.ladder.proofs.Tables.Table.{entries_next, is_whole}
use Rattle.ladder.proofs.Tables.Landing.{Lands, bottoms_rise, tops_rise}
use Rattle.ladder.proofs.Tables.Trying.{facts, found_lands, inside_lands, sought_at}

-- p lies in band k of a table, or on its bottom
pub record Inside (t : List Band) (k p : ℕ) : Type 0 where
  pub index : k < length t
  pub low : (band_at t k).bottom ≤ p
  pub high : p ≤ (band_at t k).top

pub is_inside : (t : List Band) (p : ℕ) (found : Lies) → LiesIn t p found → Inside t found.index p
is_inside t p found lies = record { index = lies.index; low = rw lies.is at lies.low; high = rw lies.is at lies.high }

-- another price of the same band lies there too
pub lies_too : (t : List Band) (p : ℕ) (found : Lies) → LiesIn t p found → (q : ℕ) → found.band.bottom ≤ q → q ≤ found.band.top → LiesIn t q found
lies_too t p found lies q low high =
    record {
      index = lies.index;
      is = lies.is;
      low = low;
      high = high;
      low_top = lies.low_top;
      spread = lies.spread;
      inverse = lies.inverse;
    }

module _ (t : List Band) (wf : T (well_formed t)) (p : ℕ) where
  -- a band that holds a price
  pub lands_inside_band : (k : ℕ) → Lands 1 p t k → Inside t k p
  lands_inside_band k l =
      record {
        index = l.index;
        low = ⊎_elim (λ o. omega (arith, o)) (λ e. omega (arith, e.1)) l.over;
        high = omega (arith, l.under);
      }

  -- a price in a band lies within the ends
  pub inside_within : (k : ℕ) → Inside t k p → is_outside p (ladder t) ≡ false
  inside_within k i =
      let c = (table_facts t wf).chain in
      let last = length t - 1 in
      let bottoms = bottoms_rise (start t) t c 0 k (omega arith) i.index in
      let tops = tops_rise (start t) t c k last (omega (arith, i.index)) (omega (arith, i.index)) in
      not_outside (ladder t) (start t) p (start_held t wf)
      (record {
        low = omega (arith, first_is_start t wf, bottoms, i.low);
        high = omega (arith, last_is_top t wf last (omega (arith, i.index)), tops, i.high);
      })

  -- so that a price is found exactly within the ends, where all bands may be tried
  pub found_all : (allowed : ℕ) → length t ≤ allowed → is_some (band_of p allowed t) ≡ not (is_outside p (ladder t))
  found_all allowed enough = go (is_outside p (ladder t)) refl
    where
      go : (v : Bool) → is_outside p (ladder t) ≡ v → is_some (band_of p allowed t) ≡ not v
      go true o =
          ap is_some
          (none_found (lands 1 p t) (take allowed (order (length t)))
          (λ k h on. true≢false (sym o ∙ inside_within k (lands_inside_band k (facts t wf 1 p k h)))))
      go false o =
          let ends = within (ladder t) p o in
          let l = inside_lands t wf 1 p (omega (arith, ends.low)) (omega (arith, ends.high)) in
          ap is_some (sought_at t wf 1 p allowed enough l.0 l.1)

  -- a price that stands in a band is on the ladder
  pub in_band_held : (k : ℕ) → StandsIn t k p → T (holds p (ladder t))
  in_band_held k on = go (index_in t wf k on.index p on)
    where
      go : Index (band_at t k) p → T (holds p (ladder t))
      go x = rw x.is (entry_on t wf k on.index x.i x.within)

  module _ (on : T (holds p (ladder t))) where
    -- between two entries of a band no price is on the ladder
    pub held_multiple : (k : ℕ) → Inside t k p → (p - (band_at t k).bottom) % (band_at t k).spread ≡ 0
    held_multiple k l = ⊎_elim (λ e. e) (λ r. absurd (between r)) (eq-zero-or-pos ((p - b.bottom) % b.spread))
      where
        b : Band
        b = band_at t k

        w : Whole b
        w = is_whole t wf k l.index

        between : 0 < (p - b.bottom) % b.spread → ⊥
        between r =
            let i = (p - b.bottom) / b.spread in
            let whole : i * b.spread + (p - b.bottom) % b.spread ≡ p - b.bottom = div-add-mod' (p - b.bottom) b.spread in
            let less : i < width b = lt_of_mul-lt-mul_right b.spread (omega (arith, w.divides, l.high)) in
            let over : suc i * b.spread + b.bottom ≤ p = (entries_next t wf k l.index i less).gap p on (omega (arith, l.low)) in
            omega (arith, l.low, mod-lt (p - b.bottom) {m = b.spread} w.spreads)

-- ---- what the search tells its callers

module _ (t : List Band) (wf : T (well_formed t)) (p : ℕ) where
  -- of the band found
  module _ (k : ℕ) (e : Some k ≡ band_of p (length t) t) where
    pub found_inside : Inside t k p
    found_inside = lands_inside_band t wf p k (found_lands t wf 1 p k (take (length t) (order (length t))) (sym e)).0

    pub found_lies : last_price (ladder t) < 2147483648 → (b : Band) → b ≡ band_at t k → (inverse : ℕ) → inverse ≡ inverse_of (band_at t k).spread →
        LiesIn t p (record { index = k; band = b; inverse = inverse })
    found_lies low b f inverse e =
        let i = found_inside in
        let last = length t - 1 in
        let under = tops_rise (start t) t (table_facts t wf).chain k last (omega (arith, i.index)) (omega (arith, i.index)) in
        rw f
        (record {
          index = i.index;
          is = refl;
          low = i.low;
          high = i.high;
          low_top = omega (arith, low, last_is_top t wf last (omega (arith, i.index)), under);
          spread = (is_whole t wf k i.index).spreads;
          inverse = e;
        })

    pub found_within : false ≡ is_outside p (ladder t)
    found_within = sym (inside_within t wf p k found_inside)

  pub none_outside : None ≡ band_of p (length t) t → true ≡ is_outside p (ladder t)
  none_outside e = go (is_outside p (ladder t)) (ap is_some e ∙ found_all t wf p (length t) (le_refl (length t)))
    where
      go : (v : Bool) → false ≡ not v → true ≡ v
      go true i = refl
      go false i = absurd (grind arith)

  -- p is on the ladder exactly where it exceeds the bottom of its band by a multiple of its spread
  module _ (found : Lies) (lies : LiesIn t p found) where
    pub told_by_remainder : eqb ((p - found.band.bottom) % found.band.spread) 0 ≡ holds p (ladder t)
    told_by_remainder = go (eqb ((p - found.band.bottom) % found.band.spread) 0) refl
      where
        inside : Inside t found.index p
        inside = is_inside t p found lies

        go : (v : Bool) → eqb ((p - found.band.bottom) % found.band.spread) 0 ≡ v → v ≡ holds p (ladder t)
        go true i =
            let stood : StandsIn t found.index p =
            record { index = inside.index; low = inside.low; high = inside.high; multiple = rw lies.is at (eqb-true _ _ i) } in
            sym (passed (holds p (ladder t)) (in_band_held t wf p found.index stood))
        go false i = sym (failed (holds p (ladder t)) (λ on. eqb-false _ _ i (rw lies.is (held_multiple t wf p on found.index inside))))

  -- the band where p lies is that in which it stands, if it stands
  pub stands_where : (index : ℕ) → Some index ≡ band_of p (length t) t → then_some (holds p (ladder t)) index ≡ standing_of p t
  stands_where index e = go (holds p (ladder t))
    where
      go : (v : Bool) → then_some v index ≡ cond v (band_of p (length t) t) None
      go true = e
      go false = refl

  -- outside the ends p is not on the ladder
  pub outside_off : true ≡ is_outside p (ladder t) → holds p (ladder t) ≡ false
  outside_off o = failed (holds p (ladder t)) (λ on. true≢false (o ∙ held_within (ladder t) (ladder_rises t wf) p on))

  -- the band in which a ladder price stands
  pub standing_stands : (k : ℕ) → standing_of p t ≡ Some k → StandsIn t k p
  standing_stands k e = go (holds p (ladder t)) refl e
    where
      go : (v : Bool) → holds p (ladder t) ≡ v → cond v (band_of p (length t) t) None ≡ Some k → StandsIn t k p
      go true h i =
          let stood = found_inside k (sym i) in
          record { index = stood.index; low = stood.low; high = stood.high; multiple = held_multiple t wf p (true_of (holds p (ladder t)) h) k stood }
      go false h i = absurd (grind arith)

  pub standing_off : standing_of p t ≡ None → T (holds p (ladder t)) → ⊥
  standing_off e on =
      let none : band_of p (length t) t ≡ None = rw (passed (holds p (ladder t)) on) at e in
      true≢false (none_outside (sym none) ∙ held_within (ladder t) (ladder_rises t wf) p on)

  pub stands_held : is_some (standing_of p t) ≡ holds p (ladder t)
  stands_held = go (holds p (ladder t)) refl
    where
      go : (v : Bool) → holds p (ladder t) ≡ v → is_some (cond v (band_of p (length t) t) None) ≡ v
      go true h =
          found_all t wf p (length t) (le_refl (length t)) ∙
          ap not (held_within (ladder t) (ladder_rises t wf) p (true_of (holds p (ladder t)) h))
      go false h = refl

-- ---- the inverses of the spreads, as the table lends them

module _ (t : List Band) (inverses : List ℕ) (are : inverses ≡ inverses_of t) (k : ℕ) (there : k < length t) where
  pub inverse_there : k < length inverses
  inverse_there = omega (arith, ap length are, length-map t (λ b. inverse_of b.spread), there)

  pub inverse_is : get_or inverses k 0 ≡ inverse_of (band_at t k).spread
  inverse_is = ap (λ l. get_or l k 0) are ∙ get_or-map (λ b. inverse_of b.spread) t k no_band 0 there
