-- The ladder prices next to a price. Within the ends: what is over the bottom of its band, beyond a multiple of the spread, taken off; and what is
-- under the top, likewise, added. Up to the first price and from the last on, and outside: that end, or none.
use Rattle.std.specs.Prelude.{Some, None}
use mathlib.Core.Path.{◌≡◌, refl, ap, sym, ◌∙◌}
use Prim.Native.Nat.{ℕ, zero, suc, ◌+◌, ◌-◌, ◌*◌, ◌/◌, ◌%◌, ◌≤◌, ◌<◌}
use native.Mathlib.Nat.{div-add-mod', mod-lt, le_of_lt, mul-sub, le_of_mul-le-mul_right}
use native.Mathlib.Decide.{dec_le}
use native.Mathlib.Omega.{arith}
use mathlib.Core.Bool.{Bool, true, false, ◌||◌}
use mathlib.Core.List.{List}
use lib.Dec.{T, ltb, le→leb, leb→le}
use borrow.Author.Tests.{ltb-true, le-ltb}
use Rattle.facts.specs.Lists.{holds}
use Rattle.tables.specs.declared.Band.{Band}
use Rattle.tables.specs.Bands.{well_formed}
use Rattle.ladder.specs.Ladder.{width, ladder}
use Rattle.ladder.specs.Search.{first, latest, at_least, at_most}
use Rattle.ladder.specs.Places.{first_price, last_price, is_outside}
use Rattle.ladder.specs.declared.search.Lies.{Lies}
use Rattle.ladder.specs.Arithmetic.{LiesIn}
use Rattle.ladder.proofs.Lists.Extremes.{first_is, latest_is}
use Rattle.ladder.proofs.Lists.Moves.{all_at_least, none_at_least, all_at_most, none_at_most}
use Rattle.ladder.proofs.Tables.Chain.{Whole, band_at}
use Rattle.ladder.proofs.Tables.Table.{Index, start, ladder_rises, start_held, outside_is, entry_on, entries_next, is_whole}
use Rattle.ladder.proofs.Tables.Stands.{Inside, is_inside}

module _ (t : List Band) (wf : T (well_formed t)) (k p : ℕ) (lies : Inside t k p) where
  abbrev here : Band
  here = band_at t k

  whole : Whole here
  whole = is_whole t wf k lies.index

  -- the entry at or below p, and the one at or above it
  abbrev pub at_below : ℕ
  at_below = p - (p - here.bottom) % here.spread

  abbrev pub at_above : ℕ
  at_above = p + (here.top - p) % here.spread

  pub below_entry : Index here at_below
  below_entry =
      let parts = div-add-mod' (p - here.bottom) here.spread in
      record {
        i = (p - here.bottom) / here.spread;
        is = omega (arith, parts, lies.low);
        within = le_of_mul-le-mul_right (omega (arith, parts, whole.divides, lies.high)) whole.spreads;
      }

  pub above_entry : Index here at_above
  above_entry =
      let i : ℕ = (here.top - p) / here.spread in
      let parts : i * here.spread + (here.top - p) % here.spread ≡ here.top - p = div-add-mod' (here.top - p) here.spread in
      let fits : i ≤ width here = le_of_mul-le-mul_right (omega (arith, parts, whole.divides, lies.low)) whole.spreads in
      record {
        i = width here - i;
        is = omega (arith, parts, whole.divides, lies.high, fits, mul-sub here.spread (width here) i);
        within = omega arith;
      }

  -- less than a spread away
  pub below_near : p < at_below + here.spread
  below_near = omega (arith, mod-lt (p - here.bottom) {m = here.spread} whole.spreads)

  pub above_near : at_above < p + here.spread
  above_near = omega (arith, mod-lt (here.top - p) {m = here.spread} whole.spreads)

  -- no ladder price lies between: past the last entry of the band, its top, p is not; nor before the first, its bottom
  pub below_here : latest (at_most 1 p) (ladder t) ≡ Some at_below
  below_here =
      latest_is (ladder t) (ladder_rises t wf) (at_most 1 p) at_below
      (record {
        on = rw below_entry.is (entry_on t wf k lies.index below_entry.i below_entry.within);
        passes = le→leb (1 * at_below) p (omega arith);
        extreme = λ x on up_to. extreme x on (leb→le (1 * x) p up_to) (dec_le x at_below) (dec_le (suc below_entry.i) (width here));
      })
    where
      extreme : (x : ℕ) → T (holds x (ladder t)) → 1 * x ≤ p → Dec (x ≤ at_below) → Dec (suc below_entry.i ≤ width here) → x ≤ at_below
      extreme x on up_to (yes h) more = h
      extreme x on up_to (no h) (yes less) =
          let next : suc below_entry.i * here.spread + here.bottom ≤ x =
          (entries_next t wf k lies.index below_entry.i less).gap x on (omega (arith, below_entry.is)) in
          absurd (omega (arith, below_entry.is, below_near))
      extreme x on up_to (no h) (no all) =
          let last : below_entry.i ≡ width here = omega (arith, below_entry.within) in
          absurd (omega (arith, below_entry.is, ap (λ i. i * here.spread) last, whole.divides, lies.high))

  pub above_here : first (at_least 1 p) (ladder t) ≡ Some at_above
  above_here =
      first_is (ladder t) (ladder_rises t wf) (at_least 1 p) at_above
      (record {
        on = rw above_entry.is (entry_on t wf k lies.index above_entry.i above_entry.within);
        passes = le→leb p (1 * at_above) (omega arith);
        extreme = λ x on from. extreme above_entry.i above_entry.is above_entry.within x on (leb→le p (1 * x) from);
      })
    where
      extreme : (i : ℕ) → at_above ≡ i * here.spread + here.bottom → i ≤ width here → (x : ℕ) → T (holds x (ladder t)) → p ≤ 1 * x → at_above ≤ x
      extreme zero is fits x on from = omega (arith, lies.low)
      extreme (suc i) is fits x on from =
          rw is ((entries_next t wf k lies.index i fits).gap x on (omega (arith, is, above_near)))

-- the price lies in the band found
module _ (t : List Band) (wf : T (well_formed t)) (p : ℕ) (found : Lies) (lies : LiesIn t p found) where
  pub rounded_down : (over : ℕ) → over ≡ (p - found.band.bottom) % found.band.spread → Some (p - over) ≡ latest (at_most 1 p) (ladder t)
  rounded_down over e = rw (e, lies.is) (sym (below_here t wf found.index p (is_inside t p found lies)))

  pub rounded_up : (under : ℕ) → under ≡ (found.band.top - p) % found.band.spread → Some (p + under) ≡ first (at_least 1 p) (ladder t)
  rounded_up under e = rw (e, lies.is) (sym (above_here t wf found.index p (is_inside t p found lies)))

-- up to the first price, and from the last on: that end; beyond the other end: none
module _ (t : List Band) (wf : T (well_formed t)) (p : ℕ) where
  pub up_to_the_first : p ≤ first_price (ladder t) → Some (first_price (ladder t)) ≡ first (at_least 1 p) (ladder t)
  up_to_the_first h = sym (all_at_least (ladder t) (ladder_rises t wf) (start t) (start_held t wf) 1 p (omega (arith, h)))

  pub from_the_last : last_price (ladder t) ≤ p → Some (last_price (ladder t)) ≡ latest (at_most 1 p) (ladder t)
  from_the_last h = sym (all_at_most (ladder t) (ladder_rises t wf) (start t) (start_held t wf) 1 p (omega (arith, h)))

  -- outside the ends
  module _ (o : true ≡ is_outside p (ladder t)) where
    beyond : (ltb p (first_price (ladder t)) || ltb (last_price (ladder t)) p) ≡ true
    beyond = sym (o ∙ outside_is t wf p)

    pub over_the_last : first_price (ladder t) < p → None ≡ first (at_least 1 p) (ladder t)
    over_the_last h =
        sym (none_at_least (ladder t) (ladder_rises t wf) (start t) (start_held t wf) 1 p
        (omega (arith, ltb-true _ p (rw (le-ltb p (first_price (ladder t)) (le_of_lt h)) at beyond))))

    pub under_the_first : p < last_price (ladder t) → None ≡ latest (at_most 1 p) (ladder t)
    under_the_first h = go (ltb p (first_price (ladder t))) refl beyond
      where
        go : (v : Bool) → ltb p (first_price (ladder t)) ≡ v → (v || ltb (last_price (ladder t)) p) ≡ true → None ≡ latest (at_most 1 p) (ladder t)
        go true e q = sym (none_at_most (ladder t) (ladder_rises t wf) (start t) (start_held t wf) 1 p (omega (arith, ltb-true p _ e)))
        go false e q = absurd (omega (arith, h, ltb-true _ p q))
