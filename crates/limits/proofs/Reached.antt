-- The bounds are reached, on Phase 1: each price by its place, each percentage limit by one pass over the ladder.
use Rattle.std.specs.Prelude.{Some}
use mathlib.Core.Path.{◌≡◌, refl, sym, ◌∙◌}
use Prim.Native.Nat.{ℕ, ◌+◌, ◌-◌, ◌<◌, min, max}
use native.Mathlib.Omega.{arith}
use lib.Dec.{T}
use lib.ListN.{length}
use Rattle.tables.specs.Bands.{chained, well_formed}
use Rattle.tables.specs.Named.{phase1}
use Rattle.ladder.specs.Ladder.{Prices, rungs, band_prices, ladder}
use Rattle.ladder.specs.Search.{first, latest_after, latest, or_else}
use Rattle.ladder.specs.Places.{price_at, place_from, place_of}
use Rattle.ladder.specs.Spreads.{spread_up, spread_down, times}
use Rattle.ladder.proofs.Laws.{ladder_laws}
use Rattle.limits.specs.Limits.{limit_spreads, five_percent, lower_limit, upper_limit}
use Rattle.limits.specs.Moves.{Takes}
use Rattle.limits.specs.Laws.{BoundsAreReached}
use Rattle.limits.proofs.Moving.{lower_test, upper_test}

abbrev l : Prices
l = ladder phase1

wf : T (well_formed phase1)
unfolding phase1 chained well_formed
wf = tt

-- the place of a price
abbrev place : ℕ → ℕ
place p = or_else 0 (place_of p l)

module _ (p : ℕ) (here : price_at (place p) l ≡ Some p) where
  -- n spreads lead n places on, or back
  ups : (n q : ℕ) → price_at (min (place p + n) (length l - 1)) l ≡ Some q → times n (spread_up l) p ≡ q
  ups n q there =
      let at = (ladder_laws.places_are_inverse phase1 wf).place_of_price (place p) p here in
      sym ((ladder_laws.only_within_the_ends p l _).price q ((ladder_laws.going_by_places phase1 wf (place p) p n at).up ∙ there)).1

  downs : (n q : ℕ) → price_at (place p - n) l ≡ Some q → times n (spread_down l) p ≡ q
  downs n q there =
      let at = (ladder_laws.places_are_inverse phase1 wf).place_of_price (place p) p here in
      sym ((ladder_laws.only_within_the_ends p l _).price q ((ladder_laws.going_by_places phase1 wf (place p) p n at).down ∙ there)).1

  -- the next price
  next_is : (q : ℕ) → price_at (min (place p + 1) (length l - 1)) l ≡ Some q → spread_up l p ≡ q
  unfolding times
  next_is = ups 1

  -- a limit, from its two parts
  lower_is : (spreads percent : ℕ) → price_at (place p - limit_spreads) l ≡ Some spreads → first (lower_test p) l ≡ Some percent →
      lower_limit l five_percent p ≡ min spreads percent
  lower_is spreads percent there f = rw (downs limit_spreads spreads there, f) refl

  upper_is : (spreads percent : ℕ) → price_at (min (place p + limit_spreads) (length l - 1)) l ≡ Some spreads →
      latest (upper_test p) l ≡ Some percent → upper_limit l five_percent p ≡ max spreads percent
  upper_is spreads percent there f = rw (ups limit_spreads spreads there, f) refl

  -- n spreads are taken, where one fewer ends on a lower price
  takes : (n before q : ℕ) → price_at (min (place p + n) (length l - 1)) l ≡ Some q →
      price_at (min (place p + (n - 1)) (length l - 1)) l ≡ Some before → before < q → Takes l n p q
  takes n before q there fewer less = record { lead = ups n q there; fewer = omega (arith, ups (n - 1) before fewer, less) }

pub bounds_are_reached : BoundsAreReached
unfolding phase1 ladder band_prices rungs price_at place_from first latest_after
bounds_are_reached =
    record {
      next_of_50_00 = next_is _ refl _ refl;
      lower_of_50_00 = lower_is _ refl _ _ refl refl;
      lower_of_50_05 = lower_is _ refl _ _ refl refl;
      lower_takes_three = takes _ refl _ _ _ refl refl (omega arith);
      next_of_10_19 = next_is _ refl _ refl;
      upper_of_10_19 = upper_is _ refl _ _ refl refl;
      upper_of_10_20 = upper_is _ refl _ _ refl refl;
      upper_takes_two = takes _ refl _ _ _ refl refl (omega arith);
    }
