-- References on the ladder, and within its ends: what limits and spreads make of them is on the ladder.
use mathlib.Core.Path.{◌≡◌}
use Prim.Native.Nat.{ℕ, ◌-◌}
use mathlib.Core.Bool.{false}
use lib.Dec.{T}
use borrow.Author.Tests.{not-false}
use Rattle.facts.specs.Lists.{holds}
use Rattle.facts.proofs.Tests.{true_of}
use Rattle.facts.proofs.Numbers.{of_smaller, of_larger}
use Rattle.tables.specs.Bands.{Table, well_formed}
use Rattle.ladder.specs.Ladder.{ladder, is_ladder_price}
use Rattle.ladder.specs.Places.{is_outside}
use Rattle.ladder.specs.Spreads.{if_within}
use Rattle.ladder.proofs.Laws.{ladder_laws}
use Rattle.limits.specs.declared.Percentage.{Percentage}
use Rattle.limits.proofs.Laws.{limit_laws}
use Rattle.questions.specs.declared.Reference.{Reference}
use Rattle.questions.specs.declared.Reference.TheVariants.{Missing, Price}
use Rattle.questions.specs.Missing.{least, greatest, price_or}
use Rattle.questions.specs.Checks.{is_off, lies_outside}
use Rattle.ranges.specs.Bounds.{from_reference, enhanced_spreads, enhanced_above, enhanced_below}
use Rattle.ranges.specs.Laws.{IfPresent, On, Within, StayOn}

-- what holds of two references holds of their least and of their greatest, which is one of them
module _ (P : ℕ → Type 0) where
  least_keeps : (a b : Reference) → IfPresent P a → IfPresent P b → IfPresent P (least a b)
  unfolding IfPresent
  least_keeps Missing b h k = k
  least_keeps (Price x) Missing h k = h
  least_keeps (Price x) (Price y) h k = of_smaller P x y h k

  greatest_keeps : (a b : Reference) → IfPresent P a → IfPresent P b → IfPresent P (greatest a b)
  unfolding IfPresent
  greatest_keeps Missing b h k = k
  greatest_keeps (Price x) Missing h k = h
  greatest_keeps (Price x) (Price y) h k = of_larger P x y h k

module _ (t : Table) (wf : T (well_formed t)) where
  passed : (r : Reference) → is_off (ladder t) r ≡ false → On t r
  unfolding IfPresent
  passed Missing e = tt
  passed (Price p) e = rw (← (ladder_laws.the_ladder t wf p)) (true_of (holds p (ladder t)) (not-false (holds p (ladder t)) e))

  close_passed : (r : Reference) → lies_outside (ladder t) r ≡ false → Within t r
  unfolding IfPresent
  close_passed Missing e = tt
  close_passed (Price p) e = e

  -- a ladder price is within the ends
  on_within : (r : Reference) → On t r → Within t r
  unfolding IfPresent
  on_within Missing h = tt
  on_within (Price p) h = (ladder_laws.ends_are_the_tables t wf).none_outside p h

  price_on : (end : ℕ) (r : Reference) → T (is_ladder_price end t) → On t r → T (is_ladder_price (price_or end r) t)
  unfolding IfPresent
  price_on end Missing h k = h
  price_on end (Price p) h k = k

  -- what is found from a reference within the ends is on the ladder, if the number is that is due from a price within them
  from_within : (number : ℕ → ℕ) → ((p : ℕ) → is_outside p (ladder t) ≡ false → T (is_ladder_price (number p) t)) → (r : Reference) →
      Within t r → On t (from_reference (λ (p : ℕ). if_within p (ladder t) (number p)) r)
  unfolding IfPresent
  from_within number on Missing w = tt
  from_within number on (Price p) w = rw ((ladder_laws.only_within_the_ends p (ladder t) (number p)).within w) (on p w)

  pub above_on : (r : Reference) → On t r → On t (enhanced_above (ladder t) r)
  above_on r h = from_within _ (λ p w. (ladder_laws.spreads_stay t wf (enhanced_spreads - 1) p).up_lands w) r (on_within r h)

  pub below_on : (r : Reference) → On t r → On t (enhanced_below (ladder t) r)
  below_on r h = from_within _ (λ p w. (ladder_laws.spreads_stay t wf (enhanced_spreads - 1) p).down_lands w) r (on_within r h)

  pub stay_on : (percent : Percentage) → StayOn t percent
  stay_on percent =
      record {
        passed = passed;
        close_passed = close_passed;
        on_within = on_within;
        least_on = least_keeps _;
        greatest_on = greatest_keeps _;
        least_within = least_keeps _;
        greatest_within = greatest_keeps _;
        lower_on = from_within _ (λ p w. (limit_laws.limits_enclose t wf percent p w).lower_on);
        upper_on = from_within _ (λ p w. (limit_laws.limits_enclose t wf percent p w).upper_on);
        price_on = price_on;
      }
