-- The smallest and the largest of some numbers.
use mathlib.Core.Path.{refl}
use native.Mathlib.Omega.{arith}
use mathlib.Core.List.{[], ◌∷◌}
use lib.Dec.{T}
use Rattle.facts.specs.Lists.{holds}
use Rattle.facts.proofs.Lists.{held_cases, held_first, held_rest, held_none}
use Rattle.facts.proofs.Numbers.{of_smaller, of_larger}
use Rattle.report.specs.Widths.{smallest, largest}
use Rattle.report.proofs.Widening.{max_zero}
use Rattle.report.specs.Laws.{SmallestAndLargest}

pub smallest_and_largest : SmallestAndLargest
unfolding smallest largest
smallest_and_largest [] =
    record {
      smallest_is = λ some. absurd (omega (arith, some));
      none_below = λ w h. held_none w h;
      largest_is = λ some. absurd (omega (arith, some));
      none_above = λ w h. held_none w h;
      of_none = λ none. (refl, refl);
    }
smallest_and_largest (v ∷ []) =
    record {
      smallest_is = λ some. held_first v [];
      none_below = λ w h. held_cases v [] w h (λ e. omega (arith, e)) (λ more. held_none w more);
      largest_is = λ some. rw (max_zero v) (held_first v []);
      none_above = λ w h. held_cases v [] w h (λ e. omega (arith, e)) (λ more. held_none w more);
      of_none = λ none. absurd (omega (arith, none));
    }
smallest_and_largest (v ∷ u ∷ ws) =
    let rest = smallest_and_largest (u ∷ ws) in
    record {
      smallest_is = λ some. of_smaller (λ x. T (holds x (v ∷ u ∷ ws))) v (smallest (u ∷ ws)) (held_first v (u ∷ ws))
          (held_rest v (u ∷ ws) (smallest (u ∷ ws)) (rest.smallest_is (omega arith)));
      none_below = λ w h. held_cases v (u ∷ ws) w h (λ e. omega (arith, e)) (λ more. omega (arith, rest.none_below w more));
      largest_is = λ some. of_larger (λ x. T (holds x (v ∷ u ∷ ws))) v (largest (u ∷ ws)) (held_first v (u ∷ ws))
          (held_rest v (u ∷ ws) (largest (u ∷ ws)) (rest.largest_is (omega arith)));
      none_above = λ w h. held_cases v (u ∷ ws) w h (λ e. omega (arith, e)) (λ more. omega (arith, rest.none_above w more));
      of_none = λ none. absurd (omega (arith, none));
    }
