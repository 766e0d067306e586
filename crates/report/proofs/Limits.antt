-- How large the numbers of widths can get.
use Prim.Native.Nat.{ℕ, ◌+◌, ◌*◌, ◌≤◌, min, max}
use native.Mathlib.Omega.{arith}
use mathlib.Core.Bool.{Bool, true, false, cond}
use mathlib.Core.List.{[], ◌∷◌}
use lib.Dec.{eqb}
use Rattle.judging.specs.declared.Answer.{Answer}
use Rattle.report.specs.declared.Widths.{Widths}
use Rattle.report.specs.Widths.{shows_range, width, shown, smallest, largest, widths_by, widths_of, smaller, together}

-- of no more than n widths, each no more than `most`
pub record Limited (n most : ℕ) (w : Widths) : Type 0 where
  pub count : w.ranges ≤ n
  pub sum_lem : w.sum ≤ n * most
  pub smallest_lem : w.smallest ≤ w.largest
  pub largest_lem : w.largest ≤ most

pub none_limited : (most : ℕ) → Limited 0 most (widths_of [])
unfolding widths_of shown smallest largest
none_limited most = record { count = omega arith; sum_lem = omega arith; smallest_lem = omega arith; largest_lem = omega arith }

pub one_limited : (most : ℕ) (a : Answer) → width a ≤ most → Limited 1 most (widths_of (a ∷ []))
unfolding widths_of shown smallest largest
one_limited most a h = go (shows_range a)
  where
    go : (b : Bool) → Limited 1 most (widths_by (cond b (width a ∷ []) []))
    go true = record { count = omega arith; sum_lem = omega (arith, h); smallest_lem = omega arith; largest_lem = omega (arith, h) }
    go false = record { count = omega arith; sum_lem = omega arith; smallest_lem = omega arith; largest_lem = omega arith }

smaller_within : (m a n b x y : ℕ) → a ≤ x → b ≤ y → smaller m a n b ≤ max x y
smaller_within m a n b x y h k = go (eqb n 0) (eqb m 0)
  where
    go : (p q : Bool) → cond p a (cond q b (min a b)) ≤ max x y
    go true q = omega (arith, h)
    go false true = omega (arith, k)
    go false false = omega (arith, h, k)

pub both_limited : (m n most : ℕ) (a b : Widths) → Limited m most a → Limited n most b → Limited (m + n) most (together a b)
unfolding together
both_limited m n most a b h k =
    record {
      count = omega (arith, h.count, k.count);
      sum_lem = omega (arith, h.sum_lem, k.sum_lem);
      smallest_lem = smaller_within a.ranges a.smallest b.ranges b.smallest a.largest b.largest h.smallest_lem k.smallest_lem;
      largest_lem = omega (arith, h.largest_lem, k.largest_lem);
    }
