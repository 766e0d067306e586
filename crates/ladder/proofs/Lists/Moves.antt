-- Rounding and spreads on a rising list, told by neighbours and ends. No bands here.
use Rattle.std.specs.Prelude.{Some, None}
use mathlib.Core.Path.{◌≡◌, ap}
use Prim.Native.Nat.{ℕ, zero, suc, ◌+◌, ◌*◌, ◌≤◌, ◌<◌}
use native.Mathlib.Nat.{zero-add, suc-add, le_refl, mul-le-mul_left}
use native.Mathlib.Decide.{dec_le}
use native.Mathlib.Omega.{arith}
use mathlib.Core.List.{List}
use lib.Dec.{T, lt→ltb, ltb→lt, le→leb, leb→le}
use Rattle.facts.specs.Lists.{holds, Rising}
use Rattle.ladder.specs.Search.{first, latest, or_else, above, below, at_least, at_most}
use Rattle.ladder.specs.Places.{first_price, last_price}
use Rattle.ladder.specs.Spreads.{spread_up, spread_down, times}
use Rattle.facts.proofs.Lists.{Next, gap_down}
use Rattle.ladder.proofs.Lists.Ends.{over_first, under_last, first_held, last_held}
use Rattle.ladder.proofs.Lists.Extremes.{first_is, latest_is, first_none, latest_none}

-- ---- a threshold between two neighbours

module _ (l : List ℕ) (r : Rising l) (p q : ℕ) (n : Next l p q) (scale y : ℕ) (low : scale * p ≤ y) (high : y < scale * q) where
  pub between_below : latest (at_most scale y) l ≡ Some p
  between_below =
      latest_is l r (at_most scale y) p
      (record { on = n.lower; passes = le→leb (scale * p) y low; extreme = λ x h t. gap_down l p q n x h (less x (leb→le (scale * x) y t)) })
    where
      less : (x : ℕ) → scale * x ≤ y → x < q
      less x t = go (dec_le q x)
        where
          go : Dec (q ≤ x) → x < q
          go (yes u) = omega (arith, mul-le-mul_left scale u)
          go (no u) = omega arith

  pub between_above : first (at_least scale (y + 1)) l ≡ Some q
  between_above =
      first_is l r (at_least scale (y + 1)) q
      (record { on = n.upper; passes = le→leb (y + 1) (scale * q) (omega arith); extreme = λ x h t. n.gap x h (more x (leb→le (y + 1) (scale * x) t)) })
    where
      more : (x : ℕ) → y + 1 ≤ scale * x → p < x
      more x t = go (dec_le x p)
        where
          go : Dec (x ≤ p) → p < x
          go (yes u) = omega (arith, mul-le-mul_left scale u)
          go (no u) = omega arith

-- ---- a threshold at the ends of a list that is not empty: x is a member

module _ (l : List ℕ) (r : Rising l) (x : ℕ) (on : T (holds x l)) (scale y : ℕ) where
  pub all_at_least : y ≤ scale * first_price l → first (at_least scale y) l ≡ Some (first_price l)
  all_at_least h =
      first_is l r (at_least scale y) (first_price l)
      (record { on = first_held l x on; passes = le→leb y (scale * first_price l) h; extreme = λ q m t. over_first l r q m })

  pub none_at_least : scale * last_price l < y → first (at_least scale y) l ≡ None
  none_at_least h = first_none l r (at_least scale y) (λ q m t. omega (arith, leb→le y (scale * q) t, mul-le-mul_left scale (under_last l r q m)))

  pub all_at_most : scale * last_price l ≤ y → latest (at_most scale y) l ≡ Some (last_price l)
  all_at_most h =
      latest_is l r (at_most scale y) (last_price l)
      (record { on = last_held l x on; passes = le→leb (scale * last_price l) y h; extreme = λ q m t. under_last l r q m })

  pub none_at_most : y < scale * first_price l → latest (at_most scale y) l ≡ None
  none_at_most h = latest_none l r (at_most scale y) (λ q m t. omega (arith, leb→le (scale * q) y t, mul-le-mul_left scale (over_first l r q m)))

-- ---- single spreads

module _ (l : List ℕ) (r : Rising l) (p q : ℕ) (n : Next l p q) where
  -- from a price x between two neighbours, or on the one behind, a spread leads to the one ahead
  pub up_between : (x : ℕ) → p ≤ x → x < q → spread_up l x ≡ q
  unfolding spread_up
  up_between x low high =
      ap (or_else x)
      (first_is l r (above x) q
      (record { on = n.upper; passes = lt→ltb x q high; extreme = λ y h t. n.gap y h (omega (arith, ltb→lt x y t)) }))

  pub down_between : (x : ℕ) → p < x → x ≤ q → spread_down l x ≡ p
  unfolding spread_down
  down_between x low high =
      ap (or_else x)
      (latest_is l r (below x) p
      (record { on = n.lower; passes = lt→ltb p x low; extreme = λ y h t. gap_down l p q n y h (omega (arith, ltb→lt y x t)) }))

  pub spread_up_lem : spread_up l p ≡ q
  spread_up_lem = up_between p (le_refl p) n.rises

  pub spread_down_lem : spread_down l q ≡ p
  spread_down_lem = down_between q n.rises (le_refl q)

-- at the ends single spreads stay
pub up_stays : (l : List ℕ) → Rising l → spread_up l (last_price l) ≡ last_price l
unfolding spread_up
up_stays l r =
    ap (or_else (last_price l))
    (first_none l r (above (last_price l)) (λ x h t. omega (arith, ltb→lt (last_price l) x t, under_last l r x h)))

pub down_stays : (l : List ℕ) → Rising l → spread_down l (first_price l) ≡ first_price l
unfolding spread_down
down_stays l r =
    ap (or_else (first_price l))
    (latest_none l r (below (first_price l)) (λ x h t. omega (arith, ltb→lt x (first_price l) t, over_first l r x h)))

-- ---- n spreads

pub times_add : (step : ℕ → ℕ) (n m p : ℕ) → times (n + m) step p ≡ times m step (times n step p)
unfolding times
times_add step zero m p = rw zero-add
times_add step (suc n) m p = rw suc-add (times_add step n m (step p))
