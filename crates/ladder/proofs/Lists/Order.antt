-- Spreads and rounding keep order, on any rising list.
use Rattle.std.specs.Prelude.{Option, Some, None}
use mathlib.Core.Path.{◌≡◌}
use Prim.Native.Nat.{ℕ, zero, suc, ◌*◌, ◌≤◌, ◌<◌}
use native.Mathlib.Nat.{le_refl, le_trans, le_of_lt, lt_of_le_of_lt, lt_of_lt_of_le, le_antisymm}
use native.Mathlib.Omega.{arith}
use mathlib.Core.Bool.{Bool}
use mathlib.Core.List.{List}
use lib.Dec.{T, ltb→lt, lt→ltb, leb→le, le→leb}
use Rattle.facts.specs.Lists.{holds, Rising}
use Rattle.ladder.specs.Search.{first, latest, or_else, above, below, at_least, at_most}
use Rattle.ladder.specs.Places.{first_price, last_price}
use Rattle.ladder.specs.Spreads.{spread_up, spread_down, times}
use Rattle.ladder.proofs.Lists.Ends.{over_first, under_last, first_held, last_held, Within}
use Rattle.ladder.specs.Laws.{Least, Greatest}
use Rattle.ladder.proofs.Lists.Extremes.{Best, NonePass, FoundIs, first_result, latest_result}

not_less : {m n : ℕ} → (m < n → ⊥) → n ≤ m
not_less h = omega arith

-- what is shown of all that a search may find, and of what stands in where it finds nothing, holds of the outcome
found : (R : ℕ → ℕ → Type 0) (test : ℕ → Bool) (l : List ℕ) (other : ℕ) (P : ℕ → Type 0) (f : Option ℕ) → FoundIs R test l f →
    ((q : ℕ) → Best R test l q → P q) → (NonePass test l → P other) → P (or_else other f)
found R test l other P (Some q) b yet never = yet q b
found R test l other P None b yet never = never b

-- ---- single spreads

module _ (l : List ℕ) (r : Rising l) (p : ℕ) (P : ℕ → Type 0) where
  pub up_by : ((q : ℕ) → Best Least (above p) l q → P q) → (NonePass (above p) l → P p) → P (spread_up l p)
  unfolding spread_up
  up_by = found Least (above p) l p P (first (above p) l) (first_result (above p) l r)

  pub down_by : ((q : ℕ) → Best Greatest (below p) l q → P q) → (NonePass (below p) l → P p) → P (spread_down l p)
  unfolding spread_down
  down_by = found Greatest (below p) l p P (latest (below p) l) (latest_result (below p) l r)

module _ (l : List ℕ) (r : Rising l) where
  -- they lead up, and down
  pub up_leads : (p : ℕ) → p ≤ spread_up l p
  up_leads p = up_by l r p (λ q. p ≤ q) (λ q b. le_of_lt (ltb→lt p q b.passes)) (λ n. le_refl p)

  pub down_leads : (p : ℕ) → spread_down l p ≤ p
  down_leads p = down_by l r p (λ q. q ≤ p) (λ q b. le_of_lt (ltb→lt q p b.passes)) (λ n. le_refl p)

  -- from a member they stay on the list
  pub up_on : (p : ℕ) → T (holds p l) → T (holds (spread_up l p) l)
  up_on p h = up_by l r p (λ q. T (holds q l)) (λ q b. b.on) (λ n. h)

  pub down_on : (p : ℕ) → T (holds p l) → T (holds (spread_down l p) l)
  down_on p h = down_by l r p (λ q. T (holds q l)) (λ q b. b.on) (λ n. h)

  -- from any price within the ends of a list that has a member x they end on it: where nothing is ahead, the price is the end itself
  module _ (x : ℕ) (on : T (holds x l)) (p : ℕ) (w : Within l p) where
    pub up_lands : T (holds (spread_up l p) l)
    up_lands = up_by l r p (λ q. T (holds q l)) (λ q b. b.on) stays
      where
        stays : NonePass (above p) l → T (holds p l)
        stays none =
            let end : p ≡ last_price l = le_antisymm w.high (not_less (λ m. none _ (last_held l x on) (lt→ltb p (last_price l) m))) in
            rw end (last_held l x on)

    pub down_lands : T (holds (spread_down l p) l)
    down_lands = down_by l r p (λ q. T (holds q l)) (λ q b. b.on) stays
      where
        stays : NonePass (below p) l → T (holds p l)
        stays none =
            let end : p ≡ first_price l = le_antisymm (not_less (λ m. none _ (first_held l x on) (lt→ltb (first_price l) p m))) w.low in
            rw end (first_held l x on)

  -- and they keep order: what lies ahead of the price further on lies ahead of the other one too
  up_order : (p q : ℕ) → p ≤ q → spread_up l p ≤ spread_up l q
  up_order p q m =
      up_by l r q (λ x. spread_up l p ≤ x)
      (λ x b. up_by l r p (λ y. y ≤ x) (λ y a. a.extreme x b.on (lt→ltb p x (lt_of_le_of_lt m (ltb→lt q x b.passes)))) (λ n. le_trans m (le_of_lt (ltb→lt q x b.passes))))
      (λ none. up_by l r p (λ y. y ≤ q) (λ y a. not_less (λ u. none y a.on (lt→ltb q y u))) (λ n. m))

  down_order : (p q : ℕ) → p ≤ q → spread_down l p ≤ spread_down l q
  down_order p q m =
      down_by l r p (λ x. x ≤ spread_down l q)
      (λ x b. down_by l r q (λ y. x ≤ y) (λ y a. a.extreme x b.on (lt→ltb x q (lt_of_lt_of_le (ltb→lt x p b.passes) m))) (λ n. le_trans (le_of_lt (ltb→lt x p b.passes)) m))
      (λ none. down_by l r q (λ y. p ≤ y) (λ y a. not_less (λ u. none y a.on (lt→ltb y p u))) (λ n. m))

-- ---- n spreads

-- n steps keep what each step keeps
pub times_keep : (P : ℕ → Type 0) (step : ℕ → ℕ) → ((p : ℕ) → P p → P (step p)) → (n p : ℕ) → P p → P (times n step p)
unfolding times
times_keep P step keeps zero p h = h
times_keep P step keeps (suc n) p h = times_keep P step keeps n (step p) (keeps p h)

-- n steps lead where each step leads, as long as R goes on
pub times_lead : (R : ℕ → ℕ → Type 0) → ((p : ℕ) → R p p) → ((p q s : ℕ) → R p q → R q s → R p s) → (step : ℕ → ℕ) →
    ((p : ℕ) → R p (step p)) → (n p : ℕ) → R p (times n step p)
unfolding times
times_lead R here on step leads zero p = here p
times_lead R here on step leads (suc n) p = on p (step p) (times n step (step p)) (leads p) (times_lead R here on step leads n (step p))

times_order : (step : ℕ → ℕ) → ((p q : ℕ) → p ≤ q → step p ≤ step q) → (n p q : ℕ) → p ≤ q → times n step p ≤ times n step q
unfolding times
times_order step order zero p q m = m
times_order step order (suc n) p q m = times_order step order n (step p) (step q) (order p q m)

pub spreads_up_order : (l : List ℕ) → Rising l → (n p q : ℕ) → p ≤ q → times n (spread_up l) p ≤ times n (spread_up l) q
spreads_up_order l r = times_order (spread_up l) (up_order l r)

pub spreads_down_order : (l : List ℕ) → Rising l → (n p q : ℕ) → p ≤ q → times n (spread_down l) p ≤ times n (spread_down l) q
spreads_down_order l r = times_order (spread_down l) (down_order l r)

-- ---- rounding: a test that passes more finds something as extreme, where `end` stands in for nothing

wider : (R : ℕ → ℕ → Type 0) → ((x : ℕ) → R x x) → (l : List ℕ) (end : ℕ) → ((x : ℕ) → T (holds x l) → R x end) →
    (wide narrow : ℕ → Bool) → ((x : ℕ) → T (narrow x) → T (wide x)) → (f g : Option ℕ) → FoundIs R wide l f → FoundIs R narrow l g →
    R (or_else end f) (or_else end g)
wider R reflexive l end bound wide narrow sub f g r s =
    found R narrow l end (λ q. R (or_else end f) q) g s
    (λ q b. found R wide l end (λ x. R x q) f r (λ x a. a.extreme q b.on (sub q b.passes)) (λ n. absurd (n q b.on (sub q b.passes))))
    (λ m. found R wide l end (λ x. R x end) f r (λ x a. bound x a.on) (λ n. reflexive end))

pub at_least_order : (l : List ℕ) → Rising l → (scale y z : ℕ) → y ≤ z →
    or_else (last_price l) (first (at_least scale y) l) ≤ or_else (last_price l) (first (at_least scale z) l)
at_least_order l r scale y z m =
    wider Least le_refl l (last_price l) (under_last l r) (at_least scale y) (at_least scale z)
    (λ x t. le→leb y (scale * x) (le_trans m (leb→le z (scale * x) t)))
    (first (at_least scale y) l) (first (at_least scale z) l) (first_result (at_least scale y) l r) (first_result (at_least scale z) l r)

pub at_most_order : (l : List ℕ) → Rising l → (scale y z : ℕ) → y ≤ z →
    or_else (first_price l) (latest (at_most scale y) l) ≤ or_else (first_price l) (latest (at_most scale z) l)
at_most_order l r scale y z m =
    wider Greatest le_refl l (first_price l) (over_first l r) (at_most scale z) (at_most scale y)
    (λ x t. le→leb (scale * x) z (le_trans (leb→le (scale * x) y t) m))
    (latest (at_most scale z) l) (latest (at_most scale y) l) (latest_result (at_most scale z) l r) (latest_result (at_most scale y) l r)
