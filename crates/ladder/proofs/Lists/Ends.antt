-- The ends of a rising list: no member is below the first, and none above the last. What lies within the ends.
use Rattle.std.specs.Prelude.{Some}
use mathlib.Core.Path.{◌≡◌, refl}
use mathlib.Core.Bool.{false}
use Prim.Native.Nat.{ℕ, ◌≤◌, ◌<◌}
use native.Mathlib.Nat.{le_of_lt}
use native.Mathlib.Omega.{arith}
use mathlib.Core.List.{List, [], ◌∷◌}
use lib.Dec.{T, ltb}
use borrow.Author.Tests.{ltb-false, le-ltb}
use Rattle.std.proofs.lemmas.Bool.{or_parts, true≢false}
use Rattle.facts.specs.Lists.{holds, Rising}
use Rattle.facts.proofs.Lists.{held_cases, held_first, held_rest, held_none}
use Rattle.ladder.specs.Places.{first_price, last_after, last_price, is_outside}
use Rattle.ladder.specs.Spreads.{times, if_within}

pub over_first : (l : List ℕ) → Rising l → (x : ℕ) → T (holds x l) → first_price l ≤ x
over_first [] r x h = held_none x h
over_first (a ∷ l) r x h = held_cases a l x h (λ e. omega arith) (λ m. le_of_lt (r.0 x m))

pub under_last : (l : List ℕ) → Rising l → (x : ℕ) → T (holds x l) → x ≤ last_price l
unfolding last_after
under_last [] r x h = held_none x h
under_last (a ∷ []) r x h = held_cases a [] x h (λ e. omega arith) (λ m. held_none x m)
under_last (a ∷ b ∷ l) r x h =
    let low : b ≤ last_after b l = under_last (b ∷ l) r.1 b (held_first b l) in
    held_cases a (b ∷ l) x h (λ e. let m : a < b = r.0 b (held_first b l) in omega arith) (λ m. under_last (b ∷ l) r.1 x m)

-- both ends are members of a list that has one
pub first_held : (l : List ℕ) (x : ℕ) → T (holds x l) → T (holds (first_price l) l)
first_held [] x h = held_none x h
first_held (a ∷ l) x h = held_first a l

pub last_held : (l : List ℕ) (x : ℕ) → T (holds x l) → T (holds (last_price l) l)
unfolding last_after
last_held [] x h = held_none x h
last_held (a ∷ []) x h = held_first a []
last_held (a ∷ b ∷ l) x h = held_rest a (b ∷ l) (last_after b l) (last_held (b ∷ l) b (held_first b l))

-- ---- within the ends

pub record Within (l : List ℕ) (p : ℕ) : Type 0 where
  pub low : first_price l ≤ p
  pub high : p ≤ last_price l

pub within : (l : List ℕ) (p : ℕ) → is_outside p l ≡ false → Within l p
unfolding is_outside
within [] p e = absurd (true≢false e)
within (a ∷ l) p e =
    let r = or_parts (ltb p a) (ltb (last_price (a ∷ l)) p) e in
    record { low = ltb-false p a r.0; high = ltb-false (last_price (a ∷ l)) p r.1 }

-- x is a member
pub not_outside : (l : List ℕ) (x p : ℕ) → T (holds x l) → Within l p → is_outside p l ≡ false
unfolding is_outside
not_outside [] x p h w = held_none x h
not_outside (a ∷ l) x p h w = rw (le-ltb p a w.low, le-ltb (last_price (a ∷ l)) p w.high)

pub held_within : (l : List ℕ) → Rising l → (p : ℕ) → T (holds p l) → is_outside p l ≡ false
held_within l r p h = not_outside l p p h (record { low = over_first l r p h; high = under_last l r p h })

-- ---- from a price within the ends a number of spreads is answered, and 0 spreads lead to the price itself

module _ (l : List ℕ) (p : ℕ) (w : false ≡ is_outside p l) where
  pub answers : (number : ℕ) → Some number ≡ if_within p l number
  answers number = rw (← w) refl

  pub stays : (step : ℕ → ℕ) (n : ℕ) → n ≡ 0 → Some p ≡ if_within p l (times n step p)
  unfolding times
  stays step n z = rw z (answers p)
