-- The smaller and the larger of two numbers.
use mathlib.Core.Path.{◌≡◌}
use Prim.Native.Nat.{ℕ, min, max, ◌≤◌}
use native.Mathlib.Decide.{dec_le}
use native.Mathlib.Omega.{arith}

-- what holds of both holds of the smaller, and of the larger
pub of_smaller : (P : ℕ → Type 0) (a b : ℕ) → P a → P b → P (min a b)
of_smaller P a b x y = go (dec_le a b)
  where
    go : Dec (a ≤ b) → P (min a b)
    go (yes m) = let e : min a b ≡ a = omega arith in rw e x
    go (no m) = let e : min a b ≡ b = omega arith in rw e y

pub of_larger : (P : ℕ → Type 0) (a b : ℕ) → P a → P b → P (max a b)
of_larger P a b x y = go (dec_le a b)
  where
    go : Dec (a ≤ b) → P (max a b)
    go (yes m) = let e : max a b ≡ b = omega arith in rw e y
    go (no m) = let e : max a b ≡ a = omega arith in rw e x
