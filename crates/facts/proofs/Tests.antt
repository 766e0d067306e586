-- Tests, taken apart and put together.
use mathlib.Core.Path.{◌≡◌, refl}
use Prim.Native.Nat.{ℕ}
use borrow.Author.Tests.{leb-true, leb-false, lt-ltb, le-ltb}
use mathlib.Core.Bool.{Bool, true, false, not, ◌&&◌, ◌||◌}
use mathlib.Core.Logic.{◌⊎◌, inl, inr}
use lib.Dec.{T, leb, ltb}

pub and_left : (a b : Bool) → T (a && b) → T a
and_left true b t = tt
and_left false b t = absurd t

pub and_right : (a b : Bool) → T (a && b) → T b
and_right true b t = t
and_right false b t = absurd t

pub and_both : (a b : Bool) → T a → T b → T (a && b)
and_both true b s t = t
and_both false b s t = s

pub or_left : (a b : Bool) → T a → T (a || b)
or_left true b t = tt
or_left false b t = absurd t

pub or_right : (a b : Bool) → T b → T (a || b)
or_right true b t = tt
or_right false b t = t

pub or_cases : (a b : Bool) → T (a || b) → T a ⊎ T b
or_cases true b t = inl tt
or_cases false b t = inr t

-- two tests that imply each other are the same
pub same : (a b : Bool) → (T a → T b) → (T b → T a) → a ≡ b
same true true f g = refl
same true false f g = absurd (f tt)
same false true f g = absurd (g tt)
same false false f g = refl

pub passed : (a : Bool) → T a → a ≡ true
passed true t = refl
passed false t = absurd t

pub failed : (a : Bool) → (T a → ⊥) → a ≡ false
failed true f = absurd (f tt)
failed false f = refl

pub true_of : (b : Bool) → b ≡ true → T b
true_of b e = rw e tt

pub untrue : (b : Bool) → b ≡ false → T b → ⊥
untrue b e t = rw e at t

-- a is below b exactly where b is not at most a
pub below : (a b : ℕ) → ltb a b ≡ not (leb b a)
below a b = go (leb b a) refl
  where
    go : (v : Bool) → leb b a ≡ v → ltb a b ≡ not v
    go true e = le-ltb a b (leb-true b a e)
    go false e = lt-ltb a b (leb-false b a e)
