-- Decimal numbers digit by digit.
use mathlib.Core.Path.{◌≡◌, refl, ◌∙◌, ap}
use Prim.Native.Nat.{ℕ, zero, suc, ◌/◌, ◌%◌, ◌≤◌, ◌<◌}
use native.Mathlib.Omega.{arith}
use mathlib.Core.Bool.{Bool, true, false, cond}
use mathlib.Core.List.{[], ◌∷◌, ◌++◌, append_assoc}
use lib.Dec.{ltb}
use lib.ListN.{length, length-append}
use borrow.Author.Tests.{ltb-true, ltb-false, lt-ltb, le-ltb}
use Rattle.text.specs.Decimal.{Text, digit, two_digits, up_to, decimal}

-- more digits than a number has change nothing
enough : (a b n : ℕ) → n < a → n < b → up_to a n ≡ up_to b n
unfolding up_to
enough zero b n h k = absurd (omega (arith, h))
enough (suc a) zero n h k = absurd (omega (arith, k))
enough (suc a) (suc b) n h k = go (enough a b (n / 10)) (ltb n 10) refl
  where
    go : (n / 10 < a → n / 10 < b → up_to a (n / 10) ≡ up_to b (n / 10)) → (v : Bool) → ltb n 10 ≡ v →
        cond v (digit n ∷ []) (up_to a (n / 10) ++ (digit (n % 10) ∷ [])) ≡ cond v (digit n ∷ []) (up_to b (n / 10) ++ (digit (n % 10) ∷ []))
    go fewer true e = refl
    go fewer false e =
        let large = ltb-false n 10 e in
        ap (λ (x : Text). x ++ (digit (n % 10) ∷ [])) (fewer (omega (arith, large, h)) (omega (arith, large, k)))

pub decimal_is : (n : ℕ) → decimal n ≡ cond (ltb n 10) (digit n ∷ []) (decimal (n / 10) ++ (digit (n % 10) ∷ []))
unfolding decimal up_to
decimal_is n = go (ltb n 10) refl
  where
    go : (v : Bool) → ltb n 10 ≡ v →
        cond v (digit n ∷ []) (up_to n (n / 10) ++ (digit (n % 10) ∷ [])) ≡ cond v (digit n ∷ []) (up_to (suc (n / 10)) (n / 10) ++ (digit (n % 10) ∷ []))
    go true e = refl
    go false e =
        let large = ltb-false n 10 e in
        ap (λ (x : Text). x ++ (digit (n % 10) ∷ [])) (enough n (suc (n / 10)) (n / 10) (omega (arith, large)) (omega arith))

pub one_digit : (n : ℕ) → n < 10 → decimal n ≡ digit n ∷ []
one_digit n h = decimal_is n ∙ rw (lt-ltb n 10 h)

pub last_digit : (n : ℕ) → 10 ≤ n → decimal n ≡ decimal (n / 10) ++ (digit (n % 10) ∷ [])
last_digit n h = decimal_is n ∙ rw (le-ltb n 10 h)

pub last_two : (n : ℕ) → 100 ≤ n → decimal n ≡ decimal (n / 100) ++ two_digits (n % 100)
last_two n h =
    let tenth : n / 10 / 10 ≡ n / 100 = omega arith in
    let tens : n / 10 % 10 ≡ n % 100 / 10 = omega arith in
    let ones : n % 10 ≡ n % 100 % 10 = omega arith in
    rw (last_digit n (omega arith), last_digit (n / 10) (omega arith), tenth, tens, ones)
    (append_assoc (decimal (n / 100)) (digit (n % 100 / 10) ∷ []) (digit (n % 100 % 10) ∷ []))

pub two_digits_lem : (n : ℕ) → 10 ≤ n → n < 100 → decimal n ≡ two_digits n
two_digits_lem n h m = rw (last_digit n h, one_digit (n / 10) (omega arith))

some : (n : ℕ) (v : Bool) → 0 < length (cond v (digit n ∷ []) (decimal (n / 10) ++ (digit (n % 10) ∷ [])))
some n true = omega arith
some n false = omega (arith, length-append (decimal (n / 10)) (digit (n % 10) ∷ []))

pub has_digits : (n : ℕ) → 0 < length (decimal n)
has_digits n = rw (decimal_is n) (some n (ltb n 10))

-- what holds of one digit, and of a number if it holds of a tenth of it, holds of every number
module _ (P : ℕ → Type 0) (one : (n : ℕ) → n < 10 → P n) (more : (n : ℕ) → 10 ≤ n → P (n / 10) → P n) where
  below : (most n : ℕ) → n < most → P n
  below zero n h = absurd (omega (arith, h))
  below (suc most) n h = go (below most (n / 10)) (ltb n 10) refl
    where
      go : (n / 10 < most → P (n / 10)) → (v : Bool) → ltb n 10 ≡ v → P n
      go rest true e = one n (ltb-true n 10 e)
      go rest false e = let large = ltb-false n 10 e in more n large (rest (omega (arith, large, h)))

  pub by_digits : (n : ℕ) → P n
  by_digits n = below (suc n) n (omega arith)
