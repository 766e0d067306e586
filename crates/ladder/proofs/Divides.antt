-- A multiple of a spread is told by its inverse, and what is left over one.
use mathlib.Core.Path.{◌≡◌, refl, ap, sym, ◌∙◌}
use Prim.Native.Nat.{ℕ, zero, suc, ◌+◌, ◌-◌, ◌*◌, ◌/◌, ◌%◌, ◌≤◌, ◌<◌}
use native.Mathlib.Nat.{div-add-mod', mod-lt, mul-mod_left, mul-le-mul_left, mul-le-mul_right}
use native.Mathlib.Omega.{arith}
use Rattle.std.proofs.lemmas.Nat.{mod-mul-add}
use lib.Dec.{T, eqb, eqb→eq, eqb_refl}
use Rattle.tables.specs.Inverses.{inverse_of}
use Rattle.facts.proofs.Tests.{same}

module _ (n d i : ℕ) (some : 0 < d) (low : n < 2147483648) (inverse : i ≡ inverse_of d) where
  -- how often the code finds that the spread fits, and how often it does
  abbrev told : ℕ
  told = n * i / 2147483648

  abbrev k : ℕ
  k = n / d

  -- the inverse, times the spread, is over 2^31 by this much, which is less than the spread
  abbrev over : ℕ
  over = d - 1 - 2147483647 % d

  over_is : d ≡ over + 2147483647 % d + 1
  over_is = omega (arith, mod-lt 2147483647 {m = d} some)

  by_inverse : i * d ≡ 2147483648 + over
  by_inverse = omega (arith, ap (λ x. x * d) inverse, div-add-mod' 2147483647 d, over_is)

  -- what is left where told is a number of times 2^31
  abbrev rest : ℕ
  rest = n * i % 2147483648

  small : rest < 2147483648
  small = mod-lt (n * i) {m = 2147483648} (omega arith)

  divided : told * 2147483648 + rest ≡ n * i
  divided = div-add-mod' (n * i) 2147483648

  -- a multiple of the spread, times the inverse, is over k * 2^31 by less than 2^31
  told_right : n % d ≡ 0 → told ≡ k
  told_right e =
      let multiple : n ≡ k * d = omega (arith, div-add-mod' n d, e) in
      let product : n * i ≡ k * (i * d) = ap (λ x. x * i) multiple ∙ omega arith in
      let exact : n * i ≡ k * 2147483648 + k * over = omega (arith, product, ap (λ x. k * x) by_inverse) in
      let less : k * over ≤ k * d = mul-le-mul_left k (omega (arith, over_is)) in
      omega (arith, exact, less, multiple, low, divided, small)

  pub multiple_told : eqb (told * d) n ≡ eqb (n % d) 0
  multiple_told = same (eqb (told * d) n) (eqb (n % d) 0) (λ h. is (eqb→eq (told * d) n h)) (λ h. fits (eqb→eq (n % d) 0 h))
    where
      is : told * d ≡ n → T (eqb (n % d) 0)
      is e = let zero : n % d ≡ 0 = ap (λ x. x % d) (sym e) ∙ mul-mod_left told d in rw zero tt

      fits : n % d ≡ 0 → T (eqb (told * d) n)
      fits e =
          let whole : told * d ≡ n = omega (arith, ap (λ x. x * d) (told_right e), div-add-mod' n d, e) in
          rw whole (eqb_refl n)

  -- what is told is less than a spread away, whatever the number
  near : (n < told * d + d) × (told * d < n + d)
  near =
      let times : n * (i * d) ≡ n * (2147483648 + over) = ap (λ x. n * x) by_inverse in
      let spread : (told * 2147483648 + rest) * d ≡ n * i * d = ap (λ x. x * d) divided in
      let rest_small : rest * d ≤ 2147483647 * d = mul-le-mul_right d (omega (arith, small)) in
      let over_small : n * over ≤ 2147483647 * over = mul-le-mul_right over (omega (arith, low)) in
      (omega (arith, times, spread, rest_small, some), omega (arith, times, spread, over_small, over_is))

  pub told_near : told * d < n + d
  told_near = near.1

  -- a spread of 2^31 or more goes into no such number, so that what is told has 32 bits
  pub told_fits : told * d < 4294967296
  told_fits = go told (2147483647 / d) refl refl
    where
      go : (t u : ℕ) → told ≡ t → 2147483647 / d ≡ u → told * d < 4294967296
      go zero u e f = let none : told * d ≡ 0 * d = ap (λ x. x * d) e in omega arith
      go (suc s) zero e f =
          let one : n * i ≡ n * (0 + 1) = ap (λ x. n * x) (inverse ∙ ap (λ u. u + 1) f) in
          absurd (omega (arith, one, divided, e, low))
      go (suc s) (suc v) e f =
          let parts : 2147483647 / d * d + 2147483647 % d ≡ 2147483647 = div-add-mod' 2147483647 d in
          let some_times : 2147483647 / d * d ≡ suc v * d = ap (λ u. u * d) f in
          omega (arith, parts, some_times, near.1, low)

  pub left_over : told * d ≤ n → n - told * d ≡ n % d
  left_over h =
      let is : n ≡ told * d + (n - told * d) = omega arith in
      sym (ap (λ x. x % d) is ∙ mod-mul-add told d (n - told * d) (omega (arith, near.0)))

  pub left_under : n < told * d → d - (told * d - n) ≡ n % d
  left_under h = go told refl
    where
      go : (t : ℕ) → told ≡ t → d - (told * d - n) ≡ n % d
      go zero e = absurd (omega (arith, ap (λ x. x * d) e))
      go (suc s) e =
          let one : told * d ≡ s * d + d = omega (arith, ap (λ x. x * d) e) in
          let is : n ≡ s * d + (d - (told * d - n)) = omega (arith, one, near.1) in
          sym (ap (λ x. x % d) is ∙ mod-mul-add s d (d - (told * d - n)) (omega (arith, h, one, near.1)))
