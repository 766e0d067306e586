-- Two questions that agree in all bytes but the order price's, or but the security code's, have the same reading.
use Rattle.std.specs.Prelude.{Option, Some, None}
use mathlib.Core.Path.{◌≡◌, refl}
use Prim.Native.Nat.{ℕ, ◌+◌, ◌≤◌, ◌<◌}
use native.Mathlib.Omega.{arith}
use mathlib.Core.Bool.{false}
use mathlib.Core.List.{List}
use Rattle.limits.specs.declared.Percentage.{Percentage}
use Rattle.little_endian.specs.Numbers.{number}
use Rattle.questions.specs.declared.References.{References}
use Rattle.questions.specs.Record.{question_bytes, codes_of, references_of}
use Rattle.questions.specs.Checks.{bad_security_code}
use Rattle.rules.specs.declared.Chosen.{Chosen}
use Rattle.rules.specs.Rules.{chosen}
use Rattle.ranges.specs.Readings.{reading_on, reading_of}
use Rattle.preparing.specs.Laws.{AgreeBut, SameButPrice, SameButSecurity}

module _ (at : ℕ) (s u : List ℕ) (same : AgreeBut at s u) where
  number_before : (n : ℕ) → n + 3 < at → number n s ≡ number n u
  number_before n h =
      rw (
        same.before n (omega arith),
        same.before (n + 1) (omega arith),
        same.before (n + 2) (omega arith),
        same.before (n + 3) h,
      )

  number_after : (n : ℕ) → at + 4 ≤ n → n + 3 < question_bytes → number n s ≡ number n u
  number_after n g h =
      rw (
        same.after n g (omega arith),
        same.after (n + 1) (omega arith) (omega arith),
        same.after (n + 2) (omega arith) (omega arith),
        same.after (n + 3) (omega arith) h,
      )

module _ (l : List ℕ) (percent : Percentage) (s u : List ℕ) where
  pub but_price : SameButPrice s u →
      reading_of l percent (codes_of s) (references_of s) ≡ reading_of l percent (codes_of u) (references_of u)
  unfolding codes_of references_of
  but_price same =
      rw (
        same.before 0 (omega arith),
        same.before 1 (omega arith),
        same.before 2 (omega arith),
        same.before 3 (omega arith),
        number_after _ s u same 8 (omega arith) (omega arith),
        number_after _ s u same 12 (omega arith) (omega arith),
        number_after _ s u same 16 (omega arith) (omega arith),
        number_after _ s u same 20 (omega arith) (omega arith),
        number_after _ s u same 24 (omega arith) (omega arith),
        number_after _ s u same 28 (omega arith) (omega arith),
        number_after _ s u same 32 (omega arith) (omega arith),
        number_after _ s u same 36 (omega arith) (omega arith),
        number_after _ s u same 40 (omega arith) (omega arith),
      )

  -- past its check the security code plays no part
  past_check : (found : Option Chosen) (a b : ℕ) (r : References) → bad_security_code a ≡ false → bad_security_code b ≡ false →
      reading_on l percent found a r ≡ reading_on l percent found b r
  past_check None a b r good good_too = refl
  past_check (Some c) a b r good good_too = rw (good, good_too)

  pub but_security : SameButSecurity s u →
      reading_of l percent (codes_of s) (references_of s) ≡ reading_of l percent (codes_of u) (references_of u)
  unfolding codes_of references_of chosen reading_of
  but_security same =
      let bytes = same.same in
      rw (
        bytes.before 0 (omega arith),
        bytes.before 1 (omega arith),
        bytes.before 2 (omega arith),
        bytes.before 3 (omega arith),
        number_before _ s u bytes 8 (omega arith),
        number_before _ s u bytes 12 (omega arith),
        number_before _ s u bytes 16 (omega arith),
        number_before _ s u bytes 20 (omega arith),
        number_before _ s u bytes 24 (omega arith),
        number_before _ s u bytes 28 (omega arith),
        number_before _ s u bytes 32 (omega arith),
        number_before _ s u bytes 36 (omega arith),
      )
      (past_check (chosen (codes_of u) (references_of u)) _ _ (references_of u) same.good same.good_too)
