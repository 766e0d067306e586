-- The laws of specs/Laws.antt, proved. Other crates see them as fields of text_laws.
use mathlib.Core.Path.{◌≡◌, refl, sym, ◌∙◌, ap}
use Prim.Native.Nat.{ℕ, zero, suc, ◌+◌, ◌*◌, ◌-◌, ◌/◌, ◌%◌, ◌^◌, ◌≤◌, ◌<◌}
use native.Mathlib.Nat.{pow-succ'}
use native.Mathlib.Omega.{arith}
use mathlib.Core.Bool.{Bool, true, false, ◌&&◌}
use mathlib.Core.List.{[], ◌∷◌, ◌++◌, append-nil}
use lib.Dec.{T, ltb, leb}
use lib.ListN.{length, get_or, take, drop, length-append, get_or-append}
use lib.Seq.{drop_at, drop-length, length-take-le}
use borrow.Author.Tests.{ltb-true, ltb-false, le-leb}
use Rattle.text.specs.Decimal.{Text, digit, decimal, field}
use Rattle.text.specs.Laws.{DecimalIs, value_after, are_digits, Decimal, DecimalReadsBack, DecimalIsShort, NumbersAreShort, WrittenInFront, StandsAtEnd, TextLaws}
use Rattle.text.proofs.Decimals as decimals
use Rattle.text.proofs.Decimals.{one_digit, last_digit, has_digits, by_digits}
use Rattle.text.proofs.Parts as parts
use Rattle.text.proofs.Parts.{filled_by_parts}
use Rattle.text.proofs.AnyEnd.{filled_to_any_end}

decimal_is : DecimalIs
decimal_is = decimals.decimal_is

-- ---- read back

value_of_both : (v : ℕ) (s t : Text) → value_after v (s ++ t) ≡ value_after (value_after v s) t
value_of_both v [] t = refl
value_of_both v (c ∷ s) t = value_of_both (v * 10 + (c - 48)) s t

-- of two tests, the second may be exchanged
and_then : (a b c : Bool) → (T b → T c) → T (a && b) → T (a && c)
and_then true b c f h = f h
and_then false b c f h = h

all_digits : (s : Text) (d : ℕ) → d < 10 → T (are_digits s) → T (are_digits (s ++ (digit d ∷ [])))
all_digits [] d m h = rw (le-leb 48 (48 + d) (omega arith), le-leb (48 + d) 57 (omega arith)) tt
all_digits (c ∷ s) d m h = and_then (leb 48 c && leb c 57) (are_digits s) (are_digits (s ++ (digit d ∷ []))) (all_digits s d m) h

small : (n : ℕ) → n < 10 → Decimal n
small n h =
    record {
      reads_back = rw (one_digit n h) (omega arith);
      digits = rw (one_digit n h) (all_digits [] n h tt);
      some_digit = has_digits n;
      no_zero_in_front = rw (one_digit n h) (λ e. ap (λ (c : ℕ). c ∷ []) e);
    }

large : (n : ℕ) → 10 ≤ n → Decimal (n / 10) → Decimal n
large n h tenth =
    record {
      reads_back =
          rw (last_digit n h, value_of_both 0 (decimal (n / 10)) (digit (n % 10) ∷ []), tenth.reads_back) (omega arith);
      digits = rw (last_digit n h) (all_digits (decimal (n / 10)) (n % 10) (omega arith) tenth.digits);
      some_digit = has_digits n;
      no_zero_in_front = λ e. absurd (omega (arith, h, none (sym first ∙ e)));
    }
  where
    first : get_or (decimal n) 0 0 ≡ get_or (decimal (n / 10)) 0 0
    first = rw (last_digit n h) (get_or-append (decimal (n / 10)) (digit (n % 10) ∷ []) 0 0 (has_digits (n / 10)))

    -- a tenth that begins with 0 is 0
    none : get_or (decimal (n / 10)) 0 0 ≡ digit 0 → n / 10 ≡ 0
    none e = sym tenth.reads_back ∙ ap (value_after 0) (tenth.no_zero_in_front e)

decimal_reads_back : DecimalReadsBack
decimal_reads_back = by_digits Decimal small large

-- ---- how many digits

decimal_is_short : DecimalIsShort
decimal_is_short zero n h m = absurd (omega (arith, h))
decimal_is_short (suc zero) n h m = rw (one_digit n m) (omega arith)
decimal_is_short (suc (suc k)) n h m = go (decimal_is_short (suc k) (n / 10)) (ltb n 10) refl
  where
    go : (0 < suc k → n / 10 < 10 ^ suc k → length (decimal (n / 10)) ≤ suc k) → (v : Bool) → ltb n 10 ≡ v → length (decimal n) ≤ suc (suc k)
    go tenth true e = rw (one_digit n (ltb-true n 10 e)) (omega arith)
    go tenth false e =
        let less : n / 10 < 10 ^ suc k = omega (arith, pow-succ' 10 (suc k), m) in
        rw (last_digit n (ltb-false n 10 e)) (omega (arith, length-append (decimal (n / 10)) (digit (n % 10) ∷ []), tenth (omega arith) less))

numbers_are_short : NumbersAreShort
numbers_are_short n after =
    record { of_64_bits = λ h. short 20 (omega arith) (omega arith); of_32_bits = λ h. short 10 (omega arith) (omega arith) }
  where
    short : (k : ℕ) → 0 < k → n < 10 ^ k → length (field n after) ≤ suc k
    short k h m = omega (arith, length-append (decimal n) (after ∷ []), decimal_is_short k n h m)

-- ---- written

written_in_front : WrittenInFront
written_in_front = parts.written_in_front

stands_at_end : StandsAtEnd
stands_at_end x text =
    record {
      inside =
          omega (arith, length-append (take (length text - length x) text) (x ++ drop (length text) text), front);
      is_x =
          drop_at (take (length text - length x) text) (x ++ drop (length text) text) (length text - length x) front ∙
          rw (drop-length text) (append-nil x);
    }
  where
    front : length (take (length text - length x) text) ≡ length text - length x
    front = length-take-le (length text - length x) text (omega arith)

pub text_laws : TextLaws
text_laws =
    record {
      decimal_is = decimal_is;
      decimal_reads_back = decimal_reads_back;
      decimal_is_short = decimal_is_short;
      numbers_are_short = numbers_are_short;
      written_in_front = written_in_front;
      stands_at_end = stands_at_end;
      filled_by_parts = filled_by_parts;
      filled_to_any_end = filled_to_any_end;
    }
