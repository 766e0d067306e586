-- The laws of specs/Laws.antt, proved. Other crates see them as fields of number_laws.
use mathlib.Core.Path.{◌≡◌}
use Prim.Native.Nat.{ℕ, ◌+◌, ◌*◌, ◌/◌}
use native.Mathlib.Nat.{mod-eq_of_lt, div-add-mod', div-div-eq-div-mul}
use native.Mathlib.Omega.{arith}
use Rattle.little_endian.specs.Laws.{NumberReadsBack, NumberLaws}

-- digits to base 256, put together: x from a and its lowest digit, a from b, b from c
together : (x a b c lowest second third : ℕ) → a * 256 + lowest ≡ x → b * 256 + second ≡ a → c * 256 + third ≡ b →
    lowest + second * 256 + third * 65536 + c * 16777216 ≡ x
together x a b c lowest second third e f g = omega arith

number_reads_back : NumberReadsBack
number_reads_back x fits =
    rw (mod-eq_of_lt {n = x / 16777216} {m = 256} (omega arith))
    (together x (x / 256) (x / 65536) (x / 16777216) _ _ _
    (div-add-mod' x 256)
    (rw (div-div-eq-div-mul x 256 256) at (div-add-mod' (x / 256) 256))
    (rw (div-div-eq-div-mul x 65536 256) at (div-add-mod' (x / 65536) 256)))

pub number_laws : NumberLaws
number_laws = record { number_reads_back = number_reads_back }
