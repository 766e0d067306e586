-- How long numbers of a line are, with the character after each, and where a text ends.
use Prim.Native.Nat.{ℕ, ◌-◌, ◌≤◌, ◌<◌}
use native.Mathlib.Omega.{arith}
use mathlib.Core.List.{[], ◌∷◌}
use lib.ListN.{length, length-append}
use Rattle.text.specs.Decimal.{Text, decimal, field}
use Rattle.text.specs.Ending.{StandsFrom, ending_at}
use Rattle.text.proofs.Laws.{text_laws}
use Rattle.questions.specs.Record.{question_bytes}

-- the number of a question
pub number_fits : (n after : ℕ) → n < 18446744073709551616 → length (field n after) ≤ 21
number_fits n after h = (text_laws.numbers_are_short n after).of_64_bits h

-- a price, or the number of an answer
pub price_fits : (n after : ℕ) → n < 4294967296 → length (field n after) ≤ 11
price_fits n after h = (text_laws.numbers_are_short n after).of_32_bits h

-- the bytes that are left over
pub left_fits : (n after : ℕ) → n < question_bytes → length (field n after) ≤ 3
left_fits n after h = omega (arith, length-append (decimal n) (after ∷ []), text_laws.decimal_is_short 2 n (omega arith) (omega arith))

pub stands_at_end : (x text : Text) → StandsFrom (length text - length x) x (ending_at (length text) x text)
stands_at_end = text_laws.stands_at_end
