-- How long numbers of a line are, with the character after each, and where a text ends.
use Prim.Native.Nat.{ℕ, ◌-◌, ◌≤◌, ◌<◌}
use lib.ListN.{length}
use Rattle.text.specs.Decimal.{Text, field}
use Rattle.text.specs.Ending.{StandsFrom, ending_at}
use Rattle.text.proofs.Laws.{text_laws}

-- a count, or a sum
pub number_fits : (n after : ℕ) → n < 18446744073709551616 → length (field n after) ≤ 21
number_fits n after h = (text_laws.numbers_are_short n after).of_64_bits h

-- the number of an answer, or a width
pub small_fits : (n after : ℕ) → n < 4294967296 → length (field n after) ≤ 11
small_fits n after h = (text_laws.numbers_are_short n after).of_32_bits h

pub stands_at_end : (x text : Text) → StandsFrom (length text - length x) x (ending_at (length text) x text)
stands_at_end = text_laws.stands_at_end
