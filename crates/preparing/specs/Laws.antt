-- The laws of prepared questions. Each is a field of the record PreparingLaws at the end, which proofs/Laws.antt proves as preparing_laws:
-- PriceNotLookedAt is the field price_not_looked_at.
use Rattle.std.specs.Prelude.{◌≡◌, ℕ, ◌+◌, ◌≤◌, ◌<◌, Bool, true, false, ◌&&◌, ◌||◌, T, eqb, leb, length, get_or, Ok}
use Rattle.tables.specs.Bands.{Table, well_formed}
use Rattle.tables.specs.Named.{unknown_table}
use Rattle.ladder.specs.Ladder.{Prices, ladder, is_ladder_price}
use Rattle.ladder.specs.Named.{ladder_named}
use Rattle.limits.specs.declared.Percentage.{Percentage}
use Rattle.limits.specs.Limits.{five_percent}
use Rattle.limits.specs.Terms.{Found, terms_on}
use Rattle.little_endian.specs.Numbers.{Bytes}
use Rattle.questions.specs.Record.{question_bytes, price_byte, security_byte, security_code_of}
use Rattle.questions.specs.Checks.{bad_security_code}
use Rattle.questions.specs.Missing.{number_of}
use Rattle.ranges.specs.declared.Range.{Range}
use Rattle.preparing.specs.declared.PreparedNumbers.{PreparedNumbers}
use Rattle.preparing.specs.Prepared.{prepared, prepared_by}
use Rattle.preparing.specs.Numbers.{wrong_length, none_prepared, prepared_numbers, range_from}

-- two questions that agree in all bytes but the four from one on
pub record AgreeBut (at : ℕ) (s u : Bytes) : Type 0 where
  pub before : (i : ℕ) → i < at → get_or s i 0 ≡ get_or u i 0
  pub after : (i : ℕ) → at + 4 ≤ i → i < question_bytes → get_or s i 0 ≡ get_or u i 0

-- in all but those of the order price
abbrev pub SameButPrice : Bytes → Bytes → Type 0
SameButPrice = AgreeBut price_byte

-- Of two questions that differ in bytes 4 to 7 only, the first part gives the same, whatever the terms.
abbrev pub PriceNotLookedAt : Type 0
PriceNotLookedAt =
    (found : Found) (s u : Bytes) → length s ≡ length u → SameButPrice s u → prepared_by found s ≡ prepared_by found u

-- two that agree in all but those of the security code, which is good in both
pub record SameButSecurity (s u : Bytes) : Type 0 where
  pub same : AgreeBut security_byte s u
  pub good : bad_security_code (security_code_of s) ≡ false
  pub good_too : bad_security_code (security_code_of u) ≡ false

-- "The code never alters a verdict that gets past its check": of two such questions the first part gives the same, whatever the terms.
abbrev pub SecurityAltersNoRange : Type 0
SecurityAltersNoRange =
    (found : Found) (s u : Bytes) → length s ≡ length u → SameButSecurity s u → prepared_by found s ≡ prepared_by found u

-- Written as plain numbers and read again, with 0 for a missing reference, a prepared range is what it was.
abbrev pub NumbersLoseNothing : Type 0
NumbersLoseNothing =
    (l : Prices) (percent : Percentage) (s : Bytes) (range : Range) → prepared l percent s ≡ Ok range →
    range_from range.lowest range.highest (number_of range.nine_fold) ≡ range

-- Both bounds of a prepared range are ladder prices.
abbrev pub PreparedOnLadder : Type 0
PreparedOnLadder =
    (t : Table) → T (well_formed t) → (percent : Percentage) (s : Bytes) (range : Range) → prepared (ladder t) percent s ≡ Ok range →
    T (is_ladder_price range.lowest t) × T (is_ladder_price range.highest t)

-- ---- numbers

-- 0, 2 to 5 and 15
abbrev pub is_first_number : ℕ → Bool
is_first_number n = eqb n 0 || leb 2 n && leb n 5 || eqb n 15

-- The numbers that the first part gives: 0, 2 to 5 and 15 with as many bytes as a question has, and else 1; with all but 0 go zeros.
pub record FirstNumber (n : PreparedNumbers) (s : Bytes) : Type 0 where
  pub of_a_question : length s ≡ question_bytes → T (is_first_number n.number)
  pub of_other_bytes : (length s ≡ question_bytes → ⊥) → n ≡ none_prepared wrong_length
  pub zeros : eqb n.number 0 ≡ false → n ≡ none_prepared n.number

abbrev pub FirstNumbers : Type 0
FirstNumbers = (l : Prices) (percent : Percentage) (s : Bytes) → FirstNumber (prepared_numbers (prepared l percent s)) s

-- ---- on a table by its number

-- 1 comes first, then 14 by a number that names no table, both with zeros; else the first part is over that table, at 5 percent.
pub record OnTable (n : ℕ) (s : Bytes) : Type 0 where
  pub of_other_bytes : (length s ≡ question_bytes → ⊥) → prepared_numbers (prepared_by (terms_on n) s) ≡ none_prepared wrong_length
  pub unknown : length s ≡ question_bytes → unknown_table n ≡ true → prepared_numbers (prepared_by (terms_on n) s) ≡ none_prepared 14
  pub named : unknown_table n ≡ false → prepared_by (terms_on n) s ≡ prepared (ladder_named n) five_percent s

abbrev pub PreparedOnTable : Type 0
PreparedOnTable = (n : ℕ) (s : Bytes) → OnTable n s

-- ---- all of them

pub record PreparingLaws : Type 0 where
  pub price_not_looked_at : PriceNotLookedAt
  pub security_alters_no_range : SecurityAltersNoRange
  pub numbers_lose_nothing : NumbersLoseNothing
  pub prepared_on_ladder : PreparedOnLadder
  pub first_numbers : FirstNumbers
  pub prepared_on_table : PreparedOnTable
