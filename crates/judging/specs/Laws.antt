-- The laws of judging. Each is a field of the record JudgingLaws at the end, which proofs/Laws.antt proves as judging_laws: AnyOrderPrice is
-- the field any_order_price.
use Rattle.std.specs.Prelude.{◌⊎◌, ◌≡◌, ℕ, ◌≤◌, Bool, true, false, ◌&&◌, ◌||◌, T, eqb, leb, length}
use Rattle.tables.specs.Bands.{Table, well_formed}
use Rattle.tables.specs.Named.{table_named, unknown_table}
use Rattle.ladder.specs.Ladder.{Prices, ladder, is_ladder_price}
use Rattle.ladder.specs.Named.{ladder_named}
use Rattle.limits.specs.declared.Percentage.{Percentage}
use Rattle.limits.specs.Limits.{five_percent}
use Rattle.limits.specs.Terms.{Found, terms_on}
use Rattle.little_endian.specs.Numbers.{Bytes}
use Rattle.questions.specs.Record.{question_bytes, price_of}
use Rattle.ranges.specs.declared.Range.{Range}
use Rattle.preparing.specs.Prepared.{prepared, prepared_by}
use Rattle.preparing.specs.Numbers.{wrong_length, prepared_numbers}
use Rattle.preparing.specs.Laws.{SameButPrice, SameButSecurity}
use Rattle.judging.specs.declared.Answer.{Answer}
use Rattle.judging.specs.Shown.{is_shown, shown_of}
use Rattle.judging.specs.Answers.{none_shown, answer_on, prepared_judged_by, then_judged, numbers_judged, judged, judged_by}

-- The shown range is exactly the ladder prices that are in the permitted range and pass the nine-fold rule: a ladder price is one of
-- these where it lies from the lowest shown to the highest shown, and only there. Where 0 and 0 are shown there is none.
abbrev pub ShownIsExactly : Type 0
ShownIsExactly =
    (t : Table) → T (well_formed t) → (range : Range) (p : ℕ) → T (is_ladder_price p t) →
    is_shown range p ≡ (leb (shown_of (ladder t) range).lowest p && leb p (shown_of (ladder t) range).highest)

-- a range that goes from a ladder price to one that is not lower
pub record LadderRange (t : Table) (a : Answer) : Type 0 where
  pub lowest_on : T (is_ladder_price a.lowest t)
  pub highest_on : T (is_ladder_price a.highest t)
  pub rises : a.lowest ≤ a.highest

-- Every answer shows such a range, or 0 and 0.
abbrev pub RangeOrNone : Type 0
RangeOrNone =
    (t : Table) → T (well_formed t) → (percent : Percentage) (s : Bytes) →
    LadderRange t (judged (ladder t) percent s) ⊎
    (((judged (ladder t) percent s).lowest ≡ 0) × ((judged (ladder t) percent s).highest ≡ 0))

-- answered 0 or 6 to 10: "a question not refused for codes, references or order type"
abbrev pub not_refused : ℕ → Bool
not_refused n = eqb n 0 || leb 6 n && leb n 10

-- what holds of an answer b to the price p, where a is the answer to the same question with another order price: it is not refused either,
-- shows the same range, and is accepted exactly where p is a ladder price from the lowest shown to the highest shown, and never where 0 and
-- 0 are shown
pub record SameRange (t : Table) (a b : Answer) (p : ℕ) : Type 0 where
  pub not_refused_lem : T (not_refused b.number)
  pub lowest : b.lowest ≡ a.lowest
  pub highest : b.highest ≡ a.highest
  pub accepted : eqb b.number 0 ≡ (is_ladder_price p t && leb a.lowest p && leb p a.highest)
  pub never : a.lowest ≡ 0 → a.highest ≡ 0 → b.number ≡ 0 → ⊥

-- Demand 3d: for every question not refused for codes, references or order type, whatever order price it is given with the other
-- fields kept.
abbrev pub AnyOrderPrice : Type 0
AnyOrderPrice =
    (t : Table) → T (well_formed t) → (percent : Percentage) (s u : Bytes) → length s ≡ question_bytes → length u ≡ question_bytes →
    SameButPrice s u → T (not_refused (judged (ladder t) percent s).number) →
    SameRange t (judged (ladder t) percent s) (judged (ladder t) percent u) (price_of u)

-- "The code never alters a verdict that gets past its check": two questions that differ in their security codes only, both good, get the same
-- answer, whatever a call names.
abbrev pub SecurityAltersNoAnswer : Type 0
SecurityAltersNoAnswer =
    (found : Found) (s u : Bytes) → length s ≡ length u → SameButSecurity s u → judged_by found s ≡ judged_by found u

-- ---- by two parts

-- The first part and then the second give what judging gave: over any ladder and at any percentage; and by plain numbers, for whatever a call
-- names, a bad table too.
pub record BothParts : Type 0 where
  pub judged_lem : (l : Prices) (percent : Percentage) (s : Bytes) → judged l percent s ≡ then_judged l (prepared l percent s) (price_of s)
  pub by_numbers : (found : Found) (s : Bytes) → judged_by found s ≡ numbers_judged found (prepared_numbers (prepared_by found s)) (price_of s)

-- What the second part answers to any three numbers as a range, also where they come from a stranger: 0 or 6 to 10; the range that it shows goes
-- from a ladder price to one that is not lower, or is 0 and 0; a ladder price x lies in it exactly where x is in the range given and passes the
-- nine-fold rule; and p is accepted exactly where it is such a ladder price.
pub record ByItsNumbers (t : Table) (range : Range) (p : ℕ) : Type 0 where
  pub number : T (not_refused (answer_on (ladder t) range p).number)
  pub ends :
      LadderRange t (answer_on (ladder t) range p) ⊎ (((answer_on (ladder t) range p).lowest ≡ 0) × ((answer_on (ladder t) range p).highest ≡ 0))
  pub shown :
      (x : ℕ) → T (is_ladder_price x t) →
      is_shown range x ≡ (leb (answer_on (ladder t) range p).lowest x && leb x (answer_on (ladder t) range p).highest)
  pub accepted : eqb (answer_on (ladder t) range p).number 0 ≡ (is_ladder_price p t && is_shown range p)

abbrev pub AnyRange : Type 0
AnyRange = (t : Table) → T (well_formed t) → (range : Range) (p : ℕ) → ByItsNumbers t range p

-- ---- on a table by its number

-- A question to a call that names a table: 1 comes first, then 14 with 0 and 0 by a number that names none; else it is judged over that table,
-- at 5 percent.
pub record OnTable (n : ℕ) (s : Bytes) : Type 0 where
  pub of_other_bytes : (length s ≡ question_bytes → ⊥) → judged_by (terms_on n) s ≡ none_shown wrong_length
  pub unknown : length s ≡ question_bytes → unknown_table n ≡ true → judged_by (terms_on n) s ≡ none_shown 14
  pub named : unknown_table n ≡ false → judged_by (terms_on n) s ≡ judged (ladder_named n) five_percent s

abbrev pub JudgedOnTable : Type 0
JudgedOnTable = (n : ℕ) (s : Bytes) → OnTable n s

-- An order price against a range, to a call that names a table: 14 with 0 and 0 by a number that names none; else what the second part answers on
-- that table.
pub record RangeOnTable (n : ℕ) (range : Range) (p : ℕ) : Type 0 where
  pub unknown : unknown_table n ≡ true → prepared_judged_by (terms_on n) range p ≡ none_shown 14
  pub named : unknown_table n ≡ false → prepared_judged_by (terms_on n) range p ≡ answer_on (ladder_named n) range p

abbrev pub AnyRangeOnTable : Type 0
AnyRangeOnTable = (n : ℕ) (range : Range) (p : ℕ) → RangeOnTable n range p

-- Demand 3d on the table that a number names.
abbrev pub AnyOrderPriceOn : Type 0
AnyOrderPriceOn =
    (n : ℕ) (s u : Bytes) → length s ≡ question_bytes → length u ≡ question_bytes → SameButPrice s u →
    T (not_refused (judged_by (terms_on n) s).number) →
    SameRange (table_named n) (judged_by (terms_on n) s) (judged_by (terms_on n) u) (price_of u)

-- ---- numbers

-- 0, 2 to 10 and 15; 1 to 5 and 15
abbrev pub is_question_number : ℕ → Bool
is_question_number n = eqb n 0 || leb 2 n && leb n 10 || eqb n 15

abbrev pub is_refusal : ℕ → Bool
is_refusal n = leb 1 n && leb n 5 || eqb n 15

-- The numbers that a question can get: 0, 2 to 10 and 15 with as many bytes as a question has, and else 1; 1 to 5 and 15 show 0 and 0.
pub record Numbers (a : Answer) (s : Bytes) : Type 0 where
  pub of_a_question : length s ≡ question_bytes → T (is_question_number a.number)
  pub of_other_bytes : (length s ≡ question_bytes → ⊥) → a ≡ none_shown wrong_length
  pub refused : T (is_refusal a.number) → a ≡ none_shown a.number

abbrev pub QuestionNumbers : Type 0
QuestionNumbers = (l : Prices) (percent : Percentage) (s : Bytes) → Numbers (judged l percent s) s

-- No number that a question can get is above 15.
abbrev pub LargestNumber : Type 0
LargestNumber = (n : ℕ) → T (is_question_number n) → n ≤ 15

-- ---- all of them

pub record JudgingLaws : Type 0 where
  pub shown_is_exactly : ShownIsExactly
  pub range_or_none : RangeOrNone
  pub any_order_price : AnyOrderPrice
  pub security_alters_no_answer : SecurityAltersNoAnswer
  pub both_parts : BothParts
  pub any_range : AnyRange
  pub judged_on_table : JudgedOnTable
  pub any_range_on_table : AnyRangeOnTable
  pub any_order_price_on : AnyOrderPriceOn
  pub question_numbers : QuestionNumbers
  pub largest_number : LargestNumber
