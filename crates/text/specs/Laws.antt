-- The laws of text. Each is a field of the record TextLaws at the end, which proofs/Laws.antt proves as text_laws: DecimalIs is the field
-- decimal_is.
use Rattle.std.specs.Prelude.{◌≡◌, ℕ, ◌+◌, ◌*◌, ◌-◌, ◌/◌, ◌%◌, ◌^◌, ◌<◌, ◌≤◌, Bool, true, cond, ◌&&◌, [], ◌∷◌, ◌++◌, T, ltb, leb, length, get_or}
use Rattle.text.specs.Decimal.{Text, digit, decimal, field}
use Rattle.text.specs.declared.Filling.{Filling}
use Rattle.text.specs.Ending.{ending_at, StandsFrom, Written, Filled, FilledTo}

-- One digit, or the last one after those of a tenth.
abbrev pub DecimalIs : Type 0
DecimalIs = (n : ℕ) → decimal n ≡ cond (ltb n 10) (digit n ∷ []) (decimal (n / 10) ++ (digit (n % 10) ∷ []))

-- the number that digits stand for, after those that stand for v
abbrev pub value_after : ℕ → Text → ℕ
value_after v [] = v
value_after v (c ∷ s) = value_after (v * 10 + (c - 48)) s

-- every character is a digit
abbrev pub are_digits : Text → Bool
are_digits [] = true
are_digits (c ∷ s) = leb 48 c && leb c 57 && are_digits s

-- Read back, the characters stand for the number; they are digits, at least one, and the first is 0 only if it is the only one.
pub record Decimal (n : ℕ) : Type 0 where
  pub reads_back : value_after 0 (decimal n) ≡ n
  pub digits : T (are_digits (decimal n))
  pub some_digit : 0 < length (decimal n)
  pub no_zero_in_front : get_or (decimal n) 0 0 ≡ digit 0 → decimal n ≡ digit 0 ∷ []

abbrev pub DecimalReadsBack : Type 0
DecimalReadsBack = (n : ℕ) → Decimal n

-- A number below a power of ten has no more digits than the power says.
abbrev pub DecimalIsShort : Type 0
DecimalIsShort = (k n : ℕ) → 0 < k → n < 10 ^ k → length (decimal n) ≤ k

-- With the character after it, a number of 64 bits has no more than 21 characters, one of 32 bits no more than 11.
pub record Short (n after : ℕ) : Type 0 where
  pub of_64_bits : n < 18446744073709551616 → length (field n after) ≤ 21
  pub of_32_bits : n < 4294967296 → length (field n after) ≤ 11

abbrev pub NumbersAreShort : Type 0
NumbersAreShort = (n after : ℕ) → Short n after

-- What is written, and then what is written in front of it, are written as one.
abbrev pub WrittenInFront : Type 0
WrittenInFront = (x y : Text) (was next now : Filling) → Written x was next → Written y next now → Written (y ++ x) was now

-- What is written into a text in which nothing is written yet stands from there to its end.
abbrev pub StandsAtEnd : Type 0
StandsAtEnd = (x text : Text) → StandsFrom (length text - length x) x (ending_at (length text) x text)

-- A text is filled from its end, part by part: it begins with nothing written; what is left fits; once the last part x of it is written, the
-- text is filled further; the room keeps its length; and where nothing is left, all that was to be written is written.
pub record ByParts (all : Text) (was : Filling) : Type 0 where
  pub begun : Filled all all was was
  pub fits : {rest : Text} {now : Filling} → Filled all rest was now → length all ≤ was.start → length rest ≤ now.start
  pub further : {rest less x : Text} {now next : Filling} → Filled all rest was now → rest ≡ less ++ x → Written x now next →
      Filled all less was next
  pub same_length : {rest : Text} {now : Filling} → Filled all rest was now → length now.room.now ≡ length was.room.now
  pub ended : {now : Filling} → Filled all [] was now → Written all was now

abbrev pub FilledByParts : Type 0
FilledByParts = (all : Text) (was : Filling) → ByParts all was

-- The same of lists, whatever the end, also one past the text: it begins with nothing written; the last part x of what is left fits, and once
-- it is written the text is filled further; its length stays; and where nothing is left, it ends with all that was to be written.
pub record ByPartsTo (all : Text) (end : ℕ) (s : Text) : Type 0 where
  pub begun : FilledTo all all end end s s
  pub fits : (less x : Text) (at : ℕ) (now : Text) → FilledTo all (less ++ x) at end s now → length all ≤ end → end ≤ length s →
      (length x ≤ at) × (at ≤ length now)
  pub further : (rest : Text) (at : ℕ) (now : Text) → FilledTo all rest at end s now → end ≤ length s → (less x : Text) → rest ≡ less ++ x →
      (start : ℕ) → start + length x ≡ at → (next : Text) → next ≡ ending_at at x now → FilledTo all less start end s next
  pub same_length : (rest : Text) (at : ℕ) (now : Text) → FilledTo all rest at end s now → end ≤ length s → length now ≡ length s
  pub ended : (at : ℕ) (now : Text) → FilledTo all [] at end s now → (at + length all ≡ end) × (now ≡ ending_at end all s)

abbrev pub FilledToAnyEnd : Type 0
FilledToAnyEnd = (all : Text) (end : ℕ) (s : Text) → ByPartsTo all end s

-- ---- all of them

pub record TextLaws : Type 0 where
  pub decimal_is : DecimalIs
  pub decimal_reads_back : DecimalReadsBack
  pub decimal_is_short : DecimalIsShort
  pub numbers_are_short : NumbersAreShort
  pub written_in_front : WrittenInFront
  pub stands_at_end : StandsAtEnd
  pub filled_by_parts : FilledByParts
  pub filled_to_any_end : FilledToAnyEnd
