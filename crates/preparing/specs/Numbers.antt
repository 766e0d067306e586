-- The number of why a question has no range, and what the first part gives as plain numbers. Document 01, "Why a question comes back";
-- document 02, f.
use Rattle.std.specs.Prelude.{ℕ, Ok, Err}
use Rattle.limits.specs.Terms.{bad_terms_number}
use Rattle.questions.specs.Missing.{reference_of, number_of}
use Rattle.ranges.specs.declared.Range.{Range}
use Rattle.ranges.specs.declared.Refusal.{Refusal}
use Rattle.ranges.specs.declared.Refusal.TheVariants.{UnknownCode, BadSecurityCode, OffLadder, Disagreement, NoOpposite}
use Rattle.preparing.specs.declared.Unprepared.{Unprepared}
use Rattle.preparing.specs.declared.Unprepared.TheVariants.{WrongLength, WithBadTerms, Refused}
use Rattle.preparing.specs.declared.PreparedNumbers.{PreparedNumbers}
use Rattle.preparing.specs.Prepared.{Prepared}

-- the calling program: not as many bytes as a question has. Document 01 leaves open what a single question of another length gets
abbrev pub wrong_length : ℕ
wrong_length = 1

-- the calling program: 2 and 15; the reference feed: 3 and 4; the client who enters the order: 5
abbrev pub refusal_number : Refusal → ℕ
refusal_number UnknownCode = 2
refusal_number BadSecurityCode = 15
refusal_number OffLadder = 3
refusal_number Disagreement = 4
refusal_number NoOpposite = 5

abbrev pub unprepared_number : Unprepared → ℕ
unprepared_number WrongLength = wrong_length
unprepared_number (WithBadTerms bad) = bad_terms_number bad
unprepared_number (Refused refusal) = refusal_number refusal

-- ---- as plain numbers

-- a range, with 0 for a missing nine-fold reference
abbrev pub range_numbers : Range → PreparedNumbers
range_numbers range = record { number = 0; lowest = range.lowest; highest = range.highest; nine_fold = number_of range.nine_fold }

-- none, and why
abbrev pub none_prepared : ℕ → PreparedNumbers
none_prepared n = record { number = n; lowest = 0; highest = 0; nine_fold = 0 }

abbrev pub prepared_numbers : Prepared → PreparedNumbers
prepared_numbers (Ok range) = range_numbers range
prepared_numbers (Err why) = none_prepared (unprepared_number why)

-- the range of three numbers
abbrev pub range_from : ℕ → ℕ → ℕ → Range
range_from lowest highest nine_fold = record { lowest = lowest; highest = highest; nine_fold = reference_of nine_fold }
