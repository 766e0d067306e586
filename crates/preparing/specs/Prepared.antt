-- The first part of judging. "The first part takes a question without its order price and gives its permitted range with its nine-fold reference, or
-- one of 2 to 5", or 15. Document 02, e and f.
use Rattle.std.specs.Prelude.{cond, eqb, length, Result, Ok, Err}
use Rattle.ladder.specs.Ladder.{Prices}
use Rattle.limits.specs.declared.Percentage.{Percentage}
use Rattle.limits.specs.declared.terms.BadTerms.{BadTerms}
use Rattle.limits.specs.Terms.{Found}
use Rattle.little_endian.specs.Numbers.{Bytes}
use Rattle.questions.specs.Record.{question_bytes, codes_of, references_of}
use Rattle.ranges.specs.declared.Range.{Range}
use Rattle.ranges.specs.Readings.{Reading, reading_of}
use Rattle.preparing.specs.declared.Unprepared.{Unprepared}
use Rattle.preparing.specs.declared.Unprepared.TheVariants.{WrongLength, WithBadTerms, Refused}

-- a permitted range, which the nine-fold rule has not cut, with the reference of that rule; or why there is none
abbrev pub Prepared : Type 0
Prepared = Result Range Unprepared

abbrev pub prepared_reading : Reading → Prepared
prepared_reading (Ok range) = Ok range
prepared_reading (Err refusal) = Err (Refused refusal)

-- of a question as bytes, by its codes and its references
unfoldable pub prepared : Prices → Percentage → Bytes → Prepared
prepared l percent s =
    cond (eqb (length s) question_bytes) (prepared_reading (reading_of l percent (codes_of s) (references_of s))) (Err WrongLength)

-- why there is no range where there is nothing to work by: that comes after a wrong length
abbrev pub without_terms : BadTerms → Bytes → Unprepared
without_terms bad s = cond (eqb (length s) question_bytes) (WithBadTerms bad) WrongLength

-- the same for a call that names a table, by what there is to work by
abbrev pub prepared_by : Found → Bytes → Prepared
prepared_by (Ok basis) s = prepared basis.prices basis.percentage s
prepared_by (Err bad) s = Err (without_terms bad s)
