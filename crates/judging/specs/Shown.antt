-- The nine-fold rule, and the shown range. Document 01, "Permitted range". Over any ladder l, the list of its prices, and any three numbers as a
-- range. House reading: exactly nine times, and exactly a ninth, fail.
use Rattle.std.specs.Prelude.{ℕ, ◌*◌, Bool, true, ◌&&◌, leb, ltb}
use Rattle.ladder.specs.Ladder.{Prices}
use Rattle.ladder.specs.Search.{first, latest, or_else}
use Rattle.questions.specs.declared.Reference.{Reference}
use Rattle.questions.specs.declared.Reference.TheVariants.{Missing, Price}
use Rattle.ranges.specs.declared.Range.{Range}
use Rattle.judging.specs.declared.Shown.{Shown}

-- a price fails where it is so many times its reference or more, or so small a part of it or less
abbrev pub fold : ℕ
fold = 9

-- "price p passes against N when p is less than 9 times N and 9 times p is more than N .. a missing N passes all"
abbrev pub passes : Reference → ℕ → Bool
passes Missing p = true
passes (Price n) p = ltb p (fold * n) && ltb n (fold * p)

-- p is in the permitted range, and passes
abbrev pub is_shown : Range → ℕ → Bool
is_shown range p = leb range.lowest p && leb p range.highest && passes range.nine_fold p

-- "The shown range is the ladder prices that are in the permitted range and pass the nine-fold rule. If there are none, 0 and 0 are
-- shown.": the first of them and the last, going through the ladder. The law ShownIsExactly says that no other lies between.
unfoldable pub shown_of : Prices → Range → Shown
shown_of l range = record { lowest = or_else 0 (first (is_shown range) l); highest = or_else 0 (latest (is_shown range) l) }
