-- How far apart lowest and highest are. Document 02, g: "one line gives the number of questions with a shown range, the sum of highest less
-- lowest over them in mils, and the smallest and largest such width (0 and 0 if there are none)".
use Rattle.std.specs.Prelude.{ℕ, ◌+◌, ◌-◌, min, max, Bool, ◌&&◌, not, cond, List, [], ◌∷◌, length, eqb, sum}
use Rattle.ladder.specs.Ladder.{Prices}
use Rattle.limits.specs.declared.Percentage.{Percentage}
use Rattle.little_endian.specs.Numbers.{Bytes}
use Rattle.judging.specs.declared.Answer.{Answer}
use Rattle.report.specs.Records.{answers_of}
use Rattle.report.specs.declared.Widths.{Widths}

-- "a shown range": where 0 and 0 are shown there is none
abbrev pub shows_range : Answer → Bool
shows_range a = not (eqb a.lowest 0 && eqb a.highest 0)

-- "highest less lowest"; the law WidthOfARange says that no answer's lowest price is above its highest
abbrev pub width : Answer → ℕ
width a = a.highest - a.lowest

-- the widths of the ranges that are shown
unfoldable pub shown : List Answer → List ℕ
shown [] = []
shown (a ∷ rest) = cond (shows_range a) (width a ∷ shown rest) (shown rest)

-- the smallest and the largest of some numbers, 0 of none
unfoldable pub smallest : List ℕ → ℕ
smallest [] = 0
smallest (w ∷ []) = w
smallest (w ∷ v ∷ rest) = min w (smallest (v ∷ rest))

unfoldable pub largest : List ℕ → ℕ
largest [] = 0
largest (w ∷ rest) = max w (largest rest)

abbrev pub widths_by : List ℕ → Widths
widths_by ws = record { ranges = length ws; sum = sum ws; smallest = smallest ws; largest = largest ws }

unfoldable pub widths_of : List Answer → Widths
widths_of answers = widths_by (shown answers)

-- of a file
abbrev pub file_widths : Prices → Percentage → Bytes → Widths
file_widths l percent s = widths_of (answers_of l percent s)

-- ---- two parts of a file, together

-- the smallest of both, of which the first has m numbers and the second n
abbrev pub smaller : ℕ → ℕ → ℕ → ℕ → ℕ
smaller m a n b = cond (eqb n 0) a (cond (eqb m 0) b (min a b))

unfoldable pub together : Widths → Widths → Widths
together a b =
    record {
      ranges = a.ranges + b.ranges;
      sum = a.sum + b.sum;
      smallest = smaller a.ranges a.smallest b.ranges b.smallest;
      largest = max a.largest b.largest;
    }
