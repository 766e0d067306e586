-- The verdict on a price against a permitted range. "Checks run in number order; the first that applies is the answer."
-- Each of these checks is caused by the client who enters the order. Document 01, "Why a question comes back".
use Rattle.std.specs.Prelude.{ℕ, Bool, not, cond, ltb}
use Rattle.ladder.specs.Ladder.{Prices}
use Rattle.facts.specs.Lists.{holds}
use Rattle.ladder.specs.Places.{is_outside}
use Rattle.ranges.specs.declared.Range.{Range}
use Rattle.judging.specs.declared.Verdict.{Verdict}
use Rattle.judging.specs.declared.Verdict.TheVariants.{Accepted, OutsideLadder, BetweenPrices, BelowLowest, AboveHighest, NineFold}
use Rattle.judging.specs.Shown.{passes}

-- 6: "price under 0.010 or over 9,995.000": the ends of the ladder
abbrev pub outside : Prices → ℕ → Bool
outside l p = is_outside p l

-- 7: "price between two ladder prices": off the ladder, but within its ends, since check 6 comes first
abbrev pub off_ladder : Prices → ℕ → Bool
off_ladder l p = not (holds p l)

-- 8: "price below the permitted lowest"
abbrev pub below_lowest : Range → ℕ → Bool
below_lowest range p = ltb p range.lowest

-- 9: "price above the permitted highest"
abbrev pub above_highest : Range → ℕ → Bool
above_highest range p = ltb range.highest p

-- 10: "price fails the nine-fold rule"
abbrev pub fails_nine_fold : Range → ℕ → Bool
fails_nine_fold range p = not (passes range.nine_fold p)

unfoldable pub verdict_of : Prices → Range → ℕ → Verdict
verdict_of l range p =
    cond (outside l p) OutsideLadder
    (cond (off_ladder l p) BetweenPrices
    (cond (below_lowest range p) BelowLowest
    (cond (above_highest range p) AboveHighest
    (cond (fails_nine_fold range p) NineFold
    Accepted))))
