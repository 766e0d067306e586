-- The numbers of document 01, "Why a question comes back", case by case: those of a verdict. Those before them are in
-- crates/preparing/specs/Numbers.antt.
use Rattle.std.specs.Prelude.{ℕ}
use Rattle.judging.specs.declared.Verdict.{Verdict}
use Rattle.judging.specs.declared.Verdict.TheVariants.{Accepted, OutsideLadder, BetweenPrices, BelowLowest, AboveHighest, NineFold}

-- "Number 0 is acceptance." The client who enters the order: 6 to 10
abbrev pub verdict_number : Verdict → ℕ
verdict_number Accepted = 0
verdict_number OutsideLadder = 6
verdict_number BetweenPrices = 7
verdict_number BelowLowest = 8
verdict_number AboveHighest = 9
verdict_number NineFold = 10
