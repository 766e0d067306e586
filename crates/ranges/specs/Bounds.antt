-- What bounds a range: the limits of a reference, and nine spreads from it. What is missing stays missing.
-- Over any ladder l, the list of its prices, and any percentage.
use Rattle.std.specs.Prelude.{ℕ, Option}
use Rattle.ladder.specs.Ladder.{Prices}
use Rattle.ladder.specs.Places.{first_price, last_price}
use Rattle.ladder.specs.Spreads.{spreads_up, spreads_down}
use Rattle.questions.specs.declared.Reference.{Reference}
use Rattle.questions.specs.declared.Reference.TheVariants.{Missing, Price}
use Rattle.questions.specs.Missing.{as_reference}

-- what a limit or a step finds from a reference; from one that is missing, nothing. (From a price outside the ladder's ends it finds nothing
-- either: check 3 refuses such a price before its range is asked for.) Document 01's Low(R) of a reference that may be missing is
-- from_reference (lower_limit_found l percent) R, and High(R) the same with upper_limit_found
abbrev pub from_reference : (ℕ → Option ℕ) → Reference → Reference
from_reference find Missing = Missing
from_reference find (Price r) = as_reference (find r)

-- how many spreads an enhanced limit order may go beyond the opposite queue
abbrev pub enhanced_spreads : ℕ
enhanced_spreads = 9

-- so many spreads above a reference, and below
abbrev pub enhanced_above : Prices → Reference → Reference
enhanced_above l reference = from_reference (λ (r : ℕ). spreads_up l r enhanced_spreads) reference

abbrev pub enhanced_below : Prices → Reference → Reference
enhanced_below l reference = from_reference (λ (r : ℕ). spreads_down l r enhanced_spreads) reference

-- "'Bottom' and 'top' are the ladder's ends."
abbrev pub bottom : Prices → ℕ
bottom l = first_price l

abbrev pub top : Prices → ℕ
top l = last_price l
