-- What limits are worked out by, and questions are judged by: a ladder and a percentage; and of a call that names a table, which these are, or why
-- there are none. Document 02, c.
use Rattle.std.specs.Prelude.{ℕ, cond, Result, Ok, Err}
use Rattle.tables.specs.Named.{unknown_table}
use Rattle.ladder.specs.Ladder.{Prices}
use Rattle.ladder.specs.Layout.{prices_of}
use Rattle.ladder.specs.Named.{ladder_named}
use Rattle.limits.specs.declared.Percentage.{Percentage}
use Rattle.limits.specs.declared.terms.Terms.{Terms}
use Rattle.limits.specs.declared.terms.BadTerms.{BadTerms}
use Rattle.limits.specs.declared.terms.BadTerms.TheVariants.{UnknownTable}
use Rattle.limits.specs.Limits.{five_percent}

-- the prices of a ladder, and a percentage
pub record Basis : Type 0 where
  pub prices : Prices
  pub percentage : Percentage

-- what is there to work by, or why there is nothing
abbrev pub Found : Type 0
Found = Result Basis BadTerms

-- "14 table number not 1 to 3"
abbrev pub bad_terms_number : BadTerms → ℕ
bad_terms_number UnknownTable = 14

-- for a call that names a table: that table, and 5 percent
abbrev pub terms_on : ℕ → Found
terms_on table = cond (unknown_table table) (Err UnknownTable) (Ok (record { prices = ladder_named table; percentage = five_percent }))

-- the same as the code holds it
abbrev pub basis_of : Terms → Basis
basis_of terms = record { prices = prices_of terms.table; percentage = terms.percentage }

abbrev pub basis_found : Result Terms BadTerms → Found
basis_found (Ok terms) = Ok (basis_of terms)
basis_found (Err bad) = Err bad
