-- What the arguments of pricecheck say. Document 02, c: a table is named "by its argument", and "for any other argument or more than one" none is.
-- Decided: an argument is the number of a table as one digit, and nothing else.
use Rattle.std.specs.Prelude.{◌≡◌, ℕ, ◌-◌, Bool, ◌&&◌, cond, eqb, leb, length, get_or}
use Rattle.tables.specs.Named.{usual_table}
use Rattle.limits.specs.Terms.{Found, terms_on}
use Rattle.little_endian.specs.Numbers.{Bytes}

-- a number that names no table
abbrev pub no_table : ℕ
no_table = 0

-- one character, from "0" to "9"
abbrev pub is_digit : Bytes → Bool
is_digit text = eqb (length text) 1 && leb 48 (get_or text 0 0) && leb (get_or text 0 0) 57

-- the number that an argument says
abbrev pub number_said : Bytes → ℕ
number_said text = cond (is_digit text) (get_or text 0 0 - 48) no_table

-- the table of a run, by how many arguments there are and the first of them
abbrev pub table_asked : ℕ → Bytes → ℕ
table_asked count first = cond (eqb count 0) usual_table (cond (eqb count 1) (number_said first) no_table)

-- what there is to work by is what some arguments say. Which arguments came is the system's, and no contract can say it
pub record Asked (found : Found) : Type 0 where
  pub count : ℕ
  pub first : Bytes
  pub says : found ≡ terms_on (table_asked count first)
