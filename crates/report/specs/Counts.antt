-- How many records have which side and which number. Document 02, g: "counts by side and by answer number, with a third column for questions
-- whose side is unknown".
use Rattle.std.specs.Prelude.{◌≡◌, ℕ, suc, ◌+◌, Bool, ◌&&◌, not, cond, List, [], ◌∷◌, map, eqb, set, get_or, count_by, sum, Option, Some, None, option_map}
use Rattle.rules.specs.Rules.{known_side}
use Rattle.ladder.specs.Ladder.{Prices}
use Rattle.limits.specs.declared.Percentage.{Percentage}
use Rattle.little_endian.specs.Numbers.{Bytes}
use Rattle.report.specs.Records.{Entry, entries_of}

-- a row of three columns for each number
abbrev pub Counts : Type 0
Counts = List (List ℕ)

-- "for each number a question can get (0, 2 to 10, 15, rising)"
abbrev pub numbers : List ℕ
numbers = 0 ∷ 2 ∷ 3 ∷ 4 ∷ 5 ∷ 6 ∷ 7 ∷ 8 ∷ 9 ∷ 10 ∷ 15 ∷ []

-- "buy, sell and unknown"
abbrev pub is_buy : Entry → Bool
is_buy e = eqb e.side 1

abbrev pub is_sell : Entry → Bool
is_sell e = eqb e.side 2

abbrev pub is_unknown : Entry → Bool
is_unknown e = not (known_side e.side)

-- how many records with a number pass a test of their side
abbrev pub count : ℕ → (Entry → Bool) → List Entry → ℕ
count n is_side entries = count_by (λ e. eqb e.number n && is_side e) entries

-- the row of a number: the three columns
abbrev pub row : ℕ → List Entry → List ℕ
row n entries = count n is_buy entries ∷ count n is_sell entries ∷ count n is_unknown entries ∷ []

unfoldable pub counts_of : List Entry → Counts
counts_of entries = map (λ n. row n entries) numbers

-- of a file
abbrev pub file_counts : Prices → Percentage → Bytes → Counts
file_counts l percent s = counts_of (entries_of l percent s)

-- ---- two parts of a file, together

-- two rows, column by column
unfoldable pub added : List ℕ → List ℕ → List ℕ
added [] more = more
added (a ∷ rest) [] = a ∷ rest
added (a ∷ rest) (b ∷ more) = (a + b) ∷ added rest more

-- two tables of counts, row by row
unfoldable pub all_added : Counts → Counts → Counts
all_added [] more = more
all_added (a ∷ rest) [] = a ∷ rest
all_added (a ∷ rest) (b ∷ more) = added a b ∷ all_added rest more

-- "the sum of all counts"
unfoldable pub total : Counts → ℕ
total [] = 0
total (a ∷ rest) = sum a + total rest

-- ---- where a record is counted

-- the row of a number, from 0: its place among the numbers; none where no question can get it
unfoldable pub place_in : List ℕ → ℕ → Option ℕ
place_in [] n = None
place_in (m ∷ rest) n = cond (eqb n m) (Some 0) (option_map suc (place_in rest n))

-- the column of a side, from 0
abbrev pub column_of : ℕ → ℕ
column_of side = cond (eqb side 1) 0 (cond (eqb side 2) 1 2)

-- one more in row i and column j
abbrev pub raised : Counts → ℕ → ℕ → Counts
raised counts i j = set counts i (set (get_or counts i []) j (get_or (get_or counts i []) j 0 + 1))

-- ---- counts of some records

-- So a table of counts has its rows and columns; which records those are does not matter.
pub record AreCounts (counts : Counts) : Type 0 where
  pub entries : List Entry
  pub are : counts ≡ counts_of entries
