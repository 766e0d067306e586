-- Rows of counts, one after the other.
use mathlib.Core.Path.{◌≡◌, ap}
use Prim.Native.Nat.{ℕ, zero, suc, ◌+◌, ◌≤◌, ◌<◌}
use native.Mathlib.Omega.{arith}
use mathlib.Core.List.{List, [], ◌∷◌, map}
use lib.ListN.{length, get_or, take}
use Rattle.std.specs.Prelude.{sum}
use Rattle.report.specs.Counts.{Counts, numbers, row, counts_of, AreCounts, total}

-- a row has three columns
module _ (counts : Counts) (some : AreCounts counts) where
  three : (ns : List ℕ) (i : ℕ) → i < length ns →
      sum (get_or (map (λ n. row n some.entries) ns) i []) ≡
      get_or (get_or (map (λ n. row n some.entries) ns) i []) 0 0 + get_or (get_or (map (λ n. row n some.entries) ns) i []) 1 0 +
      get_or (get_or (map (λ n. row n some.entries) ns) i []) 2 0
  three [] i h = absurd (omega arith)
  three (n ∷ ns) zero h = omega arith
  three (n ∷ ns) (suc i) h = three ns i (omega (arith, h))

  three_columns : (i : ℕ) → i < length numbers → sum (get_or counts i []) ≡ get_or (get_or counts i []) 0 0 + get_or (get_or counts i []) 1 0 + get_or (get_or counts i []) 2 0
  unfolding counts_of
  three_columns i h = rw (some.are) (three numbers i h)

-- the next row
next_row : (counts : Counts) (i : ℕ) → i < length counts → total (take (suc i) counts) ≡ total (take i counts) + sum (get_or counts i [])
unfolding total
next_row [] i h = absurd (omega arith)
next_row (r ∷ counts) zero h = omega arith
next_row (r ∷ counts) (suc i) h = omega (arith, next_row counts i (omega (arith, h)))

part_of_total : (counts : Counts) (i : ℕ) → total (take i counts) ≤ total counts
unfolding total
part_of_total [] zero = omega arith
part_of_total [] (suc i) = omega arith
part_of_total (r ∷ counts) zero = omega arith
part_of_total (r ∷ counts) (suc i) = omega (arith, part_of_total counts i)

module _ (counts : Counts) (i : ℕ) (some : AreCounts counts) (h : i < 11) where
  rows : length counts ≡ 11
  unfolding counts_of
  rows = ap length some.are

  -- its three counts, after the rows before it
  pub summed :
      total (take i counts) + (get_or (get_or counts i []) 0 0 + get_or (get_or counts i []) 1 0 + get_or (get_or counts i []) 2 0) ≡
      total (take (suc i) counts)
  summed = omega (arith, three_columns counts some i h, next_row counts i (omega (arith, rows, h)))

  pub row_fits :
      total (take i counts) + (get_or (get_or counts i []) 0 0 + get_or (get_or counts i []) 1 0 + get_or (get_or counts i []) 2 0) ≤ total counts
  row_fits = omega (arith, summed, part_of_total counts (suc i))
