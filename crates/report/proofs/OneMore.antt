-- One record more: the count in its row and its column is one more, and all others are what they were.
use mathlib.Core.Path.{◌≡◌, refl, sym, ◌∙◌, ap}
use Prim.Native.Nat.{ℕ, zero, suc, ◌+◌, ◌<◌, ◌≤◌}
use native.Mathlib.Nat.{add-zero}
use native.Mathlib.Omega.{arith}
use mathlib.Core.Bool.{Bool, true, false, ◌&&◌, cond}
use mathlib.Core.List.{List, [], ◌∷◌, ◌++◌, map}
use lib.Dec.{eqb, eqb→eq}
use lib.ListN.{length}
use Rattle.std.specs.Prelude.{Option, Some, None, option_map, sum, get_or, set}
use Rattle.facts.proofs.Tests.{true_of}
use Rattle.report.specs.Records.{Entry}
use Rattle.report.specs.Counts.{Counts, numbers, is_buy, is_sell, is_unknown, count, row, counts_of, all_added, AreCounts, total, place_in, column_of, raised}
use Rattle.report.proofs.Joining.{one_counted, sum_first, tables_join, total_added}

-- no number stands twice
abbrev unique : List ℕ → Type 0
unique [] = Unit {0}
unique (m ∷ rest) = (place_in rest m ≡ None) × unique rest

numbers_are_unique : unique numbers
unfolding place_in
numbers_are_unique = (refl, (refl, (refl, (refl, (refl, (refl, (refl, (refl, (refl, (refl, (refl, tt)))))))))))

module _ (es : List Entry) (e : Entry) where
  -- the cell of a row, and how it changes
  counted : (n : ℕ) (is_side : Entry → Bool) → count n is_side (es ++ (e ∷ [])) ≡ count n is_side es + cond (eqb e.number n && is_side e) 1 0
  counted n is_side = one_counted (λ x. eqb x.number n && is_side x) es e

  -- another row
  row_stays : (n : ℕ) → eqb e.number n ≡ false → row n (es ++ (e ∷ [])) ≡ row n es
  row_stays n other =
      rw (counted n is_buy, counted n is_sell, counted n is_unknown, other, add-zero (count n is_buy es), add-zero (count n is_sell es), add-zero (count n is_unknown es)) refl

  rows_stay : (ns : List ℕ) → place_in ns e.number ≡ None → map (λ n. row n (es ++ (e ∷ []))) ns ≡ map (λ n. row n es) ns
  unfolding place_in
  rows_stay [] h = refl
  rows_stay (n ∷ ns) h = go (eqb e.number n) (place_in ns e.number) refl refl h (rows_stay ns)
    where
      go : (b : Bool) (place : Option ℕ) → eqb e.number n ≡ b → place_in ns e.number ≡ place → cond b (Some 0) (option_map suc place) ≡ None →
          (place_in ns e.number ≡ None → map (λ n. row n (es ++ (e ∷ []))) ns ≡ map (λ n. row n es) ns) →
          map (λ n. row n (es ++ (e ∷ []))) (n ∷ ns) ≡ map (λ n. row n es) (n ∷ ns)
      go true place f g h more = cc
      go false None f g h more = rw (row_stays n f, more g) refl
      go false (Some i) f g h more = cc

  -- its own row
  own_row : (n : ℕ) → eqb e.number n ≡ true → (j : ℕ) → j ≡ column_of e.side →
      set (row n es) j (get_or (row n es) j 0 + 1) ≡ row n (es ++ (e ∷ []))
  own_row n own j is = go (eqb e.side 1) (eqb e.side 2) refl refl
    where
      go : (b c : Bool) → eqb e.side 1 ≡ b → eqb e.side 2 ≡ c → set (row n es) j (get_or (row n es) j 0 + 1) ≡ row n (es ++ (e ∷ []))
      go true true f g = absurd (omega (arith, eqb→eq e.side 1 (true_of _ f), eqb→eq e.side 2 (true_of _ g)))
      go true false f g = rw (counted n is_buy, counted n is_sell, counted n is_unknown, is, own, f, g, add-zero (count n is_sell es), add-zero (count n is_unknown es)) refl
      go false true f g = rw (counted n is_buy, counted n is_sell, counted n is_unknown, is, own, f, g, add-zero (count n is_buy es), add-zero (count n is_unknown es)) refl
      go false false f g = rw (counted n is_buy, counted n is_sell, counted n is_unknown, is, own, f, g, add-zero (count n is_buy es), add-zero (count n is_sell es)) refl

  -- the table of all rows
  rows_count : (ns : List ℕ) → unique ns → (i j : ℕ) → place_in ns e.number ≡ Some i → j ≡ column_of e.side →
      raised (map (λ n. row n es) ns) i j ≡ map (λ n. row n (es ++ (e ∷ []))) ns
  unfolding place_in
  rows_count [] u i j h is = cc
  rows_count (n ∷ ns) u i j h is = go (eqb e.number n) (place_in ns e.number) refl refl h (λ k g. rows_count ns u.1 k j g is)
    where
      go : (b : Bool) (place : Option ℕ) → eqb e.number n ≡ b → place_in ns e.number ≡ place → cond b (Some 0) (option_map suc place) ≡ Some i →
          ((k : ℕ) → place_in ns e.number ≡ Some k → raised (map (λ n. row n es) ns) k j ≡ map (λ n. row n (es ++ (e ∷ []))) ns) →
          raised (map (λ n. row n es) (n ∷ ns)) i j ≡ map (λ n. row n (es ++ (e ∷ []))) (n ∷ ns)
      go true place f g h more =
          let first : 0 ≡ i = cc in
          let none : place_in ns e.number ≡ None = ap (place_in ns) (eqb→eq e.number n (true_of _ f)) ∙ u.0 in
          rw (← first, own_row n f j is, rows_stay ns none) refl
      go false None f g h more = cc
      go false (Some k) f g h more = let next : suc k ≡ i = cc in rw (← next, row_stays n f, more k g) refl

  -- the table of counts, and its cell
  pub counted_more : (i j : ℕ) → place_in numbers e.number ≡ Some i → j ≡ column_of e.side → raised (counts_of es) i j ≡ counts_of (es ++ (e ∷ []))
  unfolding counts_of
  counted_more i j h is = rows_count numbers numbers_are_unique i j h is

  not_counted : place_in numbers e.number ≡ None → counts_of (es ++ (e ∷ [])) ≡ counts_of es
  unfolding counts_of
  not_counted h = rows_stay numbers h

-- counted into counts of some records
pub one_raised : (counts : Counts) (e : Entry) → AreCounts counts → (i j : ℕ) → place_in numbers e.number ≡ Some i → j ≡ column_of e.side →
    raised counts i j ≡ all_added counts (counts_of (e ∷ []))
one_raised counts e some i j h is = rw (some.are) (counted_more some.entries e i j h is ∙ tables_join some.entries (e ∷ []))

pub none_raised : (counts : Counts) (e : Entry) → AreCounts counts → place_in numbers e.number ≡ None → counts ≡ all_added counts (counts_of (e ∷ []))
none_raised counts e some h = rw (some.are) (sym (not_counted some.entries e h) ∙ tables_join some.entries (e ∷ []))

-- ---- the total of one record

-- 1 where it is counted
abbrev pub ones : Option ℕ → ℕ
ones None = 0
ones (Some i) = 1

module _ (e : Entry) where
  pub one_row : (n : ℕ) → sum (row n (e ∷ [])) ≡ cond (eqb e.number n) 1 0
  one_row n = go (eqb e.number n) (eqb e.side 1) (eqb e.side 2) refl refl refl
    where
      go : (a b c : Bool) → eqb e.number n ≡ a → eqb e.side 1 ≡ b → eqb e.side 2 ≡ c → sum (row n (e ∷ [])) ≡ cond (eqb e.number n) 1 0
      go false b c f g h = rw (f) refl
      go true true true f g h = absurd (omega (arith, eqb→eq e.side 1 (true_of _ g), eqb→eq e.side 2 (true_of _ h)))
      go true true false f g h = rw (f, g, h) refl
      go true false true f g h = rw (f, g, h) refl
      go true false false f g h = rw (f, g, h) refl

  one_total : (ns : List ℕ) → unique ns → total (map (λ n. row n (e ∷ [])) ns) ≡ ones (place_in ns e.number)
  unfolding total place_in
  one_total [] u = refl
  one_total (n ∷ ns) u = go (eqb e.number n) refl (one_row n) (one_total ns u.1)
    where
      go : (b : Bool) → eqb e.number n ≡ b → sum (row n (e ∷ [])) ≡ cond (eqb e.number n) 1 0 → total (map (λ m. row m (e ∷ [])) ns) ≡ ones (place_in ns e.number) →
          total (map (λ m. row m (e ∷ [])) (n ∷ ns)) ≡ ones (place_in (n ∷ ns) e.number)
      go true f one more =
          let none : place_in ns e.number ≡ None = ap (place_in ns) (eqb→eq e.number n (true_of _ f)) ∙ u.0 in
          rw (one, more, none, f) refl
      go false f one more = rw (one, more, f) (same (place_in ns e.number))
        where
          same : (place : Option ℕ) → 0 + ones place ≡ ones (option_map suc place)
          same None = refl
          same (Some i) = refl

pub total_of_one : (e : Entry) → total (counts_of (e ∷ [])) ≡ ones (place_in numbers e.number)
unfolding counts_of
total_of_one e = one_total e numbers numbers_are_unique

pub total_within : (es : List Entry) → total (counts_of es) ≤ length es
unfolding counts_of total
total_within [] = omega arith
total_within (e ∷ es) =
    let joined = ap total (tables_join (e ∷ []) es) ∙ total_added (counts_of (e ∷ [])) (counts_of es) in
    omega (arith, joined, total_of_one e, at_most_one (place_in numbers e.number), total_within es)
  where
    at_most_one : (place : Option ℕ) → ones place ≤ 1
    at_most_one None = omega arith
    at_most_one (Some i) = omega arith

-- ---- the rows that there are

within : (ns : List ℕ) (n i : ℕ) → place_in ns n ≡ Some i → i < length ns
unfolding place_in
within [] n i h = cc
within (m ∷ ns) n i h = go (eqb n m) (place_in ns n) h (within ns n)
  where
    go : (b : Bool) (place : Option ℕ) → cond b (Some 0) (option_map suc place) ≡ Some i → ((k : ℕ) → place ≡ Some k → k < length ns) → i < suc (length ns)
    go true place h more = let first : 0 ≡ i = cc in omega (arith, first)
    go false None h more = cc
    go false (Some k) h more = let next : suc k ≡ i = cc in omega (arith, next, more k refl)

pub row_within : (n i : ℕ) → place_in numbers n ≡ Some i → i < 11
row_within n i h = within numbers n i h

-- ---- a count is no more than the total

in_sum : (r : List ℕ) (j : ℕ) → get_or r j 0 ≤ sum r
in_sum [] zero = omega arith
in_sum [] (suc j) = omega arith
in_sum (x ∷ r) zero = omega (arith, sum_first x r)
in_sum (x ∷ r) (suc j) = omega (arith, sum_first x r, in_sum r j)

pub in_total : (c : Counts) (i j : ℕ) → get_or (get_or c i []) j 0 ≤ total c
unfolding total
in_total [] zero j = in_sum [] j
in_total [] (suc i) j = in_sum [] j
in_total (r ∷ c) zero j = omega (arith, in_sum r j)
in_total (r ∷ c) (suc i) j = omega (arith, in_total c i j)
