-- Counts of lists that stand end to end.
use mathlib.Core.Path.{◌≡◌, refl, ◌∙◌}
use Prim.Native.Nat.{ℕ, ◌+◌, ◌≤◌}
use native.Mathlib.Nat.{add_assoc}
use native.Mathlib.Omega.{arith}
use mathlib.Core.Bool.{Bool, true, false, cond}
use mathlib.Core.List.{List, [], ◌∷◌, ◌++◌, map}
use lib.ListN.{length}
use Rattle.std.specs.Prelude.{fold, count_by, sum}
use Rattle.std.proofs.lemmas.List.Sums.{fold-append}
use Rattle.report.specs.Records.{Entry}
use Rattle.report.specs.Counts.{Counts, numbers, row, counts_of, added, all_added, total}

module _ {A : Type 0} (p : A → Bool) where
  -- counted on from n
  counted_from : (n : ℕ) (xs : List A) → fold (λ a x. a + cond (p x) 1 0) n xs ≡ n + count_by p xs
  counted_from n [] = omega arith
  counted_from n (x ∷ xs) = omega (arith, counted_from (n + cond (p x) 1 0) xs, counted_from (0 + cond (p x) 1 0) xs)

  pub counts_join : (xs ys : List A) → count_by p (xs ++ ys) ≡ count_by p xs + count_by p ys
  counts_join xs ys = fold-append (λ a x. a + cond (p x) 1 0) 0 xs ys ∙ counted_from (count_by p xs) ys

  pub one_counted : (xs : List A) (x : A) → count_by p (xs ++ (x ∷ [])) ≡ count_by p xs + cond (p x) 1 0
  one_counted xs x = fold-append (λ a x. a + cond (p x) 1 0) 0 xs (x ∷ [])

  pub not_more : (xs : List A) → count_by p xs ≤ length xs
  not_more [] = omega arith
  not_more (x ∷ xs) = omega (arith, counted_from (0 + cond (p x) 1 0) xs, not_more xs, at_most_one (p x))
    where
      at_most_one : (b : Bool) → cond b 1 0 ≤ 1
      at_most_one true = omega arith
      at_most_one false = omega arith

-- ---- rows, and tables of counts

module _ (xs ys : List Entry) where
  pub row_joins : (n : ℕ) → row n (xs ++ ys) ≡ added (row n xs) (row n ys)
  unfolding added
  row_joins n = rw (counts_join _ xs ys, counts_join _ xs ys, counts_join _ xs ys) refl

  rows_join : (ns : List ℕ) → map (λ n. row n (xs ++ ys)) ns ≡ all_added (map (λ n. row n xs) ns) (map (λ n. row n ys) ns)
  unfolding all_added
  rows_join [] = refl
  rows_join (n ∷ ns) = rw (row_joins n, rows_join ns) refl

  pub tables_join : counts_of (xs ++ ys) ≡ all_added (counts_of xs) (counts_of ys)
  unfolding counts_of
  tables_join = rows_join numbers

pub added_assoc : (x y z : List ℕ) → added (added x y) z ≡ added x (added y z)
unfolding added
added_assoc [] y z = refl
added_assoc (a ∷ x) [] z = refl
added_assoc (a ∷ x) (b ∷ y) [] = refl
added_assoc (a ∷ x) (b ∷ y) (c ∷ z) = rw (add_assoc a b c, added_assoc x y z) refl

pub all_added_assoc : (x y z : Counts) → all_added (all_added x y) z ≡ all_added x (all_added y z)
unfolding all_added
all_added_assoc [] y z = refl
all_added_assoc (a ∷ x) [] z = refl
all_added_assoc (a ∷ x) (b ∷ y) [] = refl
all_added_assoc (a ∷ x) (b ∷ y) (c ∷ z) = rw (added_assoc a b c, all_added_assoc x y z) refl

-- ---- their total

summed_from : (n : ℕ) (xs : List ℕ) → fold (λ a x. a + x) n xs ≡ n + sum xs
summed_from n [] = omega arith
summed_from n (x ∷ xs) = omega (arith, summed_from (n + x) xs, summed_from (0 + x) xs)

pub sum_first : (x : ℕ) (xs : List ℕ) → sum (x ∷ xs) ≡ x + sum xs
sum_first x xs = omega (arith, summed_from (0 + x) xs)

pub sum_joins : (xs ys : List ℕ) → sum (xs ++ ys) ≡ sum xs + sum ys
sum_joins xs ys = fold-append (λ a x. a + x) 0 xs ys ∙ summed_from (sum xs) ys

sum_added : (x y : List ℕ) → sum (added x y) ≡ sum x + sum y
unfolding added
sum_added [] y = omega arith
sum_added (a ∷ x) [] = omega arith
sum_added (a ∷ x) (b ∷ y) =
    omega (arith, sum_first (a + b) (added x y), sum_first a x, sum_first b y, sum_added x y)

pub total_added : (x y : Counts) → total (all_added x y) ≡ total x + total y
unfolding all_added total
total_added [] y = omega arith
total_added (a ∷ x) [] = omega arith
total_added (a ∷ x) (b ∷ y) = omega (arith, sum_added a b, total_added x y)
