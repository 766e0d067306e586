-- Widths of lists that stand end to end, and one answer more.
use mathlib.Core.Path.{◌≡◌, refl, sym, ◌∙◌, ap}
use Prim.Native.Nat.{ℕ, zero, suc, ◌+◌, ◌-◌, ◌*◌, ◌≤◌, min, max}
use native.Mathlib.Nat.{add-zero, zero-add, add_assoc}
use native.Mathlib.Omega.{arith}
use mathlib.Core.Bool.{Bool, true, false, ◌&&◌, cond}
use mathlib.Core.List.{List, [], ◌∷◌, ◌++◌}
use lib.Dec.{eqb}
use lib.ListN.{length, length-append}
use borrow.Author.Tests.{ne_eqb}
use Rattle.judging.specs.declared.Answer.{Answer}
use Rattle.batch.specs.Record.{answer_bytes, answer_at}
use Rattle.report.specs.Records.{answers_in}
use Rattle.report.specs.declared.Widths.{Widths}
use Rattle.report.specs.Widths.{shows_range, width, shown, smallest, largest, widths_of, smaller, together}
use Rattle.report.proofs.Joining.{sum_joins}

pub max_zero : (n : ℕ) → max n 0 ≡ n
max_zero n = omega arith

-- ---- one answer more

pub no_wider : (w : Widths) (a : Answer) → shows_range a ≡ false → together w (widths_of (a ∷ [])) ≡ w
unfolding widths_of together shown smallest largest
no_wider w a h = rw (h, add-zero w.ranges, add-zero w.sum, max_zero w.largest) refl

pub with_width : (w : Widths) (a : Answer) → shows_range a ≡ true →
    together w (widths_of (a ∷ [])) ≡
    record {
      ranges = w.ranges + 1;
      sum = w.sum + width a;
      smallest = cond (eqb w.ranges 0) (width a) (min w.smallest (width a));
      largest = max w.largest (width a);
    }
unfolding widths_of together shown smallest largest
with_width w a h = rw (h, zero-add (width a), max_zero (width a)) refl

-- ---- two lists

none_in_both : (m n : ℕ) → eqb (m + n) 0 ≡ (eqb m 0 && eqb n 0)
none_in_both zero n = rw (zero-add n) refl
none_in_both (suc m) n = rw (ne_eqb (suc m + n) 0 (λ e. omega (arith, e)), ne_eqb (suc m) 0 (λ e. omega (arith, e))) refl

smaller_assoc : (m a n b k c : ℕ) → smaller m a (n + k) (smaller n b k c) ≡ smaller (m + n) (smaller m a n b) k c
smaller_assoc m a n b k c = go (eqb m 0) (eqb n 0) (eqb k 0) refl refl refl
  where
    go : (x y z : Bool) → eqb m 0 ≡ x → eqb n 0 ≡ y → eqb k 0 ≡ z → smaller m a (n + k) (smaller n b k c) ≡ smaller (m + n) (smaller m a n b) k c
    go true true true f g h = rw (none_in_both n k, none_in_both m n, f, g, h) refl
    go true true false f g h = rw (none_in_both n k, none_in_both m n, f, g, h) refl
    go true false true f g h = rw (none_in_both n k, none_in_both m n, f, g, h) refl
    go true false false f g h = rw (none_in_both n k, none_in_both m n, f, g, h) refl
    go false true true f g h = rw (none_in_both n k, none_in_both m n, f, g, h) refl
    go false true false f g h = rw (none_in_both n k, none_in_both m n, f, g, h) refl
    go false false true f g h = rw (none_in_both n k, none_in_both m n, f, g, h) refl
    go false false false f g h = rw (none_in_both n k, none_in_both m n, f, g, h) (omega arith)

pub together_assoc : (a b c : Widths) → together (together a b) c ≡ together a (together b c)
unfolding together
together_assoc a b c =
    let low = smaller_assoc a.ranges a.smallest b.ranges b.smallest c.ranges c.smallest in
    let high : max (max a.largest b.largest) c.largest ≡ max a.largest (max b.largest c.largest) = omega arith in
    rw (add_assoc a.ranges b.ranges c.ranges, add_assoc a.sum b.sum c.sum, high, ← low) refl

shown_joins : (xs ys : List Answer) → shown (xs ++ ys) ≡ shown xs ++ shown ys
unfolding shown
shown_joins [] ys = refl
shown_joins (x ∷ xs) ys = go (shows_range x) refl (shown_joins xs ys)
  where
    go : (b : Bool) → shows_range x ≡ b → shown (xs ++ ys) ≡ shown xs ++ shown ys →
        cond (shows_range x) (width x ∷ shown (xs ++ ys)) (shown (xs ++ ys)) ≡ cond (shows_range x) (width x ∷ shown xs) (shown xs) ++ shown ys
    go true h more = rw (h, more) refl
    go false h more = rw (h, more) refl

smallest_first : (w : ℕ) (ws : List ℕ) → smallest (w ∷ ws) ≡ smaller 1 w (length ws) (smallest ws)
unfolding smallest
smallest_first w [] = refl
smallest_first w (v ∷ ws) = rw (ne_eqb (suc (length ws)) 0 (λ e. omega (arith, e))) refl

smallest_joins : (xs ys : List ℕ) → smallest (xs ++ ys) ≡ smaller (length xs) (smallest xs) (length ys) (smallest ys)
unfolding smallest
smallest_joins [] [] = refl
smallest_joins [] (y ∷ ys) = rw (ne_eqb (suc (length ys)) 0 (λ e. omega (arith, e))) refl
smallest_joins (x ∷ xs) ys =
    let count : 1 + length xs ≡ suc (length xs) = omega arith in
    smallest_first x (xs ++ ys) ∙
    rw (length-append xs ys, smallest_joins xs ys, smaller_assoc 1 x (length xs) (smallest xs) (length ys) (smallest ys), ← smallest_first x xs, count) refl

largest_joins : (xs ys : List ℕ) → largest (xs ++ ys) ≡ max (largest xs) (largest ys)
unfolding largest
largest_joins [] ys = omega arith
largest_joins (x ∷ xs) ys = omega (arith, largest_joins xs ys)

pub widths_join : (xs ys : List Answer) → widths_of (xs ++ ys) ≡ together (widths_of xs) (widths_of ys)
unfolding widths_of together
widths_join xs ys =
    rw (shown_joins xs ys, length-append (shown xs) (shown ys), sum_joins (shown xs) (shown ys), smallest_joins (shown xs) (shown ys), largest_joins (shown xs) (shown ys)) refl

-- ---- further answers

pub none_wider : (w : Widths) → together w (widths_of []) ≡ w
unfolding widths_of together shown smallest largest
none_wider w = rw (add-zero w.ranges, add-zero w.sum, max_zero w.largest) refl

pub one_further : (w : Widths) (xs : List Answer) (a : Answer) →
    together (together w (widths_of xs)) (widths_of (a ∷ [])) ≡ together w (widths_of (xs ++ (a ∷ [])))
one_further w xs a = together_assoc w (widths_of xs) (widths_of (a ∷ [])) ∙ ap (together w) (sym (widths_join xs (a ∷ [])))

-- as many answers as there are, and no more widths
pub answers_counted : (n : ℕ) (a : List ℕ) → length (answers_in n a) ≡ n
unfolding answers_in
answers_counted zero a = refl
answers_counted (suc n) a = omega (arith, length-append (answers_in n a) (answer_at (n * answer_bytes) a ∷ []), answers_counted n a)

shown_within : (xs : List Answer) → length (shown xs) ≤ length xs
unfolding shown
shown_within [] = omega arith
shown_within (x ∷ xs) = go (shows_range x) (shown_within xs)
  where
    go : (b : Bool) → length (shown xs) ≤ length xs → length (cond b (width x ∷ shown xs) (shown xs)) ≤ suc (length xs)
    go true more = omega (arith, more)
    go false more = omega (arith, more)

pub widths_within : (xs : List Answer) → (widths_of xs).ranges ≤ length xs
unfolding widths_of
widths_within xs = shown_within xs

-- each answer adds to the sum, or leaves it
sum_grows : (xs ys : List Answer) → (widths_of xs).sum ≤ (widths_of (xs ++ ys)).sum
unfolding widths_of together
sum_grows xs ys = omega (arith, ap (λ (w : Widths). w.sum) (widths_join xs ys))

sum_so_far : (n m : ℕ) (a : List ℕ) → (widths_of (answers_in n a)).sum ≤ (widths_of (answers_in (m + n) a)).sum
unfolding answers_in
sum_so_far n zero a = rw (zero-add n) (omega arith)
sum_so_far n (suc m) a =
    let next : suc m + n ≡ suc (m + n) = omega arith in
    rw (next) (omega (arith, sum_so_far n m a, sum_grows (answers_in (m + n) a) (answer_at ((m + n) * answer_bytes) a ∷ [])))

pub sum_within : (w : Widths) (n m : ℕ) (a : List ℕ) → n ≤ m →
    (together w (widths_of (answers_in n a))).sum ≤ (together w (widths_of (answers_in m a))).sum
unfolding together
sum_within w n m a h = let rest : m - n + n ≡ m = omega arith in rw (← rest) (omega (arith, sum_so_far n (m - n) a))
