-- Finding the first entry of a list that passes a test, and a search that looks at no more than so many entries.
use Rattle.std.specs.Prelude.{Some, None, is_some}
use Rattle.std.specs.List.{find, filter, range_with_len}
use mathlib.Core.Path.{◌≡◌, refl, ap}
use Prim.Native.Nat.{ℕ, zero, suc, ◌+◌, ◌≤◌, ◌<◌}
use native.Mathlib.Nat.{not-suc-le-zero, le_of_suc-le-suc}
use native.Mathlib.Decide.{dec_le}
use native.Mathlib.Omega.{arith}
use mathlib.Core.Bool.{Bool, true, false, cond}
use mathlib.Core.List.{List, [], ◌∷◌, ◌++◌}
use lib.Dec.{T}
use lib.ListN.{take}
use Rattle.facts.specs.Lists.{holds}
use Rattle.facts.proofs.Lists.{held_cases, held_first, held_rest, held_none}
use Rattle.facts.proofs.Tests.{true_of, untrue}

-- what is found passes, and is an entry
pub found_passes : (test : ℕ → Bool) (l : List ℕ) (k : ℕ) → find test l ≡ Some k → T (test k) × T (holds k l)
found_passes test [] k e = absurd (grind arith)
found_passes test (x ∷ l) k e = go (test x) refl (found_passes test l k) e
  where
    go : (v : Bool) → test x ≡ v → (find test l ≡ Some k → T (test k) × T (holds k l)) → cond v (Some x) (find test l) ≡ Some k →
        T (test k) × T (holds k (x ∷ l))
    go true i rest f = let same : x ≡ k = grind arith in (rw (← same) (true_of (test x) i), rw (← same) (held_first x l))
    go false i rest f = let r = rest f in (r.0, held_rest x l k r.1)

-- where no entry passes nothing is found
pub none_found : (test : ℕ → Bool) (l : List ℕ) → ((k : ℕ) → T (test k) → T (holds k l) → ⊥) → find test l ≡ None
none_found test [] none = refl
none_found test (x ∷ l) none = go (test x) refl (none_found test l (λ k p h. none k p (held_rest x l k h)))
  where
    go : (v : Bool) → test x ≡ v → find test l ≡ None → cond v (Some x) (find test l) ≡ None
    go true i rest = absurd (none x (true_of (test x) i) (held_first x l))
    go false i rest = rest

-- the one entry that passes is found
pub one_found : (test : ℕ → Bool) (k : ℕ) → ((j : ℕ) → T (test j) → j ≡ k) → T (test k) → (l : List ℕ) → T (holds k l) → find test l ≡ Some k
one_found test k only p [] h = held_none k h
one_found test k only p (x ∷ l) h = go (test x) refl (one_found test k only p l)
  where
    go : (v : Bool) → test x ≡ v → (T (holds k l) → find test l ≡ Some k) → cond v (Some x) (find test l) ≡ Some k
    go true i rest = ap Some (only x (true_of (test x) i))
    go false i rest = held_cases x l k h (λ e. absurd (untrue (test x) i (rw e at p))) rest

-- where an entry passes one is found
pub some_found : (test : ℕ → Bool) (k : ℕ) → T (test k) → (l : List ℕ) → T (holds k l) → T (is_some (find test l))
some_found test k p [] h = held_none k h
some_found test k p (x ∷ l) h = go (test x) refl (some_found test k p l)
  where
    go : (v : Bool) → test x ≡ v → (T (holds k l) → T (is_some (find test l))) → T (is_some (cond v (Some x) (find test l)))
    go true i rest = tt
    go false i rest = held_cases x l k h (λ e. absurd (untrue (test x) i (rw e at p))) rest

-- what is found in the first a entries is found in the first b
pub found_longer : (test : ℕ → Bool) (l : List ℕ) (a b k : ℕ) → a ≤ b → find test (take a l) ≡ Some k → find test (take b l) ≡ Some k
found_longer test l zero b k h e = absurd (grind arith)
found_longer test [] (suc a) b k h e = absurd (grind arith)
found_longer test (x ∷ l) (suc a) zero k h e = absurd (not-suc-le-zero h)
found_longer test (x ∷ l) (suc a) (suc b) k h e = go (test x) e (found_longer test l a b k (le_of_suc-le-suc h))
  where
    go : (v : Bool) → cond v (Some x) (find test (take a l)) ≡ Some k → (find test (take a l) ≡ Some k → find test (take b l) ≡ Some k) →
        cond v (Some x) (find test (take b l)) ≡ Some k
    go true f rest = f
    go false f rest = rest f

-- ---- which entries a list has

pub in_range : (a n k : ℕ) → a ≤ k → k < a + n → T (holds k (range_with_len a n))
in_range a zero k low high = absurd (omega arith)
in_range a (suc n) k low high = go (dec_le k a) (λ u. in_range (a + 1) n k (omega arith) (omega arith))
  where
    go : Dec (k ≤ a) → (a < k → T (holds k (range_with_len (a + 1) n))) → T (holds k (a ∷ range_with_len (a + 1) n))
    go (yes u) rest = let e : k ≡ a = omega arith in rw e (held_first a (range_with_len (a + 1) n))
    go (no u) rest = held_rest a (range_with_len (a + 1) n) k (rest (omega arith))

pub range_bounds : (a n k : ℕ) → T (holds k (range_with_len a n)) → (a ≤ k) × (k < a + n)
range_bounds a zero k h = held_none k h
range_bounds a (suc n) k h =
    held_cases a (range_with_len (a + 1) n) k h (λ e. (omega arith, omega arith))
    (λ m. let r = range_bounds (a + 1) n k m in (omega (arith, r.0), omega (arith, r.1)))

pub in_left : (l m : List ℕ) (k : ℕ) → T (holds k l) → T (holds k (l ++ m))
in_left [] m k h = held_none k h
in_left (x ∷ l) m k h = held_cases x l k h (λ e. rw e (held_first x (l ++ m))) (λ r. held_rest x (l ++ m) k (in_left l m k r))

pub in_right : (l m : List ℕ) (k : ℕ) → T (holds k m) → T (holds k (l ++ m))
in_right [] m k h = h
in_right (x ∷ l) m k h = held_rest x (l ++ m) k (in_right l m k h)

pub in_filter : (test : ℕ → Bool) (l : List ℕ) (k : ℕ) → T (test k) → T (holds k l) → T (holds k (filter test l))
in_filter test [] k p h = held_none k h
in_filter test (x ∷ l) k p h = go (test x) refl (in_filter test l k p)
  where
    go : (v : Bool) → test x ≡ v → (T (holds k l) → T (holds k (filter test l))) → T (holds k (cond v (x ∷ filter test l) (filter test l)))
    go true i rest = held_cases x l k h (λ e. rw e (held_first x (filter test l))) (λ m. held_rest x (filter test l) k (rest m))
    go false i rest = held_cases x l k h (λ e. absurd (untrue (test x) i (rw e at p))) rest

pub filter_passes : (test : ℕ → Bool) (l : List ℕ) (k : ℕ) → T (holds k (filter test l)) → T (test k)
filter_passes test [] k h = held_none k h
filter_passes test (x ∷ l) k h = go (test x) refl h (filter_passes test l k)
  where
    go : (v : Bool) → test x ≡ v → T (holds k (cond v (x ∷ filter test l) (filter test l))) → (T (holds k (filter test l)) → T (test k)) → T (test k)
    go true i m rest = held_cases x (filter test l) k m (λ e. rw e (true_of (test x) i)) rest
    go false i m rest = rest m

pub taken : (a : ℕ) (l : List ℕ) (k : ℕ) → T (holds k (take a l)) → T (holds k l)
taken zero l k h = held_none k h
taken (suc a) [] k h = held_none k h
taken (suc a) (x ∷ l) k h = held_cases x (take a l) k h (λ e. rw e (held_first x l)) (λ m. held_rest x l k (taken a l k m))
