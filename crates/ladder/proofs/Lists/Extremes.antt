-- What going through a rising list finds: the least, or the greatest, of the prices that pass a test, or that none passes.
use Rattle.std.specs.Prelude.{Option, Some, None}
use mathlib.Core.Path.{◌≡◌, refl, ap}
use Prim.Native.Nat.{ℕ, ◌<◌}
use native.Mathlib.Nat.{le_antisymm, le_of_lt}
use native.Mathlib.Omega.{arith}
use mathlib.Core.Bool.{Bool, true, false, cond}
use mathlib.Core.List.{List, [], ◌∷◌}
use lib.Dec.{T}
use Rattle.facts.specs.Lists.{holds, Rising}
use Rattle.ladder.specs.Laws.{Least, Greatest}
use Rattle.ladder.specs.Search.{first, latest_after, latest}
use Rattle.facts.proofs.Tests.{true_of, untrue}
use Rattle.facts.proofs.Lists.{held_cases, held_first, held_rest, held_none}

-- ---- what a search finds: a member that passes and is extreme (R q x: q is as extreme as x), or that none passes

pub record Best (R : ℕ → ℕ → Type 0) (test : ℕ → Bool) (l : List ℕ) (q : ℕ) : Type 0 where
  pub on : T (holds q l)
  pub passes : T (test q)
  pub extreme : (x : ℕ) → T (holds x l) → T (test x) → R q x

abbrev pub NonePass : (ℕ → Bool) → List ℕ → Type 0
NonePass test l = (x : ℕ) → T (holds x l) → T (test x) → ⊥

abbrev pub FoundIs : (ℕ → ℕ → Type 0) → (ℕ → Bool) → List ℕ → Option ℕ → Type 0
FoundIs R test l (Some q) = Best R test l q
FoundIs R test l None = NonePass test l

-- a search that finds something extreme finds nothing else
pub result_is : (R : ℕ → ℕ → Type 0) → ((x y : ℕ) → R x y → R y x → x ≡ y) → (test : ℕ → Bool) (l : List ℕ) (f : Option ℕ) (q : ℕ) →
    FoundIs R test l f → Best R test l q → f ≡ Some q
result_is R anti test l (Some p) q r b = ap Some (anti p q (r.extreme q b.on b.passes) (b.extreme p r.on r.passes))
result_is R anti test l None q r b = absurd (r q b.on b.passes)

pub result_none : (R : ℕ → ℕ → Type 0) (test : ℕ → Bool) (l : List ℕ) (f : Option ℕ) → FoundIs R test l f → NonePass test l → f ≡ None
result_none R test l (Some p) r n = absurd (n p r.on r.passes)
result_none R test l None r n = refl

-- a price in front that does not pass changes nothing
past : (R : ℕ → ℕ → Type 0) (test : ℕ → Bool) (a : ℕ) (l : List ℕ) (f : Option ℕ) → (T (test a) → ⊥) → FoundIs R test l f →
    FoundIs R test (a ∷ l) f
past R test a l (Some q) fails r =
    record {
      on = held_rest a l q r.on;
      passes = r.passes;
      extreme = λ x h t. held_cases a l x h (λ e. absurd (fails (rw e at t))) (λ m. r.extreme x m t);
    }
past R test a l None fails r = λ x h t. held_cases a l x h (λ e. absurd (fails (rw e at t))) (λ m. r x m t)

pub first_result : (test : ℕ → Bool) (l : List ℕ) → Rising l → FoundIs Least test l (first test l)
unfolding first
first_result test [] r = λ x h t. held_none x h
first_result test (a ∷ l) r = go (test a) refl (first_result test l r.1)
  where
    go : (b : Bool) → test a ≡ b → FoundIs Least test l (first test l) → FoundIs Least test (a ∷ l) (cond b (Some a) (first test l))
    go true e rest =
        record {
          on = held_first a l;
          passes = true_of (test a) e;
          extreme = λ x h t. held_cases a l x h (λ i. omega arith) (λ m. le_of_lt (r.0 x m));
        }
    go false e rest = past Least test a l (first test l) (untrue (test a) e) rest

-- the latest price by recursion from the end: the latest of those after, or else the price itself
later : Option ℕ → Option ℕ → Option ℕ
later (Some q) f = Some q
later None f = f

last : (ℕ → Bool) → List ℕ → Option ℕ
last test [] = None
last test (a ∷ l) = later (last test l) (cond (test a) (Some a) None)

keeps : (test : ℕ → Bool) (l : List ℕ) (kept : Option ℕ) → latest_after kept test l ≡ later (last test l) kept
unfolding latest_after last later
keeps test [] kept = refl
keeps test (a ∷ l) kept = go (last test l) (test a) (keeps test l (cond (test a) (Some a) kept))
  where
    go : (f : Option ℕ) (b : Bool) → latest_after (cond b (Some a) kept) test l ≡ later f (cond b (Some a) kept) →
        latest_after (cond b (Some a) kept) test l ≡ later (later f (cond b (Some a) None)) kept
    go (Some q) b e = e
    go None true e = e
    go None false e = e

last_result : (test : ℕ → Bool) (l : List ℕ) → Rising l → FoundIs Greatest test l (last test l)
unfolding last later
last_result test [] r = λ x h t. held_none x h
last_result test (a ∷ l) r = go (last test l) (test a) refl (last_result test l r.1)
  where
    go : (f : Option ℕ) (b : Bool) → test a ≡ b → FoundIs Greatest test l f → FoundIs Greatest test (a ∷ l) (later f (cond b (Some a) None))
    go (Some q) b e rest =
        record {
          on = held_rest a l q rest.on;
          passes = rest.passes;
          extreme = λ x h t. held_cases a l x h (λ i. let m : a < q = r.0 q rest.on in omega arith) (λ m. rest.extreme x m t);
        }
    go None true e rest =
        record {
          on = held_first a l;
          passes = true_of (test a) e;
          extreme = λ x h t. held_cases a l x h (λ i. omega arith) (λ m. absurd (rest x m t));
        }
    go None false e rest = past Greatest test a l None (untrue (test a) e) rest

pub latest_result : (test : ℕ → Bool) (l : List ℕ) → Rising l → FoundIs Greatest test l (latest test l)
unfolding later
latest_result test l r = rw (keeps test l None) (go (last test l) (last_result test l r))
  where
    go : (f : Option ℕ) → FoundIs Greatest test l f → FoundIs Greatest test l (later f None)
    go (Some q) b = b
    go None b = b

-- there is one least, and one greatest
pub least_one : (x y : ℕ) → Least x y → Least y x → x ≡ y
least_one x y h k = le_antisymm h k

pub greatest_one : (x y : ℕ) → Greatest x y → Greatest y x → x ≡ y
greatest_one x y h k = le_antisymm k h

-- a search that finds the least, or the greatest, that passes
pub first_is : (l : List ℕ) → Rising l → (test : ℕ → Bool) (q : ℕ) → Best Least test l q → first test l ≡ Some q
first_is l r test q b = result_is Least least_one test l (first test l) q (first_result test l r) b

pub latest_is : (l : List ℕ) → Rising l → (test : ℕ → Bool) (q : ℕ) → Best Greatest test l q → latest test l ≡ Some q
latest_is l r test q b = result_is Greatest greatest_one test l (latest test l) q (latest_result test l r) b

pub first_none : (l : List ℕ) → Rising l → (test : ℕ → Bool) → NonePass test l → first test l ≡ None
first_none l r test n = result_none Least test l (first test l) (first_result test l r) n

pub latest_none : (l : List ℕ) → Rising l → (test : ℕ → Bool) → NonePass test l → latest test l ≡ None
latest_none l r test n = result_none Greatest test l (latest test l) (latest_result test l r) n
