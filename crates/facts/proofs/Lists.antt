-- Members of a list, and neighbours on a list that rises.
use mathlib.Core.Path.{◌≡◌}
use Prim.Native.Nat.{ℕ, ◌≤◌, ◌<◌}
use native.Mathlib.Nat.{le_of_lt}
use native.Mathlib.Decide.{dec_le}
use native.Mathlib.Omega.{arith}
use mathlib.Core.Logic.{⊎_elim}
use mathlib.Core.List.{List, [], ◌∷◌}
use lib.Dec.{T, eqb, eqb→eq, eqb_refl}
use Rattle.facts.specs.Lists.{holds, Rising}
use Rattle.facts.proofs.Tests.{or_left, or_right, or_cases}

-- a member of a ∷ l is a, or a member of l
pub held_cases : {C : Type 0} (a : ℕ) (l : List ℕ) (x : ℕ) → T (holds x (a ∷ l)) → (x ≡ a → C) → (T (holds x l) → C) → C
unfolding holds
held_cases a l x h f g = ⊎_elim (λ e. f (eqb→eq x a e)) g (or_cases (eqb x a) (holds x l) h)

pub held_first : (a : ℕ) (l : List ℕ) → T (holds a (a ∷ l))
unfolding holds
held_first a l = or_left (eqb a a) (holds a l) (eqb_refl a)

pub held_rest : (a : ℕ) (l : List ℕ) (x : ℕ) → T (holds x l) → T (holds x (a ∷ l))
unfolding holds
held_rest a l x h = or_right (eqb x a) (holds x l) h

pub held_none : {C : Type 0} (x : ℕ) → T (holds x []) → C
unfolding holds
held_none x h = absurd h

-- ---- neighbours

-- q is the next member after p
pub record Next (l : List ℕ) (p q : ℕ) : Type 0 where
  pub lower : T (holds p l)
  pub upper : T (holds q l)
  pub rises : p < q
  pub gap : (x : ℕ) → T (holds x l) → p < x → q ≤ x

-- a member in front of two neighbours leaves them so
pub behind : (a : ℕ) (l : List ℕ) → ((x : ℕ) → T (holds x l) → a < x) → (p q : ℕ) → Next l p q → Next (a ∷ l) p q
behind a l r p q n =
    record {
      lower = held_rest a l p n.lower;
      upper = held_rest a l q n.upper;
      rises = n.rises;
      gap = λ x h m. held_cases a l x h (λ u. let v : a < p = r p n.lower in omega arith) (λ v. n.gap x v m);
    }

-- the first member is followed by the second
pub front : (a b : ℕ) (l : List ℕ) → Rising (a ∷ b ∷ l) → Next (a ∷ b ∷ l) a b
front a b l r =
    record {
      lower = held_first a (b ∷ l);
      upper = held_rest a (b ∷ l) b (held_first b l);
      rises = r.0 b (held_first b l);
      gap =
          λ x h m.
          held_cases a (b ∷ l) x h (λ u. omega arith)
          (λ v. held_cases b l x v (λ u. omega arith) (λ w. le_of_lt (r.1.0 x w)));
    }

-- a member that is below the upper of two neighbours is at most the lower
pub gap_down : (l : List ℕ) (p q : ℕ) → Next l p q → (x : ℕ) → T (holds x l) → x < q → x ≤ p
gap_down l p q n x h m = go (dec_le x p)
  where
    go : Dec (x ≤ p) → x ≤ p
    go (yes u) = u
    go (no u) = let v : q ≤ x = n.gap x h (omega arith) in omega arith
