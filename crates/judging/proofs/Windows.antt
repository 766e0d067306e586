-- A test that passes exactly the ladder prices from one number to another: what going through the ladder finds.
use Rattle.std.specs.Prelude.{Option, Some, None}
use mathlib.Core.Path.{◌≡◌, refl, sym}
use Prim.Native.Nat.{ℕ, ◌*◌, ◌≤◌, ◌<◌}
use native.Mathlib.Omega.{arith}
use mathlib.Core.Bool.{Bool, ◌&&◌}
use lib.Dec.{T, leb, leb→le, le→leb}
use Rattle.facts.proofs.Tests.{and_left, and_right, and_both, same}
use Rattle.tables.specs.Bands.{Table, well_formed}
use Rattle.ladder.specs.Ladder.{ladder, is_ladder_price}
use Rattle.ladder.specs.Search.{first, latest, or_else, at_least, at_most}
use Rattle.ladder.specs.Laws.{Extreme, Least, Greatest, NonePasses, Finds}
use Rattle.ladder.proofs.Laws.{ladder_laws}

pub record Window (t : Table) (test : ℕ → Bool) (from to : ℕ) : Type 0 where
  pub within : (p : ℕ) → T (is_ladder_price p t) → T (test p) → (from ≤ p) × (p ≤ to)
  pub passes : (p : ℕ) → T (is_ladder_price p t) → from ≤ p → p ≤ to → T (test p)

-- no ladder price is 0
pub over_zero : (t : Table) → T (well_formed t) → (p : ℕ) → T (is_ladder_price p t) → 0 < p
over_zero t wf p h = ladder_laws.never_zero t wf p ((ladder_laws.ends_are_the_tables t wf).none_outside p h)

module _ (t : Table) (wf : T (well_formed t)) (test : ℕ → Bool) (from to : ℕ) (w : Window t test from to) where
  -- what passes is at least `from` and at most `to`
  over : (x : ℕ) → T (is_ladder_price x t) → T (test x) → T (at_least 1 from x)
  over x h m = le→leb from (1 * x) (let n = (w.within x h m).0 in omega arith)

  under : (x : ℕ) → T (is_ladder_price x t) → T (test x) → T (at_most 1 to x)
  under x h m = le→leb (1 * x) to (let n = (w.within x h m).1 in omega arith)

  pub none_from : None ≡ first (at_least 1 from) (ladder t) → NonePasses t test
  none_from e x h m = (ladder_laws.first_is_smallest t wf (at_least 1 from)).nothing (sym e) x h (over x h m)

  pub none_to : None ≡ latest (at_most 1 to) (ladder t) → NonePasses t test
  none_to e x h m = (ladder_laws.latest_is_largest t wf (at_most 1 to)).nothing (sym e) x h (under x h m)

  module _ (a b : ℕ) (e : Some a ≡ first (at_least 1 from) (ladder t)) (f : Some b ≡ latest (at_most 1 to) (ladder t)) where
    least : Extreme Least t (at_least 1 from) a
    least = (ladder_laws.first_is_smallest t wf (at_least 1 from)).found a (sym e)

    greatest : Extreme Greatest t (at_most 1 to) b
    greatest = (ladder_laws.latest_is_largest t wf (at_most 1 to)).found b (sym f)

    pub none_between_lem : b < a → NonePasses t test
    none_between_lem m x h n =
        let u : a ≤ x = least.extreme x h (over x h n) in
        let v : x ≤ b = greatest.extreme x h (under x h n) in
        absurd (omega arith)

    module _ (m : a ≤ b) where
      u : from ≤ 1 * a
      u = leb→le from (1 * a) least.passes

      v : 1 * b ≤ to
      v = leb→le (1 * b) to greatest.passes

      pub first_found : first test (ladder t) ≡ Some a
      first_found =
          (ladder_laws.first_is_smallest t wf test).finds a
          (record {
            on = least.on;
            passes = w.passes a least.on (omega (arith, u)) (omega (arith, v));
            extreme = λ x h n. least.extreme x h (over x h n);
          })

      pub latest_found : latest test (ladder t) ≡ Some b
      latest_found =
          (ladder_laws.latest_is_largest t wf test).finds b
          (record {
            on = greatest.on;
            passes = w.passes b greatest.on (omega (arith, u)) (omega (arith, v));
            extreme = λ x h n. greatest.extreme x h (under x h n);
          })

  -- between the first and the last that pass, every price passes; where none does, 0 stands for both
  pub exactly : (p : ℕ) → T (is_ladder_price p t) → test p ≡ (leb (or_else 0 (first test (ladder t))) p && leb p (or_else 0 (latest test (ladder t))))
  exactly p h = go (first test (ladder t)) (latest test (ladder t)) refl refl
    where
      smallest : Finds Least t test (first test (ladder t))
      smallest = ladder_laws.first_is_smallest t wf test

      largest : Finds Greatest t test (latest test (ladder t))
      largest = ladder_laws.latest_is_largest t wf test

      pos : 0 < p
      pos = over_zero t wf p h

      go : (f g : Option ℕ) → first test (ladder t) ≡ f → latest test (ladder t) ≡ g → test p ≡ (leb (or_else 0 f) p && leb p (or_else 0 g))
      go (Some a) (Some b) e f =
          let u = smallest.found a e in
          let v = largest.found b f in
          same (test p) (leb a p && leb p b)
          (λ m. and_both (leb a p) (leb p b) (le→leb a p (u.extreme p h m)) (le→leb p b (v.extreme p h m)))
          (λ m.
          let i : a ≤ p = leb→le a p (and_left (leb a p) (leb p b) m) in
          let j : p ≤ b = leb→le p b (and_right (leb a p) (leb p b) m) in
          let k = (w.within a u.on u.passes).0 in
          let n = (w.within b v.on v.passes).1 in
          w.passes p h (omega arith) (omega arith))
      go (Some a) None e f = let u = smallest.found a e in absurd (largest.nothing f a u.on u.passes)
      go None (Some b) e f = let v = largest.found b f in absurd (smallest.nothing e b v.on v.passes)
      go None None e f =
          same (test p) (leb 0 p && leb p 0)
          (λ m. absurd (smallest.nothing e p h m))
          (λ m. let n : p ≤ 0 = leb→le p 0 (and_right (leb 0 p) (leb p 0) m) in absurd (omega (arith, pos)))
