-- A text that is filled from its end, part by part, as a list: its end may be any.
use mathlib.Core.Path.{◌≡◌, sym, ◌∙◌, ap}
use Prim.Native.Nat.{ℕ, ◌+◌, ◌-◌, ◌≤◌}
use native.Mathlib.Numerals.{unary_clauses}
use native.Mathlib.Omega.{arith}
use mathlib.Core.List.{[], ◌++◌, append_assoc, append-nil}
use lib.ListN.{length, take, drop, length-append, length-drop, take-append-drop}
use lib.Seq.{take-append-le, take-take, drop_at, length-take-le}
use Rattle.text.specs.Decimal.{Text}
use Rattle.text.specs.Ending.{ending_at, FilledTo}
use Rattle.text.specs.Laws.{FilledToAnyEnd}

pub begun : (all : Text) (end : ℕ) (s : Text) → FilledTo all all end end s s
begun all end s =
    record { done = []; whole = sym (append-nil all); place = omega arith; text = simp unary_clauses (sym (take-append-drop end s)) }

pub ended : (all : Text) (at end : ℕ) (s now : Text) → FilledTo all [] at end s now → (at + length all ≡ end) × (now ≡ ending_at end all s)
ended all at end s now f = (rw f.whole f.place, rw f.whole f.text)

pub room : (all rest : Text) (at end : ℕ) (s now : Text) → FilledTo all rest at end s now → length all ≤ end → length rest ≤ at
room all rest at end s now f h = omega (arith, h, f.place, ap length f.whole, length-append rest f.done)

module _ (all rest : Text) (at end : ℕ) (s now : Text) (f : FilledTo all rest at end s now) (inside : end ≤ length s) where
  at_is : end - length f.done ≡ at
  at_is = omega (arith, f.place)

  front : length (take at s) ≡ at
  front = length-take-le at s (omega (arith, f.place, inside))

  now_is : now ≡ take at s ++ (f.done ++ drop end s)
  now_is = f.text ∙ rw at_is

  pub same_length : length now ≡ length s
  same_length =
      rw now_is
      (length-append (take at s) (f.done ++ drop end s) ∙
      omega (arith, front, length-append f.done (drop end s), length-drop end s, f.place, inside))

  -- the last part x of what is left is written
  pub further : (less x : Text) → rest ≡ less ++ x → (r : ℕ) → r + length x ≡ at → (next : Text) → next ≡ ending_at at x now →
      FilledTo all less r end s next
  further less x split r n next e =
      record {
        done = x ++ f.done;
        whole = f.whole ∙ rw split (append_assoc less x f.done);
        place = omega (arith, n, f.place, length-append x f.done);
        text = e ∙ rw (ends, old_part, new_part, start) (rw (append_assoc x f.done (drop end s)));
      }
    where
      ends : at - length x ≡ r
      ends = omega (arith, n)

      start : end - length (x ++ f.done) ≡ r
      start = omega (arith, n, f.place, length-append x f.done)

      old_part : take r now ≡ take r s
      old_part =
          rw now_is (take-append-le r (take at s) (f.done ++ drop end s) (omega (arith, front, n)) ∙ take-take r at s (omega (arith, n)))

      new_part : drop at now ≡ f.done ++ drop end s
      new_part = rw now_is (drop_at (take at s) (f.done ++ drop end s) at front)

pub filled_to_any_end : FilledToAnyEnd
filled_to_any_end all end s =
    record {
      begun = begun all end s;
      fits = λ less x at now f h inside. (
        omega (arith, room all (less ++ x) at end s now f h, length-append less x),
        omega (arith, same_length all (less ++ x) at end s now f inside, f.place, inside),
      );
      further = λ rest at now f inside. further all rest at end s now f inside;
      same_length = λ rest at now f inside. same_length all rest at end s now f inside;
      ended = λ at now f. ended all at end s now f;
    }
