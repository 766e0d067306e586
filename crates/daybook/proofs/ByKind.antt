-- The number of every event, kind by kind.
use mathlib.Core.Path.{◌≡◌, refl}
use mathlib.Core.Logic.{⊎_elim}
use Prim.Native.Nat.{ℕ}
use native.Mathlib.Omega.{arith}
use mathlib.Core.Bool.{Bool, true, false, not, cond, ◌&&◌, ◌||◌}
use lib.Dec.{T, eqb, ltb}
use borrow.Author.Tests.{ne_eqb, eqb-true, ltb-true}
use Rattle.facts.specs.Lists.{holds}
use Rattle.facts.proofs.Tests.{and_left, and_right, or_cases, passed}
use Rattle.ladder.specs.Ladder.{Prices}
use Rattle.daybook.specs.declared.Day.{Day}
use Rattle.daybook.specs.Events.{event, Queue, Buy, Sell, empty_of}
use Rattle.daybook.specs.Accepted.{unknown_number, off_ladder_number, cross_number, event_number}
use Rattle.daybook.specs.Days.{entered}
use Rattle.daybook.specs.Laws.{NumbersOn}

-- a kind that is none of the five
not_known : (kind n : ℕ) → T (eqb kind 0 || ltb 5 kind) → T (ltb 0 n && ltb n 6) → eqb kind n ≡ false
not_known kind n outside inside =
    let positive = ltb-true 0 n (passed _ (and_left (ltb 0 n) (ltb n 6) inside)) in
    let small = ltb-true n 6 (passed _ (and_right (ltb 0 n) (ltb n 6) inside)) in
    ne_eqb kind n
    (λ same. ⊎_elim (λ z. let none = eqb-true kind 0 (passed _ z) in omega (arith, same))
    (λ b. let beyond = ltb-true 5 kind (passed _ b) in omega (arith, same)) (or_cases (eqb kind 0) (ltb 5 kind) outside))

-- the checks, the other way round
turned : (fine : Bool) (number : ℕ) → cond (not fine) number 0 ≡ cond fine 0 number
turned true number = refl
turned false number = refl

both_turned : (on apart : Bool) →
    cond (not on) off_ladder_number (cond (not apart) cross_number 0) ≡ cond on (cond apart 0 cross_number) off_ladder_number
both_turned true true = refl
both_turned true false = refl
both_turned false apart = refl

or_none : (b : Bool) → (b || false) ≡ b
or_none true = refl
or_none false = refl

pub numbers_on : (l : Prices) (d : Day) (p : ℕ) → NumbersOn l d p
unfolding entered event_number
numbers_on l d p =
    record {
      unknown =
          λ kind out.
          rw (not_known kind 1 out tt, not_known kind 2 out tt, not_known kind 3 out tt, not_known kind 4 out tt, not_known kind 5 out tt) refl;
      emptying = emptying;
      trade = turned (holds p l) off_ladder_number;
      bid_alone = λ none. rw none (turned (holds p l) off_ladder_number);
      bid = λ ask there. rw (there, or_none (not (ltb p ask))) (both_turned (holds p l) (ltb p ask));
      ask_alone = λ none. rw none (turned (holds p l) off_ladder_number);
      ask = λ bid there. rw there (both_turned (holds p l) (ltb bid p));
    }
  where
    emptying : (queue : Queue) → (entered l d (event (empty_of queue) p)).number ≡ cond (eqb p 0) 0 unknown_number
    emptying Buy = turned (eqb p 0) unknown_number
    emptying Sell = turned (eqb p 0) unknown_number
