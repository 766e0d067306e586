-- What the verdict accepts: ladder prices that are shown, and nothing else.
use mathlib.Core.Path.{◌≡◌, refl, ap, sym, ◌∙◌}
use Prim.Native.Nat.{ℕ, ◌≤◌}
use mathlib.Core.Bool.{Bool, true, false, not, cond, ◌&&◌}
use lib.Dec.{T, eqb, leb, le→leb}
use lib.ListN.{length}
use native.Mathlib.Omega.{arith}
use borrow.Author.Tests.{eqb-true, le-ltb}
use Rattle.facts.specs.Lists.{holds}
use Rattle.facts.proofs.Tests.{and_left, and_right, and_both, true_of, passed, below}
use Rattle.std.proofs.lemmas.Bool.{true≢false}
use Rattle.tables.specs.Bands.{Table, well_formed}
use Rattle.ladder.specs.Ladder.{ladder, is_ladder_price}
use Rattle.ladder.specs.Trying.{band_of}
use Rattle.ladder.specs.Arithmetic.{spans, in_one_band}
use Rattle.ladder.proofs.Laws.{ladder_laws}
use Rattle.ranges.specs.declared.Range.{Range}
use Rattle.judging.specs.declared.Verdict.{Verdict}
use Rattle.judging.specs.declared.Verdict.TheVariants.{Accepted, OutsideLadder, BetweenPrices, BelowLowest, AboveHighest, NineFold}
use Rattle.judging.specs.Shown.{passes, is_shown, shown_of}
use Rattle.judging.specs.Cutting.{cut_lowest, cut_highest, none_between}
use Rattle.judging.specs.Answers.{answer_on}
use Rattle.judging.specs.Verdicts.{outside, verdict_of}
use Rattle.judging.specs.Numbers.{verdict_number}
use Rattle.judging.specs.Laws.{ShownIsExactly, not_refused}
use Rattle.judging.proofs.Cuts.{window, cut_from, cut_to, shown_held}
use Rattle.judging.proofs.Windows.{exactly}

pub shown_is_exactly : ShownIsExactly
unfolding shown_of
shown_is_exactly t wf range p on =
    exactly t wf (is_shown range) (cut_lowest range.lowest range.nine_fold) (cut_highest range.highest range.nine_fold)
    (window t wf range _ _ refl refl) p on

-- on the ladder and shown, or on the ladder from the lowest shown to the highest shown
pub from_lowest_to_highest : (t : Table) → T (well_formed t) → (range : Range) (p : ℕ) →
    (is_ladder_price p t && is_shown range p) ≡
    (is_ladder_price p t && leb (shown_of (ladder t) range).lowest p && leb p (shown_of (ladder t) range).highest)
from_lowest_to_highest t wf range p = go (is_ladder_price p t) (shown_is_exactly t wf range p)
  where
    go : (on : Bool) →
        (T on → is_shown range p ≡ (leb (shown_of (ladder t) range).lowest p && leb p (shown_of (ladder t) range).highest)) →
        (on && is_shown range p) ≡ (on && leb (shown_of (ladder t) range).lowest p && leb p (shown_of (ladder t) range).highest)
    go true e = e tt
    go false e = refl

-- a ladder price is not outside the ends
inside : (t : Table) → T (well_formed t) → (p : ℕ) → T (is_ladder_price p t) → outside (ladder t) p ≡ false
inside t wf p h = (ladder_laws.ends_are_the_tables t wf).none_outside p h

pub accepts : (t : Table) → T (well_formed t) → (range : Range) (p : ℕ) →
    eqb (verdict_number (verdict_of (ladder t) range p)) 0 ≡ (is_ladder_price p t && is_shown range p)
unfolding verdict_of
accepts t wf range p =
    rw (ladder_laws.the_ladder t wf p, below p range.lowest, below range.highest p)
    (go (outside (ladder t) p) (is_ladder_price p t) (leb range.lowest p) (leb p range.highest) (passes range.nine_fold p) (inside t wf p))
  where
    go : (o h x y z : Bool) → (T h → o ≡ false) →
        eqb (verdict_number
        (cond o OutsideLadder (cond (not h) BetweenPrices (cond (not x) BelowLowest (cond (not y) AboveHighest (cond (not z) NineFold Accepted)))))) 0 ≡
        (h && (x && y && z))
    go true true x y z f = absurd (true≢false (f tt))
    go true false x y z f = refl
    go false false x y z f = refl
    go false true false y z f = refl
    go false true true false z f = refl
    go false true true true false f = refl
    go false true true true true f = refl

-- a verdict is 0 or 6 to 10
pub judged_number : (v : Verdict) → T (not_refused (verdict_number v))
judged_number Accepted = tt
judged_number OutsideLadder = tt
judged_number BetweenPrices = tt
judged_number BelowLowest = tt
judged_number AboveHighest = tt
judged_number NineFold = tt

-- Bounds that are cut, and ladder prices both, are shown; a ladder price from one to the other is accepted.
module _ (t : Table) (wf : T (well_formed t)) (range : Range) (p : ℕ) where
  abbrev from : ℕ
  from = cut_from range

  abbrev to : ℕ
  to = cut_to range

  pub accepted_among : cut_from range ≤ p → p ≤ cut_to range → in_one_band (cut_from range) p (cut_to range) t ≡ true →
      record { number = 0; lowest = cut_from range; highest = cut_to range } ≡ answer_on (ladder t) range p
  accepted_among low high held = rw (← number, ← shown) refl
    where
      all : T (holds from (ladder t) && holds p (ladder t) && holds to (ladder t))
      all = and_right (spans from to t (band_of p (length t) t)) (holds from (ladder t) && holds p (ladder t) && holds to (ladder t)) (true_of _ held)

      two : T (holds from (ladder t) && holds p (ladder t))
      two = and_left (holds from (ladder t) && holds p (ladder t)) (holds to (ladder t)) all

      on : T (is_ladder_price p t)
      on = rw (← (ladder_laws.the_ladder t wf p)) (and_right (holds from (ladder t)) (holds p (ladder t)) two)

      shown : record { lowest = from; highest = to } ≡ shown_of (ladder t) range
      shown =
          ap (λ falls. cond falls none_between (record { lowest = from; highest = to })) (sym (le-ltb to from (omega (arith, low, high)))) ∙
          shown_held t wf range (passed _ (and_left (holds from (ladder t)) (holds p (ladder t)) two))
          (passed _ (and_right (holds from (ladder t) && holds p (ladder t)) (holds to (ladder t)) all))

      is_among : (is_ladder_price p t && leb (shown_of (ladder t) range).lowest p && leb p (shown_of (ladder t) range).highest) ≡ true
      is_among =
          rw (← shown)
          (passed _ (and_both (is_ladder_price p t && leb from p) _ (and_both (is_ladder_price p t) _ on (le→leb from p low)) (le→leb p to high)))

      number : 0 ≡ verdict_number (verdict_of (ladder t) range p)
      number = sym (eqb-true (verdict_number (verdict_of (ladder t) range p)) 0 (accepts t wf range p ∙ from_lowest_to_highest t wf range p ∙ is_among))
