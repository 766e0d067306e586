-- Bounds cut by the nine-fold rule: a ladder price lies within them exactly where it is shown; and the range between them.
use Rattle.std.specs.Prelude.{Option, Some, None}
use mathlib.Core.Path.{◌≡◌, refl, sym}
use Prim.Native.Nat.{ℕ, ◌*◌, ◌≤◌, ◌<◌}
use native.Mathlib.Omega.{arith}
use mathlib.Core.Bool.{Bool, true, false, cond, ◌&&◌}
use lib.Dec.{T, leb, ltb, leb→le, le→leb, ltb→lt, lt→ltb}
use borrow.Author.Tests.{ltb-true, ltb-false}
use Rattle.tables.specs.Bands.{Table, well_formed}
use Rattle.ladder.specs.Ladder.{ladder, is_ladder_price}
use Rattle.ladder.specs.Search.{first, latest, at_least, at_most}
use Rattle.ladder.specs.Laws.{NonePasses}
use Rattle.ladder.proofs.Laws.{ladder_laws}
use Rattle.facts.specs.Lists.{holds}
use Rattle.facts.proofs.Tests.{and_left, and_right, and_both, true_of}
use Rattle.questions.specs.declared.Reference.{Reference}
use Rattle.questions.specs.declared.Reference.TheVariants.{Missing, Price}
use Rattle.ranges.specs.declared.Range.{Range}
use Rattle.judging.specs.Shown.{fold, passes, is_shown, shown_of}
use Rattle.judging.specs.Cutting.{cut_lowest, cut_highest, none_between, shown_between}
use Rattle.judging.proofs.Windows.{Window, over_zero, none_from, none_to, none_between_lem, first_found, latest_found}

within : (lowest highest : ℕ) (nine : Reference) (p : ℕ) → T (leb lowest p && leb p highest && passes nine p) →
    (cut_lowest lowest nine ≤ p) × (p ≤ cut_highest highest nine)
within lowest highest Missing p h = go (and_left (leb lowest p && leb p highest) _ h)
  where
    go : T (leb lowest p && leb p highest) → (lowest ≤ p) × (p ≤ highest)
    go i = (leb→le lowest p (and_left (leb lowest p) _ i), leb→le p highest (and_right (leb lowest p) _ i))
within lowest highest (Price n) p h = go (and_left (leb lowest p && leb p highest) _ h) (and_right (leb lowest p && leb p highest) _ h)
  where
    go : T (leb lowest p && leb p highest) → T (ltb p (fold * n) && ltb n (fold * p)) →
        (cut_lowest lowest (Price n) ≤ p) × (p ≤ cut_highest highest (Price n))
    go i j =
        let a : lowest ≤ p = leb→le lowest p (and_left (leb lowest p) _ i) in
        let b : p ≤ highest = leb→le p highest (and_right (leb lowest p) _ i) in
        let c : p < fold * n = ltb→lt p (fold * n) (and_left (ltb p (fold * n)) _ j) in
        let d : n < fold * p = ltb→lt n (fold * p) (and_right (ltb p (fold * n)) _ j) in
        (omega arith, omega arith)

without : (lowest highest : ℕ) (nine : Reference) (p : ℕ) → 0 < p → cut_lowest lowest nine ≤ p → p ≤ cut_highest highest nine →
    T (leb lowest p && leb p highest && passes nine p)
without lowest highest Missing p pos a b =
    and_both (leb lowest p && leb p highest) _ (and_both (leb lowest p) _ (le→leb lowest p a) (le→leb p highest b)) tt
without lowest highest (Price n) p pos a b =
    and_both (leb lowest p && leb p highest) _
    (and_both (leb lowest p) _ (le→leb lowest p (omega arith)) (le→leb p highest (omega arith)))
    (and_both (ltb p (fold * n)) _ (lt→ltb p (fold * n) (omega arith)) (lt→ltb n (fold * p) (omega arith)))

-- so the cut bounds are a window
pub window : (t : Table) → T (well_formed t) → (range : Range) (from to : ℕ) → from ≡ cut_lowest range.lowest range.nine_fold →
    to ≡ cut_highest range.highest range.nine_fold → Window t (is_shown range) from to
window t wf range from to e f =
    record {
      within = λ p h i. rw (e, f) (within range.lowest range.highest range.nine_fold p i);
      passes =
          λ p h a b.
          without range.lowest range.highest range.nine_fold p (over_zero t wf p h) (rw e at a) (rw f at b);
    }

-- what is shown, from what going through the ladder finds
shown_none : (t : Table) → T (well_formed t) → (range : Range) → NonePasses t (is_shown range) → none_between ≡ shown_of (ladder t) range
unfolding shown_of
shown_none t wf range n =
    rw ((ladder_laws.first_is_smallest t wf (is_shown range)).none n, (ladder_laws.latest_is_largest t wf (is_shown range)).none n)

shown_some : (t : Table) (range : Range) (a b : ℕ) → first (is_shown range) (ladder t) ≡ Some a →
    latest (is_shown range) (ladder t) ≡ Some b → record { lowest = a; highest = b } ≡ shown_of (ladder t) range
unfolding shown_of
shown_some t range a b e f = rw (e, f)

-- the bounds of a range, as they are cut
abbrev pub cut_from : Range → ℕ
cut_from range = cut_lowest range.lowest range.nine_fold

abbrev pub cut_to : Range → ℕ
cut_to range = cut_highest range.highest range.nine_fold

-- both rounded to the ladder are the first and the last price of the window, or there is none
shown_cut : (t : Table) → T (well_formed t) → (range : Range) (f g : Option ℕ) → f ≡ first (at_least 1 (cut_from range)) (ladder t) →
    g ≡ latest (at_most 1 (cut_to range)) (ladder t) → shown_between f g ≡ shown_of (ladder t) range
shown_cut t wf range = go
  where
    from : ℕ
    from = cut_from range

    to : ℕ
    to = cut_to range

    shown : Window t (is_shown range) from to
    shown = window t wf range from to refl refl

    both : (x y : ℕ) → Some x ≡ first (at_least 1 from) (ladder t) → Some y ≡ latest (at_most 1 to) (ladder t) → (v : Bool) → ltb y x ≡ v →
        cond v none_between (record { lowest = x; highest = y }) ≡ shown_of (ladder t) range
    both x y e f true m = shown_none t wf range (none_between_lem t wf (is_shown range) from to shown x y e f (ltb-true y x m))
    both x y e f false m =
        let up = ltb-false y x m in
        shown_some t range x y (first_found t wf (is_shown range) from to shown x y e f up) (latest_found t wf (is_shown range) from to shown x y e f up)

    go : (f g : Option ℕ) → f ≡ first (at_least 1 from) (ladder t) → g ≡ latest (at_most 1 to) (ladder t) → shown_between f g ≡ shown_of (ladder t) range
    go None g e f = shown_none t wf range (none_from t wf (is_shown range) from to shown e)
    go (Some x) None e f = shown_none t wf range (none_to t wf (is_shown range) from to shown f)
    go (Some x) (Some y) e f = both x y e f (ltb y x) refl

-- a price of the ladder is the first from itself on, and the last up to itself
module _ (t : Table) (wf : T (well_formed t)) (p : ℕ) (held : holds p (ladder t) ≡ true) where
  on : T (is_ladder_price p t)
  on = rw (← (ladder_laws.the_ladder t wf p)) (true_of (holds p (ladder t)) held)

  first_from_itself : Some p ≡ first (at_least 1 p) (ladder t)
  first_from_itself =
      sym ((ladder_laws.first_is_smallest t wf (at_least 1 p)).finds p
      (record { on = on; passes = le→leb p (1 * p) (omega arith); extreme = λ x k m. let n : p ≤ 1 * x = leb→le p (1 * x) m in omega arith }))

  last_up_to_itself : Some p ≡ latest (at_most 1 p) (ladder t)
  last_up_to_itself =
      sym ((ladder_laws.latest_is_largest t wf (at_most 1 p)).finds p
      (record { on = on; passes = le→leb (1 * p) p (omega arith); extreme = λ x k m. let n : 1 * x ≤ p = leb→le (1 * x) p m in omega arith }))

-- cut bounds, which are ladder prices, or are rounded to the ladder, or fall and show nothing
module _ (t : Table) (wf : T (well_formed t)) (range : Range) where
  pub shown_held : holds (cut_from range) (ladder t) ≡ true → holds (cut_to range) (ladder t) ≡ true →
      shown_between (Some (cut_from range)) (Some (cut_to range)) ≡ shown_of (ladder t) range
  shown_held e f = shown_cut t wf range _ _ (first_from_itself t wf (cut_from range) e) (last_up_to_itself t wf (cut_to range) f)

  pub shown_rounded :
      shown_between (first (at_least 1 (cut_from range)) (ladder t)) (latest (at_most 1 (cut_to range)) (ladder t)) ≡ shown_of (ladder t) range
  shown_rounded = shown_cut t wf range _ _ refl refl

  pub shown_falling : cut_to range < cut_from range → none_between ≡ shown_of (ladder t) range
  shown_falling falls =
      shown_none t wf range
      (λ x on shown.
      let w = (window t wf range _ _ refl refl).within x on shown in
      absurd (omega (arith, w.0, w.1, falls)))
