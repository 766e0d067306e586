-- The laws of specs/Laws.antt, proved. Other crates see them as fields of judging_laws.
use Rattle.std.specs.Prelude.{Option, Some, None, Ok, Err}
use mathlib.Core.Logic.{◌⊎◌, inl, inr, ⊎_elim}
use mathlib.Core.Path.{◌≡◌, refl, sym, ◌∙◌}
use Prim.Native.Nat.{ℕ, ◌≤◌, ◌<◌}
use native.Mathlib.Omega.{arith}
use mathlib.Core.Bool.{Bool, true, false, ◌&&◌, ◌||◌}
use mathlib.Core.List.{List}
use lib.Dec.{T, eqb, leb, leb→le}
use lib.ListN.{length}
use borrow.Author.Tests.{eqb-true, eqb-false, eq-eqb, ne_eqb}
use Rattle.tables.specs.Bands.{Table, well_formed}
use Rattle.tables.specs.Named.{table_named, unknown_table, usual_table}
use Rattle.tables.proofs.Laws.{table_laws}
use Rattle.ladder.specs.Ladder.{ladder, is_ladder_price}
use Rattle.ladder.specs.Named.{ladder_named, usual_ladder}
use Rattle.ladder.specs.Search.{first, latest, or_else}
use Rattle.ladder.specs.Laws.{Finds, Least, Greatest}
use Rattle.facts.proofs.Tests.{and_left, and_right, or_cases, passed, true_of}
use Rattle.ladder.proofs.Laws.{ladder_laws}
use Rattle.limits.specs.declared.Percentage.{Percentage}
use Rattle.limits.specs.Limits.{five_percent}
use Rattle.limits.specs.Terms.{terms_on}
use Rattle.questions.specs.Record.{question_bytes, codes_of, price_of, references_of, decoded}
use Rattle.ranges.specs.declared.Range.{Range}
use Rattle.ranges.specs.declared.Refusal.TheVariants.{UnknownCode, BadSecurityCode, OffLadder, Disagreement, NoOpposite}
use Rattle.questions.specs.declared.Question.{Question}
use Rattle.ranges.specs.Readings.{Reading, reading_of}
use Rattle.preparing.specs.Prepared.{Prepared, prepared}
use Rattle.preparing.specs.Numbers.{wrong_length}
use Rattle.preparing.proofs.Laws.{preparing_laws}
use Rattle.judging.specs.declared.Verdict.{Verdict}
use Rattle.judging.specs.declared.Verdict.TheVariants.{Accepted, OutsideLadder, BetweenPrices, BelowLowest, AboveHighest, NineFold}
use Rattle.judging.specs.Shown.{is_shown, shown_of}
use Rattle.judging.specs.Verdicts.{verdict_of}
use Rattle.judging.specs.Numbers.{verdict_number}
use Rattle.judging.specs.Answers.{none_shown, answer_on, answer_by, answer_decoded, prepared_judged_by, then_judged, judged, judged_by}
use Rattle.judging.specs.Laws.{LadderRange, RangeOrNone, SameRange, AnyOrderPrice, SecurityAltersNoAnswer, AnyRange, JudgedOnTable, AnyRangeOnTable, AnyOrderPriceOn, is_question_number, is_refusal, QuestionNumbers, LargestNumber, JudgingLaws}
use Rattle.judging.proofs.Windows.{over_zero}
use Rattle.judging.proofs.Parts.{both_parts, not_judged}
use Rattle.judging.proofs.Acceptance.{shown_is_exactly, from_lowest_to_highest, accepts, judged_number}

-- ---- a range, or none

range_shown : (t : Table) → T (well_formed t) → (range : Range) (p : ℕ) →
    LadderRange t (answer_on (ladder t) range p) ⊎ (((answer_on (ladder t) range p).lowest ≡ 0) × ((answer_on (ladder t) range p).highest ≡ 0))
unfolding shown_of
range_shown t wf range p = go (first (is_shown range) (ladder t)) (latest (is_shown range) (ladder t)) refl refl
  where
    n : ℕ
    n = verdict_number (verdict_of (ladder t) range p)

    smallest : Finds Least t (is_shown range) (first (is_shown range) (ladder t))
    smallest = ladder_laws.first_is_smallest t wf (is_shown range)

    largest : Finds Greatest t (is_shown range) (latest (is_shown range) (ladder t))
    largest = ladder_laws.latest_is_largest t wf (is_shown range)

    go : (f g : Option ℕ) → first (is_shown range) (ladder t) ≡ f → latest (is_shown range) (ladder t) ≡ g →
        LadderRange t (record { number = n; lowest = or_else 0 f; highest = or_else 0 g }) ⊎ ((or_else 0 f ≡ 0) × (or_else 0 g ≡ 0))
    go (Some a) (Some b) e f =
        let u = smallest.found a e in
        let v = largest.found b f in
        inl (record { lowest_on = u.on; highest_on = v.on; rises = u.extreme b v.on v.passes })
    go (Some a) None e f = let u = smallest.found a e in absurd (largest.nothing f a u.on u.passes)
    go None (Some b) e f = let v = largest.found b f in absurd (smallest.nothing e b v.on v.passes)
    go None None e f = inr (refl, refl)

range_or_none : RangeOrNone
unfolding judged
range_or_none t wf percent s = go (decoded s)
  where
    by_reading : (reading : Reading) (p : ℕ) →
        LadderRange t (answer_by (ladder t) reading p) ⊎ (((answer_by (ladder t) reading p).lowest ≡ 0) × ((answer_by (ladder t) reading p).highest ≡ 0))
    by_reading (Ok range) p = range_shown t wf range p
    by_reading (Err refusal) p = inr (refl, refl)

    go : (d : Option Question) →
        LadderRange t (answer_decoded (ladder t) percent d) ⊎
        (((answer_decoded (ladder t) percent d).lowest ≡ 0) × ((answer_decoded (ladder t) percent d).highest ≡ 0))
    go (Some q) = by_reading (reading_of (ladder t) percent q.codes q.references) q.price
    go None = inr (refl, refl)

-- ---- by two parts

any_range : AnyRange
any_range t wf range p =
    record {
      number = judged_number (verdict_of (ladder t) range p);
      ends = range_shown t wf range p;
      shown = shown_is_exactly t wf range;
      accepted = accepts t wf range p;
    }

-- ---- any order price

-- a question is answered by its reading
by_reading : (l : List ℕ) (percent : Percentage) (s : List ℕ) → length s ≡ question_bytes →
    judged l percent s ≡ answer_by l (reading_of l percent (codes_of s) (references_of s)) (price_of s)
unfolding judged
by_reading l percent s n = rw (eq-eqb (length s) question_bytes n)

other_bytes : (l : List ℕ) (percent : Percentage) (s : List ℕ) → (length s ≡ question_bytes → ⊥) → judged l percent s ≡ none_shown wrong_length
unfolding judged
other_bytes l percent s n = rw (ne_eqb (length s) question_bytes n)

-- nothing is accepted up to 0
none_up_to_zero : (t : Table) → T (well_formed t) → (n p lowest highest : ℕ) → eqb n 0 ≡ (is_ladder_price p t && leb lowest p && leb p highest) →
    highest ≡ 0 → n ≡ 0 → ⊥
none_up_to_zero t wf n p lowest highest e high accepted =
    let h : T (is_ladder_price p t && leb lowest p && leb p highest) = rw e at (true_of (eqb n 0) (eq-eqb n 0 accepted)) in
    let on : T (is_ladder_price p t) = and_left (is_ladder_price p t) (leb lowest p) (and_left (is_ladder_price p t && leb lowest p) (leb p highest) h) in
    let up_to : p ≤ highest = leb→le p highest (and_right (is_ladder_price p t && leb lowest p) (leb p highest) h) in
    let over : 0 < p = over_zero t wf p on in
    omega arith

any_order_price : AnyOrderPrice
any_order_price t wf percent s u ns nu same h =
    go (prepared (ladder t) percent s) (both_parts.judged_lem (ladder t) percent s) (rw same_first (both_parts.judged_lem (ladder t) percent u))
  where
    p : ℕ
    p = price_of u

    same_first : prepared (ladder t) percent s ≡ prepared (ladder t) percent u
    same_first = preparing_laws.price_not_looked_at (Ok (record { prices = ladder t; percentage = percent })) s u (ns ∙ sym nu) same

    go : (first : Prepared) → judged (ladder t) percent s ≡ then_judged (ladder t) first (price_of s) →
        judged (ladder t) percent u ≡ then_judged (ladder t) first p →
        SameRange t (judged (ladder t) percent s) (judged (ladder t) percent u) p
    go (Err why) a b = absurd (not_judged why (rw a at h))
    go (Ok range) a b =
        record {
          not_refused_lem = rw b (judged_number (verdict_of (ladder t) range p));
          lowest = rw (a, b);
          highest = rw (a, b);
          accepted = accepted;
          never = λ low high n. none_up_to_zero t wf _ p _ _ accepted high n;
        }
      where
        accepted :
            eqb (judged (ladder t) percent u).number 0 ≡
            (is_ladder_price p t && leb (judged (ladder t) percent s).lowest p && leb p (judged (ladder t) percent s).highest)
        accepted = rw (a, b) (accepts t wf range p ∙ from_lowest_to_highest t wf range p)

-- ---- any good security code

security_alters_no_answer : SecurityAltersNoAnswer
security_alters_no_answer found s u n same =
    both_parts.by_numbers found s ∙
    rw (preparing_laws.security_alters_no_range found s u n same, same_price) (sym (both_parts.by_numbers found u))
  where
    same_price : price_of s ≡ price_of u
    same_price =
        let bytes = same.same in
        rw (bytes.before 4 (omega arith), bytes.before 5 (omega arith), bytes.before 6 (omega arith), bytes.before 7 (omega arith))

-- ---- on a table by its number

judged_on_table : JudgedOnTable
judged_on_table n s =
    record {
      of_other_bytes = λ other. of_other_bytes other (unknown_table n) refl;
      unknown = λ bytes e. rw (e, eq-eqb (length s) question_bytes bytes) refl;
      named = λ e. rw e refl;
    }
  where
    of_other_bytes : (length s ≡ question_bytes → ⊥) → (v : Bool) → unknown_table n ≡ v → judged_by (terms_on n) s ≡ none_shown wrong_length
    of_other_bytes other true e = rw (e, ne_eqb (length s) question_bytes other) refl
    of_other_bytes other false e = rw e (other_bytes (ladder_named n) five_percent s other)

any_range_on_table : AnyRangeOnTable
any_range_on_table n range p = record { unknown = λ e. rw e refl; named = λ e. rw e refl }

pub usual_prepared : (range : Range) (p : ℕ) → prepared_judged_by (terms_on usual_table) range p ≡ answer_on usual_ladder range p
usual_prepared range p = (any_range_on_table usual_table range p).named table_laws.usual_is_named

pub usual : (s : List ℕ) → judged_by (terms_on usual_table) s ≡ judged usual_ladder five_percent s
usual s = (judged_on_table usual_table s).named table_laws.usual_is_named

any_order_price_on : AnyOrderPriceOn
any_order_price_on n s u ns nu same h = go (unknown_table n) refl
  where
    go : (v : Bool) → unknown_table n ≡ v → SameRange (table_named n) (judged_by (terms_on n) s) (judged_by (terms_on n) u) (price_of u)
    go true e = absurd (rw ((judged_on_table n s).unknown ns e) at h)
    go false e =
        let of_s = (judged_on_table n s).named e in
        let of_u = (judged_on_table n u).named e in
        let wf = (table_laws.named_tables n).well_formed_lem e in
        rw (of_s, of_u) (any_order_price (table_named n) wf five_percent s u ns nu same (rw of_s at h))

-- ---- numbers

-- 0, 2 to 10 or 15, by every reading
by_any_reading : (l : List ℕ) (reading : Reading) (p : ℕ) → T (is_question_number (answer_by l reading p).number)
by_any_reading l (Ok range) p = go (verdict_of l range p)
  where
    go : (v : Verdict) → T (is_question_number (verdict_number v))
    go Accepted = tt
    go OutsideLadder = tt
    go BetweenPrices = tt
    go BelowLowest = tt
    go AboveHighest = tt
    go NineFold = tt
by_any_reading l (Err UnknownCode) p = tt
by_any_reading l (Err BadSecurityCode) p = tt
by_any_reading l (Err OffLadder) p = tt
by_any_reading l (Err Disagreement) p = tt
by_any_reading l (Err NoOpposite) p = tt

-- 1 to 5 and 15 show 0 and 0
refusal_shows_none : (l : List ℕ) (reading : Reading) (p : ℕ) → T (is_refusal (answer_by l reading p).number) →
    answer_by l reading p ≡ none_shown (answer_by l reading p).number
refusal_shows_none l (Ok range) p h = absurd (go (verdict_of l range p) h)
  where
    go : (v : Verdict) → T (is_refusal (verdict_number v)) → ⊥
    go Accepted h = h
    go OutsideLadder h = h
    go BetweenPrices h = h
    go BelowLowest h = h
    go AboveHighest h = h
    go NineFold h = h
refusal_shows_none l (Err refusal) p h = refl

question_numbers : QuestionNumbers
question_numbers l percent s =
    record {
      of_a_question = λ n. rw (by_reading l percent s n) (by_any_reading l (reading_of l percent (codes_of s) (references_of s)) (price_of s));
      of_other_bytes = other_bytes l percent s;
      refused = refused (eqb (length s) question_bytes) refl;
    }
  where
    refused : (v : Bool) → eqb (length s) question_bytes ≡ v → T (is_refusal (judged l percent s).number) →
        judged l percent s ≡ none_shown (judged l percent s).number
    refused true e h =
        let by = by_reading l percent s (eqb-true (length s) question_bytes e) in
        rw by (refusal_shows_none l (reading_of l percent (codes_of s) (references_of s)) (price_of s) (rw by at h))
    refused false e h = rw (other_bytes l percent s (eqb-false (length s) question_bytes e))

largest_number : LargestNumber
largest_number n h =
    ⊎_elim
    (λ below.
    ⊎_elim
    (λ e. let z : n ≡ 0 = eqb-true n 0 (passed (eqb n 0) e) in omega arith)
    (λ m. let z : n ≤ 10 = leb→le n 10 (and_right (leb 2 n) (leb n 10) m) in omega arith)
    (or_cases (eqb n 0) (leb 2 n && leb n 10) below))
    (λ e. let z : n ≡ 15 = eqb-true n 15 (passed (eqb n 15) e) in omega arith)
    (or_cases (eqb n 0 || leb 2 n && leb n 10) (eqb n 15) h)

-- ---- all of them

pub judging_laws : JudgingLaws
judging_laws =
    record {
      shown_is_exactly = shown_is_exactly;
      range_or_none = range_or_none;
      both_parts = both_parts;
      any_range = any_range;
      any_order_price = any_order_price;
      security_alters_no_answer = security_alters_no_answer;
      judged_on_table = judged_on_table;
      any_range_on_table = any_range_on_table;
      any_order_price_on = any_order_price_on;
      question_numbers = question_numbers;
      largest_number = largest_number;
    }
