-- The laws of specs/Laws.antt, proved. Other crates see them as fields of report_laws.
use Rattle.std.specs.Prelude.{Option, Some, None, count_by}
use mathlib.Core.Path.{◌≡◌, refl, sym, ◌∙◌, ap}
use mathlib.Core.Logic.{⊎_elim}
use Prim.Native.Nat.{ℕ, zero, suc, ◌+◌, ◌*◌, ◌%◌, ◌≤◌, ◌<◌}
use native.Mathlib.Nat.{add-zero, add-suc, eq-or-lt_of_le, le_of_suc-le-suc, mul-le-mul}
use native.Mathlib.Omega.{arith}
use mathlib.Core.Bool.{Bool, true, false, not, ◌&&◌, ◌||◌, and-false, cond}
use mathlib.Core.List.{List, [], ◌∷◌, ◌++◌, append_assoc, append-nil, map}
use lib.Dec.{T, eqb, leb, ltb}
use lib.ListN.{length, length-append}
use Rattle.std.proofs.lemmas.List.{map-append}
use borrow.Author.Tests.{not-true, eqb-true, eqb-false, eq-eqb, ne_eqb, ltb-true, ltb-false, lt-leb}
use Rattle.facts.specs.Lists.{holds}
use Rattle.facts.proofs.Tests.{and_left, and_right, passed}
use Rattle.tables.specs.Bands.{Table, well_formed}
use Rattle.ladder.specs.Ladder.{ladder}
use Rattle.ladder.specs.Places.{last_price}
use Rattle.ladder.proofs.Laws.{ladder_laws}
use Rattle.limits.specs.declared.Percentage.{Percentage}
use Rattle.questions.specs.Record.{question_bytes, count_of, question_at, side_of, codes_of}
use Rattle.questions.proofs.Laws.{question_laws}
use Rattle.rules.specs.Rules.{known_side, chosen}
use Rattle.ranges.specs.Readings.{reading_of}
use Rattle.judging.specs.declared.Answer.{Answer}
use Rattle.judging.specs.Answers.{judged}
use Rattle.judging.specs.Laws.{is_question_number}
use Rattle.judging.proofs.Laws.{judging_laws}
use Rattle.batch.specs.Record.{answer_bytes, answer_at}
use Rattle.batch.specs.Batch.{buffer_after}
use Rattle.batch.proofs.Laws.{batch_laws}
use Rattle.report.specs.Records.{Entry, entry, first_records, records_of, entries_of, answers_of, entries_in, answers_in}
use Rattle.report.specs.Counts.{numbers, is_unknown, count, counts_of, total, place_in, column_of}
use Rattle.report.specs.Widths.{width, widths_of}
use Rattle.report.specs.Laws.{PartsJoin, LeftOver, CountedOnce, EachOnce, RowsAreNumbers, WidthOfARange, TotalIsRecords, UnknownSides, WidthsWithin, ReportFits, BatchesAreFiles, ReportLaws}
use Rattle.report.proofs.Joining.{tables_join, total_added, one_counted}
use Rattle.report.proofs.OneMore.{ones, counted_more, one_row, total_of_one}
use Rattle.report.proofs.Ends.{smallest_and_largest}
use Rattle.report.proofs.Widening.{widths_join}
use Rattle.report.proofs.Limits.{Limited, none_limited, one_limited, both_limited}

-- ---- a file in parts

module _ (s t : List ℕ) where
  records_before : (k : ℕ) → k * question_bytes ≤ length s → first_records k (s ++ t) ≡ first_records k s
  unfolding first_records
  records_before zero h = refl
  records_before (suc k) h = rw (records_before k (omega (arith, h)), (question_laws.files_end_to_end s t).first k h) refl

  first_join : (n k : ℕ) → length s ≡ n * question_bytes → first_records (n + k) (s ++ t) ≡ first_records n s ++ first_records k t
  unfolding first_records
  first_join n zero h = rw (add-zero n, records_before n (omega (arith, h))) (sym (append-nil (first_records n s)))
  first_join n (suc k) h =
      rw (add-suc n k, first_join n k h, (question_laws.files_end_to_end s t).second n k h)
      (append_assoc (first_records n s) (first_records k t) (question_at k t ∷ []))

  records_join : length s % question_bytes ≡ 0 → records_of (s ++ t) ≡ records_of s ++ records_of t
  records_join h =
      let both = length-append s t in
      let count : count_of (length (s ++ t)) ≡ count_of (length s) + count_of (length t) = omega (arith, both, h) in
      rw (count) (first_join (count_of (length s)) (count_of (length t)) (omega (arith, h)))

parts_join : PartsJoin
parts_join l percent s t h =
    let records = records_join s t h in
    record {
      counts = ap counts_of (ap (map (entry l percent)) records ∙ map-append (entry l percent) (records_of s) (records_of t)) ∙ tables_join (entries_of l percent s) (entries_of l percent t);
      widths = rw (records, map-append (judged l percent) (records_of s) (records_of t)) (widths_join (answers_of l percent s) (answers_of l percent t));
    }

left_over : LeftOver
unfolding first_records
left_over s t h short =
    let none : count_of (length t) ≡ 0 = omega (arith, short) in
    records_join s t h ∙ rw (none) (append-nil (records_of s))

-- ---- each record, once

length_first : (n : ℕ) (s : List ℕ) → length (first_records n s) ≡ n
unfolding first_records
length_first zero s = refl
length_first (suc n) s = omega (arith, length-append (first_records n s) (question_at n s ∷ []), length_first n s)

-- every number that a question can get has its row: tried for all below 16
abbrev tried : (ℕ → Bool) → ℕ → Bool
tried p zero = true
tried p (suc k) = p k && tried p k

by_trial : (p : ℕ → Bool) (k n : ℕ) → T (tried p k) → n < k → T (p n)
by_trial p zero n h m = absurd (omega arith)
by_trial p (suc k) n h m =
    ⊎_elim (λ e. rw (e) (and_left (p k) (tried p k) h)) (by_trial p k n (and_right (p k) (tried p k) h)) (eq-or-lt_of_le (le_of_suc-le-suc m))

abbrev has_row : ℕ → Bool
has_row n = not (is_question_number n) || eqb (ones (place_in numbers n)) 1

has_its_row : (n : ℕ) → T (is_question_number n) → ones (place_in numbers n) ≡ 1
unfolding place_in
has_its_row n h = eqb-true (ones (place_in numbers n)) 1 (passed _ (go (is_question_number n) (eqb (ones (place_in numbers n)) 1) h (by_trial has_row 16 n tt (omega (arith, judging_laws.largest_number n h)))))
  where
    go : (a b : Bool) → T a → T (not a || b) → T b
    go true b h m = m
    go false b h m = absurd h

-- the entry of a record, and its number
module _ (l : List ℕ) (percent : Percentage) (q : List ℕ) (whole : length q ≡ question_bytes) where
  its_number : T (is_question_number (judged l percent q).number)
  its_number = (judging_laws.question_numbers l percent q).of_a_question whole

  counted_in : ones (place_in numbers (judged l percent q).number) ≡ 1
  counted_in = has_its_row (judged l percent q).number its_number

each_once : EachOnce
unfolding counts_of
each_once l percent q whole = go (place_in numbers e.number) refl (counted_in l percent q whole)
  where
    e : Entry
    e = entry l percent q

    go : (place : Option ℕ) → place_in numbers e.number ≡ place → ones (place_in numbers e.number) ≡ 1 → CountedOnce e
    go None f one = cc
    go (Some i) f one =
        record {
          place = i;
          placed = f;
          counts = λ es. sym (counted_more es e i (column_of e.side) f refl);
          own_row = one_row e e.number ∙ rw (eq-eqb e.number e.number refl) refl;
          other_rows = λ n other. rw (other) refl;
          all_rows = total_of_one e ∙ one;
        }

-- tried for all below 16, and false for all others
abbrev alike : Bool → Bool → Bool
alike a b = cond a b (not b)

alike_is_same : (a b : Bool) → T (alike a b) → a ≡ b
alike_is_same true true h = refl
alike_is_same true false h = absurd h
alike_is_same false true h = absurd h
alike_is_same false false h = refl

rows_are_numbers : RowsAreNumbers
unfolding holds
rows_are_numbers n = go (ltb n 16) refl
  where
    above : (m : ℕ) → 16 ≤ n → m < 16 → eqb n m ≡ false
    above m h small = ne_eqb n m (λ e. omega (arith, h, small, e))

    go : (b : Bool) → ltb n 16 ≡ b → holds n numbers ≡ is_question_number n
    go true f =
        alike_is_same (holds n numbers) (is_question_number n) (by_trial (λ m. alike (holds m numbers) (is_question_number m)) 16 n tt (ltb-true n 16 f))
    go false f =
        let h = ltb-false n 16 f in
        let at : (m : ℕ) → m < 16 → eqb n m ≡ false = λ m small. above m h small in
        rw (
          at 0 (omega arith),
          at 2 (omega arith),
          at 3 (omega arith),
          at 4 (omega arith),
          at 5 (omega arith),
          at 6 (omega arith),
          at 7 (omega arith),
          at 8 (omega arith),
          at 9 (omega arith),
          at 10 (omega arith),
          at 15 (omega arith),
          lt-leb n 10 (omega (arith, h)),
          and-false (leb 2 n),
        ) refl

total_is_records : TotalIsRecords
unfolding counts_of total first_records
total_is_records l percent s =
    record {
      records = length_first (count_of (length s)) s;
      counts = so_far (count_of (length s)) (omega arith);
    }
  where
    so_far : (n : ℕ) → n ≤ count_of (length s) → total (counts_of (map (entry l percent) (first_records n s))) ≡ n
    so_far zero h = refl
    so_far (suc n) h =
        let q = question_at n s in
        let before = map (entry l percent) (first_records n s) in
        let joined = ap (λ es. total (counts_of es)) (map-append (entry l percent) (first_records n s) (q ∷ [])) in
        let parts = ap total (tables_join before (entry l percent q ∷ [])) ∙ total_added (counts_of before) (counts_of (entry l percent q ∷ [])) in
        let one = total_of_one (entry l percent q) ∙ counted_in l percent q (question_laws.questions_are_whole s n (omega (arith, h))) in
        omega (arith, joined, parts, one, so_far n (omega (arith, h)))

-- ---- unknown sides

-- a record of an unknown side gets 2
gets_2 : (l : List ℕ) (percent : Percentage) (q : List ℕ) → length q ≡ question_bytes → known_side (side_of q) ≡ false → (judged l percent q).number ≡ 2
unfolding judged reading_of chosen codes_of
gets_2 l percent q whole unknown = rw (eq-eqb (length q) question_bytes whole, unknown) refl

-- so among those of 2 it is counted, and in no other row
module _ (e : Entry) (is : is_unknown e ≡ true → e.number ≡ 2) where
  in_row_2 : (eqb e.number 2 && is_unknown e) ≡ is_unknown e
  in_row_2 = go (is_unknown e) refl
    where
      go : (b : Bool) → is_unknown e ≡ b → (eqb e.number 2 && is_unknown e) ≡ is_unknown e
      go true f = rw (eq-eqb e.number 2 (is f), f) refl
      go false f = rw (f) (and-false (eqb e.number 2))

  in_no_other : (n : ℕ) → eqb n 2 ≡ false → (eqb e.number n && is_unknown e) ≡ false
  in_no_other n other = go (is_unknown e) refl
    where
      go : (b : Bool) → is_unknown e ≡ b → (eqb e.number n && is_unknown e) ≡ false
      go true f = rw (is f, ne_eqb 2 n (λ same. eqb-false n 2 other (sym same))) refl
      go false f = rw (f) (and-false (eqb e.number n))

unknown_sides : UnknownSides
unfolding first_records
unknown_sides l percent s =
    record { all = all (count_of (length s)) (omega arith); no_other = λ n other. no_other n other (count_of (length s)) (omega arith) }
  where
    two : (k : ℕ) → k < count_of (length s) → is_unknown (entry l percent (question_at k s)) ≡ true → (entry l percent (question_at k s)).number ≡ 2
    two k h unknown = gets_2 l percent (question_at k s) (question_laws.questions_are_whole s k h) (not-true (known_side (side_of (question_at k s))) unknown)

    one_more : (test : Entry → Bool) (k : ℕ) →
        count_by test (map (entry l percent) (first_records (suc k) s)) ≡ count_by test (map (entry l percent) (first_records k s)) + cond (test (entry l percent (question_at k s))) 1 0
    one_more test k = ap (count_by test) (map-append (entry l percent) (first_records k s) (question_at k s ∷ [])) ∙ one_counted test (map (entry l percent) (first_records k s)) (entry l percent (question_at k s))

    all : (k : ℕ) → k ≤ count_of (length s) → count 2 is_unknown (map (entry l percent) (first_records k s)) ≡ count_by is_unknown (map (entry l percent) (first_records k s))
    all zero h = refl
    all (suc k) h =
        one_more (λ e. eqb e.number 2 && is_unknown e) k ∙
        rw (all k (omega (arith, h)), in_row_2 (entry l percent (question_at k s)) (two k (omega (arith, h)))) (sym (one_more is_unknown k))

    no_other : (n : ℕ) → eqb n 2 ≡ false → (k : ℕ) → k ≤ count_of (length s) → count n is_unknown (map (entry l percent) (first_records k s)) ≡ 0
    no_other n other zero h = refl
    no_other n other (suc k) h =
        one_more (λ e. eqb e.number n && is_unknown e) k ∙
        rw (no_other n other k (omega (arith, h)), in_no_other (entry l percent (question_at k s)) (two k (omega (arith, h))) n other) refl

-- ---- room

module _ (t : Table) (wf : T (well_formed t)) (percent : Percentage) where
  -- no range is wider than the ladder
  width_within : (q : List ℕ) → width (judged (ladder t) percent q) ≤ last_price (ladder t)
  width_within q =
      ⊎_elim
      (λ r. omega (arith, (ladder_laws.ends_are_the_tables t wf).none_above (judged (ladder t) percent q).highest r.highest_on))
      (λ none. omega (arith, none.1))
      (judging_laws.range_or_none t wf percent q)

  limited : (s : List ℕ) (n : ℕ) → Limited n (last_price (ladder t)) (widths_of (map (judged (ladder t) percent) (first_records n s)))
  unfolding first_records
  limited s zero = none_limited (last_price (ladder t))
  limited s (suc n) =
      let answers = map (judged (ladder t) percent) (first_records n s) in
      let answer = judged (ladder t) percent (question_at n s) in
      let next : suc n ≡ n + 1 = omega arith in
      rw (next, map-append (judged (ladder t) percent) (first_records n s) (question_at n s ∷ []), widths_join answers (answer ∷ []))
      (both_limited n 1 (last_price (ladder t)) (widths_of answers) (widths_of (answer ∷ [])) (limited s n)
      (one_limited (last_price (ladder t)) answer (width_within (question_at n s))))

widths_within : WidthsWithin
widths_within t wf percent s =
    let l = limited t wf percent s (count_of (length s)) in
    record { count = l.count; sum_lem = l.sum_lem; smallest = l.smallest_lem; largest = l.largest_lem }

width_of_a_range : WidthOfARange
width_of_a_range t wf percent q =
    ⊎_elim (λ r. omega (arith, r.rises)) (λ none. omega (arith, none.0, none.1)) (judging_laws.range_or_none t wf percent q)

report_fits : ReportFits
report_fits t wf small percent s few =
    let within = widths_within t wf percent s in
    let product : count_of (length s) * last_price (ladder t) ≤ 4294967295 * 16777215 = mul-le-mul {n₂ = 4294967295} {m₂ = 16777215} (omega (arith, few)) (omega (arith, small)) in
    record {
      total_lem = rw ((total_is_records (ladder t) percent s).counts) few;
      count = omega (arith, within.count, few);
      sum_lem = omega (arith, within.sum_lem, product);
      largest = omega (arith, within.largest, small);
    }

-- ---- by the bytes of a batch

batches_are_files : BatchesAreFiles
unfolding entries_in answers_in first_records
batches_are_files t wf fits percent s a h =
    record { entries = entries (count_of (length s)) (omega arith); answers = answers (count_of (length s)) (omega arith) }
  where
    buffer : List ℕ
    buffer = buffer_after (ladder t) percent s a

    read : (k : ℕ) → k < count_of (length s) → answer_at (k * answer_bytes) buffer ≡ judged (ladder t) percent (question_at k s)
    read k m = batch_laws.answer_reads_back t wf fits percent s a h k m

    entries : (k : ℕ) → k ≤ count_of (length s) → entries_in k s buffer ≡ map (entry (ladder t) percent) (first_records k s)
    entries zero m = refl
    entries (suc k) m =
        rw (entries k (omega (arith, m)), ap (λ (a : Answer). a.number) (read k (omega (arith, m)))) (sym (map-append (entry (ladder t) percent) (first_records k s) (question_at k s ∷ [])))

    answers : (k : ℕ) → k ≤ count_of (length s) → answers_in k buffer ≡ map (judged (ladder t) percent) (first_records k s)
    answers zero m = refl
    answers (suc k) m =
        rw (answers k (omega (arith, m)), read k (omega (arith, m)))
        (sym (map-append (judged (ladder t) percent) (first_records k s) (question_at k s ∷ [])))

-- ---- all of them

pub report_laws : ReportLaws
report_laws =
    record {
      parts_join = parts_join;
      left_over = left_over;
      total_is_records = total_is_records;
      each_once = each_once;
      rows_are_numbers = rows_are_numbers;
      unknown_sides = unknown_sides;
      width_of_a_range = width_of_a_range;
      smallest_and_largest = smallest_and_largest;
      widths_within = widths_within;
      report_fits = report_fits;
      batches_are_files = batches_are_files;
    }
