-- The laws of specs/Laws.antt, proved. Other crates see them as fields of batch_laws.
use mathlib.Core.Path.{◌≡◌, refl, sym, ◌∙◌, ap, subst}
use mathlib.Core.Logic.{⊎_elim}
use Prim.Native.Nat.{ℕ, zero, suc, ◌+◌, ◌*◌, ◌≤◌, ◌<◌}
use native.Mathlib.Nat.{eq-or-lt_of_le, le_of_suc-le-suc}
use native.Mathlib.Omega.{arith}
use mathlib.Core.Bool.{Bool, true, false, not, ◌&&◌, cond, ◌||◌}
use mathlib.Core.List.{List, ◌++◌, append_assoc}
use lib.Dec.{T, eqb, leb, ltb, leb→le}
use lib.ListN.{length, get_or, take, drop}
use lib.Seq.{take_at, drop_at, get_or-take, get_or-drop}
use borrow.Author.Tests.{not-true, eqb-true, eqb-false, le-ltb}
use Rattle.tables.specs.Bands.{Table, well_formed}
use Rattle.tables.specs.Named.{table_named, unknown_table}
use Rattle.tables.proofs.Laws.{table_laws}
use Rattle.ladder.specs.Named.{ladder_named}
use Rattle.ladder.specs.Ladder.{ladder, is_ladder_price}
use Rattle.ladder.specs.Places.{last_price}
use Rattle.facts.proofs.Tests.{passed, true_of, and_right, or_cases}
use Rattle.ladder.proofs.Laws.{ladder_laws}
use Rattle.limits.specs.declared.Percentage.{Percentage}
use Rattle.limits.specs.Limits.{five_percent}
use Rattle.limits.specs.Terms.{terms_on}
use Rattle.little_endian.specs.Numbers.{number}
use Rattle.questions.specs.Record.{question_bytes, count_of, question_at}
use Rattle.little_endian.specs.Laws.{number_bound}
use Rattle.little_endian.proofs.Laws.{number_laws}
use Rattle.questions.proofs.Laws.{question_laws}
use Rattle.judging.specs.declared.Answer.{Answer}
use Rattle.judging.specs.Answers.{judged}
use Rattle.judging.specs.Laws.{not_refused, is_question_number}
use Rattle.judging.proofs.Laws.{judging_laws}
use Rattle.batch.specs.declared.Outcome.{Outcome}
use Rattle.batch.specs.Record.{answer_bytes, encoded, answer_at}
use Rattle.batch.specs.Batch.{refused, answers_to, answered, buffer_after, outcome_found}
use Rattle.batch.specs.Laws.{is_judged, EmptyBatch, AnswerAlone, AnswerReadsBack, SameBut, OthersKept, AnyOrderPriceInBatch, BatchOnTable, AnyOrderPriceInBatchOn, BatchLaws}
use Rattle.batch.proofs.Changes.{same_question, changed_record, followed}
use Rattle.batch.proofs.Buffer.{length_encoded, length_answers}

-- ---- a batch that is judged

judged_into : (s a : List ℕ) → T (is_judged s a) → refused (length s) (length a) ≡ false
judged_into s a h = not-true _ (passed _ h)

buffer_is : (l : List ℕ) (percent : Percentage) (s a : List ℕ) → T (is_judged s a) → buffer_after l percent s a ≡ answered l percent (count_of (length s)) s a
buffer_is l percent s a h = rw (judged_into s a h)

empty_batch : EmptyBatch
unfolding answers_to
empty_batch l percent a = record { outcome = rw room refl; buffer = rw room refl }
  where
    room : ltb (length a) 0 ≡ false
    room = le-ltb (length a) 0 (omega arith)

-- ---- answer k

part_of : (l : List ℕ) (percent : Percentage) (s rest : List ℕ) (n k : ℕ) → k < n →
    take answer_bytes (drop (k * answer_bytes) (answers_to l percent n s ++ rest)) ≡ encoded (judged l percent (question_at k s))
unfolding answers_to
part_of l percent s rest zero k h = absurd (omega arith)
part_of l percent s rest (suc n) k h =
    rw (append_assoc (answers_to l percent n s) (encoded (judged l percent (question_at n s))) rest)
    (⊎_elim last (part_of l percent s (encoded (judged l percent (question_at n s)) ++ rest) n k) (eq-or-lt_of_le (le_of_suc-le-suc h)))
  where
    answer : List ℕ
    answer = encoded (judged l percent (question_at n s))

    last : k ≡ n → take answer_bytes (drop (k * answer_bytes) (answers_to l percent n s ++ (answer ++ rest))) ≡ encoded (judged l percent (question_at k s))
    last e =
        rw (e, drop_at (answers_to l percent n s) (answer ++ rest) (n * answer_bytes) (length_answers l percent s n))
        (take_at answer rest answer_bytes (length_encoded (judged l percent (question_at n s))))

answer_alone : AnswerAlone
answer_alone l percent s a h k m = rw (buffer_is l percent s a h) (part_of l percent s _ (count_of (length s)) k m)

-- ---- the numbers of an answer

-- the three numbers of an answer are read back
reads_back : (a : Answer) → a.number < number_bound → a.lowest < number_bound → a.highest < number_bound → answer_at 0 (encoded a) ≡ a
unfolding encoded
reads_back a n low high =
    let back = number_laws.number_reads_back in
    rw (back a.number n, back a.lowest low, back a.highest high)

-- a byte of a part
byte_of : (s : List ℕ) (at i m : ℕ) → i < answer_bytes → m ≡ at + i → get_or (take answer_bytes (drop at s)) i 0 ≡ get_or s m 0
byte_of s at i m h e = get_or-take answer_bytes (drop at s) i 0 h ∙ get_or-drop at s i 0 ∙ ap (λ (n : ℕ). get_or s n 0) (sym e)

number_of : (s : List ℕ) (at i m : ℕ) → i + 4 ≤ answer_bytes → m ≡ at + i → number i (take answer_bytes (drop at s)) ≡ number m s
number_of s at i m h e =
    rw (
      byte_of s at i m (omega arith) e,
      byte_of s at (i + 1) (m + 1) (omega arith) (omega arith),
      byte_of s at (i + 2) (m + 2) (omega arith) (omega arith),
      byte_of s at (i + 3) (m + 3) (omega arith) (omega arith),
    )

answer_of : (s : List ℕ) (at : ℕ) → answer_at 0 (take answer_bytes (drop at s)) ≡ answer_at at s
answer_of s at =
    rw (
      number_of s at 0 at (omega arith) (omega arith),
      number_of s at 4 (at + 4) (omega arith) (omega arith),
      number_of s at 8 (at + 8) (omega arith) (omega arith),
    )

-- ---- whole answers

module _ (t : Table) (wf : T (well_formed t)) (fits : last_price (ladder t) < number_bound) where
  small_price : (p : ℕ) → T (is_ladder_price p t) → p < number_bound
  small_price p on = let m = (ladder_laws.ends_are_the_tables t wf).none_above p on in omega arith

  whole_answer : (percent : Percentage) (q : List ℕ) → length q ≡ question_bytes → answer_at 0 (encoded (judged (ladder t) percent q)) ≡ judged (ladder t) percent q
  whole_answer percent q n =
      let is_number = (judging_laws.question_numbers (ladder t) percent q).of_a_question n in
      let number : (judged (ladder t) percent q).number < number_bound =
      omega (arith, judging_laws.largest_number (judged (ladder t) percent q).number is_number)
      in
      ⊎_elim
      (λ r. reads_back (judged (ladder t) percent q) number (small_price _ r.lowest_on) (small_price _ r.highest_on))
      (λ none.
      reads_back (judged (ladder t) percent q) number (rw none.0 (omega arith)) (rw none.1 (omega arith)))
      (judging_laws.range_or_none t wf percent q)

answer_reads_back : AnswerReadsBack
answer_reads_back t wf fits percent s a h k m =
    sym (answer_of (buffer_after (ladder t) percent s a) (k * answer_bytes)) ∙
    ap (answer_at 0) (answer_alone (ladder t) percent s a h k m) ∙
    whole_answer t wf fits percent (question_at k s) (question_laws.questions_are_whole s k m)

any_order_price_in_batch : AnyOrderPriceInBatch
any_order_price_in_batch t wf fits percent s u a b h i k m n same judged_before =
    let first = answer_reads_back t wf fits percent s a h k m in
    let second = answer_reads_back t wf fits percent u b i k n in
    rw (first, second)
    (judging_laws.any_order_price t wf percent (question_at k s) (question_at k u) (question_laws.questions_are_whole s k m) (question_laws.questions_are_whole u k n) same
    (subst (λ (x : Answer). T (not_refused x.number)) first judged_before))

-- ---- on a table by its number

batch_on_table : BatchOnTable
batch_on_table n s a =
    record {
      no_batch = λ h. no_batch (passed _ h) (unknown_table n) refl;
      unknown = λ h e. rw (e, judged_into s a h) refl;
      untouched = λ e. rw e refl;
      named = λ e. rw e refl;
      buffer = λ e. rw e refl;
    }
  where
    no_batch : refused (length s) (length a) ≡ true → (v : Bool) → unknown_table n ≡ v → outcome_found (terms_on n) s a ≡ record { number = 1; count = 0 }
    no_batch h true e = rw (e, h) refl
    no_batch h false e = rw (e, h) refl

-- a batch that is returned with number 0 was judged, and its table is one that there is
module _ (n : ℕ) (s a : List ℕ) (returned : (outcome_found (terms_on n) s a).number ≡ 0) where
  is_a_batch : T (is_judged s a)
  is_a_batch = go (refused (length s) (length a)) refl where
    go : (v : Bool) → refused (length s) (length a) ≡ v → T (not v)
    go true e = absurd (not_returned (ap (λ (o : Outcome). o.number) ((batch_on_table n s a).no_batch (true_of _ e)))) where
      not_returned : (outcome_found (terms_on n) s a).number ≡ 1 → ⊥
      not_returned one = omega (arith, returned)
    go false e = tt

  has_a_table : unknown_table n ≡ false
  has_a_table = go (unknown_table n) refl where
    go : (v : Bool) → unknown_table n ≡ v → v ≡ false
    go true e = absurd (not_returned (ap (λ (o : Outcome). o.number) ((batch_on_table n s a).unknown is_a_batch e))) where
      not_returned : (outcome_found (terms_on n) s a).number ≡ 14 → ⊥
      not_returned fourteen = omega (arith, returned)
    go false e = refl

any_order_price_in_batch_on : AnyOrderPriceInBatchOn
any_order_price_in_batch_on n s u a b first second k m o same judged_before =
    let known = has_a_table n s a first in
    let wf = (table_laws.named_tables n).well_formed_lem known in
    let fits : last_price (ladder_named n) < number_bound = rw (ladder_laws.same_ends n known).to_last (omega arith) in
    let of_s = (batch_on_table n s a).buffer known in
    let of_u = (batch_on_table n u b).buffer known in
    rw (of_s, of_u)
    (any_order_price_in_batch (table_named n) wf fits five_percent s u a b (is_a_batch n s a first) (is_a_batch n u b second) k m o same
    (rw of_s at judged_before))

-- ---- one question changed

module _ (l : List ℕ) (percent : Percentage) (j : ℕ) (s u : List ℕ) (same : SameBut question_bytes j s u) where
  other_answers : (n : ℕ) → SameBut answer_bytes j (answers_to l percent n s) (answers_to l percent n u)
  unfolding answers_to
  other_answers zero = record { same_length = refl; before = λ i h. refl; after = λ i h. refl }
  other_answers (suc n) = go (other_answers n) (eqb n j) refl
    where
      answer : List ℕ → List ℕ
      answer v = encoded (judged l percent (question_at n v))

      go : SameBut answer_bytes j (answers_to l percent n s) (answers_to l percent n u) → (v : Bool) → eqb n j ≡ v →
          SameBut answer_bytes j (answers_to l percent n s ++ answer s) (answers_to l percent n u ++ answer u)
      go so_far true e =
          changed_record answer_bytes j (answers_to l percent n s) (answers_to l percent n u) (answer s) (answer u) so_far
          (length_answers l percent s n ∙ ap (λ (k : ℕ). k * answer_bytes) (eqb-true n j e)) (length_encoded _) (length_encoded _)
      go so_far false e =
          rw (same_question j n s u same (eqb-false n j e))
          (followed answer_bytes j (answers_to l percent n s) (answers_to l percent n u) (answer u) so_far)

others_kept : OthersKept
others_kept l percent j s u a same =
    record { outcome = rw same.same_length; buffer = rw same.same_length (go (refused (length u) (length a))) }
  where
    go : (v : Bool) → SameBut answer_bytes j (cond v a (answered l percent (count_of (length u)) s a)) (cond v a (answered l percent (count_of (length u)) u a))
    go true = record { same_length = refl; before = λ i h. refl; after = λ i h. refl }
    go false = followed answer_bytes j _ _ _ (other_answers l percent j s u same (count_of (length u)))

-- ---- all of them

pub batch_laws : BatchLaws
batch_laws =
    record {
      empty_batch = empty_batch;
      answer_alone = answer_alone;
      answer_reads_back = answer_reads_back;
      others_kept = others_kept;
      any_order_price_in_batch = any_order_price_in_batch;
      batch_on_table = batch_on_table;
      any_order_price_in_batch_on = any_order_price_in_batch_on;
    }
