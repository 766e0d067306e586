-- Counts of some records, and of further ones.
use mathlib.Core.Path.{◌≡◌, refl, sym, ◌∙◌, ap}
use Prim.Native.Nat.{ℕ, zero, suc, ◌+◌, ◌*◌, ◌≤◌}
use native.Mathlib.Omega.{arith}
use mathlib.Core.List.{List, [], ◌∷◌, ◌++◌, append-nil}
use lib.ListN.{length, length-append}
use Rattle.std.specs.Prelude.{Some, None}
use Rattle.little_endian.specs.Numbers.{number}
use Rattle.questions.specs.Record.{question_at, side_of}
use Rattle.batch.specs.Record.{answer_bytes, answer_at}
use Rattle.report.specs.Records.{Entry, entry_of, entries_in}
use Rattle.report.specs.Counts.{Counts, numbers, counts_of, all_added, AreCounts, total, place_in, column_of, raised}
use Rattle.report.proofs.Joining.{tables_join, all_added_assoc, total_added}
use Rattle.report.proofs.OneMore.{one_raised, none_raised, total_within}

-- of these and further records they are counts too
some_more : (counts : Counts) (es : List Entry) → AreCounts counts → AreCounts (all_added counts (counts_of es))
some_more counts es some =
    record { entries = some.entries ++ es; are = rw (tables_join some.entries es, ← some.are) refl }

pub none_further : (counts : Counts) → AreCounts counts → counts ≡ all_added counts (counts_of [])
none_further counts some =
    some.are ∙ ap counts_of (sym (append-nil some.entries)) ∙ tables_join some.entries [] ∙ ap (λ (c : Counts). all_added c (counts_of [])) (sym some.are)

one_further : (counts : Counts) (es : List Entry) (e : Entry) →
    all_added (all_added counts (counts_of es)) (counts_of (e ∷ [])) ≡ all_added counts (counts_of (es ++ (e ∷ [])))
one_further counts es e =
    all_added_assoc counts (counts_of es) (counts_of (e ∷ [])) ∙ ap (all_added counts) (sym (tables_join es (e ∷ [])))

-- as many entries as questions
entries_counted : (n : ℕ) (s a : List ℕ) → length (entries_in n s a) ≡ n
unfolding entries_in
entries_counted zero s a = refl
entries_counted (suc n) s a =
    omega (arith, length-append (entries_in n s a) (entry_of (side_of (question_at n s)) (answer_at (n * answer_bytes) a) ∷ []), entries_counted n s a)

-- no more is counted than there are records
total_further : (counts : Counts) (n : ℕ) (s a : List ℕ) → total (all_added counts (counts_of (entries_in n s a))) ≤ total counts + n
total_further counts n s a =
    omega (arith, total_added counts (counts_of (entries_in n s a)), total_within (entries_in n s a), entries_counted n s a)

-- ---- record k, after the k records before it

abbrev record_at : ℕ → List ℕ → List ℕ → Entry
record_at k s a = record { side = side_of (question_at k s); number = number (k * answer_bytes) a }

module _ (counts now : Counts) (k : ℕ) (s a : List ℕ) (some : AreCounts counts) (before : now ≡ all_added counts (counts_of (entries_in k s a))) where
  one_after : all_added now (counts_of (record_at k s a ∷ [])) ≡ all_added counts (counts_of (entries_in (suc k) s a))
  unfolding entries_in
  one_after =
      ap (λ (c : Counts). all_added c (counts_of (record_at k s a ∷ []))) before ∙ one_further counts (entries_in k s a) (record_at k s a)

  counted_so_far : AreCounts now
  counted_so_far = rw (before) (some_more counts (entries_in k s a) some)

  pub next_counted : (i j : ℕ) → place_in numbers (number (k * answer_bytes) a) ≡ Some i → j ≡ column_of (side_of (question_at k s)) →
      raised now i j ≡ all_added counts (counts_of (entries_in (suc k) s a))
  next_counted i j h is = one_raised now (record_at k s a) counted_so_far i j h is ∙ one_after

  pub next_not_counted : place_in numbers (number (k * answer_bytes) a) ≡ None → now ≡ all_added counts (counts_of (entries_in (suc k) s a))
  next_not_counted h = none_raised now (record_at k s a) counted_so_far h ∙ one_after

  pub now_within : total now ≤ total counts + k
  now_within = rw (before) (total_further counts k s a)
