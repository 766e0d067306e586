-- The whole questions of a piece, judged as a batch, are the records that are counted of it.
use mathlib.Core.Path.{◌≡◌, sym, ◌∙◌, ap}
use Prim.Native.Nat.{ℕ, ◌*◌, ◌%◌, ◌≤◌, ◌<◌}
use native.Mathlib.Omega.{arith}
use mathlib.Core.List.{List, map}
use lib.ListN.{length, take, drop, length-drop}
use lib.Dec.{T}
use lib.Seq.{length-take-le}
use Rattle.std.proofs.lemmas.List.{take-append-drop}
use borrow.Author.Tests.{eq-eqb, le-ltb}
use Rattle.tables.specs.Named.{table_named, usual_table}
use Rattle.tables.specs.Bands.{well_formed}
use Rattle.tables.proofs.Laws.{table_laws}
use Rattle.ladder.specs.Named.{usual_ladder}
use Rattle.ladder.specs.Places.{last_price}
use Rattle.ladder.proofs.Laws.{ladder_laws}
use Rattle.limits.specs.Limits.{five_percent}
use Rattle.questions.specs.Record.{question_bytes, count_of, side_of}
use Rattle.judging.specs.Answers.{judged}
use Rattle.batch.specs.Record.{answer_bytes}
use Rattle.batch.specs.Batch.{most_questions, buffer_after}
use Rattle.batch.specs.Laws.{is_judged}
use Rattle.report.specs.Records.{entry_of, records_of, answers_of, entries_in, answers_in}
use Rattle.report.specs.Counts.{counts_of}
use Rattle.report.specs.Laws.{OfBatch}
use Rattle.report.proofs.Laws.{report_laws}
use Rattle.dayreport.specs.Run.{counts_in, piece_bytes}

pub usual_is_well_formed : T (well_formed (table_named usual_table))
usual_is_well_formed = (table_laws.named_tables usual_table).well_formed_lem table_laws.usual_is_named

pub usual_ends : last_price usual_ladder ≡ 9995000
usual_ends = (ladder_laws.same_ends usual_table table_laws.usual_is_named).to_last

-- the bytes of the whole questions
abbrev pub whole : List ℕ → List ℕ
whole s = take (count_of (length s) * question_bytes) s

module _ (s : List ℕ) where
  length_whole : length (whole s) ≡ count_of (length s) * question_bytes
  length_whole = length-take-le (count_of (length s) * question_bytes) s (omega arith)

  same_records : records_of (whole s) ≡ records_of s
  same_records =
      let n = count_of (length s) * question_bytes in
      let short : length (drop n s) < question_bytes = omega (arith, length-drop n s) in
      sym (report_laws.left_over (whole s) (drop n s) (omega (arith, length_whole)) short) ∙ ap records_of (take-append-drop n s)

  same_counts : counts_in (whole s) ≡ counts_in s
  same_counts = ap (λ records. counts_of (map (λ q. entry_of (side_of q) (judged usual_ladder five_percent q)) records)) same_records

  same_answers : answers_of usual_ladder five_percent (whole s) ≡ answers_of usual_ladder five_percent s
  same_answers = ap (map (judged usual_ladder five_percent)) same_records

  module _ (a : List ℕ) (few : length s ≤ piece_bytes) (room : length a ≡ most_questions * answer_bytes) where
    count : count_of (length (whole s)) ≡ count_of (length s)
    count = omega (arith, length_whole)

    is_a_batch : T (is_judged (whole s) a)
    is_a_batch =
        rw (
          eq-eqb (length (whole s) % question_bytes) 0 (omega (arith, length_whole)),
          le-ltb most_questions (count_of (length (whole s))) (omega (arith, length_whole, few)),
          le-ltb (length a) (count_of (length (whole s)) * answer_bytes) (omega (arith, length_whole, few, room)),
        ) tt

    of_batch : OfBatch (table_named usual_table) five_percent (whole s) a
    of_batch =
        report_laws.batches_are_files (table_named usual_table) usual_is_well_formed (rw (usual_ends) (omega arith)) five_percent (whole s) a is_a_batch

    abbrev pub buffer : List ℕ
    buffer = buffer_after usual_ladder five_percent (whole s) a

    pub counted : counts_of (entries_in (count_of (length (whole s))) (whole s) buffer) ≡ counts_in s
    counted = ap counts_of of_batch.entries ∙ same_counts

    pub answered : answers_in (count_of (length s)) buffer ≡ answers_of usual_ladder five_percent s
    answered = ap (λ (n : ℕ). answers_in n buffer) (sym count) ∙ of_batch.answers ∙ same_answers
