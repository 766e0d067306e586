-- The answers of the questions passed, and after them the buffer as it was; the questions that are left.
use Rattle.std.proofs.Common.{◌≡◌, ◌*◌, ◌≤◌, length, drop}
use Rattle.std.specs.Slice.Iter.{chunks_exact_rest, chunks_exact_size}
use Rattle.ladder.specs.Layout.{prices_of}
use Rattle.questions.specs.Record.{question_bytes}
use Rattle.batch.specs.Batch.{answered}
use Rattle.batch.proofs.batches.answer_each.Given as goal

abbrev pub invariant-loop-k : goal.invariant-loop-k
invariant-loop-k l =
    (l.answers ≡ answered (prices_of l.terms.table) l.terms.percentage l.k-iterator.count l.questions l.fn.answers)
    × (chunks_exact_size l.k-iterator.iter ≡ question_bytes)
    × (chunks_exact_rest l.k-iterator.iter ≡ drop (l.k-iterator.count * question_bytes) l.questions)
    × (l.k-iterator.count * question_bytes ≤ length l.questions)
