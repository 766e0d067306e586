-- One record after the other.
use Rattle.std.proofs.Common.{◌≡◌, ◌+◌, ◌-◌, ◌*◌, take, drop, sym, ap, ◌∙◌, add-one, arith}
use Rattle.questions.specs.Record.{question_bytes, side_of}
use Rattle.report.specs.Records.{entries_in}
use Rattle.report.specs.Counts.{numbers, place_in, column_of}
use Rattle.report.proofs.OneMore.{in_total}
use Rattle.report.proofs.Further.{none_further, next_counted, next_not_counted, now_within}
use Rattle.report.proofs.counting.counted.Goals as goal
use Rattle.report.proofs.counting.counted.Goals.{in-Some, in_default}

pub loop-k-init : goal.loop-k-init
unfolding entries_in
loop-k-init c = none_further c.args.counts c.requires.some

pub overflow_add-counts : goal.overflow_add-counts
overflow_add-counts c =
    let within = now_within c.args.counts c.loop-k.counts c.loop-k.k c.args.questions.now c.args.answers.now c.requires.some c.loop-k.invariant in
    omega (arith, in_total c.loop-k.counts c.in-Some.row c.column_of-column.result, within, c.requires.room, c.loop-k-test.true)

pub loop-k-preserved : goal.loop-k-preserved
loop-k-preserved c =
    let k = c.loop-k.k in
    let place = ap (place_in numbers) (sym c.number_at.ensures) ∙ sym c.row_of.ensures in
    let one_question : k * question_bytes + question_bytes - k * question_bytes ≡ question_bytes = omega arith in
    let side = c.side_of.ensures ∙ ap (λ n. side_of (take n (drop (k * question_bytes) c.args.questions.now))) one_question in
    let column = c.column_of-column.ensures ∙ ap column_of side in
    rw (add-one k) (
    elim c.match-row_of.branch [
      | in-Some w ↦
          w.counts-is ∙
          next_counted c.args.counts c.loop-k.counts k c.args.questions.now c.args.answers.now c.requires.some c.loop-k.invariant w.in-Some.row
          c.column_of-column.result (place ∙ w.in-Some.is) column
      | in_default w ↦
          w.counts-is ∙
          next_not_counted c.args.counts c.loop-k.counts k c.args.questions.now c.args.answers.now c.requires.some c.loop-k.invariant (place ∙ w.in_default.is)
    ]
    )
