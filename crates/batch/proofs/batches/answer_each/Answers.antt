-- One answer after the other, each after those before it.
use Rattle.std.proofs.Common.{◌≡◌, ℕ, ◌+◌, ◌-◌, ◌*◌, ◌≤◌, List, ◌++◌, length, take, drop, length-append, length-drop, refl, sym, ap, ◌∙◌, arith}
use lib.Seq.{take_at, drop_at, drop-drop}
use Rattle.questions.specs.Record.{question_bytes, question_at}
use Rattle.ladder.specs.Layout.{prices_of}
use Rattle.batch.specs.Record.{answer_bytes, encoded}
use Rattle.batch.specs.Batch.{answers_to}
use Rattle.batch.proofs.Buffer.{one_more}
use Rattle.batch.proofs.batches.answer_each.Goals as goal

-- question k, q, is the first of those that are left
module _ (s q rest : List ℕ) (k : ℕ) (left : q ++ rest ≡ drop (k * question_bytes) s) (size : length q ≡ question_bytes) where
  first_left : q ≡ question_at k s
  first_left = sym (take_at q rest question_bytes size) ∙ ap (take question_bytes) left

  left_after : rest ≡ drop ((k + 1) * question_bytes) s
  left_after =
      sym (drop_at q rest question_bytes size) ∙ ap (drop question_bytes) left ∙ drop-drop question_bytes (k * question_bytes) s ∙
      ap (λ (n : ℕ). drop n s) {x = k * question_bytes + question_bytes} {y = (k + 1) * question_bytes} (omega arith)

  inside : k * question_bytes ≤ length s → (k + 1) * question_bytes ≤ length s
  inside h = omega (arith, ap length left, length-append q rest, length-drop (k * question_bytes) s, size, h)

pub loop-k-init : goal.loop-k-init
unfolding answers_to
loop-k-init c =
    rw (c.into_iter-k-iterator.ensures.into_iter_gives, c.enumerate-k-items.ensures.count, c.enumerate-k-items.ensures.source)
    (refl, c.chunks_exact.ensures.size, c.chunks_exact.ensures.rest, omega arith)

pub loop-k-preserved : goal.loop-k-preserved
loop-k-preserved c =
    let k = c.loop-k.k-iterator.count in
    let prices = prices_of c.args.terms.now.table in
    let percentage = c.args.terms.now.percentage in
    let questions = c.args.questions.now in
    let question = c.in-Some.question.now in
    let steps = c.in-Some.ensures.steps in
    let rest = c.next.new.self.iter.rest.now in
    let left : question ++ rest ≡ drop (k * question_bytes) questions = sym steps.0.1.0 ∙ c.loop-k.invariant.2 in
    let size : length question ≡ question_bytes = steps.0.1.1 ∙ c.loop-k.invariant.1 in
    let one_answer : k * answer_bytes + answer_bytes - k * answer_bytes ≡ answer_bytes = omega arith in
    rw (steps.1, steps.2) (
      one_more prices percentage questions k _ c.args.answers.now c.loop-k.answers c.encode.new.part one_answer c.loop-k.invariant.0
          (c.encode.ensures ∙ ap encoded (rw (← first_left questions question rest k left size) c.judge-answer.ensures)),
      steps.0.0 ∙ c.loop-k.invariant.1,
      left_after questions question rest k left size,
      inside questions question rest k left size c.loop-k.invariant.3,
    )
