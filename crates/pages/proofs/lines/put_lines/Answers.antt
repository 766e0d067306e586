-- One line after the other, each before those after it.
use Rattle.std.proofs.Common.{◌≡◌, ℕ, suc, ◌+◌, ◌-◌, ◌*◌, ◌≤◌, List, ◌++◌, take, drop, ap, ◌∙◌, arith}
use Rattle.judging.specs.Answers.{judged}
use Rattle.text.proofs.Laws.{text_laws}
use Rattle.ladder.specs.Layout.{prices_of}
use Rattle.limits.specs.declared.Percentage.{Percentage}
use Rattle.questions.specs.Record.{question_bytes, question_at, security_code_of}
use Rattle.pages.specs.Lines.{line, lines_to}
use Rattle.pages.proofs.lines.put_lines.Goals as goal

last_line : (l : List ℕ) (percent : Percentage) (first k : ℕ) (s : List ℕ) → 1 ≤ k →
    lines_to l percent first k s ≡
    lines_to l percent first (k - 1) s ++
    line (first + (k - 1)) (judged l percent (question_at (k - 1) s)) (security_code_of (question_at (k - 1) s))
unfolding lines_to
last_line l percent first k s h = let m = k - 1 in let e : k ≡ suc m = omega arith in ap (λ (n : ℕ). lines_to l percent first n s) e

pub loop-k-preserved : goal.loop-k-preserved
loop-k-preserved c =
    let k = c.loop-k.k in
    let prices = prices_of c.args.terms.now.table in
    let percentage = c.args.terms.now.percentage in
    let questions = c.args.questions.now in
    let one_question : (k - 1) * question_bytes + question_bytes - (k - 1) * question_bytes ≡ question_bytes = omega arith in
    let question : ℕ → List ℕ = λ n. take n (drop ((k - 1) * question_bytes) questions) in
    let answer = c.judge-answer.ensures ∙ ap (λ n. judged prices percentage (question n)) one_question in
    let code = c.security_code_of.ensures ∙ ap (λ n. security_code_of (question n)) one_question in (
      omega (arith, c.loop-k.invariant.0, c.put_line.ensures.room),
      (text_laws.filled_by_parts _ _).further c.loop-k.invariant.1 (last_line prices percentage c.args.first k questions (omega arith))
          (rw (← answer, ← code) c.put_line.ensures.line),
    )

pub returns : goal.returns
unfolding lines_to
returns c =
    let none : c.loop-k.k ≡ 0 = omega arith in
    (text_laws.filled_by_parts _ _).ended (rw none at c.loop-k.invariant.1)
