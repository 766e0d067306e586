-- One answer after the other.
use Rattle.std.proofs.Common.{◌≡◌, suc, sym, ap, add-one, arith}
use Rattle.report.specs.declared.Widths.{Widths}
use Rattle.report.specs.Records.{answers_in}
use Rattle.report.specs.Widths.{together}
use Rattle.report.proofs.Widening.{none_wider, one_further, answers_counted, widths_within, sum_within}
use Rattle.report.proofs.measuring.measured.Goals as goal

pub loop-k-init : goal.loop-k-init
unfolding answers_in
loop-k-init c = sym (none_wider c.args.widths)

pub loop-k-preserved : goal.loop-k-preserved
unfolding answers_in
loop-k-preserved c =
    let k = c.loop-k.k in
    rw (add-one k, c.one_wider-widths.ensures, c.loop-k.invariant, c.answer_at.ensures)
    (one_further c.args.widths (answers_in k c.args.answers.now) _)

pub one_wider-widths-requires-clause-ranges : goal.one_wider-widths-requires-clause-ranges
unfolding together
one_wider-widths-requires-clause-ranges c =
    let k = c.loop-k.k in
    let answers = answers_in k c.args.answers.now in
    let ranges = ap (λ (w : Widths). w.ranges) c.loop-k.invariant in
    omega (arith, ranges, widths_within answers, answers_counted k c.args.answers.now, c.requires.ranges, c.loop-k-test.true)

pub one_wider-widths-requires-clause-sum : goal.one_wider-widths-requires-clause-sum
unfolding answers_in
one_wider-widths-requires-clause-sum c =
    let k = c.loop-k.k in
    let answers = answers_in k c.args.answers.now in
    let further = one_further c.args.widths answers c.answer_at.result in
    let within = sum_within c.args.widths (suc k) c.args.count c.args.answers.now (omega (arith, c.loop-k-test.true)) in
    rw (c.loop-k.invariant, further, c.answer_at.ensures) (omega (arith, within, c.requires.sum))

pub returns : goal.returns
returns c =
    let all : c.loop-k.k ≡ c.args.count = omega (arith, c.loop-k-test.false, c.loop-k.auto.k-end) in
    rw (← all) c.loop-k.invariant
