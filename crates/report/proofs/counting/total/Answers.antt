-- One row after the other.
use Rattle.std.proofs.Common.{◌≡◌, length, refl, add-one, arith}
use lib.Seq.{take-length}
use Rattle.report.specs.Counts.{total}
use Rattle.report.proofs.Rows.{summed, row_fits}
use Rattle.report.proofs.counting.total.Goals as goal

pub loop-i-init : goal.loop-i-init
unfolding total
loop-i-init c = refl

pub loop-i-preserved : goal.loop-i-preserved
loop-i-preserved c = rw (add-one c.loop-i.i, c.loop-i.invariant) (summed c.args.counts.now c.loop-i.i c.requires.some c.loop-i-test.true)

pub overflow_add-sum : goal.overflow_add-sum
overflow_add-sum c = omega (arith, row_fits c.args.counts.now c.loop-i.i c.requires.some c.loop-i-test.true, c.requires.room)

pub overflow_add-sum-in-loop-i : goal.overflow_add-sum-in-loop-i
overflow_add-sum-in-loop-i c = omega (arith, row_fits c.args.counts.now c.loop-i.i c.requires.some c.loop-i-test.true, c.requires.room)

pub overflow_add-sum-in-loop-i-2 : goal.overflow_add-sum-in-loop-i-2
overflow_add-sum-in-loop-i-2 c =
    omega (arith, c.loop-i.invariant, row_fits c.args.counts.now c.loop-i.i c.requires.some c.loop-i-test.true, c.requires.room)

pub returns : goal.returns
returns c =
    let all : c.loop-i.i ≡ length c.args.counts.now = omega (arith, c.loop-i-test.false, c.loop-i.auto.i-end, c.told-counts) in
    rw (c.loop-i.invariant, all, take-length c.args.counts.now) refl
