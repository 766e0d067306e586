-- The whole questions of the piece are a batch, which is judged.
use Rattle.std.proofs.Common.{ap, ◌∙◌}
use Rattle.report.specs.Counts.{all_added}
use Rattle.dayreport.proofs.Judged.{counted, answered}
use Rattle.dayreport.proofs.count_piece.Goals as goal

pub returns-clause-counts : goal.returns-clause-counts
returns-clause-counts c =
    c.counted.ensures ∙ rw (c.judge_batch.ensures.buffer) (ap (all_added c.args.counts) (counted c.args.came.now c.args.answers.now c.requires.piece c.told-answers))

pub returns-clause-answers : goal.returns-clause-answers
returns-clause-answers c = rw (c.judge_batch.ensures.buffer) (answered c.args.came.now c.args.answers.now c.requires.piece c.told-answers)
