-- Each read that moves a byte leaves fewer to come.
use Rattle.std.proofs.Common.{◌-◌, ◌≤◌, length}
use Rattle.pieces.proofs.fill.Given as goal

abbrev pub invariant-loop-bytes : goal.invariant-loop-bytes
invariant-loop-bytes g l = l.bytes ≤ length l.piece

abbrev pub decreases-loop-bytes : goal.decreases-loop-bytes
decreases-loop-bytes g l = length l.piece - l.bytes
