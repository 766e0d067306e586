-- Any of six, one after the other, or one of two.
use Rattle.std.proofs.Math.Bool.{or_assoc, or-false}
use Rattle.questions.specs.Checks.{any_off}
use Rattle.questions.proofs.References.any_off.Goals as goal

pub returns : goal.returns
unfolding any_off
returns c = rw (c.any_off.ensures, c.lies_outside.ensures, c.lies_outside-2.ensures) (simp (or_assoc, or-false))
