-- Four bytes of a question come back with the number in them.
use Rattle.std.proofs.Common.{◌≡◌, ℕ, ◌+◌, ◌-◌, ◌≤◌, List, ◌++◌, append_assoc, length, take, drop, sym, ◌∙◌, arith, rules}
use Rattle.std.proofs.lemmas.List.Edits.{sets, sets-eq}
use Rattle.std.proofs.Math.Seq.{drop-drop}
use Rattle.little_endian.specs.Numbers.{four_bytes}
use Rattle.questions.proofs.encoding.with_number.Goals as goal

-- the part from a byte on, replaced by another as long
replaced : (l g : List ℕ) (at n : ℕ) → n ≡ length g → at + length g ≤ length l → take at l ++ (g ++ drop n (drop at l)) ≡ sets l at g
replaced l g at n e room = rw (e, drop-drop (length g) at l) (sym (sets-eq g l at room ∙ append_assoc (take at l) g (drop (at + length g) l)))

pub returns : goal.returns
returns c = rw c.put.ensures (replaced c.args.bytes (four_bytes c.args.number) c.args.at (c.args.at + 4 - c.args.at) (omega arith) (search rules))
