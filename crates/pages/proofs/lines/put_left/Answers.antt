-- No line, or a word and a number.
use Rattle.std.proofs.Common.{◌≡◌, ℕ, suc, ◌-◌, ◌≤◌, [], ◌∷◌, ◌++◌, refl, arith}
use Rattle.text.specs.Decimal.{blank, newline, field}
use Rattle.text.proofs.Laws.{text_laws}
use Rattle.pages.specs.Lines.{left_line}
use Rattle.pages.proofs.lines.put_left.Goals as goal

left_is : (k : ℕ) → 1 ≤ k → left_line k ≡ (108 ∷ 101 ∷ 102 ∷ 116 ∷ blank ∷ []) ++ field k newline
unfolding left_line
left_is k h = let m = k - 1 in let e : k ≡ suc m = omega arith in rw e refl

pub returns-then-left-eq0-clause-line : goal.returns-then-left-eq0-clause-line
unfolding left_line
returns-then-left-eq0-clause-line c =
    let none : c.args.left ≡ 0 = omega arith in
    rw none ((text_laws.filled_by_parts [] _).ended (text_laws.filled_by_parts _ _).begun)

pub returns-clause-line : goal.returns-clause-line
returns-clause-line c =
    rw (left_is c.args.left (omega arith)) (text_laws.written_in_front _ _ _ _ _ c.put_field.ensures c.put_word.ensures)
