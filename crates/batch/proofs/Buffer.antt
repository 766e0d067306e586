-- The buffer as the answers come in.
use mathlib.Core.Path.{◌≡◌, refl, ◌∙◌, ap}
use Prim.Native.Nat.{ℕ, zero, suc, ◌+◌, ◌*◌}
use native.Mathlib.Numerals.{add-one}
use native.Mathlib.Omega.{arith}
use mathlib.Core.List.{List, ◌++◌}
use lib.ListN.{length, take, drop, length-append}
use lib.Seq.{drop-drop}
use Rattle.limits.specs.declared.Percentage.{Percentage}
use Rattle.judging.specs.declared.Answer.{Answer}
use Rattle.judging.specs.Answers.{judged}
use Rattle.batch.specs.Record.{answer_bytes, encoded}
use Rattle.questions.specs.Record.{question_at}
use Rattle.batch.specs.Batch.{answers_to, answered}
use Rattle.batch.proofs.Parts.{placed}

pub length_encoded : (a : Answer) → length (encoded a) ≡ answer_bytes
unfolding encoded
length_encoded a = refl

-- one answer more, whichever it is, is twelve bytes more
longer : (b : List ℕ) (a : Answer) (n : ℕ) → length b ≡ n * answer_bytes → length (b ++ encoded a) ≡ suc n * answer_bytes
longer b a n e = length-append b (encoded a) ∙ omega (arith, e, length_encoded a)

module _ (l : List ℕ) (percent : Percentage) (s : List ℕ) where
  pub length_answers : (n : ℕ) → length (answers_to l percent n s) ≡ n * answer_bytes
  unfolding answers_to
  length_answers zero = refl
  length_answers (suc n) = longer _ _ n (length_answers n)

  -- the next answer takes the place of the next twelve bytes
  pub one_more : (k w : ℕ) (a b x : List ℕ) → w ≡ answer_bytes → b ≡ answered l percent k s a → x ≡ encoded (judged l percent (question_at k s)) →
      take (k * answer_bytes) b ++ (x ++ drop w (drop (k * answer_bytes) b)) ≡ answered l percent (k + 1) s a
  unfolding answers_to
  one_more k w a b x width now e =
      rw (width, now, e, add-one k)
      (placed (answers_to l percent k s) (drop (k * answer_bytes) a) (encoded (judged l percent (question_at k s))) (k * answer_bytes) answer_bytes
      (length_answers k) ∙
      ap (λ (r : List ℕ). answers_to l percent k s ++ encoded (judged l percent (question_at k s)) ++ r) after)
    where
      after : drop answer_bytes (drop (k * answer_bytes) a) ≡ drop (suc k * answer_bytes) a
      after = drop-drop answer_bytes (k * answer_bytes) a ∙ ap (λ (n : ℕ). drop n a) {x = k * answer_bytes + answer_bytes} {y = suc k * answer_bytes} (omega arith)
