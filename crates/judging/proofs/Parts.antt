-- Judging by two parts: a question is answered by what the first part gives of it, and its order price.
use Rattle.std.specs.Prelude.{Some, None, Ok, Err}
use mathlib.Core.Path.{◌≡◌, refl, sym, ap, ◌∙◌}
use Prim.Native.Nat.{ℕ, ◌+◌, ◌≤◌}
use native.Mathlib.Omega.{arith}
use mathlib.Core.Bool.{Bool, true, false, cond}
use mathlib.Core.List.{List}
use lib.Dec.{T, eqb}
use lib.ListN.{length}
use borrow.Author.Tests.{eqb-true, eqb-false}
use Rattle.limits.specs.declared.Percentage.{Percentage}
use Rattle.limits.specs.declared.terms.BadTerms.TheVariants.{UnknownTable}
use Rattle.limits.specs.Terms.{Found, bad_terms_number}
use Rattle.questions.specs.Record.{question_bytes, price_byte, codes_of, price_of, references_of, question_of}
use Rattle.ranges.specs.declared.Range.{Range}
use Rattle.ranges.specs.declared.Refusal.TheVariants.{UnknownCode, BadSecurityCode, OffLadder, Disagreement, NoOpposite}
use Rattle.ranges.specs.Readings.{Reading, reading_of}
use Rattle.preparing.specs.declared.Unprepared.{Unprepared}
use Rattle.preparing.specs.declared.Unprepared.TheVariants.{WrongLength, WithBadTerms, Refused}
use Rattle.preparing.specs.Prepared.{Prepared, prepared_reading, prepared, prepared_by}
use Rattle.preparing.specs.Numbers.{wrong_length, unprepared_number, prepared_numbers}
use Rattle.preparing.proofs.Laws.{preparing_laws}
use Rattle.judging.specs.Answers.{none_shown, answer_on, answer_by, answer_decoded, then_judged, numbers_judged, judged, judged_by}
use Rattle.judging.specs.Laws.{not_refused, BothParts}

pub both_parts : BothParts
unfolding judged prepared
both_parts =
    record {
      judged_lem = judged_lem;
      by_numbers = by_numbers;
    }
  where
    judged_lem : (l : List ℕ) (percent : Percentage) (s : List ℕ) → judged l percent s ≡ then_judged l (prepared l percent s) (price_of s)
    judged_lem l percent s = by_length (eqb (length s) question_bytes)
      where
        by_reading : (reading : Reading) → answer_by l reading (price_of s) ≡ then_judged l (prepared_reading reading) (price_of s)
        by_reading (Ok range) = refl
        by_reading (Err refusal) = refl

        by_length : (v : Bool) →
            answer_decoded l percent (cond v (Some (question_of s)) None) ≡
            then_judged l (cond v (prepared_reading (reading_of l percent (codes_of s) (references_of s))) (Err WrongLength)) (price_of s)
        by_length true = by_reading (reading_of l percent (codes_of s) (references_of s))
        by_length false = refl

    -- no reason has the number 0
    told : (found : Found) (why : Unprepared) (p : ℕ) → none_shown (unprepared_number why) ≡ numbers_judged found (prepared_numbers (Err why)) p
    told found WrongLength p = refl
    told found (WithBadTerms UnknownTable) p = refl
    told found (Refused UnknownCode) p = refl
    told found (Refused BadSecurityCode) p = refl
    told found (Refused OffLadder) p = refl
    told found (Refused Disagreement) p = refl
    told found (Refused NoOpposite) p = refl

    by_numbers : (found : Found) (s : List ℕ) → judged_by found s ≡ numbers_judged found (prepared_numbers (prepared_by found s)) (price_of s)
    by_numbers (Ok basis) s = judged_lem basis.prices basis.percentage s ∙ go (prepared basis.prices basis.percentage s) refl
      where
        go : (first : Prepared) → prepared basis.prices basis.percentage s ≡ first →
            then_judged basis.prices first (price_of s) ≡ numbers_judged (Ok basis) (prepared_numbers first) (price_of s)
        go (Ok range) e =
            ap (λ same. answer_on basis.prices same (price_of s))
            (sym (preparing_laws.numbers_lose_nothing basis.prices basis.percentage s range e))
        go (Err why) e = told (Ok basis) why (price_of s)
    by_numbers (Err bad) s = go (eqb (length s) question_bytes)
      where
        go : (v : Bool) →
            none_shown (cond v (bad_terms_number bad) wrong_length) ≡
            numbers_judged (Err bad) (prepared_numbers (Err (cond v (WithBadTerms bad) WrongLength))) (price_of s)
        go true = told (Err bad) (WithBadTerms bad) (price_of s)
        go false = refl

-- what has no range is not judged
pub not_judged : (why : Unprepared) → T (not_refused (unprepared_number why)) → ⊥
not_judged WrongLength h = h
not_judged (WithBadTerms UnknownTable) h = h
not_judged (Refused UnknownCode) h = h
not_judged (Refused BadSecurityCode) h = h
not_judged (Refused OffLadder) h = h
not_judged (Refused Disagreement) h = h
not_judged (Refused NoOpposite) h = h

-- what `judge` does, by the outcome of the first part
module _ (l : List ℕ) (percent : Percentage) (s : List ℕ) where
  pub told_why : (why : Unprepared) → prepared l percent s ≡ Err why → none_shown (unprepared_number why) ≡ judged l percent s
  told_why why e = sym (both_parts.judged_lem l percent s ∙ ap (λ first. then_judged l first (price_of s)) e)

  pub priced : (range : Range) → prepared l percent s ≡ Ok range → answer_on l range (price_of s) ≡ judged l percent s
  priced range e = sym (both_parts.judged_lem l percent s ∙ ap (λ first. then_judged l first (price_of s)) e)

  -- only a question has a range
  pub has_bytes : (range : Range) → prepared l percent s ≡ Ok range → price_byte + 4 ≤ length s
  has_bytes range e = go (eqb (length s) question_bytes) refl
    where
      go : (v : Bool) → eqb (length s) question_bytes ≡ v → price_byte + 4 ≤ length s
      go true m = let n = eqb-true (length s) question_bytes m in omega arith
      go false m =
          let other = (preparing_laws.first_numbers l percent s).of_other_bytes (eqb-false (length s) question_bytes m) in
          let number : prepared_numbers (prepared l percent s) ≡ prepared_numbers (Ok range) = ap prepared_numbers e in
          let zero_is_one : 0 ≡ 1 = ap (λ n. n.number) (sym number ∙ other) in
          absurd (omega (arith, zero_is_one))
