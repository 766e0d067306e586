-- The laws of specs/Laws.antt, proved. Other crates see them as fields of page_laws.
use Rattle.std.specs.Prelude.{Some, None}
use mathlib.Core.Path.{◌≡◌, refl, sym, ◌∙◌}
use Prim.Native.Nat.{ℕ, zero, suc, ◌+◌, ◌*◌, ◌-◌, ◌%◌, ◌≤◌}
use native.Mathlib.Nat.{add-zero, add-suc, add_assoc}
use native.Mathlib.Omega.{arith}
use mathlib.Core.Bool.{Bool, true, false, cond}
use mathlib.Core.List.{List, ◌++◌, append_assoc, append-nil}
use lib.ListN.{length, length-append}
use Rattle.text.specs.Ending.{ending_at, StandsFrom}
use Rattle.text.proofs.Laws.{text_laws}
use Rattle.limits.specs.declared.Percentage.{Percentage}
use Rattle.questions.specs.Record.{question_bytes, count_of, question_at, security_code_of}
use Rattle.questions.proofs.Laws.{question_laws}
use Rattle.judging.specs.Answers.{judged}
use Rattle.pages.specs.Lines.{line, lines_to, left_line, page}
use Rattle.pages.specs.Pages.{page_refused}
use Rattle.pages.specs.Laws.{PagesJoin, EmptyPage, PageStands, PageLaws}

-- ---- pages join

module _ (l : List ℕ) (percent : Percentage) (first : ℕ) (s t : List ℕ) where
  lines_before : (k : ℕ) → k * question_bytes ≤ length s → lines_to l percent first k (s ++ t) ≡ lines_to l percent first k s
  unfolding lines_to
  lines_before zero h = refl
  lines_before (suc k) h = rw (lines_before k (omega (arith, h)), (question_laws.files_end_to_end s t).first k h)

  lines_join : (n k : ℕ) → length s ≡ n * question_bytes →
      lines_to l percent first (n + k) (s ++ t) ≡ lines_to l percent first n s ++ lines_to l percent (first + n) k t
  unfolding lines_to
  lines_join n zero h = rw (add-zero n) (lines_before n (omega (arith, h)) ∙ sym (append-nil (lines_to l percent first n s)))
  lines_join n (suc k) h =
      rw (add-suc n k, lines_join n k h, (question_laws.files_end_to_end s t).second n k h, add_assoc first n k)
      (append_assoc (lines_to l percent first n s) (lines_to l percent (first + n) k t)
      (line (first + (n + k)) (judged l percent (question_at k t)) (security_code_of (question_at k t))))

pages_join : PagesJoin
unfolding left_line
pages_join l percent first s t h =
    let n = count_of (length s) in
    let lines = lines_to l percent first n s in
    let rest = lines_to l percent (first + n) (count_of (length t)) t in
    let both = length-append s t in
    let count : count_of (length (s ++ t)) ≡ n + count_of (length t) = omega (arith, both, h) in
    let left : length (s ++ t) % question_bytes ≡ length t % question_bytes = omega (arith, both, h) in
    rw (count, left, h, lines_join l percent first s t n (count_of (length t)) (omega (arith, h)), append-nil lines)
    (append_assoc lines rest (left_line (length t % question_bytes)))

empty_page : EmptyPage
unfolding lines_to left_line
empty_page l percent first = refl

-- ---- where a page stands

page_stands : PageStands
page_stands l percent first s text start = go (page_refused first (length s) (length text))
  where
    go : (v : Bool) → cond v None (Some (length text - length (page l percent first s))) ≡ Some start →
        StandsFrom start (page l percent first s) (cond v text (ending_at (length text) (page l percent first s) text))
    go true e = cc
    go false e = let begins : length text - length (page l percent first s) ≡ start = cc in rw (← begins) (text_laws.stands_at_end (page l percent first s) text)

-- ---- all of them

pub page_laws : PageLaws
page_laws = record { pages_join = pages_join; empty_page = empty_page; page_stands = page_stands }
