-- The laws of pages. Each is a field of the record PageLaws at the end, which proofs/Laws.antt proves as page_laws: PagesJoin is the field
-- pages_join.
use Rattle.std.specs.Prelude.{◌≡◌, ℕ, ◌+◌, ◌%◌, Some, [], ◌++◌, length}
use Rattle.text.specs.Decimal.{Text}
use Rattle.text.specs.Ending.{StandsFrom}
use Rattle.ladder.specs.Ladder.{Prices}
use Rattle.limits.specs.declared.Percentage.{Percentage}
use Rattle.little_endian.specs.Numbers.{Bytes}
use Rattle.questions.specs.Record.{question_bytes, count_of}
use Rattle.pages.specs.Lines.{page}
use Rattle.pages.specs.Pages.{page_place, text_after}

-- How the input is cut does not show: after whole questions, the page goes on with the next number.
abbrev pub PagesJoin : Type 0
PagesJoin =
    (l : Prices) (percent : Percentage) (first : ℕ) (s t : Bytes) → length s % question_bytes ≡ 0 →
    page l percent first (s ++ t) ≡ page l percent first s ++ page l percent (first + count_of (length s)) t

-- Nothing is printed for no input.
abbrev pub EmptyPage : Type 0
EmptyPage = (l : Prices) (percent : Percentage) (first : ℕ) → page l percent first [] ≡ []

-- Where the call answers `Some start`, the text from there to its end is the page, and nothing else.
abbrev pub PageStands : Type 0
PageStands =
    (l : Prices) (percent : Percentage) (first : ℕ) (s : Bytes) (text : Text) (start : ℕ) → page_place l percent first s text ≡ Some start →
    StandsFrom start (page l percent first s) (text_after l percent first s text)

-- ---- all of them

pub record PageLaws : Type 0 where
  pub pages_join : PagesJoin
  pub empty_page : EmptyPage
  pub page_stands : PageStands
