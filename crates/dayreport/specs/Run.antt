-- What dayreport prints, how it cuts its input, and what a run writes. Document 02, g: "judged as by a batch that names no table".
use Rattle.std.specs.Prelude.{◌≡◌, ℕ, suc, ◌*◌, ◌<◌, Bool, false, ◌||◌, cond, leb, List, [], ◌∷◌, ◌++◌, eqb, length, Option, Some, None}
use Rattle.text.specs.Decimal.{Text}
use Rattle.ladder.specs.Named.{usual_ladder}
use Rattle.limits.specs.Limits.{five_percent}
use Rattle.little_endian.specs.Numbers.{Bytes}
use Rattle.questions.specs.Record.{question_bytes}
use Rattle.batch.specs.Batch.{most_questions}
use Rattle.report.specs.declared.Widths.{Widths}
use Rattle.report.specs.Counts.{Counts, file_counts, all_added}
use Rattle.report.specs.Widths.{file_widths, together}
use Rattle.report_page.specs.Page.{page, file_page}

-- what is counted of some bytes, and how wide their ranges are
abbrev pub counts_in : Bytes → Counts
counts_in s = file_counts usual_ladder five_percent s

abbrev pub widths_in : Bytes → Widths
widths_in s = file_widths usual_ladder five_percent s

-- all that is printed of an input
abbrev pub printed : Bytes → Text
printed s = file_page usual_ladder five_percent s

-- the bytes that are read at a time: as many questions as a batch may have
abbrev pub piece_bytes : ℕ
piece_bytes = most_questions * question_bytes

-- how many pieces are counted at most: 2^30, some 10^12 questions
abbrev pub most_pieces : ℕ
most_pieces = 1073741824

-- ---- what was counted

-- what was counted of k full pieces: there are as many bytes, of which these are the counts and the widths
pub record SoFar (k : ℕ) (counts : Counts) (widths : Widths) : Type 0 where
  pub file : Bytes
  pub full : length file ≡ k * piece_bytes
  pub counts_lem : counts ≡ counts_in file
  pub widths_lem : widths ≡ widths_in file

-- all that came: k full pieces, the bytes `before`, and a last one, which came without a failure and is not full: there the input ended
pub record AllCame (k : ℕ) (failed : Bool) (last : Bytes) : Type 0 where
  pub unfailed : failed ≡ false
  pub ended : length last < piece_bytes
  pub before : Bytes
  pub full : length before ≡ k * piece_bytes

-- what was counted of it
pub record Counted (k : ℕ) (failed : Bool) (last : Bytes) (counts : Counts) (widths : Widths) : Type 0 where
  pub all : AllCame k failed last
  pub few : k < most_pieces
  pub counts_lem : counts ≡ counts_in (all.before ++ last)
  pub widths_lem : widths ≡ widths_in (all.before ++ last)

-- what is printed of it
pub record PrintedOf (k : ℕ) (failed : Bool) (last : Bytes) (page : Text) : Type 0 where
  pub all : AllCame k failed last
  pub is_page : page ≡ printed (all.before ++ last)

-- ---- what a run writes

-- What came of a piece: bytes, and whether a read failed after them. What a run writes from piece k on, by what was counted before; nothing
-- after a read that failed, nor of an input without an end, or of more pieces than are counted. A model of the program, as what `main` keeps
-- in its loop.
abbrev pub run_from : ℕ → Counts → Widths → List (Bytes × Bool) → Option Text
run_from k counts widths [] = None
run_from k counts widths ((s, failed) ∷ rest) =
    cond (failed || leb most_pieces k) None
    (cond (eqb (length s) piece_bytes)
    (run_from (suc k) (all_added counts (counts_in s)) (together widths (widths_in s)) rest)
    (Some (page (all_added counts (counts_in s)) (together widths (widths_in s)))))
