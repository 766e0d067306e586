-- The laws of pricecheck. Each is a field of the record PricecheckLaws at the end, which proofs/Laws.antt proves as pricecheck_laws: PiecesJoin
-- is the field pieces_join.
use Rattle.std.specs.Prelude.{◌≡◌, ℕ, suc, ◌+◌, ◌≤◌, ◌<◌, Bool, true, false, List, [], ◌∷◌, ◌++◌, T, length}
use Rattle.text.specs.Decimal.{Text}
use Rattle.tables.specs.Named.{usual_table, unknown_table}
use Rattle.limits.specs.Terms.{Basis, terms_on}
use Rattle.little_endian.specs.Numbers.{Bytes}
use Rattle.pieces.specs.Pieces.{joined, all_full, full_pieces}
use Rattle.pages.specs.Pages.{page_refused}
use Rattle.pricecheck.specs.Arguments.{no_table, table_asked}
use Rattle.pricecheck.specs.Run.{page_from, printed, output, piece_bytes, text_bytes, first_of, answered_part, run_from}

-- the pages of pieces, of which the first is piece k
abbrev pub pages_from : Basis → ℕ → List Bytes → Text
pages_from basis k [] = []
pages_from basis k (s ∷ rest) = page_from basis (first_of k) s ++ pages_from basis (suc k) rest

-- How the input is cut does not show: of full pieces and a last one, the pages end to end are what is printed of the whole.
abbrev pub PiecesJoin : Type 0
PiecesJoin =
    (basis : Basis) (pieces : List Bytes) (last : Bytes) → T (all_full piece_bytes pieces) →
    printed basis (joined pieces ++ last) ≡ pages_from basis 0 pieces ++ page_from basis (first_of (length pieces)) last

-- A run writes what is printed of all that came: of full pieces, and of what is answered of the first that is not full, after which nothing
-- is read. This is a law about the model of a run, `run_from`. What ties the program to the model is what `print` requires (each piece is
-- written as its page) and what `answer_piece`, `first_of` and `does_go_on` (when another piece is read) ensure. That the loop of `main`
-- counts the pieces, that `fill` of pieces reads on and that `print` writes is read and tested (host/pricecheck), not proved.
abbrev pub RunIsPrinted : Type 0
RunIsPrinted =
    (basis : Basis) (pieces : List Bytes) (last : Bytes) (failed : Bool) (later : List (Bytes × Bool)) → T (all_full piece_bytes pieces) →
    length last < piece_bytes →
    run_from basis 0 (full_pieces pieces ++ ((last, failed) ∷ later)) ≡ printed basis (joined pieces ++ answered_part failed (length last) last)

-- The page of a piece is never refused: its text has room for it, and its numbers have 64 bits.
abbrev pub PiecesFit : Type 0
PiecesFit = (k bytes : ℕ) → k < 4294967296 → bytes ≤ piece_bytes → page_refused (first_of k) bytes text_bytes ≡ false

-- The table of a run is said by one argument, which is one digit (the characters of "0" to "9" are 48 to 57): its number. With no argument it is the
-- usual one; any other text, and more than one argument, name none. By a number that names none all that is printed is "14" and a newline. That
-- is a law about the model, `output`; what it leaves to be read is said there.
pub record ByArgument : Type 0 where
  pub none : (text : Bytes) → table_asked 0 text ≡ usual_table
  pub digit : (d : ℕ) → d < 10 → table_asked 1 ((48 + d) ∷ []) ≡ d
  pub other_text : (text : Bytes) → ((d : ℕ) → d < 10 → text ≡ (48 + d) ∷ [] → ⊥) → table_asked 1 text ≡ no_table
  pub more : (count : ℕ) (text : Bytes) → 1 < count → table_asked count text ≡ no_table
  pub only_14 : (n : ℕ) (s : Bytes) → unknown_table n ≡ true → output (terms_on n) s ≡ 49 ∷ 52 ∷ 10 ∷ []

-- ---- all of them

pub record PricecheckLaws : Type 0 where
  pub pieces_join : PiecesJoin
  pub run_is_printed : RunIsPrinted
  pub pieces_fit : PiecesFit
  pub by_argument : ByArgument
