-- The laws of specs/Laws.antt, proved.
use mathlib.Core.Path.{◌≡◌, refl, sym, ◌∙◌, ap}
use Prim.Native.Nat.{ℕ, suc, ◌+◌, ◌-◌, ◌*◌, ◌<◌}
use native.Mathlib.Nat.{add-zero, zero-add}
use native.Mathlib.Omega.{arith}
use mathlib.Core.Bool.{Bool, true, false, ◌&&◌, cond}
use mathlib.Core.List.{List, [], ◌∷◌, ◌++◌, append_assoc, append-nil}
use lib.Dec.{T, eqb, leb, eqb→eq}
use lib.ListN.{length}
use lib.Seq.{take-length}
use borrow.Author.Tests.{le-ltb, eq-eqb, ne_eqb}
use Rattle.std.proofs.lemmas.Bool.{leb-true, le-leb}
use Rattle.tables.specs.Named.{unknown_table}
use Rattle.facts.proofs.Tests.{and_left, and_right}
use Rattle.limits.specs.Terms.{Basis, terms_on}
use Rattle.text.specs.Decimal.{decimal, up_to}
use Rattle.little_endian.specs.Numbers.{Bytes}
use Rattle.questions.specs.Record.{count_of}
use Rattle.pieces.specs.Pieces.{joined, all_full, full_pieces}
use Rattle.pages.specs.Pages.{line_room, left_room}
use Rattle.pages.proofs.Laws.{page_laws}
use Rattle.pricecheck.specs.Arguments.{no_table, is_digit, table_asked}
use Rattle.pricecheck.specs.Run.{page_from, output, piece_bytes, text_bytes, first_of, answered_part, goes_on, run_from}
use Rattle.pricecheck.specs.Laws.{pages_from, PiecesJoin, RunIsPrinted, PiecesFit, ByArgument, PricecheckLaws}

-- all of a piece that came without a failure is answered
all_answered : (s : Bytes) → answered_part false (length s) s ≡ s
all_answered s = take-length s

-- after a piece that is not full nothing is read
ends_there : (failed : Bool) (s : Bytes) → length s < piece_bytes → goes_on true failed (length s) ≡ false
ends_there true s h = refl
ends_there false s h = ne_eqb (length s) piece_bytes (λ e. omega (arith, h, e))

module _ (basis : Basis) where
  -- a full piece, and the page after it
  one_piece : (k : ℕ) (s t : Bytes) → length s ≡ piece_bytes →
      page_from basis (first_of k) (s ++ t) ≡ page_from basis (first_of k) s ++ page_from basis (first_of (suc k)) t
  one_piece k s t full =
      let next : first_of k + count_of (length s) ≡ first_of (suc k) = omega (arith, full) in
      page_laws.pages_join basis.prices basis.percentage (first_of k) s t (omega (arith, full)) ∙
      ap (λ (n : ℕ). page_from basis (first_of k) s ++ page_from basis n t) next

  from_piece : (k : ℕ) (pieces : List Bytes) (last : Bytes) → T (all_full piece_bytes pieces) →
      page_from basis (first_of k) (joined pieces ++ last) ≡ pages_from basis k pieces ++ page_from basis (first_of (k + length pieces)) last
  from_piece k [] last h = rw (add-zero k)
  from_piece k (s ∷ rest) last h =
      let full = eqb→eq (length s) piece_bytes (and_left (eqb (length s) piece_bytes) (all_full piece_bytes rest) h) in
      let more = from_piece (suc k) rest last (and_right (eqb (length s) piece_bytes) (all_full piece_bytes rest) h) in
      let count : k + suc (length rest) ≡ suc k + length rest = omega arith in
      rw (append_assoc s (joined rest) last, one_piece k s (joined rest ++ last) full, more, count)
      (sym (append_assoc (page_from basis (first_of k) s) (pages_from basis (suc k) rest) (page_from basis (first_of (suc k + length rest)) last)))

  -- ---- a run

  run_from_lem : (k : ℕ) (pieces : List Bytes) (last : Bytes) (failed : Bool) (later : List (Bytes × Bool)) → T (all_full piece_bytes pieces) →
      length last < piece_bytes →
      run_from basis k (full_pieces pieces ++ ((last, failed) ∷ later)) ≡
      pages_from basis k pieces ++ page_from basis (first_of (k + length pieces)) (answered_part failed (length last) last)
  run_from_lem k [] last failed later h short = rw (ends_there failed last short, add-zero k) (append-nil _)
  run_from_lem k (s ∷ rest) last failed later h short =
      let full = eqb→eq (length s) piece_bytes (and_left (eqb (length s) piece_bytes) (all_full piece_bytes rest) h) in
      let more = run_from_lem (suc k) rest last failed later (and_right (eqb (length s) piece_bytes) (all_full piece_bytes rest) h) short in
      let count : k + suc (length rest) ≡ suc k + length rest = omega arith in
      rw (all_answered s, eq-eqb (length s) piece_bytes full, more, count)
      (sym (append_assoc (page_from basis (first_of k) s) (pages_from basis (suc k) rest)
      (page_from basis (first_of (suc k + length rest)) (answered_part failed (length last) last))))

pieces_join : PiecesJoin
pieces_join basis pieces last h = rw (← (zero-add (length pieces))) (from_piece basis 0 pieces last h)

run_is_printed : RunIsPrinted
run_is_printed basis pieces last failed later h short =
    run_from_lem basis 0 pieces last failed later h short ∙
    rw (zero-add (length pieces)) (sym (pieces_join basis pieces (answered_part failed (length last) last) h))

-- ---- room

pub pieces_fit : PiecesFit
pieces_fit k bytes h m =
    rw (
      le-ltb text_bytes (count_of bytes * line_room + left_room) (omega (arith, m)),
      le-ltb 18446744073709551615 (first_of k + count_of bytes) (omega (arith, h, m)),
    )

-- ---- the argument

only_14 : (n : ℕ) (s : Bytes) → unknown_table n ≡ true → output (terms_on n) s ≡ 49 ∷ 52 ∷ 10 ∷ []
unfolding decimal up_to
only_14 n s e = rw e refl

digit_said : (d : ℕ) → d < 10 → table_asked 1 ((48 + d) ∷ []) ≡ d
digit_said d h =
    let low : leb 48 (48 + d) ≡ true = le-leb 48 (48 + d) (omega arith) in
    let high : leb (48 + d) 57 ≡ true = le-leb (48 + d) 57 (omega arith) in
    let a_digit : is_digit ((48 + d) ∷ []) ≡ true = cc in
    let number : 48 + d - 48 ≡ d = omega arith in
    cc

other_text : (text : Bytes) → ((d : ℕ) → d < 10 → text ≡ (48 + d) ∷ [] → ⊥) → table_asked 1 text ≡ no_table
other_text [] other = refl
other_text (c ∷ []) other = go (leb 48 c) (leb c 57) refl refl
  where
    go : (low high : Bool) → leb 48 c ≡ low → leb c 57 ≡ high → cond (low && high) (c - 48) no_table ≡ no_table
    go false high e f = refl
    go true false e f = refl
    go true true e f =
        let m = leb-true 48 c e in
        let n = leb-true c 57 f in
        let same : c ≡ 48 + (c - 48) = omega arith in
        absurd (other (c - 48) (omega arith) (ap (λ (x : ℕ). x ∷ []) same))
other_text (c ∷ d ∷ rest) other = rw (ne_eqb (suc (suc (length rest))) 1 (λ e. omega arith)) refl

by_argument : ByArgument
by_argument =
    record {
      none = λ text. refl;
      digit = digit_said;
      other_text = other_text;
      more = λ count text h. rw (ne_eqb count 0 (λ e. omega arith), ne_eqb count 1 (λ e. omega arith)) refl;
      only_14 = only_14;
    }

pub pricecheck_laws : PricecheckLaws
pricecheck_laws = record { pieces_join = pieces_join; run_is_printed = run_is_printed; pieces_fit = pieces_fit; by_argument = by_argument }
