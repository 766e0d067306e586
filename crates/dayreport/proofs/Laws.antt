-- The laws of specs/Laws.antt, proved. Other crates see them as fields of dayreport_laws.
use Rattle.std.specs.Prelude.{Some, None}
use mathlib.Core.Path.{◌≡◌, refl}
use Prim.Native.Nat.{ℕ, suc, ◌+◌, ◌%◌, ◌<◌}
use native.Mathlib.Omega.{arith}
use mathlib.Core.Bool.{Bool, true, false, cond}
use mathlib.Core.List.{List, [], ◌∷◌, ◌++◌, append_assoc}
use lib.Dec.{T, eqb, eqb→eq}
use lib.ListN.{length, length-append}
use borrow.Author.Tests.{eq-eqb, ne_eqb, lt-leb}
use Rattle.facts.proofs.Tests.{and_left, and_right}
use Rattle.tables.specs.Named.{table_named, usual_table}
use Rattle.ladder.specs.Named.{usual_ladder}
use Rattle.limits.specs.Limits.{five_percent}
use Rattle.questions.specs.Record.{question_bytes}
use Rattle.pieces.specs.Pieces.{joined, all_full, full_pieces}
use Rattle.report.proofs.Laws.{report_laws}
use Rattle.dayreport.specs.Run.{counts_in, widths_in, printed, piece_bytes, most_pieces, run_from}
use Rattle.dayreport.specs.Laws.{RunIsPrinted, BelowTwoToThe32, DayreportLaws}
use Rattle.dayreport.proofs.Judged.{usual_is_well_formed, usual_ends}
use Rattle.dayreport.proofs.Pieces.{room_for_all}

from_before : (k : ℕ) (before : List ℕ) (pieces : List (List ℕ)) (last : List ℕ) (failed : Bool) (later : List (List ℕ × Bool)) →
    length before % question_bytes ≡ 0 → T (all_full piece_bytes pieces) → k + length pieces < most_pieces → length last < piece_bytes →
    run_from k (counts_in before) (widths_in before) (full_pieces pieces ++ ((last, failed) ∷ later)) ≡
    cond failed None (Some (printed (before ++ (joined pieces ++ last))))
from_before k before [] last true later whole h few short = refl
from_before k before [] last false later whole h few short =
    let join = report_laws.parts_join usual_ladder five_percent before last whole in
    rw (
      lt-leb most_pieces k (omega (arith, few)),
      ne_eqb (length last) piece_bytes (λ e. omega (arith, short, e)),
      ← join.counts,
      ← join.widths,
    ) refl
from_before k before (s ∷ rest) last failed later whole h few short =
    let full = eqb→eq (length s) piece_bytes (and_left (eqb (length s) piece_bytes) (all_full piece_bytes rest) h) in
    let join = report_laws.parts_join usual_ladder five_percent before s whole in
    let further = from_before (suc k) (before ++ s) rest last failed later (omega (arith, length-append before s, whole, full))
    (and_right (eqb (length s) piece_bytes) (all_full piece_bytes rest) h) (omega (arith, few)) short
    in
    rw (
      lt-leb most_pieces k (omega (arith, few)),
      eq-eqb (length s) piece_bytes full,
      ← join.counts,
      ← join.widths,
      further,
      append_assoc before s (joined rest ++ last),
      append_assoc s (joined rest) last,
    ) refl

run_is_printed : RunIsPrinted
run_is_printed pieces last failed later h few short = from_before 0 [] pieces last failed later refl h (omega (arith, few)) short

below_two_to_the_32 : BelowTwoToThe32
below_two_to_the_32 s few =
    report_laws.report_fits (table_named usual_table) usual_is_well_formed (rw (usual_ends) (omega arith)) five_percent s few

pub dayreport_laws : DayreportLaws
dayreport_laws = record { run_is_printed = run_is_printed; below_two_to_the_32 = below_two_to_the_32; room_for_all = room_for_all }
