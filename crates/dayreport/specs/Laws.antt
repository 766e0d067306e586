-- The laws of dayreport. Each is a field of the record DayreportLaws at the end, which proofs/Laws.antt proves as dayreport_laws: RunIsPrinted
-- is the field run_is_printed.
use Rattle.std.specs.Prelude.{◌≡◌, ◌*◌, ◌≤◌, ◌<◌, Bool, cond, List, [], ◌∷◌, ◌++◌, Some, None, T, length}
use Rattle.tables.specs.Named.{table_named, usual_table}
use Rattle.limits.specs.Limits.{five_percent}
use Rattle.little_endian.specs.Numbers.{Bytes}
use Rattle.questions.specs.Record.{count_of}
use Rattle.batch.specs.Batch.{most_questions}
use Rattle.pieces.specs.Pieces.{joined, all_full, full_pieces}
use Rattle.report.specs.Counts.{total}
use Rattle.report.specs.Laws.{Fits}
use Rattle.dayreport.specs.Run.{counts_in, widths_in, printed, piece_bytes, most_pieces, run_from}

-- How the input is cut does not show: of full pieces, and of one that is not full and comes without a failure, a run writes what is printed of
-- all that came. After a read that failed it writes nothing, since half a report looks finished; nor after as many full pieces as it counts at
-- most, 47 terabytes. This is a law about the model of a run. What ties the program to the model is what `count_piece` and `measure_piece`
-- ensure, what `main` keeps in its loop, `SoFar`, and what `print` requires. That `main` counts what came, piece after piece, and goes on while
-- pieces are full, is read and tested (host/dayreport).
abbrev pub RunIsPrinted : Type 0
RunIsPrinted =
    (pieces : List Bytes) (last : Bytes) (failed : Bool) (later : List (Bytes × Bool)) → T (all_full piece_bytes pieces) →
    length pieces < most_pieces → length last < piece_bytes →
    run_from 0 (counts_in []) (widths_in []) (full_pieces pieces ++ ((last, failed) ∷ later)) ≡
    cond failed None (Some (printed (joined pieces ++ last)))

-- ---- any number of records

-- "The counting is shown right for any number of records below 2^32": they fit, as report_fits says of any such table.
abbrev pub BelowTwoToThe32 : Type 0
BelowTwoToThe32 = (s : Bytes) → count_of (length s) < 4294967296 → Fits (table_named usual_table) five_percent s

-- From 2^32 records on 64 bits are enough as long as pieces are counted, some 10^12 records.
pub record Room (s : Bytes) : Type 0 where
  pub total_lem : total (counts_in s) < 18446744073709551616
  pub ranges : (widths_in s).ranges < 18446744073709551616
  pub sum : (widths_in s).sum < 18446744073709551616

abbrev pub RoomForAll : Type 0
RoomForAll = (s : Bytes) → count_of (length s) ≤ most_pieces * most_questions → Room s

-- ---- all of them

pub record DayreportLaws : Type 0 where
  pub run_is_printed : RunIsPrinted
  pub below_two_to_the_32 : BelowTwoToThe32
  pub room_for_all : RoomForAll
