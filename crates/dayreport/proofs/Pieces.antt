-- What was counted of full pieces, and of one piece more.
use mathlib.Core.Path.{◌≡◌, refl, sym}
use Prim.Native.Nat.{ℕ, suc, ◌+◌, ◌*◌, ◌≤◌, ◌<◌}
use native.Mathlib.Omega.{arith}
use mathlib.Core.List.{List, ◌++◌}
use mathlib.Core.Bool.{Bool, false}
use lib.ListN.{length, length-append}
use Rattle.tables.specs.Named.{table_named, usual_table}
use Rattle.ladder.specs.Named.{usual_ladder}
use Rattle.limits.specs.Limits.{five_percent}
use Rattle.questions.specs.Record.{count_of}
use Rattle.report.specs.declared.Widths.{Widths}
use Rattle.report.specs.Records.{entries_of}
use Rattle.report.specs.Counts.{Counts, all_added, AreCounts, total}
use Rattle.report.specs.Widths.{together}
use Rattle.report.specs.Laws.{Within}
use Rattle.report.proofs.Laws.{report_laws}
use Rattle.dayreport.specs.Laws.{RoomForAll}
use Rattle.dayreport.specs.Run.{counts_in, widths_in, piece_bytes, most_pieces, SoFar, Counted}
use Rattle.dayreport.proofs.Judged.{usual_is_well_formed, usual_ends}

-- of some bytes
are_counts : (s : List ℕ) → AreCounts (counts_in s)
are_counts s = record { entries = entries_of usual_ladder five_percent s; are = refl }

total_in : (s : List ℕ) → total (counts_in s) ≡ count_of (length s)
total_in s = (report_laws.total_is_records usual_ladder five_percent s).counts

within : (s : List ℕ) → Within (table_named usual_table) five_percent s
within s = report_laws.widths_within (table_named usual_table) usual_is_well_formed five_percent s

sum_in : (s : List ℕ) → (widths_in s).sum ≤ count_of (length s) * 9995000
sum_in s = rw (← usual_ends) (within s).sum_lem

module _ (k : ℕ) (counts : Counts) (widths : Widths) (so_far : SoFar k counts widths) (few : k < most_pieces) where
  pub some : AreCounts counts
  some = rw (so_far.counts_lem) (are_counts so_far.file)

  module _ (came : List ℕ) (short : length came ≤ piece_bytes) where
    pub count_fits : total counts + count_of (length came) < 18446744073709551616
    count_fits = rw (so_far.counts_lem, total_in so_far.file) (omega (arith, so_far.full, few, short))

    pub widths_fit : widths.ranges + count_of (length came) < 18446744073709551616
    widths_fit = rw (so_far.widths_lem) (omega (arith, (within so_far.file).count, so_far.full, few, short))

    joined_counts : all_added counts (counts_in came) ≡ counts_in (so_far.file ++ came)
    joined_counts =
        rw (so_far.counts_lem)
        (sym (report_laws.parts_join usual_ladder five_percent so_far.file came (omega (arith, so_far.full))).counts)

    joined_widths : together widths (widths_in came) ≡ widths_in (so_far.file ++ came)
    joined_widths =
        rw (so_far.widths_lem)
        (sym (report_laws.parts_join usual_ladder five_percent so_far.file came (omega (arith, so_far.full))).widths)

    pub sum_fits : (together widths (widths_in came)).sum < 18446744073709551616
    sum_fits =
        let records : count_of (length (so_far.file ++ came)) ≤ 1073741824000 = omega (arith, length-append so_far.file came, so_far.full, few, short) in
        let product : count_of (length (so_far.file ++ came)) * 9995000 ≤ 1073741824000 * 9995000 = omega (arith, records) in
        rw (joined_widths) (omega (arith, sum_in (so_far.file ++ came), product))

    pub counted : (failed : Bool) → failed ≡ false → length came < piece_bytes → Counted k failed came (all_added counts (counts_in came)) (together widths (widths_in came))
    counted failed without ended =
        record {
          all = record { unfailed = without; ended = ended; before = so_far.file; full = so_far.full };
          few = few;
          counts_lem = joined_counts;
          widths_lem = joined_widths;
        }

    pub one_more : length came ≡ piece_bytes → SoFar (suc k) (all_added counts (counts_in came)) (together widths (widths_in came))
    one_more whole =
        record {
          file = so_far.file ++ came;
          full = omega (arith, length-append so_far.file came, so_far.full, whole);
          counts_lem = joined_counts;
          widths_lem = joined_widths;
        }

-- what is counted at the end
module _ (k : ℕ) (failed : Bool) (last : List ℕ) (counts : Counts) (widths : Widths) (at_end : Counted k failed last counts widths) where
  pub end_counts : AreCounts counts
  end_counts = rw (at_end.counts_lem) (are_counts (at_end.all.before ++ last))

  pub end_fits : total counts < 18446744073709551616
  end_fits =
      rw (at_end.counts_lem, total_in (at_end.all.before ++ last))
      (omega (arith, length-append at_end.all.before last, at_end.all.full, at_end.few, at_end.all.ended))

-- as long as pieces are counted
pub room_for_all : RoomForAll
room_for_all s few =
    let product : count_of (length s) * 9995000 ≤ 1073741824000 * 9995000 = omega (arith, few) in
    record {
      total_lem = rw (total_in s) (omega (arith, few));
      ranges = omega (arith, (within s).count, few);
      sum = omega (arith, sum_in s, product);
    }
