-- One piece after the other.
use Rattle.std.proofs.Common.{◌≡◌, ℕ, ◌≤◌, ◌<◌, List, length, take, [], refl, add-one, arith}
use Rattle.std.proofs.lemmas.List.{length-take}
use Rattle.report.specs.Records.{first_records}
use Rattle.report.specs.Counts.{counts_of}
use Rattle.report.specs.Widths.{widths_of, shown, smallest, largest}
use Rattle.dayreport.specs.Run.{piece_bytes}
use Rattle.dayreport.proofs.Pieces.{some, count_fits, widths_fit, sum_fits, counted, one_more}
use Rattle.dayreport.proofs.main.Goals as goal

short : (piece : List ℕ) (bytes : ℕ) → length piece ≡ 44000 → length (take bytes piece) ≤ piece_bytes
short piece bytes long = omega (arith, length-take bytes piece, long)

part : (piece : List ℕ) (bytes : ℕ) → bytes < 44000 → length (take bytes piece) < piece_bytes
part piece bytes h = omega (arith, length-take bytes piece, h)

full : (piece : List ℕ) (bytes : ℕ) → length piece ≡ 44000 → 44000 ≤ bytes → length (take bytes piece) ≡ piece_bytes
full piece bytes long h = omega (arith, length-take bytes piece, long, h)

pub loop-index-init : goal.loop-index-init
unfolding first_records counts_of widths_of shown smallest largest
loop-index-init c = record { file = []; full = refl; counts_lem = refl; widths_lem = refl }

pub loop-index-preserved : goal.loop-index-preserved
loop-index-preserved c =
    rw (add-one c.loop-index.index, c.count_piece-more.ensures.counts, c.measure_piece-widths.ensures)
    (one_more c.loop-index.index c.loop-index.counts c.loop-index.widths c.loop-index.invariant c.loop-index-test.true _
    (short _ _ c.if-input.array_long)
    (full _ _ c.if-input.array_long c.if-has_ended.false))

pub count_piece-more-requires-clause-some : goal.count_piece-more-requires-clause-some
count_piece-more-requires-clause-some c = some c.loop-index.index c.loop-index.counts c.loop-index.widths c.loop-index.invariant c.loop-index-test.true

pub count_piece-more-requires-clause-room : goal.count_piece-more-requires-clause-room
count_piece-more-requires-clause-room c =
    count_fits c.loop-index.index c.loop-index.counts c.loop-index.widths c.loop-index.invariant c.loop-index-test.true _
    (short _ _ c.if-input.array_long)

pub measure_piece-widths-requires-clause-ranges : goal.measure_piece-widths-requires-clause-ranges
measure_piece-widths-requires-clause-ranges c =
    widths_fit c.loop-index.index c.loop-index.counts c.loop-index.widths c.loop-index.invariant c.loop-index-test.true _
    (short _ _ c.if-input.array_long)

pub measure_piece-widths-requires-clause-sum : goal.measure_piece-widths-requires-clause-sum
measure_piece-widths-requires-clause-sum c =
    sum_fits c.loop-index.index c.loop-index.counts c.loop-index.widths c.loop-index.invariant c.loop-index-test.true _
    (short _ _ c.if-input.array_long)

pub write_report-requires : goal.write_report-requires
write_report-requires c =
    rw (c.count_piece-more.ensures.counts, c.measure_piece-widths.ensures)
    (counted c.loop-index.index c.loop-index.counts c.loop-index.widths c.loop-index.invariant c.loop-index-test.true _
    (short _ _ c.if-input.array_long) c.fill-input.result.has_failed c.if-input.false
    (part c.fill-input.new.piece c.fill-input.result.bytes c.if-has_ended.true))
