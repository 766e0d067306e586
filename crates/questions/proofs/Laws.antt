-- The laws of specs/Laws.antt, proved. Other crates see them as fields of question_laws.
use mathlib.Core.Path.{◌≡◌, refl, ap, ◌∙◌}
use Prim.Native.Nat.{ℕ, ◌+◌, ◌*◌, ◌%◌}
use native.Mathlib.Nat.{div-add-mod'}
use native.Mathlib.Omega.{arith}
use mathlib.Core.Bool.{Bool, true, false, ◌&&◌}
use mathlib.Core.List.{◌++◌}
use lib.Dec.{T, ltb}
use lib.ListN.{length, take, drop, length-drop}
use lib.Seq.{take-append-le, drop-append-le, drop-append-add, length-take-le}
use borrow.Author.Tests.{ltb-true, lt-ltb, ne_eqb, not-false}
use Rattle.facts.specs.Lists.{holds}
use Rattle.std.proofs.Math.Bool.{or-false}
use Rattle.facts.proofs.Tests.{true_of}
use Rattle.little_endian.specs.Numbers.{number, four_bytes}
use Rattle.little_endian.specs.Laws.{byte_bound, number_bound}
use Rattle.little_endian.proofs.Laws.{number_laws}
use Rattle.ladder.specs.Ladder.{ladder}
use Rattle.ladder.proofs.Laws.{ladder_laws}
use Rattle.questions.specs.declared.Reference.{Reference}
use Rattle.questions.specs.declared.Reference.TheVariants.{Missing, Price}
use Rattle.questions.specs.Missing.{reference_of, number_of}
use Rattle.questions.specs.Record.{question_bytes, codes_of, references_of, bytes_of}
use Rattle.questions.specs.Checks.{any_off}
use Rattle.questions.specs.Laws.{is_writable, BytesDecode, are_bytes, BytesFit, QuestionsAreWhole, FilesEndToEnd, NoneOutside, CheckedAlike, QuestionLaws}

-- a reference is the reference of its four bytes
reference_back : (r : Reference) → T (is_writable r) → reference_of (number 0 (four_bytes (number_of r))) ≡ r
reference_back Missing fits = refl
reference_back (Price p) fits = go (ltb 0 p) (ltb p number_bound) refl refl fits
  where
    go : (positive small : Bool) → ltb 0 p ≡ positive → ltb p number_bound ≡ small → T (positive && small) →
        reference_of (number 0 (four_bytes p)) ≡ Price p
    go true true a b fits =
        let positive = ltb-true 0 p a in
        rw (number_laws.number_reads_back p (ltb-true p number_bound b), ne_eqb p 0 (λ e. omega arith))
    go true false a b fits = absurd fits
    go false small a b fits = absurd fits

bytes_decode : BytesDecode
unfolding codes_of references_of bytes_of
bytes_decode q fits =
    rw (
      number_laws.number_reads_back q.price fits.price,
      reference_back q.references.current_bid fits.current_bid,
      reference_back q.references.current_ask fits.current_ask,
      reference_back q.references.last_bid fits.last_bid,
      reference_back q.references.last_ask fits.last_ask,
      reference_back q.references.previous_close fits.previous_close,
      reference_back q.references.day_low fits.day_low,
      reference_back q.references.day_high fits.day_high,
      reference_back q.references.nominal fits.nominal,
      number_laws.number_reads_back q.codes.security_code fits.security_code,
    )

byte_fits : (x : ℕ) → ltb (x % 256) byte_bound ≡ true
byte_fits x = lt-ltb (x % 256) byte_bound (omega arith)

bytes_fit : BytesFit
unfolding are_bytes bytes_of
bytes_fit q fits =
    simp (
      lt-ltb q.codes.side byte_bound fits.side,
      lt-ltb q.codes.order_type byte_bound fits.order_type,
      lt-ltb q.codes.queue byte_bound fits.queue,
      lt-ltb q.codes.byte_3 byte_bound fits.byte_3,
      byte_fits,
    )

-- ---- files

questions_are_whole : QuestionsAreWhole
questions_are_whole s k h =
    let whole = div-add-mod' (length s) question_bytes in
    length-take-le question_bytes (drop (k * question_bytes) s) (rw (length-drop (k * question_bytes) s) (omega (arith, h, whole)))

files_end_to_end : FilesEndToEnd
files_end_to_end s t =
    record {
      first = λ k h.
          ap (take question_bytes) (drop-append-le (k * question_bytes) s t (omega arith)) ∙
          take-append-le question_bytes (drop (k * question_bytes) s) t (omega (arith, length-drop (k * question_bytes) s, h));
      second = λ n k h.
          let place : (n + k) * question_bytes ≡ length s + k * question_bytes = omega (arith, h) in
          ap (take question_bytes) (ap (λ (i : ℕ). drop i (s ++ t)) place ∙ drop-append-add s t (k * question_bytes));
    }

-- ---- check 3

none_outside : NoneOutside
none_outside t wf Missing on = refl
none_outside t wf (Price p) on =
    (ladder_laws.ends_are_the_tables t wf).none_outside p
    (rw (← (ladder_laws.the_ladder t wf p)) (true_of (holds p (ladder t)) (not-false (holds p (ladder t)) on)))

checked_alike : CheckedAlike
unfolding any_off
checked_alike t wf r close nominal = rw (close, nominal, none_outside t wf r.previous_close close, none_outside t wf r.nominal nominal) (simp or-false)

pub question_laws : QuestionLaws
question_laws =
    record {
      bytes_decode = bytes_decode;
      bytes_fit = bytes_fit;
      questions_are_whole = questions_are_whole;
      files_end_to_end = files_end_to_end;
      none_outside = none_outside;
      checked_alike = checked_alike;
    }
