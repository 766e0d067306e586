-- The laws of a question's bytes, of files of questions, and of check 3. Each is a field of the record QuestionLaws at the end, which
-- proofs/Laws.antt proves as question_laws: BytesDecode is the field bytes_decode.
use Rattle.std.specs.Prelude.{◌≡◌, ℕ, suc, ◌+◌, ◌*◌, ◌≤◌, ◌<◌, Bool, true, false, ◌&&◌, ◌||◌, [], ◌∷◌, ◌++◌, T, ltb, length, Some}
use Rattle.little_endian.specs.Numbers.{Bytes}
use Rattle.little_endian.specs.Laws.{byte_bound, number_bound}
use Rattle.tables.specs.Bands.{Table, well_formed}
use Rattle.ladder.specs.Ladder.{ladder}
use Rattle.questions.specs.declared.Reference.{Reference}
use Rattle.questions.specs.declared.Reference.TheVariants.{Missing, Price}
use Rattle.questions.specs.declared.References.{References}
use Rattle.questions.specs.declared.Question.{Question}
use Rattle.questions.specs.Record.{question_bytes, count_of, question_at, decoded, bytes_of}
use Rattle.questions.specs.Checks.{is_off, lies_outside, any_off}

-- a reference that four bytes can hold: it is missing, or a price above 0, since 0 means missing
abbrev pub is_writable : Reference → Bool
is_writable Missing = true
is_writable (Price p) = ltb 0 p && ltb p number_bound

-- a question whose fields fit their bytes
pub record Fits (q : Question) : Type 0 where
  pub side : q.codes.side < byte_bound
  pub order_type : q.codes.order_type < byte_bound
  pub queue : q.codes.queue < byte_bound
  pub byte_3 : q.codes.byte_3 < byte_bound
  pub security_code : q.codes.security_code < number_bound
  pub price : q.price < number_bound
  pub current_bid : T (is_writable q.references.current_bid)
  pub current_ask : T (is_writable q.references.current_ask)
  pub last_bid : T (is_writable q.references.last_bid)
  pub last_ask : T (is_writable q.references.last_ask)
  pub previous_close : T (is_writable q.references.previous_close)
  pub day_low : T (is_writable q.references.day_low)
  pub day_high : T (is_writable q.references.day_high)
  pub nominal : T (is_writable q.references.nominal)

-- The bytes of such a question are read back as that question: each has its bytes, so what is said of all bytes is said of each question.
abbrev pub BytesDecode : Type 0
BytesDecode = (q : Question) → Fits q → decoded (bytes_of q) ≡ Some q

-- They are bytes.
unfoldable pub are_bytes : Bytes → Bool
are_bytes [] = true
are_bytes (b ∷ rest) = ltb b byte_bound && are_bytes rest

abbrev pub BytesFit : Type 0
BytesFit = (q : Question) → Fits q → are_bytes (bytes_of q) ≡ true

-- ---- files

-- The questions of a file have as many bytes as a question has.
abbrev pub QuestionsAreWhole : Type 0
QuestionsAreWhole = (s : Bytes) (k : ℕ) → k < count_of (length s) → length (question_at k s) ≡ question_bytes

-- Of two files end to end the questions are those of the first, if it has no bytes left over, and then those of the second.
pub record EndToEnd (s t : Bytes) : Type 0 where
  pub first : (k : ℕ) → suc k * question_bytes ≤ length s → question_at k (s ++ t) ≡ question_at k s
  pub second : (n k : ℕ) → length s ≡ n * question_bytes → question_at (n + k) (s ++ t) ≡ question_at k t

abbrev pub FilesEndToEnd : Type 0
FilesEndToEnd = (s t : Bytes) → EndToEnd s t

-- ---- check 3

-- A ladder price does not lie outside the ends. So where previous close and nominal are ladder prices or missing, check 3 is one question put
-- to all eight references: is there one that is no ladder price?
abbrev pub NoneOutside : Type 0
NoneOutside = (t : Table) → T (well_formed t) → (a : Reference) → is_off (ladder t) a ≡ false → lies_outside (ladder t) a ≡ false

abbrev pub CheckedAlike : Type 0
CheckedAlike =
    (t : Table) → T (well_formed t) → (r : References) → is_off (ladder t) r.previous_close ≡ false → is_off (ladder t) r.nominal ≡ false →
    any_off (ladder t) r ≡
    (is_off (ladder t) r.current_bid || is_off (ladder t) r.current_ask || is_off (ladder t) r.last_bid || is_off (ladder t) r.last_ask ||
    is_off (ladder t) r.previous_close || is_off (ladder t) r.day_low || is_off (ladder t) r.day_high || is_off (ladder t) r.nominal)

-- ---- all of them

pub record QuestionLaws : Type 0 where
  pub bytes_decode : BytesDecode
  pub bytes_fit : BytesFit
  pub questions_are_whole : QuestionsAreWhole
  pub files_end_to_end : FilesEndToEnd
  pub none_outside : NoneOutside
  pub checked_alike : CheckedAlike
