-- The laws of a batch. Each is a field of the record BatchLaws at the end, which proofs/Laws.antt proves as batch_laws: AnswerAlone is the
-- field answer_alone.
use Rattle.std.specs.Prelude.{◌≡◌, ℕ, suc, ◌*◌, ◌≤◌, ◌<◌, Bool, true, false, not, [], T, length, get_or, take, drop}
use Rattle.tables.specs.Bands.{Table, well_formed}
use Rattle.tables.specs.Named.{table_named, unknown_table}
use Rattle.ladder.specs.Ladder.{Prices, ladder}
use Rattle.ladder.specs.Places.{last_price}
use Rattle.ladder.specs.Named.{ladder_named}
use Rattle.limits.specs.declared.Percentage.{Percentage}
use Rattle.limits.specs.Limits.{five_percent}
use Rattle.limits.specs.Terms.{terms_on}
use Rattle.little_endian.specs.Numbers.{Bytes}
use Rattle.questions.specs.Record.{question_bytes, price_of, count_of, question_at}
use Rattle.little_endian.specs.Laws.{number_bound}
use Rattle.judging.specs.Answers.{judged}
use Rattle.preparing.specs.Laws.{SameButPrice}
use Rattle.judging.specs.Laws.{not_refused, SameRange}
use Rattle.batch.specs.Record.{answer_bytes, encoded, answer_at}
use Rattle.batch.specs.Batch.{refused, outcome_of, buffer_after, outcome_found, buffer_found}

-- the batch s is judged into the buffer a
abbrev pub is_judged : Bytes → Bytes → Bool
is_judged s a = not (refused (length s) (length a))

-- "An empty batch is accepted with count 0.", whatever the buffer, which keeps every byte.
pub record EmptyIsAccepted (l : Prices) (percent : Percentage) (a : Bytes) : Type 0 where
  pub outcome : outcome_of [] a ≡ record { number = 0; count = 0 }
  pub buffer : buffer_after l percent [] a ≡ a

abbrev pub EmptyBatch : Type 0
EmptyBatch = (l : Prices) (percent : Percentage) (a : Bytes) → EmptyIsAccepted l percent a

-- Answer k is the answer to question k alone: no other question plays a part in it, nor what the buffer held.
abbrev pub AnswerAlone : Type 0
AnswerAlone =
    (l : Prices) (percent : Percentage) (s a : Bytes) → T (is_judged s a) → (k : ℕ) → k < count_of (length s) →
    take answer_bytes (drop (k * answer_bytes) (buffer_after l percent s a)) ≡ encoded (judged l percent (question_at k s))

-- Read from the buffer, its three numbers are those of the answer, whole, with every table whose prices have 4 bytes.
abbrev pub AnswerReadsBack : Type 0
AnswerReadsBack =
    (t : Table) → T (well_formed t) → last_price (ladder t) < number_bound → (percent : Percentage) (s a : Bytes) → T (is_judged s a) → (k : ℕ) →
    k < count_of (length s) → answer_at (k * answer_bytes) (buffer_after (ladder t) percent s a) ≡ judged (ladder t) percent (question_at k s)

-- two lists of records, each of `size` bytes, that agree in all bytes but those of record j
pub record SameBut (size j : ℕ) (s u : Bytes) : Type 0 where
  pub same_length : length s ≡ length u
  pub before : (i : ℕ) → i < j * size → get_or s i 0 ≡ get_or u i 0
  pub after : (i : ℕ) → suc j * size ≤ i → get_or s i 0 ≡ get_or u i 0

-- the same outcome, and the same buffer but for answer j
pub record OnlyAnswer (l : Prices) (percent : Percentage) (j : ℕ) (s u a : Bytes) : Type 0 where
  pub outcome : outcome_of u a ≡ outcome_of s a
  pub buffer : SameBut answer_bytes j (buffer_after l percent s a) (buffer_after l percent u a)

-- "Changing one question changes no other answer."
abbrev pub OthersKept : Type 0
OthersKept = (l : Prices) (percent : Percentage) (j : ℕ) (s u a : Bytes) → SameBut question_bytes j s u → OnlyAnswer l percent j s u a

-- Demand 3d over the bytes of two batches: where question k of one differs from question k of the other in its order price only, and the
-- first is answered 0 or 6 to 10, so is the second; it shows the same range, and is accepted exactly in that range.
abbrev pub AnyOrderPriceInBatch : Type 0
AnyOrderPriceInBatch =
    (t : Table) → T (well_formed t) → last_price (ladder t) < number_bound → (percent : Percentage) (s u a b : Bytes) → T (is_judged s a) →
    T (is_judged u b) → (k : ℕ) → k < count_of (length s) → k < count_of (length u) → SameButPrice (question_at k s) (question_at k u) →
    T (not_refused (answer_at (k * answer_bytes) (buffer_after (ladder t) percent s a)).number) →
    SameRange t (answer_at (k * answer_bytes) (buffer_after (ladder t) percent s a)) (answer_at (k * answer_bytes) (buffer_after (ladder t) percent u b))
    (price_of (question_at k u))

-- ---- on a table by its number

-- A batch for a call that names a table: 1 comes first; then, by a number that names none, 14 with count 0, an empty batch too, and the buffer
-- keeps every byte; else it is judged over that table, at 5 percent.
pub record OnTable (n : ℕ) (s a : Bytes) : Type 0 where
  pub no_batch : T (refused (length s) (length a)) → outcome_found (terms_on n) s a ≡ record { number = 1; count = 0 }
  pub unknown : T (is_judged s a) → unknown_table n ≡ true → outcome_found (terms_on n) s a ≡ record { number = 14; count = 0 }
  pub untouched : unknown_table n ≡ true → buffer_found (terms_on n) s a ≡ a
  pub named : unknown_table n ≡ false → outcome_found (terms_on n) s a ≡ outcome_of s a
  pub buffer : unknown_table n ≡ false → buffer_found (terms_on n) s a ≡ buffer_after (ladder_named n) five_percent s a

abbrev pub BatchOnTable : Type 0
BatchOnTable = (n : ℕ) (s a : Bytes) → OnTable n s a

-- Demand 3d over the bytes of two batches, each returned with number 0 by a call that names the table by the same number.
abbrev pub AnyOrderPriceInBatchOn : Type 0
AnyOrderPriceInBatchOn =
    (n : ℕ) (s u a b : Bytes) → (outcome_found (terms_on n) s a).number ≡ 0 → (outcome_found (terms_on n) u b).number ≡ 0 → (k : ℕ) →
    k < count_of (length s) → k < count_of (length u) → SameButPrice (question_at k s) (question_at k u) →
    T (not_refused (answer_at (k * answer_bytes) (buffer_found (terms_on n) s a)).number) →
    SameRange (table_named n) (answer_at (k * answer_bytes) (buffer_found (terms_on n) s a))
    (answer_at (k * answer_bytes) (buffer_found (terms_on n) u b)) (price_of (question_at k u))

-- ---- all of them

pub record BatchLaws : Type 0 where
  pub empty_batch : EmptyBatch
  pub answer_alone : AnswerAlone
  pub answer_reads_back : AnswerReadsBack
  pub others_kept : OthersKept
  pub any_order_price_in_batch : AnyOrderPriceInBatch
  pub batch_on_table : BatchOnTable
  pub any_order_price_in_batch_on : AnyOrderPriceInBatchOn
