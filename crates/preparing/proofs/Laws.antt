-- The laws of specs/Laws.antt, proved. Other crates see them as fields of preparing_laws.
use Rattle.std.specs.Prelude.{Ok, Err, Some, None}
use mathlib.Core.Path.{◌≡◌, refl, ap, subst}
use Prim.Native.Nat.{ℕ}
use native.Mathlib.Omega.{arith}
use mathlib.Core.Bool.{Bool, true, false, cond}
use mathlib.Core.List.{List}
use lib.Dec.{T, eqb}
use lib.ListN.{length}
use borrow.Author.Tests.{eq-eqb, ne_eqb}
use Rattle.std.proofs.lemmas.Bool.{true≢false}
use Rattle.tables.specs.Named.{unknown_table, usual_table}
use Rattle.tables.proofs.Laws.{table_laws}
use Rattle.ladder.specs.Ladder.{ladder}
use Rattle.ladder.specs.Named.{ladder_named, usual_ladder}
use Rattle.limits.specs.declared.Percentage.{Percentage}
use Rattle.limits.specs.Limits.{five_percent}
use Rattle.limits.specs.Terms.{terms_on}
use Rattle.questions.specs.declared.Codes.{Codes}
use Rattle.questions.specs.declared.References.{References}
use Rattle.questions.specs.Missing.{reference_of, number_of}
use Rattle.questions.specs.Record.{question_bytes, codes_of, references_of}
use Rattle.questions.specs.Checks.{bad_security_code, any_off}
use Rattle.rules.specs.declared.Rule.{Rule}
use Rattle.rules.specs.declared.Queues.{Queues}
use Rattle.rules.specs.declared.Queues.TheVariants.{Opening, Both, BuyOnly, SellOnly, Neither}
use Rattle.rules.specs.Rules.{unknown_code, rule_of, queues_of, chosen}
use Rattle.rules.specs.Checks.{disagree, unopposed}
use Rattle.ranges.specs.declared.Range.{Range}
use Rattle.ranges.specs.declared.Refusal.TheVariants.{UnknownCode, BadSecurityCode, OffLadder, Disagreement, NoOpposite}
use Rattle.ranges.specs.Permitted.{nine_fold_reference, range_of}
use Rattle.ranges.specs.Readings.{Reading, in_order, reading_by, reading_on, reading_of}
use Rattle.ranges.proofs.Laws.{range_laws}
use Rattle.preparing.specs.declared.Unprepared.{Unprepared}
use Rattle.preparing.specs.declared.Unprepared.TheVariants.{WrongLength, Refused}
use Rattle.preparing.specs.Prepared.{Prepared, prepared_reading, prepared, prepared_by}
use Rattle.preparing.specs.Numbers.{wrong_length, none_prepared, prepared_numbers}
use Rattle.preparing.specs.Laws.{is_first_number, PriceNotLookedAt, SecurityAltersNoRange, NumbersLoseNothing, PreparedOnLadder, FirstNumbers, PreparedOnTable, PreparingLaws}
use Rattle.preparing.proofs.Fields.{but_price, but_security}

price_not_looked_at : PriceNotLookedAt
unfolding prepared
price_not_looked_at (Ok basis) s u n same = rw (n, but_price basis.prices basis.percentage s u same)
price_not_looked_at (Err bad) s u n same = rw n

security_alters_no_range : SecurityAltersNoRange
unfolding prepared
security_alters_no_range (Ok basis) s u n same = rw (n, but_security basis.prices basis.percentage s u same)
security_alters_no_range (Err bad) s u n same = rw n

-- a reference read from a number is what its number stands for
read_again : (n : ℕ) → reference_of (number_of (reference_of n)) ≡ reference_of n
read_again n = go (eqb n 0) refl
  where
    go : (v : Bool) → eqb n 0 ≡ v → reference_of (number_of (reference_of n)) ≡ reference_of n
    go true e = rw e refl
    go false e = rw e (rw e refl)

-- ---- the range of a question

-- the range that was prepared, or another where there is none
range_in : Range → Prepared → Range
range_in none (Ok range) = range
range_in none (Err why) = none

none_is_some : {C : Type 0} (why : Unprepared) (range : Range) → Err why ≡ Ok range → C
none_is_some why range e = absurd (grind arith)

-- where there is one, it is that of the question's reading
of_reading : (l : List ℕ) (percent : Percentage) (s : List ℕ) (range : Range) → prepared l percent s ≡ Ok range →
    reading_of l percent (codes_of s) (references_of s) ≡ Ok range
unfolding prepared range_in
of_reading l percent s range = go (eqb (length s) question_bytes) (reading_of l percent (codes_of s) (references_of s))
  where
    go : (v : Bool) (reading : Reading) → cond v (prepared_reading reading) (Err WrongLength) ≡ Ok range → reading ≡ Ok range
    go true (Ok a) e = ap Ok (ap (range_in a) e)
    go true (Err refusal) e = none_is_some (Refused refusal) range e
    go false reading e = none_is_some WrongLength range e

prepared_on_ladder : PreparedOnLadder
prepared_on_ladder t wf percent s range e =
    let ends = range_laws.bounds_on_ladder t wf percent (codes_of s) (references_of s) range (of_reading (ladder t) percent s range e) in
    (ends.lowest_on, ends.highest_on)

-- what holds of the range of every rule and of all queues holds of the range of a reading, if it has one
HoldsOf : (Range → Type 0) → Reading → Type 0
HoldsOf P (Ok range) = P range
HoldsOf P (Err refusal) = Unit {0}

every_reading : (P : Range → Type 0) (l : List ℕ) (percent : Percentage) (c : Codes) (r : References) →
    ((rule : Rule) (q : Queues) → P (range_of l percent rule q r)) → HoldsOf P (reading_of l percent c r)
unfolding reading_of reading_by chosen HoldsOf
every_reading P l percent c r h = by_codes (unknown_code c) (rule_of c.side c.order_type) (queues_of c.queue r)
  where
    by_checks : (bad off disagrees alone : Bool) (range : Range) → P range →
        HoldsOf P (cond bad (Err BadSecurityCode) (in_order off disagrees alone (Ok range)))
    by_checks true off disagrees alone range k = tt
    by_checks false true disagrees alone range k = tt
    by_checks false false true alone range k = tt
    by_checks false false false true range k = tt
    by_checks false false false false range k = k

    by_codes : (unknown : Bool) (rule : Rule) (q : Queues) →
        HoldsOf P (reading_on l percent (cond unknown None (Some (record { rule = rule; queues = q }))) c.security_code r)
    by_codes true rule q = tt
    by_codes false rule q = by_checks (bad_security_code c.security_code) (any_off l r) (disagree q r) (unopposed rule q) _ (h rule q)

-- a nine-fold reference is the previous close or the nominal, each of which was read from a number
numbers_lose_nothing : NumbersLoseNothing
unfolding HoldsOf range_of references_of
numbers_lose_nothing l percent s range e =
    ap (λ reference. record { lowest = range.lowest; highest = range.highest; nine_fold = reference })
    (subst (HoldsOf ReadAgain) (of_reading l percent s range e) (every_reading ReadAgain l percent (codes_of s) (references_of s) (λ rule q. nine_fold q)))
  where
    ReadAgain : Range → Type 0
    ReadAgain range = reference_of (number_of range.nine_fold) ≡ range.nine_fold

    nine_fold : (q : Queues) → reference_of (number_of (nine_fold_reference q (references_of s).previous_close (references_of s).nominal)) ≡
        nine_fold_reference q (references_of s).previous_close (references_of s).nominal
    nine_fold Opening = read_again _
    nine_fold (Both bid ask) = read_again _
    nine_fold (BuyOnly bid) = read_again _
    nine_fold (SellOnly ask) = read_again _
    nine_fold (Neither last_bid last_ask) = read_again _

-- ---- numbers

first_numbers : FirstNumbers
unfolding prepared
first_numbers l percent s =
    record {
      of_a_question = λ n. rw (eq-eqb (length s) question_bytes n) (known (reading_of l percent (codes_of s) (references_of s)));
      of_other_bytes = λ n. rw (ne_eqb (length s) question_bytes n);
      zeros = zeros (eqb (length s) question_bytes) (reading_of l percent (codes_of s) (references_of s));
    }
  where
    known : (reading : Reading) → T (is_first_number (prepared_numbers (prepared_reading reading)).number)
    known (Ok range) = tt
    known (Err UnknownCode) = tt
    known (Err BadSecurityCode) = tt
    known (Err OffLadder) = tt
    known (Err Disagreement) = tt
    known (Err NoOpposite) = tt

    zeros : (v : Bool) (reading : Reading) → eqb (prepared_numbers (cond v (prepared_reading reading) (Err WrongLength))).number 0 ≡ false →
        prepared_numbers (cond v (prepared_reading reading) (Err WrongLength)) ≡
        none_prepared (prepared_numbers (cond v (prepared_reading reading) (Err WrongLength))).number
    zeros true (Ok range) e = absurd (true≢false e)
    zeros true (Err refusal) e = refl
    zeros false reading e = refl

-- ---- on a table by its number

other_bytes : (l : List ℕ) (percent : Percentage) (s : List ℕ) → (length s ≡ question_bytes → ⊥) → prepared l percent s ≡ Err WrongLength
unfolding prepared
other_bytes l percent s n = rw (ne_eqb (length s) question_bytes n)

prepared_on_table : PreparedOnTable
prepared_on_table n s =
    record {
      of_other_bytes = λ other. of_other_bytes other (unknown_table n) refl;
      unknown = λ bytes e. rw (e, eq-eqb (length s) question_bytes bytes) refl;
      named = λ e. rw e refl;
    }
  where
    of_other_bytes : (length s ≡ question_bytes → ⊥) → (v : Bool) → unknown_table n ≡ v →
        prepared_numbers (prepared_by (terms_on n) s) ≡ none_prepared wrong_length
    of_other_bytes other true e = rw (e, ne_eqb (length s) question_bytes other) refl
    of_other_bytes other false e = rw e (rw (other_bytes (ladder_named n) five_percent s other) refl)

pub usual : (s : List ℕ) → prepared_by (terms_on usual_table) s ≡ prepared usual_ladder five_percent s
usual s = (prepared_on_table usual_table s).named table_laws.usual_is_named

-- ---- all of them

pub preparing_laws : PreparingLaws
preparing_laws =
    record {
      price_not_looked_at = price_not_looked_at;
      security_alters_no_range = security_alters_no_range;
      numbers_lose_nothing = numbers_lose_nothing;
      prepared_on_ladder = prepared_on_ladder;
      first_numbers = first_numbers;
      prepared_on_table = prepared_on_table;
    }
