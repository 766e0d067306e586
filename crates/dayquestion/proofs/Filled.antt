-- What a question is answered that is filled from a day that events led to.
use Rattle.std.specs.Prelude.{Some, None, Ok, Err}
use mathlib.Core.Path.{◌≡◌, refl, sym, ap}
use Prim.Native.Nat.{ℕ, zero, suc, ◌<◌}
use native.Mathlib.Omega.{arith}
use mathlib.Core.Bool.{Bool, true, false, not, cond, ◌&&◌, ◌||◌}
use lib.Dec.{T, ltb, eqb}
use borrow.Author.Tests.{lt-ltb, ne_eqb, not-false}
use Rattle.little_endian.specs.Laws.{byte_bound, number_bound}
use Rattle.facts.proofs.Tests.{and_both, true_of}
use Rattle.std.proofs.lemmas.Bool.{true≢false}
use Rattle.tables.specs.Bands.{Table, well_formed}
use Rattle.ladder.specs.Ladder.{Prices, ladder}
use Rattle.ladder.specs.Places.{last_price}
use Rattle.ladder.proofs.Laws.{ladder_laws}
use Rattle.limits.specs.declared.Percentage.{Percentage}
use Rattle.questions.specs.declared.Reference.{Reference}
use Rattle.questions.specs.declared.Reference.TheVariants.{Missing, Price}
use Rattle.questions.specs.declared.References.{References}
use Rattle.questions.specs.declared.Codes.{Codes}
use Rattle.questions.specs.declared.Question.{Question}
use Rattle.questions.specs.Missing.{reference_of, present}
use Rattle.questions.specs.Checks.{bad_security_code, is_off, lies_outside, any_off, bad_pair}
use Rattle.questions.specs.Record.{bytes_of}
use Rattle.questions.specs.Laws.{is_writable, Fits}
use Rattle.questions.proofs.Laws.{question_laws}
use Rattle.rules.specs.declared.Rule.{Rule}
use Rattle.rules.specs.declared.Queues.{Queues}
use Rattle.rules.specs.Rules.{known_side, known_type, known_queue, unknown_code, rule_of, queues_of, chosen}
use Rattle.rules.specs.Checks.{disagree, unopposed}
use Rattle.ranges.specs.declared.Range.{Range}
use Rattle.ranges.specs.declared.Refusal.TheVariants.{UnknownCode, BadSecurityCode}
use Rattle.ranges.specs.Permitted.{range_of}
use Rattle.ranges.specs.Readings.{in_order, reading_by, reading_on, reading_of}
use Rattle.judging.specs.declared.Verdict.{Verdict}
use Rattle.judging.specs.declared.Verdict.TheVariants.{Accepted, OutsideLadder, BetweenPrices, BelowLowest, AboveHighest, NineFold}
use Rattle.judging.specs.Numbers.{verdict_number}
use Rattle.judging.specs.Verdicts.{verdict_of}
use Rattle.judging.specs.Answers.{answer_by, judged}
use Rattle.daybook.specs.declared.Day.{Day}
use Rattle.dayquestion.specs.declared.Order.{Order}
use Rattle.daybook.specs.Accepted.{meet}
use Rattle.dayquestion.specs.Filling.{queue_code, queue_code_of, references_from, question_from}
use Rattle.daybook.specs.Laws.{DayInOrder}
use Rattle.dayquestion.specs.Laws.{OrderFits, CallersFault}

-- ---- its bytes hold it

module _ (t : Table) (wf : T (well_formed t)) where
  within_writable : last_price (ladder t) < number_bound → (r : Reference) → lies_outside (ladder t) r ≡ false → T (is_writable r)
  within_writable small Missing w = tt
  within_writable small (Price p) w =
      let positive = ladder_laws.never_zero t wf p w in
      let last = ((ladder_laws.ends_are_the_tables t wf).within p w).1 in
      and_both (ltb 0 p) (ltb p number_bound) (true_of _ (lt-ltb 0 p positive)) (true_of _ (lt-ltb p number_bound (omega arith)))

  writable : last_price (ladder t) < number_bound → (r : Reference) → is_off (ladder t) r ≡ false → T (is_writable r)
  writable small r on = within_writable small r (question_laws.none_outside t wf r on)

given_writable : (n : ℕ) → n < number_bound → T (is_writable (reference_of n))
given_writable zero small = tt
given_writable (suc n) small =
    rw (ne_eqb (suc n) 0 (λ e. omega (arith, e)))
    (and_both (ltb 0 (suc n)) (ltb (suc n) number_bound) (true_of _ (lt-ltb 0 (suc n) (omega arith))) (true_of _ (lt-ltb (suc n) number_bound small)))

-- what holds of 1 to 5 holds of the queue code
of_code : (P : ℕ → Type 0) → P 1 → P 2 → P 3 → P 4 → P 5 → (d : Day) → P (queue_code_of d)
of_code P one two three four five d =
    go (present d.bids.last || present d.asks.last) (present d.bids.current) (present d.asks.current)
  where
    go : (any bid ask : Bool) → P (queue_code any bid ask)
    go false bid ask = search (one, two, three, four, five)
    go true true true = search (one, two, three, four, five)
    go true true false = search (one, two, three, four, five)
    go true false true = search (one, two, three, four, five)
    go true false false = search (one, two, three, four, five)

code_fits : (d : Day) → queue_code_of d < byte_bound
code_fits = of_code (λ (n : ℕ). n < byte_bound) (omega arith) (omega arith) (omega arith) (omega arith) (omega arith)

code_known : (d : Day) → known_queue (queue_code_of d) ≡ true
code_known = of_code (λ (n : ℕ). known_queue n ≡ true) refl refl refl refl refl

-- ---- its references agree

agree : (bid ask last_bid last_ask close low high nominal : Reference) → meet bid ask ≡ false →
    (present bid ≡ true → last_bid ≡ bid) → (present ask ≡ true → last_ask ≡ ask) → bad_pair low high ≡ false →
    let r : References =
    record {
      current_bid = bid;
      current_ask = ask;
      last_bid = last_bid;
      last_ask = last_ask;
      previous_close = close;
      day_low = low;
      day_high = high;
      nominal = nominal;
    } in
    disagree (queues_of (queue_code (present last_bid || present last_ask) (present bid) (present ask)) r) r ≡ false
unfolding disagree
agree (Price x) (Price y) (Price a) last_ask close low high nominal apart f g pair = rw (not-false (ltb x y) apart) pair
agree (Price x) (Price y) Missing last_ask close low high nominal apart f g pair = absurd (true≢false (sym (ap present (f refl))))
agree (Price x) Missing (Price a) last_ask close low high nominal apart f g pair = pair
agree (Price x) Missing Missing last_ask close low high nominal apart f g pair = absurd (true≢false (sym (ap present (f refl))))
agree Missing (Price y) (Price a) (Price b) close low high nominal apart f g pair = pair
agree Missing (Price y) Missing (Price b) close low high nominal apart f g pair = pair
agree Missing (Price y) last_bid Missing close low high nominal apart f g pair = absurd (true≢false (sym (ap present (g refl))))
agree Missing Missing Missing Missing close low high nominal apart f g pair = pair
agree Missing Missing (Price a) last_ask close low high nominal apart f g pair = pair
agree Missing Missing Missing (Price b) close low high nominal apart f g pair = pair

-- ---- the answer by its number

-- what causes a number, where the references do not disagree: nothing 1 or 4, and 0 and 5 to 10 need no cause
abbrev cause : (unknown bad off : Bool) → ℕ → Bool
cause unknown bad off n =
    cond (eqb n 1 || eqb n 4) false
    (cond (eqb n 2) unknown
    (cond (eqb n 15) bad
    (cond (eqb n 3) off
    true)))

verdict_caused : (unknown bad off : Bool) (v : Verdict) → cause unknown bad off (verdict_number v) ≡ true
verdict_caused unknown bad off Accepted = refl
verdict_caused unknown bad off OutsideLadder = refl
verdict_caused unknown bad off BetweenPrices = refl
verdict_caused unknown bad off BelowLowest = refl
verdict_caused unknown bad off AboveHighest = refl
verdict_caused unknown bad off NineFold = refl

number_caused : (l : Prices) (unknown bad off alone : Bool) (range : Range) (p : ℕ) →
    cause unknown bad off
    (answer_by l (cond unknown (Err UnknownCode) (cond bad (Err BadSecurityCode) (in_order off false alone (Ok range)))) p).number ≡ true
number_caused l true bad off alone range p = refl
number_caused l false true off alone range p = refl
number_caused l false false true alone range p = refl
number_caused l false false false true range p = refl
number_caused l false false false false range p = verdict_caused false false false (verdict_of l range p)

-- the reading of codes and references, check by check
module _ (l : Prices) (percent : Percentage) (c : Codes) (r : References) where
  rule : Rule
  rule = rule_of c.side c.order_type

  queues : Queues
  queues = queues_of c.queue r

  bad : Bool
  bad = bad_security_code c.security_code

  reading_is : reading_of l percent c r ≡ cond (unknown_code c) (Err UnknownCode) (cond bad (Err BadSecurityCode) (reading_by l percent rule queues r))
  unfolding reading_of chosen rule queues bad
  reading_is = go (unknown_code c)
    where
      go : (unknown : Bool) →
          reading_on l percent (cond unknown None (Some (record { rule = rule; queues = queues }))) c.security_code r ≡
          cond unknown (Err UnknownCode) (cond bad (Err BadSecurityCode) (reading_by l percent rule queues r))
      go true = refl
      go false = refl

  number_by : (p : ℕ) → disagree queues r ≡ false → cause (unknown_code c) bad (any_off l r) (answer_by l (reading_of l percent c r) p).number ≡ true
  unfolding reading_by
  number_by p agrees =
      rw (reading_is, agrees) (number_caused l (unknown_code c) bad (any_off l r) (unopposed rule queues) (range_of l percent rule queues r) p)

-- ---- all of it together

-- one of two numbers is unknown where one of the four is, and the others are known
one_of_two : (a b : Bool) → (not a || not b || false || false) ≡ true → (a && b) ≡ false
one_of_two true true e = sym e
one_of_two true false e = refl
one_of_two false b e = refl

module _ (t : Table) (wf : T (well_formed t)) (small : last_price (ladder t) < number_bound) (d : Day) (s : DayInOrder (ladder t) d) (o : Order) (fits : OrderFits o) where
  its_bytes : Fits (question_from d o)
  its_bytes =
      record {
        side = fits.side;
        order_type = fits.order_type;
        queue = code_fits d;
        byte_3 = omega arith;
        security_code = fits.security_code;
        price = fits.price;
        current_bid = writable t wf small d.bids.current s.bids.current_on;
        current_ask = writable t wf small d.asks.current s.asks.current_on;
        last_bid = writable t wf small d.bids.last s.bids.last_on;
        last_ask = writable t wf small d.asks.last s.asks.last_on;
        previous_close = within_writable t wf small d.previous_close s.close_within;
        day_low = writable t wf small d.traded.low s.traded.low_on;
        day_high = writable t wf small d.traded.high s.traded.high_on;
        nominal = given_writable o.nominal fits.nominal;
      }

  agrees : disagree (queues_of (queue_code_of d) (references_from d o.nominal)) (references_from d o.nominal) ≡ false
  agrees =
      agree d.bids.current d.asks.current d.bids.last d.asks.last d.previous_close d.traded.low d.traded.high
      (reference_of o.nominal) s.apart s.bids.current_is_last s.asks.current_is_last s.traded.pair

  codes_given : unknown_code (question_from d o).codes ≡ true → (known_side o.side && known_type o.order_type) ≡ false
  codes_given e =
      one_of_two (known_side o.side) (known_type o.order_type)
      (rw (code_known d) at e)

  nominal_given : any_off (ladder t) (references_from d o.nominal) ≡ true → lies_outside (ladder t) (reference_of o.nominal) ≡ true
  unfolding any_off
  nominal_given e =
      rw (
        s.bids.current_on,
        s.asks.current_on,
        s.bids.last_on,
        s.asks.last_on,
        s.traded.low_on,
        s.traded.high_on,
        s.close_within,
      ) at e

  pub only_the_caller : (percent : Percentage) → CallersFault t o (judged (ladder t) percent (bytes_of (question_from d o)))
  unfolding judged queues bad
  only_the_caller percent =
      rw (question_laws.bytes_decode q its_bytes)
      (record {
        never_1 = λ e. true≢false (sym (caused 1 e));
        codes_given = λ e. codes_given (caused 2 e);
        security_given = caused 15;
        nominal_given = λ e. nominal_given (caused 3 e);
        never_4 = λ e. true≢false (sym (caused 4 e));
      })
    where
      q : Question
      q = question_from d o

      caused : (n : ℕ) → (answer_by (ladder t) (reading_of (ladder t) percent q.codes q.references) q.price).number ≡ n →
          cause (unknown_code q.codes) (bad_security_code q.codes.security_code) (any_off (ladder t) q.references) n ≡ true
      caused n e = rw (← e) (number_by (ladder t) percent q.codes q.references q.price agrees)
