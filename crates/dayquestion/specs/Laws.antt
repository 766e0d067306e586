-- The laws of questions that are filled from a day, for every list of events that was entered into a fresh one. Each is a field of the record
-- FillingLaws at the end, which proofs/Laws.antt proves as filling_laws: OpeningUntilQuoted is the field opening_until_quoted.
use Rattle.std.specs.Prelude.{◌≡◌, ◌<◌, true, false, not, ◌&&◌, T, eqb}
use Rattle.little_endian.specs.Laws.{byte_bound, number_bound}
use Rattle.tables.specs.Bands.{Table, well_formed}
use Rattle.ladder.specs.Ladder.{Prices, ladder}
use Rattle.ladder.specs.Places.{last_price}
use Rattle.limits.specs.declared.Percentage.{Percentage}
use Rattle.questions.specs.declared.Reference.{Reference}
use Rattle.questions.specs.declared.Question.{Question}
use Rattle.questions.specs.Missing.{reference_of, present}
use Rattle.questions.specs.Checks.{bad_security_code, lies_outside}
use Rattle.questions.specs.Record.{bytes_of}
use Rattle.rules.specs.Rules.{known_side, known_type}
use Rattle.judging.specs.declared.Answer.{Answer}
use Rattle.judging.specs.Answers.{judged}
use Rattle.daybook.specs.Events.{best_bid, best_ask, system_trade, Buy, Sell, History}
use Rattle.daybook.specs.Kept.{current_of, last_of, lowest_of, highest_of, any_quote}
use Rattle.daybook.specs.Accepted.{accepted}
use Rattle.daybook.specs.Days.{taken_close, played}
use Rattle.dayquestion.specs.declared.Order.{Order}
use Rattle.dayquestion.specs.Filling.{opening, queue_code, question_from}

-- "It has the opening code exactly while no bid or ask was accepted".
abbrev pub OpeningUntilQuoted : Type 0
OpeningUntilQuoted =
    (l : Prices) (close : Reference) (events : History) (o : Order) →
    eqb (question_from (played l close events) o).codes.queue opening ≡ not (any_quote (accepted l events))

-- "A question filled from such a day takes queue code and references from it, the nominal and the rest from the caller": all of it, by h.
abbrev pub question_by : Reference → History → Order → Question
question_by close h o =
    record {
      codes =
          record {
            side = o.side;
            order_type = o.order_type;
            queue = queue_code (any_quote h) (present (current_of Buy h)) (present (current_of Sell h));
            byte_3 = 0;
            security_code = o.security_code;
          };
      price = o.price;
      references =
          record {
            current_bid = current_of Buy h;
            current_ask = current_of Sell h;
            last_bid = last_of best_bid h;
            last_ask = last_of best_ask h;
            previous_close = close;
            day_low = lowest_of system_trade h;
            day_high = highest_of system_trade h;
            nominal = reference_of o.nominal;
          };
    }

abbrev pub QuestionByTheList : Type 0
QuestionByTheList =
    (l : Prices) (close : Reference) (events : History) (o : Order) →
    question_from (played l close events) o ≡ question_by (taken_close l close) (accepted l events) o

-- what the caller gives fits its bytes
pub record OrderFits (o : Order) : Type 0 where
  pub side : o.side < byte_bound
  pub order_type : o.order_type < byte_bound
  pub price : o.price < number_bound
  pub nominal : o.nominal < number_bound
  pub security_code : o.security_code < number_bound

-- "It never gets 4", nor 1; it gets 2 only for the side or the order type that the caller gave, 15 only for the security code, and 3 only for
-- the nominal.
pub record CallersFault (t : Table) (o : Order) (a : Answer) : Type 0 where
  pub never_1 : a.number ≡ 1 → ⊥
  pub codes_given : a.number ≡ 2 → (known_side o.side && known_type o.order_type) ≡ false
  pub security_given : a.number ≡ 15 → bad_security_code o.security_code ≡ true
  pub nominal_given : a.number ≡ 3 → lies_outside (ladder t) (reference_of o.nominal) ≡ true
  pub never_4 : a.number ≡ 4 → ⊥

-- Whatever the caller gives, over the bytes of the question, with every table whose prices have 4 bytes.
abbrev pub OnlyTheCaller : Type 0
OnlyTheCaller =
    (t : Table) → T (well_formed t) → last_price (ladder t) < number_bound → (percent : Percentage) (close : Reference) (events : History)
    (o : Order) → OrderFits o → CallersFault t o (judged (ladder t) percent (bytes_of (question_from (played (ladder t) close events) o)))

-- ---- all of them

pub record FillingLaws : Type 0 where
  pub opening_until_quoted : OpeningUntilQuoted
  pub question_by_the_list : QuestionByTheList
  pub only_the_caller : OnlyTheCaller
