-- A question filled from a day: "takes queue code and references from it, the nominal and the rest from the caller". Document 02, a and f.
use Rattle.std.specs.Prelude.{ℕ, Bool, not, cond, ◌||◌, eqb, length, Result, Ok, Err, ⊤}
use Rattle.little_endian.specs.Numbers.{Bytes}
use Rattle.questions.specs.declared.References.{References}
use Rattle.questions.specs.declared.Question.{Question}
use Rattle.questions.specs.Missing.{reference_of, present}
use Rattle.questions.specs.Record.{question_bytes, bytes_of}
use Rattle.preparing.specs.Numbers.{wrong_length}
use Rattle.daybook.specs.declared.Day.{Day}
use Rattle.dayquestion.specs.declared.Order.{Order}
use Rattle.dayquestion.specs.declared.WrongLength.{WrongLength}

-- Document 01: "the queue code (1 opening: no bid and no ask yet today; 2 both queues; 3 buy only; 4 sell only; 5 neither)", by whether there
-- was a bid or an ask today, and whether there is a current bid, and a current ask
abbrev pub opening : ℕ
opening = 1

abbrev pub queue_code : Bool → Bool → Bool → ℕ
queue_code any_today bid ask = cond (not any_today) opening (cond bid (cond ask 2 3) (cond ask 4 5))

-- by a day, whatever it keeps: there was one today where there is a last one
abbrev pub queue_code_of : Day → ℕ
queue_code_of d =
    queue_code (present d.bids.last || present d.asks.last) (present d.bids.current) (present d.asks.current)

-- the references: all but the nominal are the day's
abbrev pub references_from : Day → ℕ → References
references_from d nominal =
    record {
      current_bid = d.bids.current;
      current_ask = d.asks.current;
      last_bid = d.bids.last;
      last_ask = d.asks.last;
      previous_close = d.previous_close;
      day_low = d.traded.low;
      day_high = d.traded.high;
      nominal = reference_of nominal;
    }

-- the question; byte 3 is zero
abbrev pub question_from : Day → Order → Question
question_from d o =
    record {
      codes =
          record { side = o.side; order_type = o.order_type; queue = queue_code_of d; byte_3 = 0; security_code = o.security_code };
      price = o.price;
      references = references_from d o.nominal;
    }

-- as bytes, written over s: where s has not as many bytes as a question, it is refused, and keeps every byte
abbrev pub is_room : Bytes → Bool
is_room s = eqb (length s) question_bytes

abbrev pub fill_result : Bytes → Result ⊤ WrongLength
fill_result s = cond (is_room s) (Ok tt) (Err (record {}))

-- the number of that: document 01's for a wrong length
abbrev pub fill_number : Bytes → ℕ
fill_number s = cond (is_room s) 0 wrong_length

abbrev pub filled : Day → Order → Bytes → Bytes
filled d o s = cond (is_room s) (bytes_of (question_from d o)) s
