-- An order with no reference, and the question that an order stands for.
use Rattle.std.specs.Prelude.{ℕ}
use Rattle.questions.specs.declared.Reference.TheVariants.{Missing}
use Rattle.questions.specs.declared.Question.{Question}
use Rattle.orders.specs.declared.Order.{Order}

-- an order by its codes, with every reference missing and security code 1
abbrev pub bare : ℕ → ℕ → ℕ → Order
bare side order_type queue =
    record {
      codes = record { side = side; order_type = order_type; queue = queue; byte_3 = 0; security_code = 1 };
      references =
          record {
            current_bid = Missing;
            current_ask = Missing;
            last_bid = Missing;
            last_ask = Missing;
            previous_close = Missing;
            day_low = Missing;
            day_high = Missing;
            nominal = Missing;
          };
    }

-- an order at a price, as a question
abbrev pub asked : Order → ℕ → Question
asked o price = record { codes = o.codes; price = price; references = o.references }
