-- A question from its bytes, and its bytes. Document 01, "Question and answer"; document 02, f.
use Rattle.std.specs.Prelude.{ℕ, ◌*◌, ◌/◌, cond, [], ◌∷◌, ◌++◌, eqb, length, get_or, take, drop, Option, Some, None}
use Rattle.little_endian.specs.Numbers.{Bytes, number, four_bytes}
use Rattle.questions.specs.declared.Codes.{Codes}
use Rattle.questions.specs.declared.References.{References}
use Rattle.questions.specs.declared.Question.{Question}
use Rattle.questions.specs.Missing.{reference_of, number_of}

-- how many bytes a question has: "The question grows to 44 bytes"
abbrev pub question_bytes : ℕ
question_bytes = 44

-- "Files of questions are these records end to end": how many whole questions so many bytes hold, and the bytes of question k, from 0
abbrev pub count_of : ℕ → ℕ
count_of asked = asked / question_bytes

abbrev pub question_at : ℕ → Bytes → Bytes
question_at k s = take question_bytes (drop (k * question_bytes) s)

-- "bytes 40 to 43 hold the security code, little-endian"
abbrev pub security_byte : ℕ
security_byte = 40

abbrev pub security_code_of : Bytes → ℕ
security_code_of s = number security_byte s

-- "Byte 0 is the side"
abbrev pub side_of : Bytes → ℕ
side_of s = get_or s 0 0

-- ".. byte 1 the order type .. byte 2 the queue code .. byte 3 is zero." And the security code, which is a code too
unfoldable pub codes_of : Bytes → Codes
codes_of s =
    record {
      side = side_of s;
      order_type = get_or s 1 0;
      queue = get_or s 2 0;
      byte_3 = get_or s 3 0;
      security_code = security_code_of s;
    }

-- "Then nine 4-byte little-endian mils: order price, current bid, current ask, last bid, last ask, previous close, day low, day high
-- (transacted prices), nominal price."
abbrev pub price_byte : ℕ
price_byte = 4

abbrev pub price_of : Bytes → ℕ
price_of s = number price_byte s

unfoldable pub references_of : Bytes → References
references_of s =
    record {
      current_bid = reference_of (number 8 s);
      current_ask = reference_of (number 12 s);
      last_bid = reference_of (number 16 s);
      last_ask = reference_of (number 20 s);
      previous_close = reference_of (number 24 s);
      day_low = reference_of (number 28 s);
      day_high = reference_of (number 32 s);
      nominal = reference_of (number 36 s);
    }

abbrev pub question_of : Bytes → Question
question_of s = record { codes = codes_of s; price = price_of s; references = references_of s }

-- bytes of any other number are no question
abbrev pub decoded : Bytes → Option Question
decoded s = cond (eqb (length s) question_bytes) (Some (question_of s)) None

-- the bytes of a question, in the same order. The law BytesDecode says that they are read back as that question.
unfoldable pub bytes_of : Question → Bytes
bytes_of q =
    (q.codes.side ∷ q.codes.order_type ∷ q.codes.queue ∷ q.codes.byte_3 ∷ []) ++
    (four_bytes q.price ++
    (four_bytes (number_of q.references.current_bid) ++
    (four_bytes (number_of q.references.current_ask) ++
    (four_bytes (number_of q.references.last_bid) ++
    (four_bytes (number_of q.references.last_ask) ++
    (four_bytes (number_of q.references.previous_close) ++
    (four_bytes (number_of q.references.day_low) ++
    (four_bytes (number_of q.references.day_high) ++
    (four_bytes (number_of q.references.nominal) ++
    four_bytes q.codes.security_code)))))))))
