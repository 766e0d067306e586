-- The codes, and ten numbers one after the other.
use Rattle.std.proofs.Common.{◌≡◌, ◌∷◌, replicate}
use Rattle.std.proofs.lemmas.List.Edits.{sets}
use Rattle.little_endian.specs.Numbers.{Bytes, four_bytes}
use Rattle.questions.specs.declared.Question.{Question}
use Rattle.questions.specs.Missing.{number_of}
use Rattle.questions.specs.Record.{question_bytes, bytes_of}
use Rattle.questions.proofs.encoding.encode.Goals as goal

-- the codes, and each number after what was written before it
are_its_bytes : (q : Question) (price bid ask last_bid last_ask close low high nominal security : Bytes) →
    price ≡ sets (replicate question_bytes 0) 0 (q.codes.side ∷ q.codes.order_type ∷ q.codes.queue ∷ q.codes.byte_3 ∷ four_bytes q.price) →
    bid ≡ sets price 8 (four_bytes (number_of q.references.current_bid)) →
    ask ≡ sets bid 12 (four_bytes (number_of q.references.current_ask)) →
    last_bid ≡ sets ask 16 (four_bytes (number_of q.references.last_bid)) →
    last_ask ≡ sets last_bid 20 (four_bytes (number_of q.references.last_ask)) →
    close ≡ sets last_ask 24 (four_bytes (number_of q.references.previous_close)) →
    low ≡ sets close 28 (four_bytes (number_of q.references.day_low)) →
    high ≡ sets low 32 (four_bytes (number_of q.references.day_high)) →
    nominal ≡ sets high 36 (four_bytes (number_of q.references.nominal)) →
    security ≡ sets nominal 40 (four_bytes q.codes.security_code) →
    security ≡ bytes_of q
unfolding bytes_of
are_its_bytes q price bid ask last_bid last_ask close low high nominal security a b c d e f g h i j = rw (j, i, h, g, f, e, d, c, b, a)

pub returns : goal.returns
returns c =
    are_its_bytes c.args.question _ _ _ _ _ _ _ _ _ _
    c.with_number-bytes.ensures
    c.with_reference-bytes.ensures
    c.with_reference-bytes-2.ensures
    c.with_reference-bytes-3.ensures
    c.with_reference-bytes-4.ensures
    c.with_reference-bytes-5.ensures
    c.with_reference-bytes-6.ensures
    c.with_reference-bytes-7.ensures
    c.with_reference-bytes-8.ensures
    c.with_number-bytes-2.ensures
