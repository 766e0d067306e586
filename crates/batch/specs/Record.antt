-- An answer as 12 bytes. Document 01, "Question and answer".
use Rattle.std.specs.Prelude.{ℕ, ◌+◌, ◌++◌}
use Rattle.little_endian.specs.Numbers.{Bytes, number, four_bytes}
use Rattle.judging.specs.declared.Answer.{Answer}

-- how many bytes an answer has
abbrev pub answer_bytes : ℕ
answer_bytes = 12

-- "An answer is 12 bytes, three 4-byte little-endian numbers: answer number, lowest and highest permitted price."
unfoldable pub encoded : Answer → Bytes
encoded a = four_bytes a.number ++ (four_bytes a.lowest ++ four_bytes a.highest)

-- the answer that is read from a byte on
abbrev pub answer_at : ℕ → Bytes → Answer
answer_at at s = record { number = number at s; lowest = number (at + 4) s; highest = number (at + 8) s }
