-- The laws of numbers in bytes. Each is a field of the record NumberLaws at the end, which proofs/Laws.antt proves as number_laws:
-- NumberReadsBack is the field number_reads_back.
use Rattle.std.specs.Prelude.{◌≡◌, ℕ, ◌<◌}
use Rattle.little_endian.specs.Numbers.{number, four_bytes}

-- every byte is below 256, every number of four bytes below 256 * 256 * 256 * 256
abbrev pub byte_bound : ℕ
byte_bound = 256

abbrev pub number_bound : ℕ
number_bound = 4294967296

-- A number that fits four bytes is read back from them.
abbrev pub NumberReadsBack : Type 0
NumberReadsBack = (x : ℕ) → x < number_bound → number 0 (four_bytes x) ≡ x

-- ---- all of them

pub record NumberLaws : Type 0 where
  pub number_reads_back : NumberReadsBack
