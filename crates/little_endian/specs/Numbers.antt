-- Numbers in bytes: "4-byte little-endian". Document 01, "Question and answer".
use Rattle.std.specs.Prelude.{ℕ, ◌+◌, ◌*◌, ◌/◌, ◌%◌, List, [], ◌∷◌, get_or}

-- bytes, each a number below 256
abbrev pub Bytes : Type 0
Bytes = List ℕ

-- the 4-byte little-endian number from a byte on
abbrev pub number : ℕ → Bytes → ℕ
number at s = get_or s at 0 + get_or s (at + 1) 0 * 256 + get_or s (at + 2) 0 * 65536 + get_or s (at + 3) 0 * 16777216

-- the 4 bytes of a number, little-endian
abbrev pub four_bytes : ℕ → Bytes
four_bytes x = x % 256 ∷ x / 256 % 256 ∷ x / 65536 % 256 ∷ x / 16777216 % 256 ∷ []
