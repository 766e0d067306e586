-- Numbers in decimal, as ASCII.
use Rattle.std.specs.Prelude.{ℕ, zero, suc, ◌+◌, ◌/◌, ◌%◌, cond, List, [], ◌∷◌, ◌++◌, ltb}

-- characters, each a number below 256
abbrev pub Text : Type 0
Text = List ℕ

-- the character of a digit
abbrev pub digit : ℕ → ℕ
digit d = 48 + d

-- the two digits of a number below 100
abbrev pub two_digits : ℕ → Text
two_digits n = digit (n / 10) ∷ digit (n % 10) ∷ []

-- a number in decimal, if it has no more than so many digits: one digit, or its last one after those of a tenth of it
unfoldable pub up_to : ℕ → ℕ → Text
up_to zero n = []
up_to (suc most) n = cond (ltb n 10) (digit n ∷ []) (up_to most (n / 10) ++ (digit (n % 10) ∷ []))

-- a number in decimal; n has no more than n + 1 digits
unfoldable pub decimal : ℕ → Text
decimal n = up_to (suc n) n

-- the characters that stand after a number, between two of a line and at its end
abbrev pub blank : ℕ
blank = 32

abbrev pub newline : ℕ
newline = 10

-- a number, and a character after it
abbrev pub field : ℕ → ℕ → Text
field n after = decimal n ++ (after ∷ [])
