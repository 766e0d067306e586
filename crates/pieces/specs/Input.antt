-- What a read answered.
use Rattle.std.specs.Prelude.{ℕ, Bool, true, false, min, Result, Ok, Err}

-- what a read answered: an error says that it failed; a number is how many bytes came
abbrev pub read_failed : {E : Type 0} → Result ℕ E → Bool
read_failed (Ok n) = false
read_failed (Err e) = true

-- the number itself, at most `most`, and 0 where the read failed
abbrev pub clamp_len : {E : Type 0} → Result ℕ E → ℕ → ℕ
clamp_len (Ok n) most = min n most
clamp_len (Err e) most = 0
