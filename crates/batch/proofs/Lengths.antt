-- The whole questions of so many bytes have no more bytes.
use Prim.Native.Nat.{ℕ, ◌*◌, ◌≤◌}
use native.Mathlib.Nat.{div-add-mod'}
use native.Mathlib.Omega.{arith}
use Rattle.questions.specs.Record.{question_bytes, count_of}

pub whole : (asked : ℕ) → count_of asked * question_bytes ≤ asked
whole asked = omega (arith, div-add-mod' asked question_bytes)
