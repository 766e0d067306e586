-- What the ladder means, to be read in this order, after crates/tables/specs. A reader who believes these files, and the contracts that cite
-- them, needs no proof.
--
-- Document 01 is the customer's paper on spreads and limits; words in quotation marks are its own.
--
-- Notation. `declared.X` is the struct or enum X of src/; `r.x` is its field x.
-- `eqb a b`, `ltb a b`, `leb a b` test a = b, a < b, a <= b; `T b` says that the test b passes; `cond b x y` is x where b is true, and
-- else y. `a ≡ b` says that a is b, `A × B` that both hold, `A ⊎ B` that one does, `A → ⊥` that A never holds; `(x : ℕ) → A` that A holds
-- for every number x, `(x : ℕ) × A` that there is one. `suc n` is n + 1. Numbers are never negative: `a - b` is 0 where b is larger.
-- Of lists, `a ∷ l` puts a before l, `l ++ m` puts m after l, `take n l` is the first n entries, `drop n l` the rest, and `get_or l i d`
-- entry i, from 0, or d past the end. Past the end `take` takes all and `drop` leaves nothing. `find test l` is the first entry that passes a
-- test, `filter test l` all that do, `map f l` what f makes of each, `range_with_len a n` the n numbers from a on; `is_some` tests that there is an
-- answer.
-- In a contract `ensures { .. }` says what holds of the result, `result`; where a function has several clauses of a kind, each has a name.
-- Of a slice s that is lent, `s.now` is its content; of one that is lent to be written, `s.old` its content at the call, `s.new` when the
-- function returns.
-- `abbrev` and `unfoldable` only tell the prover when to open a definition, and a `let` keeps a search from computing on when it has
-- found something.
pub mod Ladder
pub mod Search
pub mod Places
pub mod Spreads
pub mod Named
pub mod Trying
pub mod Layout
pub mod Laws
pub mod Arithmetic
