-- Going through every price of a ladder, from the first to the last: the plain count of document 01, "The two limits of a reference R".
use Rattle.std.specs.Prelude.{ℕ, ◌*◌, Bool, cond, List, [], ◌∷◌, ltb, leb, Option, Some, None, unwrap_or}

-- the first price that passes a test
unfoldable pub first : (ℕ → Bool) → List ℕ → Option ℕ
first test [] = None
first test (q ∷ qs) = let rest = first test qs in cond (test q) (Some q) rest

-- the latest price that passes a test, or what was kept before
unfoldable pub latest_after : Option ℕ → (ℕ → Bool) → List ℕ → Option ℕ
latest_after kept test [] = kept
latest_after kept test (q ∷ qs) = latest_after (cond (test q) (Some q) kept) test qs

-- the latest price that passes a test
abbrev pub latest : (ℕ → Bool) → List ℕ → Option ℕ
latest test l = latest_after None test l

-- the price found, or another number where nothing was
abbrev pub or_else : ℕ → Option ℕ → ℕ
or_else other found = unwrap_or found other

-- the tests: q is above p, and below p; scale times q is at least y, and at most y
abbrev pub above : ℕ → ℕ → Bool
above p q = ltb p q

abbrev pub below : ℕ → ℕ → Bool
below p q = ltb q p

abbrev pub at_least : ℕ → ℕ → ℕ → Bool
at_least scale y q = leb y (scale * q)

abbrev pub at_most : ℕ → ℕ → ℕ → Bool
at_most scale y q = leb (scale * q) y
