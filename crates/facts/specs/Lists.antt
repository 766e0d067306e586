-- Lists of numbers: their members, and lists that rise.
use Rattle.std.specs.Prelude.{ℕ, ◌<◌, Bool, false, ◌||◌, List, [], ◌∷◌, T, eqb}

-- x is a member of the list
unfoldable pub holds : ℕ → List ℕ → Bool
holds x [] = false
holds x (a ∷ l) = eqb x a || holds x l

-- each member is below all that come after it
abbrev pub Rising : List ℕ → Type 0
Rising [] = Unit {0}
Rising (a ∷ l) = ((x : ℕ) → T (holds x l) → a < x) × Rising l
