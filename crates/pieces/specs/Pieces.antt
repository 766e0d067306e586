-- An input in pieces, each a buffer that is filled as far as it goes: a model of what comes, for each piece its bytes, and whether a read
-- failed after them.
use Rattle.std.specs.Prelude.{ℕ, Bool, true, false, ◌&&◌, List, [], ◌∷◌, ◌++◌, eqb, length}

-- pieces end to end
abbrev pub joined : List (List ℕ) → List ℕ
joined [] = []
joined (s ∷ rest) = s ++ joined rest

-- every piece is full, of so many bytes
abbrev pub all_full : ℕ → List (List ℕ) → Bool
all_full size [] = true
all_full size (s ∷ rest) = eqb (length s) size && all_full size rest

-- each come without a failure
abbrev pub full_pieces : List (List ℕ) → List (List ℕ × Bool)
full_pieces [] = []
full_pieces (s ∷ rest) = (s, false) ∷ full_pieces rest
