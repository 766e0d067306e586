-- Places: the first price of a ladder has place 0, the next 1, and so on; and the ends of a ladder. Document 01, "The ladder"; document 02, b.
use Rattle.std.specs.Prelude.{ℕ, zero, suc, Bool, true, cond, ◌||◌, List, [], ◌∷◌, eqb, ltb, Option, Some, None}

-- the price at a place; nothing above the last place
unfoldable pub price_at : ℕ → List ℕ → Option ℕ
price_at k [] = None
price_at zero (q ∷ qs) = Some q
price_at (suc k) (q ∷ qs) = price_at k qs

-- the place of p in a list that begins at place k
unfoldable pub place_from : ℕ → ℕ → List ℕ → Option ℕ
place_from k p [] = None
place_from k p (q ∷ qs) = let rest = place_from (suc k) p qs in cond (eqb p q) (Some k) rest

-- the place of a price
abbrev pub place_of : ℕ → List ℕ → Option ℕ
place_of p l = place_from 0 p l

-- the first price of a ladder
abbrev pub first_price : List ℕ → ℕ
first_price [] = 0
first_price (q ∷ qs) = q

-- the last price of a ladder, going through the list
unfoldable pub last_after : ℕ → List ℕ → ℕ
last_after kept [] = kept
last_after kept (q ∷ qs) = last_after q qs

abbrev pub last_price : List ℕ → ℕ
last_price l = last_after 0 l

-- a price outside the ends: below the first price, or above the last. Outside a ladder with no price lies every price
unfoldable pub is_outside : ℕ → List ℕ → Bool
is_outside p [] = true
is_outside p (q ∷ qs) = ltb p (first_price (q ∷ qs)) || ltb (last_price (q ∷ qs)) p
