-- Spreads by the plain count, from any price within the ends of a ladder: single ones, and n of them one after another. Document 01, "The
-- ladder" and "The two limits of a reference R"; document 02, b. House reading: steps halt at either end. Decided: 0 spreads from a price off
-- the ladder stay at that price.
use Rattle.std.specs.Prelude.{ℕ, zero, suc, cond, List, Option, Some, None}
use Rattle.ladder.specs.Search.{first, latest, or_else, above, below}
use Rattle.ladder.specs.Places.{is_outside}

-- a single spread up: the first price above p, or p where there is none. From a p off the ladder it "goes to the nearest ladder price that way"
unfoldable pub spread_up : List ℕ → ℕ → ℕ
spread_up l p = or_else p (first (above p) l)

-- a single spread down: the latest price below p, or p where there is none
unfoldable pub spread_down : List ℕ → ℕ → ℕ
spread_down l p = or_else p (latest (below p) l)

-- n steps one after another, none for n = 0
unfoldable pub times : ℕ → (ℕ → ℕ) → ℕ → ℕ
times zero step p = p
times (suc n) step p = times n step (step p)

-- an answer for a price within the ends; from a price outside them, no price
abbrev pub if_within : ℕ → List ℕ → ℕ → Option ℕ
if_within p l answer = cond (is_outside p l) None (Some answer)

-- n spreads up and n spreads down from p
abbrev pub spreads_up : List ℕ → ℕ → ℕ → Option ℕ
spreads_up l p n = if_within p l (times n (spread_up l) p)

abbrev pub spreads_down : List ℕ → ℕ → ℕ → Option ℕ
spreads_down l p n = if_within p l (times n (spread_down l) p)
