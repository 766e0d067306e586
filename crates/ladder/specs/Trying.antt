-- The band of a price, and the order in which the bands of a table are tried. Document 02, d: "Try those bands first, then the rest in any order."
-- Decided: the rest from the first band on.
use Rattle.std.specs.Prelude.{ℕ, ◌-◌, ◌*◌, Bool, ◌&&◌, ◌||◌, List, ◌++◌, eqb, ltb, leb, length, get_or, take, filter, Option}
use Rattle.std.specs.List.{find, range_with_len}
use Rattle.tables.specs.Bands.{Table, no_band}

-- the indexes from the first on, those below the end
abbrev pub indexes : ℕ → ℕ → List ℕ
indexes first end = range_with_len first (end - first)

-- the order of trying in a table of n bands: the busy ones, which lie "over 0.50 to 50, on each of the three tables"; then the rest, from the
-- first on. A band that a table does not have is left out
abbrev pub order : ℕ → List ℕ
order n = filter (λ k. ltb k n) (indexes 2 5 ++ (indexes 0 2 ++ indexes 5 n))

-- the first band in that order that passes a test, at most `allowed` bands tried
abbrev pub tried : (ℕ → Bool) → ℕ → Table → Option ℕ
tried test allowed t = find test (take allowed (order (length t)))

-- y lies over the bottom of band k. On the first bottom, which lies over none, it counts as over it
abbrev pub is_over : ℕ → ℕ → ℕ → Bool
is_over bottom y k = ltb bottom y || eqb k 0 && eqb bottom y

-- band k of a table holds y / scale: it lies over the bottom, up to the top
abbrev pub lands : ℕ → ℕ → Table → ℕ → Bool
lands scale y t k = let b = get_or t k no_band in is_over (scale * b.bottom) y k && leb y (scale * b.top)

-- the band that holds y / scale, by its index, at most `allowed` bands tried
abbrev pub sought : ℕ → ℕ → ℕ → Table → Option ℕ
sought scale y allowed t = tried (lands scale y t) allowed t

-- the band of a price: a price is a threshold over 1
abbrev pub band_of : ℕ → ℕ → Table → Option ℕ
band_of p allowed t = sought 1 p allowed t
