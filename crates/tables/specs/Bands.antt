-- Band tables, and what makes one well formed. Document 01, "The ladder". Every price is a whole number of mils (a mil is 0.001 of the
-- currency unit).
use Rattle.std.specs.Prelude.{ℕ, ◌-◌, ◌%◌, Bool, true, false, ◌&&◌, List, [], ◌∷◌, eqb, ltb}
use Rattle.tables.specs.declared.Band.{Band}

-- a band of this bottom, top and spread. It holds the prices over its bottom up to its top, a spread apart: its top, not its
-- bottom. (The first bottom is a ladder price all the same: see Ladder.)
abbrev pub band : ℕ → ℕ → ℕ → Band
band bottom top spread = record { bottom = bottom; top = top; spread = spread }

-- a table is a list of bands
abbrev pub Table : Type 0
Table = List Band

-- what stands past the end of a table
abbrev pub no_band : Band
no_band = band 0 0 0

-- a band that is not empty, and is a whole number of its spreads wide
abbrev pub whole : Band → Bool
whole b = ltb b.bottom b.top && ltb 0 b.spread && eqb ((b.top - b.bottom) % b.spread) 0

-- the first band starts at a, each other one where the band before it ends, and each is whole
unfoldable pub chained : ℕ → Table → Bool
chained a [] = true
chained a (b ∷ bs) = eqb b.bottom a && whole b && chained b.top bs

-- a well-formed table has a band, starts above 0, and is chained
unfoldable pub well_formed : Table → Bool
well_formed [] = false
well_formed (b ∷ bs) = ltb 0 b.bottom && chained b.bottom (b ∷ bs)
