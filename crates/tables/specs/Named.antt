-- The tables that a call may name by number, in mils. Document 02, c: "1 the table before Phase 1 .., 2 Phase 1, 3 Phase 2". They have the
-- same edges; the bands whose spread is not that of the table before are marked.
use Rattle.std.specs.Prelude.{ℕ, Bool, not, cond, ◌||◌, [], ◌∷◌, eqb}
use Rattle.tables.specs.Bands.{band, Table}

-- "the table before Phase 1 (0.020 over 10 to 20, 0.050 over 20 to 50, 10,340 prices)"
unfoldable pub before_phase1 : Table
before_phase1 =
    band 10 250 1 ∷
    band 250 500 5 ∷
    band 500 10000 10 ∷
    band 10000 20000 20 ∷
    band 20000 50000 50 ∷
    band 50000 100000 50 ∷
    band 100000 200000 100 ∷
    band 200000 500000 200 ∷
    band 500000 1000000 500 ∷
    band 1000000 2000000 1000 ∷
    band 2000000 5000000 2000 ∷
    band 5000000 9995000 5000 ∷
    []

-- document 01's "Phase 1 spread table, in mils"
unfoldable pub phase1 : Table
phase1 =
    band 10 250 1 ∷
    band 250 500 5 ∷
    band 500 10000 10 ∷
    band 10000 20000 10 ∷  -- 20 before
    band 20000 50000 20 ∷  -- 50 before
    band 50000 100000 50 ∷
    band 100000 200000 100 ∷
    band 200000 500000 200 ∷
    band 500000 1000000 500 ∷
    band 1000000 2000000 1000 ∷
    band 2000000 5000000 2000 ∷
    band 5000000 9995000 5000 ∷
    []

-- "Phase 2 (0.005 over 0.50 to 10, 12,690 prices)"
unfoldable pub phase2 : Table
phase2 =
    band 10 250 1 ∷
    band 250 500 5 ∷
    band 500 10000 5 ∷  -- 10 before
    band 10000 20000 10 ∷
    band 20000 50000 20 ∷
    band 50000 100000 50 ∷
    band 100000 200000 100 ∷
    band 200000 500000 200 ∷
    band 500000 1000000 500 ∷
    band 1000000 2000000 1000 ∷
    band 2000000 5000000 2000 ∷
    band 5000000 9995000 5000 ∷
    []

-- the table that a number names; of any other number the empty table, which has no price
unfoldable pub table_named : ℕ → Table
table_named n =
    cond (eqb n 1) before_phase1
    (cond (eqb n 2) phase1
    (cond (eqb n 3) phase2
    []))

-- "14 table number not 1 to 3"
abbrev pub unknown_table : ℕ → Bool
unknown_table n = not (eqb n 1 || eqb n 2 || eqb n 3)

-- "Calls that name none use 2."
abbrev pub usual_table : ℕ
usual_table = 2
