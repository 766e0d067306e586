-- The laws of specs/Laws.antt, proved. Other crates see them as fields of table_laws, and nothing else of this folder.
use Rattle.std.specs.Prelude.{◌≡◌, Bool, true, false, not, cond, ◌||◌, [], T, eqb}
use mathlib.Core.Path.{refl}
use native.Mathlib.Omega.{arith}
use Rattle.tables.specs.Bands.{Table, chained, well_formed}
use Rattle.tables.specs.Named.{before_phase1, phase1, phase2, table_named}
use Rattle.tables.specs.Growth.{grows_slowly}
use Rattle.tables.specs.Laws.{NamedTables, Edges, SameEdges, NamedGrowSlowly, TableLaws}

-- by what is tested: the number is 1, 2, 3. Each table is tested once, by computation
abbrev pick_table : Bool → Bool → Bool → Table
pick_table one two three = cond one before_phase1 (cond two phase1 (cond three phase2 []))

picked_well : (one two three : Bool) → not (one || two || three) ≡ false → T (well_formed (pick_table one two three))
unfolding before_phase1 phase1 phase2 chained well_formed
picked_well true two three e = tt
picked_well false true three e = tt
picked_well false false true e = tt
picked_well false false false e = absurd (grind arith)

picked_edges : (one two three : Bool) → not (one || two || three) ≡ false → Edges (pick_table one two three) 10 9995000
unfolding before_phase1 phase1 phase2
picked_edges true two three e = record { first_bottom = refl; last_top = refl }
picked_edges false true three e = record { first_bottom = refl; last_top = refl }
picked_edges false false true e = record { first_bottom = refl; last_top = refl }
picked_edges false false false e = absurd (grind arith)

picked_none : (one two three : Bool) → not (one || two || three) ≡ true → pick_table one two three ≡ []
picked_none true two three e = absurd (grind arith)
picked_none false true three e = absurd (grind arith)
picked_none false false true e = absurd (grind arith)
picked_none false false false e = refl

picked_slow : (one two three : Bool) → T (grows_slowly (pick_table one two three))
unfolding before_phase1 phase1 phase2 grows_slowly
picked_slow true two three = tt
picked_slow false true three = tt
picked_slow false false true = tt
picked_slow false false false = tt

named_tables : NamedTables
unfolding table_named
named_tables n =
    record {
      well_formed_lem = picked_well (eqb n 1) (eqb n 2) (eqb n 3);
      none = picked_none (eqb n 1) (eqb n 2) (eqb n 3);
    }

same_edges : SameEdges
unfolding table_named
same_edges n = picked_edges (eqb n 1) (eqb n 2) (eqb n 3)

named_grow_slowly : NamedGrowSlowly
unfolding table_named
named_grow_slowly n = picked_slow (eqb n 1) (eqb n 2) (eqb n 3)

pub table_laws : TableLaws
table_laws =
    record { named_tables = named_tables; same_edges = same_edges; usual_is_named = refl; named_grow_slowly = named_grow_slowly }
