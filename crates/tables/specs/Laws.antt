-- The laws of the named tables. Each is a field of the record TableLaws at the end, which proofs/Laws.antt proves as table_laws: NamedTables is
-- the field named_tables.
use Rattle.std.specs.Prelude.{◌≡◌, ℕ, ◌-◌, true, false, [], T, length, get_or}
use Rattle.tables.specs.Bands.{Table, no_band, well_formed}
use Rattle.tables.specs.Named.{table_named, unknown_table, usual_table}
use Rattle.tables.specs.Growth.{grows_slowly}

-- Each table that a number names is well formed, and a number that names none names the empty table.
pub record NamedBy (n : ℕ) : Type 0 where
  pub well_formed_lem : unknown_table n ≡ false → T (well_formed (table_named n))
  pub none : unknown_table n ≡ true → table_named n ≡ []

abbrev pub NamedTables : Type 0
NamedTables = (n : ℕ) → NamedBy n

-- All of them have the same first bottom, 0.010, and the same last top, 9,995.000.
pub record Edges (t : Table) (first last : ℕ) : Type 0 where
  pub first_bottom : (get_or t 0 no_band).bottom ≡ first
  pub last_top : (get_or t (length t - 1) no_band).top ≡ last

abbrev pub SameEdges : Type 0
SameEdges = (n : ℕ) → unknown_table n ≡ false → Edges (table_named n) 10 9995000

-- The calls that name no table use one that there is.
abbrev pub UsualIsNamed : Type 0
UsualIsNamed = unknown_table usual_table ≡ false

-- The spreads of each of them grow slowly. (The empty table, which the other numbers name, has none.)
abbrev pub NamedGrowSlowly : Type 0
NamedGrowSlowly = (n : ℕ) → T (grows_slowly (table_named n))

-- ---- all of them

pub record TableLaws : Type 0 where
  pub named_tables : NamedTables
  pub same_edges : SameEdges
  pub usual_is_named : UsualIsNamed
  pub named_grow_slowly : NamedGrowSlowly
