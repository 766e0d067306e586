-- What the laws of the named tables say of the table that a number names, in the words of `table_of`.
use Rattle.std.specs.Prelude.{◌≡◌, ℕ, zero, suc, ◌-◌, ◌≤◌, ◌<◌, Bool, true, false, T, cond, [], length, eqb, Some, None}
use mathlib.Core.Path.{refl, sym, ap}
use Rattle.std.proofs.Common.{Fits, w32}
use native.Mathlib.Omega.{arith}
use Rattle.tables.specs.Bands.{Table, well_formed}
use Rattle.tables.specs.Named.{before_phase1, phase1, phase2, table_named, unknown_table}
use Rattle.tables.proofs.Laws.{table_laws}
use Rattle.ladder.specs.Ladder.{ladder}
use Rattle.ladder.specs.Named.{ladder_named}
use Rattle.ladder.specs.Trying.{band_of}
use Rattle.ladder.specs.Places.{last_price}
use Rattle.ladder.proofs.Tables.Table.{table_facts, last_is_top}
use Rattle.ladder.proofs.Tables.Trying.{found_held}

pub well : (n : ℕ) (bands : Table) → bands ≡ table_named n → false ≡ unknown_table n → T (well_formed bands)
well n bands e known = rw e ((table_laws.named_tables n).well_formed_lem (sym known))

pub low : (n : ℕ) (bands : Table) → bands ≡ table_named n → false ≡ unknown_table n → last_price (ladder bands) < 2147483648
low n bands e known =
    let wf = (table_laws.named_tables n).well_formed_lem (sym known) in
    let last = length (table_named n) - 1 in
    let top = last_is_top (table_named n) wf last (omega (arith, (table_facts (table_named n) wf).some)) in
    rw e (omega (arith, top, (table_laws.same_edges n (sym known)).last_top))

pub none : (n : ℕ) → true ≡ unknown_table n → [] ≡ ladder_named n
unfolding ladder
none n unknown = rw ((table_laws.named_tables n).none (sym unknown)) refl

-- ---- the band of a price

pub no_band : (n : ℕ) → true ≡ unknown_table n → (p allowed : ℕ) → None ≡ band_of p allowed (table_named n)
no_band n unknown p allowed = rw ((table_laws.named_tables n).none (sym unknown)) (none_of allowed)
  where
    none_of : (allowed : ℕ) → None ≡ band_of p allowed []
    none_of zero = refl
    none_of (suc allowed) = refl

-- no named table has more than twelve bands
few : (n : ℕ) → length (table_named n) ≤ 12
unfolding table_named before_phase1 phase1 phase2
few n = go (eqb n 1) (eqb n 2) (eqb n 3)
  where
    go : (one two three : Bool) → length (cond one before_phase1 (cond two phase1 (cond three phase2 []))) ≤ 12
    go true two three = omega arith
    go false true three = omega arith
    go false false true = omega arith
    go false false false = omega arith

pub index_fits : (n : ℕ) (bands : Table) → bands ≡ table_named n → (p allowed k : ℕ) → Some k ≡ band_of p allowed bands → Fits w32 k
index_fits n bands is p allowed k e = omega (arith, (found_held bands p allowed k (sym e)).0, ap length is, few n)
