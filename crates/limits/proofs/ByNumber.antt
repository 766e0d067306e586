-- A number that names no table, or none that has a price: what the calls and the law of demand 3c need of it.
use Rattle.std.specs.Prelude.{◌≡◌, ℕ, Bool, true, false, cond, T, Err, Ok}
use mathlib.Core.Path.{refl, sym, ◌∙◌}
use Rattle.std.proofs.lemmas.Bool.{true≢false}
use native.Mathlib.Omega.{arith}
use Rattle.tables.specs.Bands.{well_formed}
use Rattle.tables.specs.Named.{table_named, unknown_table}
use Rattle.tables.proofs.Laws.{table_laws}
use Rattle.ladder.specs.Places.{is_outside}
use Rattle.ladder.specs.Named.{ladder_named}
use Rattle.ladder.proofs.Laws.{ladder_laws}
use Rattle.limits.specs.declared.terms.BadTerms.{BadTerms}
use Rattle.limits.specs.Terms.{Basis, terms_on}

by_test : (test : Bool) (bad other : BadTerms) (basis : Basis) → Err bad ≡ cond test (Err other) (Ok basis) → test ≡ true
by_test true bad other basis e = refl
by_test false bad other basis e = absurd (grind arith)

-- from no price is there a limit by a number that names no table
pub outside : (n r : ℕ) (bad : BadTerms) → Err bad ≡ terms_on n → is_outside r (ladder_named n) ≡ true
outside n r bad e = (ladder_laws.nothing_on_unknown n (by_test (unknown_table n) bad _ _ e)).outside r

-- a number names a well-formed table, if some price is within its ends
pub with_a_price : (n p : ℕ) → is_outside p (ladder_named n) ≡ false → T (well_formed (table_named n))
with_a_price n p within = by (unknown_table n) refl where
  by : (test : Bool) → unknown_table n ≡ test → T (well_formed (table_named n))
  by true unknown = absurd (true≢false (sym ((ladder_laws.nothing_on_unknown n unknown).outside p) ∙ within))
  by false known = (table_laws.named_tables n).well_formed_lem known
