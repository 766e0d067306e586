-- References of a trade: in pairs of a low and a high, and the range that they make.
use mathlib.Core.Path.{◌≡◌}
use Prim.Native.Nat.{ℕ, ◌≤◌}
use native.Mathlib.Nat.{le_trans}
use native.Mathlib.Omega.{arith}
use mathlib.Core.Bool.{false}
use lib.Dec.{T}
use borrow.Author.Tests.{ltb-false}
use Rattle.tables.specs.Bands.{Table, well_formed}
use Rattle.ladder.specs.Ladder.{ladder}
use Rattle.ladder.proofs.Laws.{ladder_laws}
use Rattle.std.proofs.lemmas.Bool.{true≢false}
use Rattle.limits.specs.declared.Percentage.{Percentage}
use Rattle.limits.specs.Limits.{lower_limit, upper_limit, lower_limit_found, upper_limit_found}
use Rattle.limits.proofs.Laws.{limit_laws}
use Rattle.questions.specs.declared.Reference.{Reference}
use Rattle.questions.specs.declared.Reference.TheVariants.{Missing, Price}
use Rattle.questions.specs.Missing.{least, greatest, price_or}
use Rattle.questions.specs.Checks.{bad_pair}
use Rattle.ranges.specs.Bounds.{from_reference}
use Rattle.ranges.specs.Laws.{IfPresent, Within}

-- ---- pairs

-- both missing, or both there and the low not above the high
pub Paired : Reference → Reference → Type 0
Paired Missing Missing = Unit {0}
Paired Missing (Price b) = ⊥
Paired (Price a) Missing = ⊥
Paired (Price a) (Price b) = a ≤ b

pub paired : (low high : Reference) → bad_pair low high ≡ false → Paired low high
unfolding Paired
paired Missing Missing e = tt
paired Missing (Price b) e = absurd (true≢false e)
paired (Price a) Missing e = absurd (true≢false e)
paired (Price a) (Price b) e = ltb-false b a e

-- the least of two low ends and the greatest of two high ones are a pair again
pub paired_ends : (a b x y : Reference) → Paired a x → Paired b y → Paired (least a b) (greatest x y)
unfolding Paired
paired_ends Missing b Missing y p q = q
paired_ends Missing b (Price x) y p q = elim p [ ]
paired_ends (Price a) b Missing y p q = elim p [ ]
paired_ends (Price a) Missing (Price x) Missing p q = p
paired_ends (Price a) Missing (Price x) (Price y) p q = elim q [ ]
paired_ends (Price a) (Price b) (Price x) Missing p q = elim q [ ]
paired_ends (Price a) (Price b) (Price x) (Price y) p q = omega arith

-- a pair makes a range that rises
from_pair : (bottom top : ℕ) → bottom ≤ top → (low high : Reference) → Paired low high → price_or bottom low ≤ price_or top high
unfolding Paired
from_pair bottom top m Missing Missing p = m
from_pair bottom top m Missing (Price b) p = elim p [ ]
from_pair bottom top m (Price a) Missing p = elim p [ ]
from_pair bottom top m (Price a) (Price b) p = p

-- and so do three pairs
pub range_rises : (bottom top : ℕ) → bottom ≤ top → (a b c x y z : Reference) → Paired a x → Paired b y → Paired c z →
    price_or bottom (least a (least b c)) ≤ price_or top (greatest x (greatest y z))
range_rises bottom top m a b c x y z p q r =
    from_pair bottom top m _ _ (paired_ends a (least b c) x (greatest y z) p (paired_ends b c y z q r))

-- ---- the limits of a reference within the ends

pub limits_paired : (t : Table) → T (well_formed t) → (percent : Percentage) (close : Reference) → Within t close →
    Paired (from_reference (lower_limit_found (ladder t) percent) close) (from_reference (upper_limit_found (ladder t) percent) close)
unfolding IfPresent Paired
limits_paired t wf percent Missing h = tt
limits_paired t wf percent (Price c) w =
    let encloses = limit_laws.limits_enclose t wf percent c w in
    rw (
      (ladder_laws.only_within_the_ends c (ladder t) (lower_limit (ladder t) percent c)).within w,
      (ladder_laws.only_within_the_ends c (ladder t) (upper_limit (ladder t) percent c)).within w,
    ) (le_trans encloses.lower_below encloses.upper_above)
