-- The laws of ranges. Each is a field of the record RangeLaws at the end, which proofs/Laws.antt proves as range_laws: BoundsOnLadder is the
-- field bounds_on_ladder.
use Rattle.std.specs.Prelude.{◌≡◌, ℕ, false, T, Ok}
use Rattle.tables.specs.Bands.{Table, well_formed}
use Rattle.ladder.specs.Ladder.{ladder, is_ladder_price}
use Rattle.ladder.specs.Places.{is_outside}
use Rattle.limits.specs.declared.Percentage.{Percentage}
use Rattle.limits.specs.Limits.{lower_limit_found, upper_limit_found}
use Rattle.questions.specs.declared.Codes.{Codes}
use Rattle.questions.specs.declared.Reference.{Reference}
use Rattle.questions.specs.declared.Reference.TheVariants.{Missing, Price}
use Rattle.questions.specs.declared.References.{References}
use Rattle.questions.specs.Missing.{least, greatest, price_or}
use Rattle.questions.specs.Checks.{is_off, lies_outside}
use Rattle.ranges.specs.declared.Range.{Range}
use Rattle.ranges.specs.Bounds.{from_reference}
use Rattle.ranges.specs.Readings.{reading_of}

-- a reference that is missing, or of whose price P holds
unfoldable pub IfPresent : (ℕ → Type 0) → Reference → Type 0
IfPresent P Missing = Unit {0}
IfPresent P (Price p) = P p

-- one that is missing, or a ladder price
abbrev pub On : Table → Reference → Type 0
On t a = IfPresent (λ p. T (is_ladder_price p t)) a

-- one that is missing, or a price within the ends
abbrev pub Within : Table → Reference → Type 0
Within t a = IfPresent (λ p. is_outside p (ladder t) ≡ false) a

-- A bid, an ask, a day low or high that check 3 lets pass is on the ladder or missing, and so are the least and the greatest of such; and the
-- price of one, or an end in its place, is a ladder price. A close that it lets pass is within the ends or missing, and so are the least and the
-- greatest of such; and the limits of such are on the ladder.
pub record StayOn (t : Table) (percent : Percentage) : Type 0 where
  pub passed : (a : Reference) → is_off (ladder t) a ≡ false → On t a
  pub close_passed : (a : Reference) → lies_outside (ladder t) a ≡ false → Within t a
  pub on_within : (a : Reference) → On t a → Within t a
  pub least_on : (a b : Reference) → On t a → On t b → On t (least a b)
  pub greatest_on : (a b : Reference) → On t a → On t b → On t (greatest a b)
  pub least_within : (a b : Reference) → Within t a → Within t b → Within t (least a b)
  pub greatest_within : (a b : Reference) → Within t a → Within t b → Within t (greatest a b)
  pub lower_on : (a : Reference) → Within t a → On t (from_reference (lower_limit_found (ladder t) percent) a)
  pub upper_on : (a : Reference) → Within t a → On t (from_reference (upper_limit_found (ladder t) percent) a)
  pub price_on : (end : ℕ) (a : Reference) → T (is_ladder_price end t) → On t a → T (is_ladder_price (price_or end a) t)

abbrev pub ReferencesStayOn : Type 0
ReferencesStayOn = (t : Table) → T (well_formed t) → (percent : Percentage) → StayOn t percent

-- Both ends of a permitted range are ladder prices, whatever the close: no bid or ask off the ladder gets past check 3, and the limits of prices
-- within the ends and nine spreads from ladder prices are ladder prices.
pub record EndsOnLadder (t : Table) (range : Range) : Type 0 where
  pub lowest_on : T (is_ladder_price range.lowest t)
  pub highest_on : T (is_ladder_price range.highest t)

abbrev pub BoundsOnLadder : Type 0
BoundsOnLadder =
    (t : Table) → T (well_formed t) → (percent : Percentage) (c : Codes) (r : References) (range : Range) →
    reading_of (ladder t) percent c r ≡ Ok range → EndsOnLadder t range

-- ---- all of them

pub record RangeLaws : Type 0 where
  pub references_stay_on : ReferencesStayOn
  pub bounds_on_ladder : BoundsOnLadder
