-- Check 15, by the calling program; check 3, by the reference feed; and pairs of a low and a high, which check 4 looks at
-- (rules/specs/Checks.antt). Document 01, "Why a question comes back"; document 02, b and f.
use Rattle.std.specs.Prelude.{ℕ, Bool, false, not, cond, ◌&&◌, ◌||◌, leb}
use Rattle.ladder.specs.Ladder.{Prices}
use Rattle.ladder.specs.Places.{is_outside}
use Rattle.facts.specs.Lists.{holds}
use Rattle.questions.specs.declared.Reference.{Reference}
use Rattle.questions.specs.declared.Reference.TheVariants.{Missing, Price}
use Rattle.questions.specs.declared.References.{References}
use Rattle.questions.specs.Missing.{present, is_below}

-- The calling program. 15: "code outside 1 to 99999"
abbrev pub last_security_code : ℕ
last_security_code = 99999

abbrev pub bad_security_code : ℕ → Bool
bad_security_code code = not (leb 1 code && leb code last_security_code)

-- one without the other
abbrev pub differ : Bool → Bool → Bool
differ a b = cond a (not b) b

-- The reference feed. 3: "a reference present but no ladder price"
abbrev pub is_off : Prices → Reference → Bool
is_off l Missing = false
is_off l (Price p) = not (holds p l)

-- but "the previous close and the nominal may be any price within the ladder's ends", and are refused only outside them
abbrev pub lies_outside : Prices → Reference → Bool
lies_outside l Missing = false
lies_outside l (Price p) = is_outside p l

unfoldable pub any_off : Prices → References → Bool
any_off l r =
    is_off l r.current_bid || is_off l r.current_ask || is_off l r.last_bid || is_off l r.last_ask || is_off l r.day_low || is_off l r.day_high ||
    lies_outside l r.previous_close || lies_outside l r.nominal

-- "day low without day high or the reverse, or low above high"
abbrev pub bad_pair : Reference → Reference → Bool
bad_pair low high = differ (present low) (present high) || is_below high low
