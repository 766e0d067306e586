-- The reading of a question: "Checks run in number order; the first that applies is the answer", with 15 "directly after 2". Checks 2, 15
-- and 3 to 5, then the permitted range. The order price plays no part in it. Document 01, "Why a question comes back"; document 02, f.
use Rattle.std.specs.Prelude.{ℕ, Bool, cond, Option, Some, None, Result, Ok, Err}
use Rattle.ladder.specs.Ladder.{Prices}
use Rattle.limits.specs.declared.Percentage.{Percentage}
use Rattle.questions.specs.declared.Codes.{Codes}
use Rattle.questions.specs.declared.References.{References}
use Rattle.rules.specs.declared.Queues.{Queues}
use Rattle.rules.specs.declared.Rule.{Rule}
use Rattle.rules.specs.declared.Chosen.{Chosen}
use Rattle.rules.specs.Rules.{chosen}
use Rattle.questions.specs.Checks.{bad_security_code, any_off}
use Rattle.rules.specs.Checks.{disagree, unopposed}
use Rattle.ranges.specs.declared.Range.{Range}
use Rattle.ranges.specs.declared.Refusal.{Refusal}
use Rattle.ranges.specs.declared.Refusal.TheVariants.{UnknownCode, BadSecurityCode, OffLadder, Disagreement, NoOpposite}
use Rattle.ranges.specs.Permitted.{range_of}

-- the reading of a question: its range, or why it has none
abbrev pub Reading : Type 0
Reading = Result Range Refusal

-- checks 3 to 5 in order, and what follows where none of them applies
abbrev pub in_order : Bool → Bool → Bool → Reading → Reading
in_order off disagrees alone next =
    cond off (Err OffLadder)
    (cond disagrees (Err Disagreement)
    (cond alone (Err NoOpposite)
    next))

-- the reading of a question whose codes choose a rule and queues
unfoldable pub reading_by : Prices → Percentage → Rule → Queues → References → Reading
reading_by l percent rule q r = in_order (any_off l r) (disagree q r) (unopposed rule q) (Ok (range_of l percent rule q r))

-- checks 2 and 15 before them: the codes choose nothing; the security code is bad
abbrev pub reading_on : Prices → Percentage → Option Chosen → ℕ → References → Reading
reading_on l percent None code r = Err UnknownCode
reading_on l percent (Some c) code r = cond (bad_security_code code) (Err BadSecurityCode) (reading_by l percent c.rule c.queues r)

-- the reading of codes and references
unfoldable pub reading_of : Prices → Percentage → Codes → References → Reading
reading_of l percent c r = reading_on l percent (chosen c r) c.security_code r
