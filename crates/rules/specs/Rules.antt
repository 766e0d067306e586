-- "The side, order type and queue code together choose the range": the rule, and the queues with the
-- current or last bid and ask that the rules look at. Document 01, "Question and answer" and "Permitted range".
use Rattle.std.specs.Prelude.{ℕ, Bool, not, cond, ◌||◌, eqb, Option, Some, None}
use Rattle.questions.specs.declared.Reference.{Reference}
use Rattle.questions.specs.declared.Reference.TheVariants.{Missing}
use Rattle.questions.specs.declared.Codes.{Codes}
use Rattle.questions.specs.declared.References.{References}
use Rattle.rules.specs.declared.Queues.{Queues}
use Rattle.rules.specs.declared.Queues.TheVariants.{Opening, Both, BuyOnly, SellOnly, Neither}
use Rattle.rules.specs.declared.Rule.{Rule}
use Rattle.rules.specs.declared.Rule.TheVariants.{BuyLimit, BuyEnhanced, BuySpecial, SellLimit, SellEnhanced, SellSpecial}
use Rattle.rules.specs.declared.Chosen.{Chosen}

-- "the side (1 buy, 2 sell)"
abbrev pub known_side : ℕ → Bool
known_side n = eqb n 1 || eqb n 2

-- "the order type (1 limit, 2 enhanced limit, 3 special limit)"
abbrev pub known_type : ℕ → Bool
known_type n = eqb n 1 || eqb n 2 || eqb n 3

-- "the queue code (1 opening: no bid and no ask yet today; 2 both queues; 3 buy only; 4 sell only; 5 neither)"
abbrev pub known_queue : ℕ → Bool
known_queue n = eqb n 1 || eqb n 2 || eqb n 3 || eqb n 4 || eqb n 5

-- The calling program. 2: "side, type or queue code unknown, or byte 3 not zero"
abbrev pub unknown_code : Codes → Bool
unknown_code c = not (known_side c.side) || not (known_type c.order_type) || not (known_queue c.queue) || not (eqb c.byte_3 0)

-- the rule of a known side and type
abbrev pub by_type : ℕ → Rule → Rule → Rule → Rule
by_type n limit enhanced special = cond (eqb n 1) limit (cond (eqb n 2) enhanced special)

abbrev pub rule_of : ℕ → ℕ → Rule
rule_of side type = cond (eqb side 1) (by_type type BuyLimit BuyEnhanced BuySpecial) (by_type type SellLimit SellEnhanced SellSpecial)

-- the queues of a known code
abbrev pub queues_of : ℕ → References → Queues
queues_of code r =
    cond (eqb code 1) Opening
    (cond (eqb code 2) (Both r.current_bid r.current_ask)
    (cond (eqb code 3) (BuyOnly r.current_bid)
    (cond (eqb code 4) (SellOnly r.current_ask)
    (Neither r.last_bid r.last_ask))))

-- what the codes choose; nothing where one is unknown
unfoldable pub chosen : Codes → References → Option Chosen
chosen c r = cond (unknown_code c) None (Some (record { rule = rule_of c.side c.order_type; queues = queues_of c.queue r }))

-- the current ask, where there is a sell queue (codes 2, 4)
abbrev pub ask_of : Queues → Reference
ask_of Opening = Missing
ask_of (Both bid ask) = ask
ask_of (BuyOnly bid) = Missing
ask_of (SellOnly ask) = ask
ask_of (Neither last_bid last_ask) = Missing

-- the current bid, where there is a buy queue (codes 2, 3)
abbrev pub bid_of : Queues → Reference
bid_of Opening = Missing
bid_of (Both bid ask) = bid
bid_of (BuyOnly bid) = bid
bid_of (SellOnly ask) = Missing
bid_of (Neither last_bid last_ask) = Missing
