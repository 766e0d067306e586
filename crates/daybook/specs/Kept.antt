-- What a list of accepted events says, price by price: "After any events each kept price equals what the list of accepted events says."
-- Document 02 (a). Lists have the latest event first.
use Rattle.std.specs.Prelude.{ℕ, Bool, false, cond, ◌||◌, [], ◌∷◌, eqb}
use Rattle.questions.specs.declared.Reference.{Reference}
use Rattle.questions.specs.declared.Reference.TheVariants.{Missing, Price}
use Rattle.questions.specs.Missing.{least, greatest}
use Rattle.daybook.specs.Events.{Queue, best_of, empty_of, best_bid, best_ask, History}

-- the current bid or ask: the latest of the queue's best prices and emptyings decides
unfoldable pub current_of : Queue → History → Reference
current_of queue [] = Missing
current_of queue (e ∷ earlier) =
    cond (eqb e.kind (best_of queue)) (Price e.price)
    (cond (eqb e.kind (empty_of queue)) Missing
    (current_of queue earlier))

-- "last (latest accepted)": the price of the latest event of a kind. The last bid is that of kind 1; where there is a current bid, it is that
unfoldable pub last_of : ℕ → History → Reference
last_of kind [] = Missing
last_of kind (e ∷ earlier) = cond (eqb e.kind kind) (Price e.price) (last_of kind earlier)

-- the lowest and the highest of all prices of events of a kind
unfoldable pub lowest_of : ℕ → History → Reference
lowest_of kind [] = Missing
lowest_of kind (e ∷ earlier) = cond (eqb e.kind kind) (least (Price e.price) (lowest_of kind earlier)) (lowest_of kind earlier)

unfoldable pub highest_of : ℕ → History → Reference
highest_of kind [] = Missing
highest_of kind (e ∷ earlier) = cond (eqb e.kind kind) (greatest (Price e.price) (highest_of kind earlier)) (highest_of kind earlier)

-- a bid or an ask is among them
unfoldable pub any_quote : History → Bool
any_quote [] = false
any_quote (e ∷ earlier) = eqb e.kind best_bid || eqb e.kind best_ask || any_quote earlier
