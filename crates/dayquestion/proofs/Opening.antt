-- The queue code, by the list of accepted events.
use mathlib.Core.Path.{◌≡◌, refl}
use mathlib.Core.Bool.{Bool, true, false, not, cond, ◌||◌, or-true}
use mathlib.Core.List.{[], ◌∷◌}
use lib.Dec.{eqb}
use Rattle.questions.specs.declared.Reference.TheVariants.{Price}
use Rattle.questions.specs.Missing.{present}
use Rattle.daybook.specs.Events.{best_bid, best_ask, History}
use Rattle.daybook.specs.Kept.{last_of, any_quote}
use Rattle.dayquestion.specs.Filling.{opening, queue_code}

-- there is a last bid or a last ask exactly where one was accepted
pub any_last : (h : History) → (present (last_of best_bid h) || present (last_of best_ask h)) ≡ any_quote h
unfolding last_of any_quote
any_last [] = refl
any_last (e ∷ h) = go (eqb e.kind best_bid) (eqb e.kind best_ask) (any_last h)
  where
    go : (bid ask : Bool) → (present (last_of best_bid h) || present (last_of best_ask h)) ≡ any_quote h →
        (present (cond bid (Price e.price) (last_of best_bid h)) || present (cond ask (Price e.price) (last_of best_ask h))) ≡
        (bid || ask || any_quote h)
    go true ask before = refl
    go false true before = or-true (present (last_of best_bid h))
    go false false before = before

-- the code is the opening's exactly where there was none
pub opening_code : (any bid ask : Bool) → eqb (queue_code any bid ask) opening ≡ not any
opening_code false bid ask = refl
opening_code true true true = refl
opening_code true true false = refl
opening_code true false true = refl
opening_code true false false = refl
