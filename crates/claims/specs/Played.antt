-- A day played by hand: what each event gets, what the day then keeps, and the question that is filled from it. Right or wrong by the
-- definitions that the calls for C equal. Prices are mils; of them 251 lies between two ladder prices, and 9 below them all.
use Rattle.std.specs.Prelude.{◌≡◌, ℕ, Bool, true, false, ◌&&◌, List, [], ◌∷◌, ◌++◌, eqb, get_or}
use Rattle.questions.specs.Missing.{reference_of}
use Rattle.questions.specs.Record.{bytes_of}
use Rattle.daybook.specs.Events.{event}
use Rattle.daybook.specs.Days.{opened, entered}
use Rattle.dayquestion.specs.declared.Order.{Order}
use Rattle.dayquestion.specs.Filling.{question_from}
use Rattle.daynumbers.specs.declared.DayNumbers.{DayNumbers}
use Rattle.daynumbers.specs.Numbers.{day_from, entered_numbers}
use Rattle.claims.specs.Worked.{prices, little_endian, mils}

-- a fresh day with a close, and its number; an event by kind and price, and its number; what the day keeps, and the queue code of a question
-- that is filled from it
pub data Step : Type 0 where
  opens : ℕ → ℕ → Step
  enters : ℕ → ℕ → ℕ → Step
  keeps : List ℕ → ℕ → Step

unfoldable pub same : List ℕ → List ℕ → Bool
same [] [] = true
same [] (y ∷ m) = false
same (x ∷ l) [] = false
same (x ∷ l) (y ∷ m) = eqb x y && same l m

-- the numbers of a day, in this order
abbrev pub kept : DayNumbers → List ℕ
kept n =
    n.previous_close ∷ n.current_bid ∷ n.current_ask ∷ n.last_bid ∷ n.last_ask ∷ n.lowest_bid ∷ n.highest_bid ∷
    n.lowest_ask ∷ n.highest_ask ∷ n.day_low ∷ n.day_high ∷ []

-- an order: special limit sell at 0.027, nominal price 0.029, security code 700
abbrev pub tried : Order
tried = record { side = 2; order_type = 3; price = 27; nominal = 29; security_code = 700 }

-- its question, byte for byte by the paper's layout, where these numbers are kept
abbrev pub due_bytes : List ℕ → ℕ → List ℕ
due_bytes due code =
    2 ∷ 3 ∷ code ∷ 0 ∷
    mils (
    27 ∷  -- order price
    get_or due 1 0 ∷  -- current bid
    get_or due 2 0 ∷  -- current ask
    get_or due 3 0 ∷  -- last bid
    get_or due 4 0 ∷  -- last ask
    get_or due 0 0 ∷  -- previous close
    get_or due 9 0 ∷  -- day low
    get_or due 10 0 ∷  -- day high
    29 ∷  -- nominal price
    []) ++
    little_endian 4 700  -- security code

-- every step is right, from a day on
unfoldable pub right_from : DayNumbers → List Step → Bool
right_from n [] = true
right_from n (opens close number ∷ rest) =
    let fresh = entered_numbers (opened prices (reference_of close)) in eqb fresh.number number && right_from fresh.day rest
right_from n (enters kind price number ∷ rest) =
    let after = entered_numbers (entered prices (day_from n) (event kind price)) in eqb after.number number && right_from after.day rest
right_from n (keeps due code ∷ rest) =
    same (kept n) due && same (bytes_of (question_from (day_from n) tried)) (due_bytes due code) && right_from n rest

-- ---- the day

unfoldable pub steps : List Step
steps =
    -- a close outside the ends, one between two ladder prices, and one on the ladder
    opens 9 12 ∷ keeps (0 ∷ 0 ∷ 0 ∷ 0 ∷ 0 ∷ 0 ∷ 0 ∷ 0 ∷ 0 ∷ 0 ∷ 0 ∷ []) 1 ∷
    opens 251 0 ∷ keeps (251 ∷ 0 ∷ 0 ∷ 0 ∷ 0 ∷ 0 ∷ 0 ∷ 0 ∷ 0 ∷ 0 ∷ 0 ∷ []) 1 ∷
    opens 30 0 ∷ keeps (30 ∷ 0 ∷ 0 ∷ 0 ∷ 0 ∷ 0 ∷ 0 ∷ 0 ∷ 0 ∷ 0 ∷ 0 ∷ []) 1 ∷
    -- a trade before any quote, and an empty queue emptied
    enters 5 25 0 ∷ enters 3 0 0 ∷ keeps (30 ∷ 0 ∷ 0 ∷ 0 ∷ 0 ∷ 0 ∷ 0 ∷ 0 ∷ 0 ∷ 25 ∷ 25 ∷ []) 1 ∷
    -- bid and ask; equal ones are refused; a bid may fall, an ask may rise
    enters 1 20 0 ∷ enters 2 21 0 ∷ enters 1 21 13 ∷ enters 2 20 13 ∷ enters 1 18 0 ∷ enters 2 24 0 ∷
    keeps (30 ∷ 18 ∷ 24 ∷ 18 ∷ 24 ∷ 18 ∷ 20 ∷ 21 ∷ 24 ∷ 25 ∷ 25 ∷ []) 2 ∷
    -- each way to be turned away
    enters 1 251 12 ∷ enters 4 5 11 ∷ enters 0 0 11 ∷ enters 6 20 11 ∷ enters 5 0 12 ∷
    -- trades on either side of the first, and quotes between the extremes
    enters 5 28 0 ∷ enters 5 15 0 ∷ enters 1 19 0 ∷ enters 2 23 0 ∷
    keeps (30 ∷ 19 ∷ 23 ∷ 19 ∷ 23 ∷ 18 ∷ 20 ∷ 21 ∷ 24 ∷ 15 ∷ 28 ∷ []) 2 ∷
    -- the buy queue empties; an ask below the last bid; the sell queue empties; a bid above the last ask
    enters 3 0 0 ∷ keeps (30 ∷ 0 ∷ 23 ∷ 19 ∷ 23 ∷ 18 ∷ 20 ∷ 21 ∷ 24 ∷ 15 ∷ 28 ∷ []) 4 ∷
    enters 2 14 0 ∷ keeps (30 ∷ 0 ∷ 14 ∷ 19 ∷ 14 ∷ 18 ∷ 20 ∷ 14 ∷ 24 ∷ 15 ∷ 28 ∷ []) 4 ∷
    enters 4 0 0 ∷ keeps (30 ∷ 0 ∷ 0 ∷ 19 ∷ 14 ∷ 18 ∷ 20 ∷ 14 ∷ 24 ∷ 15 ∷ 28 ∷ []) 5 ∷
    enters 1 29 0 ∷ keeps (30 ∷ 29 ∷ 0 ∷ 29 ∷ 14 ∷ 18 ∷ 29 ∷ 14 ∷ 24 ∷ 15 ∷ 28 ∷ []) 3 ∷
    []

-- a day of eleven zeros, for the first step, which opens one
abbrev pub blank : DayNumbers
blank =
    record {
      previous_close = 0;
      current_bid = 0;
      current_ask = 0;
      last_bid = 0;
      last_ask = 0;
      lowest_bid = 0;
      highest_bid = 0;
      lowest_ask = 0;
      highest_ask = 0;
      day_low = 0;
      day_high = 0;
    }

-- Every step is right: one claim over the whole day.
abbrev pub Played : Type 0
Played = right_from blank steps ≡ true
