-- Lines A to M of "Prices worked out", each right or wrong by the definitions. Prices are mils.
use Rattle.std.specs.Prelude.{◌≡◌, ℕ, zero, suc, ◌/◌, ◌%◌, Bool, true, false, ◌&&◌, List, [], ◌∷◌, ◌++◌, eqb, Option, Some, None}
use Rattle.tables.specs.Named.{phase1}
use Rattle.ladder.specs.Ladder.{Prices, ladder}
use Rattle.ladder.specs.Spreads.{spreads_up, spreads_down}
use Rattle.limits.specs.Limits.{five_percent, lower_limit_found, upper_limit_found}
use Rattle.judging.specs.declared.Answer.{Answer}
use Rattle.judging.specs.Answers.{judged}
use Rattle.trades.specs.declared.TradeReferences.{TradeReferences}
use Rattle.trades.specs.Trades.{trade_references_of, trade_judged}

-- the ladder of the lines of the paper
abbrev pub prices : Prices
prices = ladder phase1

-- ---- a question as bytes, written out from the paper alone and not by the definitions that read it

-- a number in n bytes, "little-endian": its lowest byte first
unfoldable pub little_endian : ℕ → ℕ → List ℕ
little_endian zero x = []
little_endian (suc n) x = x % 256 ∷ little_endian n (x / 256)

-- numbers of 4 bytes each
unfoldable pub mils : List ℕ → List ℕ
mils [] = []
mils (x ∷ rest) = little_endian 4 x ++ mils rest

-- "Byte 0 is the side (1 buy, 2 sell)"
abbrev pub buy : ℕ
buy = 1

abbrev pub sell : ℕ
sell = 2

-- "byte 1 the order type (1 limit, 2 enhanced limit, ..)"
abbrev pub limit : ℕ
limit = 1

abbrev pub enhanced : ℕ
enhanced = 2

-- "byte 2 the queue code (.. 2 both queues; 3 buy only; 4 sell only; ..)"
abbrev pub both_queues : ℕ
both_queues = 2

abbrev pub buy_only : ℕ
buy_only = 3

abbrev pub sell_only : ℕ
sell_only = 4

-- "0 means missing"
abbrev pub missing : ℕ
missing = 0

-- "byte 3 is zero. Then nine 4-byte little-endian mils": in the paper's order, of which the lines name bid, ask, close and nominal. Last,
-- "bytes 40 to 43 hold the security code, little-endian"
abbrev pub question_for : ℕ → ℕ → ℕ → ℕ → ℕ → ℕ → ℕ → ℕ → ℕ → List ℕ
question_for security close side type queue bid ask nominal price =
    side ∷ type ∷ queue ∷ 0 ∷
    mils (
    price ∷  -- order price
    bid ∷  -- current bid
    ask ∷  -- current ask
    missing ∷  -- last bid
    missing ∷  -- last ask
    close ∷  -- previous close
    missing ∷  -- day low
    missing ∷  -- day high
    nominal ∷  -- nominal price
    []) ++
    little_endian 4 security

-- "Document 01's example questions carry code 1."
abbrev pub question_after : ℕ → ℕ → ℕ → ℕ → ℕ → ℕ → ℕ → ℕ → List ℕ
question_after = question_for 1

abbrev pub question : ℕ → ℕ → ℕ → ℕ → ℕ → ℕ → ℕ → List ℕ
question = question_after missing

-- ---- a line

-- a price tried, and the number that it gets
pub record At : Type 0 where
  pub price : ℕ
  pub number : ℕ

abbrev pub at : ℕ → ℕ → At
at price number = record { price = price; number = number }

-- an order, as a question at each order price, with the range that is shown and the prices tried; a question byte for byte, with its number
-- and the range that is shown; a lower limit; an upper limit; a trade, with its range and the prices tried; and so many spreads up and down from
-- a price
pub data Line : Type 0 where
  order : (ℕ → List ℕ) → ℕ → ℕ → List At → Line
  bytes : List ℕ → ℕ → ℕ → ℕ → Line
  low : ℕ → ℕ → Line
  high : ℕ → ℕ → Line
  trade : TradeReferences → ℕ → ℕ → List At → Line
  up : ℕ → ℕ → ℕ → Line
  down : ℕ → ℕ → ℕ → Line

-- an answer is these three numbers
abbrev pub is : Answer → ℕ → ℕ → ℕ → Bool
is a number lowest highest = eqb a.number number && eqb a.lowest lowest && eqb a.highest highest

abbrev pub finds : Option ℕ → ℕ → Bool
finds (Some p) q = eqb p q
finds None q = false

-- every one of a list passes a test
unfoldable pub every : {A : Type 0} → (A → Bool) → List A → Bool
every test [] = true
every test (x ∷ rest) = test x && every test rest

-- on the ladder l
unfoldable pub right_on : Prices → Line → Bool
right_on l (order ask lowest highest tried) = every (λ a. is (judged l five_percent (ask a.price)) a.number lowest highest) tried
right_on l (bytes s number lowest highest) = is (judged l five_percent s) number lowest highest
right_on l (low r q) = finds (lower_limit_found l five_percent r) q
right_on l (high r q) = finds (upper_limit_found l five_percent r) q
right_on l (trade r lowest highest tried) = every (λ a. is (trade_judged l five_percent a.price r) a.number lowest highest) tried
right_on l (up p n q) = finds (spreads_up l p n) q
right_on l (down p n q) = finds (spreads_down l p n) q

-- on that of Phase 1
abbrev pub right : Line → Bool
right line = right_on prices line

-- ---- the lines

-- Each order is tried at its lowest and its highest, and at the next ladder prices outside.
unfoldable pub lines : List Line
lines =
    -- A: bid 19.89, ask 19.90, limit buy: 18.90 to 19.90
    order (question buy limit both_queues 19890 19900 missing) 18900 19900 (at 18890 8 ∷ at 18900 0 ∷ at 19900 0 ∷ at 19910 9 ∷ []) ∷
    -- A at 18.89 byte for byte, the second question of the paper's example for pricecheck
    bytes (
    1 ∷ 1 ∷ 2 ∷ 0 ∷  -- buy, limit, both queues, zero
    202 ∷ 73 ∷ 0 ∷ 0 ∷  -- order price 18890, 202 + 73 * 256
    178 ∷ 77 ∷ 0 ∷ 0 ∷  -- current bid 19890, 178 + 77 * 256
    188 ∷ 77 ∷ 0 ∷ 0 ∷  -- current ask 19900, 188 + 77 * 256
    0 ∷ 0 ∷ 0 ∷ 0 ∷  -- last bid
    0 ∷ 0 ∷ 0 ∷ 0 ∷  -- last ask
    0 ∷ 0 ∷ 0 ∷ 0 ∷  -- previous close
    0 ∷ 0 ∷ 0 ∷ 0 ∷  -- day low
    0 ∷ 0 ∷ 0 ∷ 0 ∷  -- day high
    0 ∷ 0 ∷ 0 ∷ 0 ∷  -- nominal price
    1 ∷ 0 ∷ 0 ∷ 0 ∷  -- security code 1
    [])
    8 18900 19900 ∷
    -- B: bid 0.495, ask 0.50, limit sell: 0.495 to 0.74
    order (question sell limit both_queues 495 500 missing) 495 740 (at 490 8 ∷ at 495 0 ∷ at 740 0 ∷ at 750 9 ∷ []) ∷
    -- C: as B, enhanced buy: 0.375 to 0.59
    order (question buy enhanced both_queues 495 500 missing) 375 590 (at 370 8 ∷ at 375 0 ∷ at 590 0 ∷ at 600 9 ∷ []) ∷
    -- D: as B, enhanced sell: 0.45 to 0.74
    order (question sell enhanced both_queues 495 500 missing) 450 740 (at 445 8 ∷ at 450 0 ∷ at 740 0 ∷ at 750 9 ∷ []) ∷
    -- E: Low(0.51) is 0.385
    low 510 385 ∷
    -- F: High(0.245) is 0.345
    high 245 345 ∷
    -- G: Low(0.034), Low(0.035) are 0.010, 0.011
    low 34 10 ∷ low 35 11 ∷
    -- H: Low(9,995), High(9,880) are 9,500, 9,995
    low 9995000 9500000 ∷ high 9880000 9995000 ∷
    -- I: Low(50), High(50) are 47.50, 52.50
    low 50000 47500 ∷ high 50000 52500 ∷
    -- J: Low(20.20) is 19.19
    low 20200 19190 ∷
    -- K: buy only, bid 1.00, nominal 1.00, limit buy: 0.76 to 8.99; at 9.00 answer 10
    order (question buy limit buy_only 1000 missing 1000) 760 8990 (at 750 8 ∷ at 760 0 ∷ at 8990 0 ∷ at 9000 10 ∷ []) ∷
    -- L: sell only, ask 1.00, nominal 1.00, limit sell: 0.112 to 1.24; at 0.111 answer 10
    order (question sell limit sell_only missing 1000 1000) 112 1240 (at 111 10 ∷ at 112 0 ∷ at 1240 0 ∷ at 1250 9 ∷ []) ∷
    -- M: trade: close 10, bids 9.60 to 10.30, asks 9.80 to 10.60: 9.50 to 10.60; 9.503 is accepted and 9.499 gets 8
    trade (trade_references_of 10000 9600 9800 10300 10600) 9500 10600 (at 9499 8 ∷ at 9500 0 ∷ at 9503 0 ∷ at 10600 0 ∷ at 10610 9 ∷ []) ∷
    []

-- The claim, proved as worked in proofs/Claim.antt: every line is right.
abbrev pub Worked : Type 0
Worked = every right lines ≡ true
