-- Closes from the old table, document 02, b: each line right or wrong by the definitions, as in Worked. 20.05 lies between 20.04 and 20.06, and
-- 0.252 between 0.250 and 0.255.
use Rattle.std.specs.Prelude.{◌≡◌, ℕ, true, List, [], ◌∷◌}
use Rattle.trades.specs.Trades.{trade_references_of}
use Rattle.claims.specs.Worked.{buy, limit, buy_only, missing, question, question_after, at, Line, order, low, high, trade, up, down, every, right}

-- "the queue code (1 opening ..)"
abbrev pub opening : ℕ
opening = 1

unfoldable pub old_lines : List Line
old_lines =
    -- "Close 20.05 gives a lower limit of 19.05 and an upper limit of 21.04"; so it does as the close of a trade
    low 20050 19050 ∷ high 20050 21040 ∷
    trade (trade_references_of 20050 missing missing missing missing) 19050 21040 (at 19049 8 ∷ at 19050 0 ∷ at 21040 0 ∷ at 21041 9 ∷ []) ∷
    -- the first spread goes to the nearest ladder price that way and is one of the n: below 0.252 are 0.250 and 23 spreads of 0.001
    down 20050 1 20040 ∷ up 20050 1 20060 ∷ down 20050 2 20020 ∷ up 20050 2 20080 ∷ down 252 24 227 ∷ low 252 227 ∷
    -- none leads nowhere; both ends are within
    up 20050 0 20050 ∷ down 20050 0 20050 ∷ up 9995000 1 9995000 ∷ down 10 1 10 ∷
    -- opening, limit buy: from 19.05 up to below nine times the close, 180.45
    order (question_after 20050 buy limit opening missing missing missing) 19050 180400 (at 19040 8 ∷ at 19050 0 ∷ at 180400 0 ∷ at 180500 10 ∷ []) ∷
    -- buy only, bid 20.04, nominal 20.05, limit buy: from 19.04 up to below nine times the nominal
    order (question buy limit buy_only 20040 missing 20050) 19040 180400 (at 19030 8 ∷ at 19040 0 ∷ at 180400 0 ∷ at 180500 10 ∷ []) ∷
    -- 3 for a bid of 20.05, and for a close or a nominal of 9,995.001 and of 0.009; for such a close of a trade too
    order (question buy limit buy_only 20050 missing missing) 0 0 (at 19050 3 ∷ []) ∷
    order (question_after 9995001 buy limit opening missing missing missing) 0 0 (at 9995000 3 ∷ []) ∷
    order (question_after 9 buy limit opening missing missing missing) 0 0 (at 10 3 ∷ []) ∷
    order (question_after 20050 buy limit opening missing missing 9995001) 0 0 (at 19050 3 ∷ []) ∷
    order (question_after 20050 buy limit opening missing missing 9) 0 0 (at 19050 3 ∷ []) ∷
    trade (trade_references_of 9995001 missing missing missing missing) 0 0 (at 9995000 3 ∷ []) ∷
    trade (trade_references_of 9 missing missing missing missing) 0 0 (at 10 3 ∷ []) ∷
    trade (trade_references_of missing 20050 missing 20050 missing) 0 0 (at 20050 3 ∷ []) ∷
    []

-- The claim, proved as old_closes in proofs/Claim.antt: every line is right.
abbrev pub OldCloses : Type 0
OldCloses = every right old_lines ≡ true
