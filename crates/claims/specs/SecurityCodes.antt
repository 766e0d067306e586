-- Questions with good and bad security codes, document 02, f: each line right or wrong by the definitions, as in Worked.
use Rattle.std.specs.Prelude.{◌≡◌, ℕ, true, List, [], ◌∷◌, take}
use Rattle.claims.specs.Worked.{buy, limit, both_queues, buy_only, missing, question_for, at, Line, order, bytes, every, right}

-- line A: bid 19.89, ask 19.90, limit buy, with a security code
abbrev pub line_a : ℕ → ℕ → List ℕ
line_a code = question_for code missing buy limit both_queues 19890 19900 missing

-- "the order type (.. 3 special limit)"
abbrev pub special : ℕ
special = 3

unfoldable pub coded_lines : List Line
coded_lines =
    -- "1 to 99999": with the first, one between and the last, the answers of line A
    order (line_a 1) 18900 19900 (at 18890 8 ∷ at 18900 0 ∷ at 19900 0 ∷ at 19910 9 ∷ []) ∷
    order (line_a 700) 18900 19900 (at 18890 8 ∷ at 18900 0 ∷ at 19900 0 ∷ at 19910 9 ∷ []) ∷
    order (line_a 99999) 18900 19900 (at 18890 8 ∷ at 18900 0 ∷ at 19900 0 ∷ at 19910 9 ∷ []) ∷
    -- 15 with 0 and 0 outside, whatever the order price: for 0, 100000, a code whose two lowest bytes are those of 1, and the highest number
    order (line_a 0) 0 0 (at 0 15 ∷ at 18900 15 ∷ at 18901 15 ∷ []) ∷
    order (line_a 100000) 0 0 (at 0 15 ∷ at 18900 15 ∷ at 18901 15 ∷ []) ∷
    order (line_a 131073) 0 0 (at 18900 15 ∷ []) ∷
    order (line_a 4294967295) 0 0 (at 18900 15 ∷ []) ∷
    -- "directly after 2": a side that is unknown comes before
    order (question_for 0 missing 3 limit both_queues 19890 19900 missing) 0 0 (at 18900 2 ∷ []) ∷
    -- and before 3, 4 and 5: a bid between two ladder prices, an ask that is missing, a special limit buy with no ask
    order (question_for 0 missing buy limit both_queues 20050 20060 missing) 0 0 (at 20060 15 ∷ []) ∷
    order (question_for 1 missing buy limit both_queues 20050 20060 missing) 0 0 (at 20060 3 ∷ []) ∷
    order (question_for 0 missing buy limit both_queues 19890 missing missing) 0 0 (at 18900 15 ∷ []) ∷
    order (question_for 1 missing buy limit both_queues 19890 missing missing) 0 0 (at 18900 4 ∷ []) ∷
    order (question_for 0 missing buy special buy_only 19890 missing missing) 0 0 (at 18900 15 ∷ []) ∷
    order (question_for 1 missing buy special buy_only 19890 missing missing) 0 0 (at 18900 5 ∷ []) ∷
    -- without its security code it is no question: 1
    bytes (take 40 (line_a 1 18900)) 1 0 0 ∷
    []

-- The claim, proved as security_codes in proofs/Claim.antt: every line is right.
abbrev pub SecurityCodes : Type 0
SecurityCodes = every right coded_lines ≡ true
