-- Questions that are prepared once and judged at several prices, document 02, e: lines A, K, L and P of the paper, and ranges of a stranger. Each
-- is right or wrong by the definitions that the calls for C equal, as in Worked.
use Rattle.std.specs.Prelude.{◌≡◌, ℕ, Bool, true, ◌&&◌, List, [], ◌∷◌, eqb}
use Rattle.limits.specs.Limits.{five_percent}
use Rattle.preparing.specs.declared.PreparedNumbers.{PreparedNumbers}
use Rattle.preparing.specs.Prepared.{prepared}
use Rattle.preparing.specs.Numbers.{prepared_numbers, range_from}
use Rattle.judging.specs.Answers.{answer_on}
use Rattle.claims.specs.Worked.{prices, buy, sell, limit, both_queues, buy_only, sell_only, missing, question, At, at, is, every}

-- the numbers of a range
pub record Numbers : Type 0 where
  pub lowest : ℕ
  pub highest : ℕ
  pub nine_fold : ℕ

abbrev pub numbers : ℕ → ℕ → ℕ → Numbers
numbers lowest highest nine_fold = record { lowest = lowest; highest = highest; nine_fold = nine_fold }

-- what the first part gives of a question with no order price; and what the second part answers to such numbers: the range that is shown, and
-- the prices tried
pub data Slide : Type 0 where
  first_part : (ℕ → List ℕ) → Numbers → Slide
  second_part : Numbers → ℕ → ℕ → List At → Slide

abbrev pub gives : PreparedNumbers → Numbers → Bool
gives p n = eqb p.number 0 && eqb p.lowest n.lowest && eqb p.highest n.highest && eqb p.nine_fold n.nine_fold

unfoldable pub right_slide : Slide → Bool
right_slide (first_part ask n) = gives (prepared_numbers (prepared prices five_percent (ask missing))) n
right_slide (second_part n lowest highest tried) =
    every (λ a. is (answer_on prices (range_from n.lowest n.highest n.nine_fold) a.price) a.number lowest highest) tried

unfoldable pub slides : List Slide
slides =
    -- A: bid 19.89, ask 19.90, limit buy
    first_part (question buy limit both_queues 19890 19900 missing) (numbers 18900 19900 0) ∷
    second_part (numbers 18900 19900 0) 18900 19900 (at 18890 8 ∷ at 18900 0 ∷ at 19900 0 ∷ at 19910 9 ∷ []) ∷
    -- K: buy only, bid 1.00, nominal 1.00, limit buy: the rules permit up to the top, and the nine-fold rule cuts at 9.00
    first_part (question buy limit buy_only 1000 missing 1000) (numbers 760 9995000 1000) ∷
    second_part (numbers 760 9995000 1000) 760 8990 (at 750 8 ∷ at 760 0 ∷ at 8990 0 ∷ at 9000 10 ∷ at 9995005 6 ∷ []) ∷
    -- L: sell only, ask 1.00, nominal 1.00, limit sell
    first_part (question sell limit sell_only missing 1000 1000) (numbers 10 1240 1000) ∷
    second_part (numbers 10 1240 1000) 112 1240 (at 111 10 ∷ at 112 0 ∷ at 1240 0 ∷ at 1250 9 ∷ []) ∷
    -- P: bid 5.00, ask 5.01, nominal 500, limit buy: nothing passes
    first_part (question buy limit both_queues 5000 5010 500000) (numbers 4750 5010 500000) ∷
    second_part (numbers 4750 5010 500000) 0 0 (at 5000 10 ∷ at 60000 9 ∷ []) ∷
    -- a stranger's: both bounds between ladder prices; the lowest above the highest; beyond the ends, with a reference between ladder prices, of
    -- which a ninth is 1.111 and nine times 90.009
    second_part (numbers 251 506 0) 255 500 (at 250 8 ∷ at 255 0 ∷ at 500 0 ∷ at 505 7 ∷ at 510 9 ∷ []) ∷
    second_part (numbers 20000 19000 0) 0 0 (at 19500 8 ∷ at 20000 9 ∷ at 19505 7 ∷ []) ∷
    second_part (numbers 0 4294967295 10001) 1120 90000 (at 9 6 ∷ at 1110 10 ∷ at 1120 0 ∷ at 90000 0 ∷ at 90050 10 ∷ []) ∷
    []

-- The claim, proved as sliders in proofs/Claim.antt: every one is right.
abbrev pub Sliders : Type 0
Sliders = every right_slide slides ≡ true
