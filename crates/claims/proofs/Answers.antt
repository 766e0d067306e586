-- The answers to orders and trades by places: the definitions of ranges, judging and trades once more, with limits and spreads as in Limits.
-- Over any well-formed table and any percentage.
use Rattle.std.specs.Prelude.{Option, Some, None, Ok, Err}
use mathlib.Core.Path.{◌≡◌, refl, ap}
use Prim.Native.Nat.{ℕ, zero, suc, ◌-◌}
use mathlib.Core.Bool.{cond}
use lib.Dec.{T, eqb}
use lib.ListN.{length}
use Rattle.tables.specs.Bands.{Table, well_formed}
use Rattle.ladder.specs.Ladder.{Prices, ladder}
use Rattle.limits.specs.declared.Percentage.{Percentage}
use Rattle.limits.specs.Limits.{lower_limit_found, upper_limit_found}
use Rattle.questions.specs.declared.Reference.{Reference}
use Rattle.questions.specs.declared.Reference.TheVariants.{Missing, Price}
use Rattle.questions.specs.declared.References.{References}
use Rattle.questions.specs.declared.Question.{Question}
use Rattle.rules.specs.declared.Chosen.{Chosen}
use Rattle.rules.specs.declared.Queues.{Queues}
use Rattle.rules.specs.declared.Rule.{Rule}
use Rattle.rules.specs.declared.Rule.TheVariants.{BuyLimit, BuyEnhanced, BuySpecial, SellLimit, SellEnhanced, SellSpecial}
use Rattle.questions.specs.Missing.{as_reference, least, greatest, price_or}
use Rattle.little_endian.specs.Numbers.{Bytes}
use Rattle.questions.specs.Record.{question_bytes, codes_of, references_of, security_code_of, decoded}
use Rattle.questions.specs.Checks.{bad_security_code, any_off}
use Rattle.rules.specs.Checks.{disagree, unopposed}
use Rattle.rules.specs.Rules.{chosen, ask_of, bid_of}
use Rattle.ranges.specs.declared.Range.{Range}
use Rattle.ranges.specs.declared.Refusal.TheVariants.{UnknownCode, BadSecurityCode, OffLadder, Disagreement}
use Rattle.ranges.specs.Bounds.{from_reference, enhanced_spreads, enhanced_above, enhanced_below, bottom, top}
use Rattle.ranges.specs.Permitted.{buy_reference, sell_reference, lowest_of, highest_of, nine_fold_reference, range_of}
use Rattle.ranges.specs.Readings.{Reading, in_order, reading_by, reading_on, reading_of}
use Rattle.judging.specs.declared.Answer.{Answer}
use Rattle.judging.specs.declared.Shown.{Shown}
use Rattle.judging.specs.Shown.{shown_of}
use Rattle.judging.specs.Verdicts.{verdict_of}
use Rattle.preparing.specs.declared.Unprepared.TheVariants.{WrongLength}
use Rattle.preparing.specs.Prepared.{Prepared, prepared_reading, prepared}
use Rattle.preparing.specs.Numbers.{wrong_length}
use Rattle.judging.specs.Numbers.{verdict_number}
use Rattle.judging.specs.Answers.{none_shown, refused_answer, answer_with, answer_by, answer_decoded, judged}
use Rattle.trades.specs.declared.TradeReferences.{TradeReferences}
use Rattle.trades.specs.Trades.{any_trade_off, trade_disagrees, trade_reading, trade_by, trade_judged}
use Rattle.claims.proofs.Limits.{up_after, down_after, low_by, high_by, up_by, down_by, low_by_lem, high_by_lem}

-- ---- numbers worked out first

-- A number is told apart from 0, and so worked out, before it is used. The prover works out a call with the same numbers only once: the
-- range that is shown is then looked for once a line, and not once for each price that the line tries.
abbrev settled : {A : Type 0} → ℕ → (ℕ → A) → A
settled zero go_on = go_on zero
settled (suc n) go_on = go_on (suc n)

abbrev settled_reference : {A : Type 0} → Reference → (Reference → A) → A
settled_reference Missing go_on = go_on Missing
settled_reference (Price p) go_on = settled p (λ n. go_on (Price n))

is_settled : {A : Type 0} (n : ℕ) (go_on : ℕ → A) → settled n go_on ≡ go_on n
is_settled zero go_on = refl
is_settled (suc n) go_on = refl

is_settled_reference : {A : Type 0} (r : Reference) (go_on : Reference → A) → settled_reference r go_on ≡ go_on r
is_settled_reference Missing go_on = refl
is_settled_reference (Price p) go_on = is_settled p (λ n. go_on (Price n))

-- ---- the definitions

abbrev low_limit : Prices → Percentage → Reference → Reference
low_limit l percent r = from_reference (low_by l percent) r

abbrev high_limit : Prices → Percentage → Reference → Reference
high_limit l percent r = from_reference (high_by l percent) r

abbrev spreads_above : Prices → Reference → Reference
spreads_above l r = from_reference (up_after l (enhanced_spreads - 1)) r

abbrev spreads_below : Prices → Reference → Reference
spreads_below l r = from_reference (down_after l (enhanced_spreads - 1)) r

-- the permitted lowest and highest
unfoldable pub lowest_by : Prices → Percentage → Rule → Queues → References → ℕ
lowest_by l percent BuyLimit q r = price_or (bottom l) (low_limit l percent (buy_reference q r.previous_close r.day_low))
lowest_by l percent BuyEnhanced q r = price_or (bottom l) (low_limit l percent (buy_reference q r.previous_close r.day_low))
lowest_by l percent BuySpecial q r = price_or (bottom l) (ask_of q)
lowest_by l percent SellLimit q r = price_or (bottom l) (bid_of q)
lowest_by l percent SellEnhanced q r = price_or (bottom l) (spreads_below l (bid_of q))
lowest_by l percent SellSpecial q r = bottom l

unfoldable pub highest_by : Prices → Percentage → Rule → Queues → References → ℕ
highest_by l percent BuyLimit q r = price_or (top l) (ask_of q)
highest_by l percent BuyEnhanced q r = price_or (top l) (spreads_above l (ask_of q))
highest_by l percent BuySpecial q r = top l
highest_by l percent SellLimit q r = price_or (top l) (high_limit l percent (sell_reference q r.previous_close r.day_high))
highest_by l percent SellEnhanced q r = price_or (top l) (high_limit l percent (sell_reference q r.previous_close r.day_high))
highest_by l percent SellSpecial q r = price_or (top l) (bid_of q)

-- a range of this lowest, highest and reference of the nine-fold rule
abbrev range : ℕ → ℕ → Reference → Range
range lowest highest nine = record { lowest = lowest; highest = highest; nine_fold = nine }

-- the reading of codes and references
abbrev reading : Prices → Percentage → Option Chosen → ℕ → References → Reading
reading l percent None code r = Err UnknownCode
reading l percent (Some c) code r =
    cond (bad_security_code code) (Err BadSecurityCode)
    (in_order (any_off l r) (disagree c.queues r) (unopposed c.rule c.queues)
    (Ok
    (range (lowest_by l percent c.rule c.queues r) (highest_by l percent c.rule c.queues r)
    (nine_fold_reference c.queues r.previous_close r.nominal))))

-- the answer by a reading: its range worked out, then the number and what is shown
unfoldable pub shown_by : Prices → ℕ → ℕ → Reference → Shown
shown_by l lowest highest nine = shown_of l (range lowest highest nine)

abbrev answer_at : Prices → ℕ → ℕ → ℕ → Reference → Answer
answer_at l p lowest highest nine = answer_with (verdict_number (verdict_of l (range lowest highest nine) p)) (shown_by l lowest highest nine)

abbrev answer_for : Prices → Reading → ℕ → Answer
answer_for l (Ok x) p =
    settled x.lowest (λ a. settled x.highest (λ b. settled_reference x.nine_fold (λ nine. answer_at l p a b nine)))
answer_for l (Err refusal) p = refused_answer refusal

-- what the first part gives of a question
unfoldable pub prepared_by : Prices → Percentage → Bytes → Prepared
prepared_by l percent s =
    cond (eqb (length s) question_bytes)
    (prepared_reading (reading l percent (chosen (codes_of s) (references_of s)) (security_code_of s) (references_of s)))
    (Err WrongLength)

-- the answers to a question and to a trade
abbrev answer : Prices → Percentage → Option Question → Answer
answer l percent (Some q) = answer_for l (reading l percent (chosen q.codes q.references) q.codes.security_code q.references) q.price
answer l percent None = none_shown wrong_length

unfoldable pub judged_by : Prices → Percentage → Bytes → Answer
judged_by l percent s = answer l percent (decoded s)

unfoldable pub trade_judged_by : Prices → Percentage → ℕ → TradeReferences → Answer
trade_judged_by l percent p r =
    trade_by l
    (cond (any_trade_off l r) (Err OffLadder)
    (cond (trade_disagrees r) (Err Disagreement)
    (Ok
    (range
    (price_or (bottom l) (least (low_limit l percent r.previous_close) (least r.lowest_bid r.lowest_ask)))
    (price_or (top l) (greatest (high_limit l percent r.previous_close) (greatest r.highest_bid r.highest_ask)))
    Missing))))
    p

-- ---- they are the same

same_for : (l : Prices) (x : Reading) (p : ℕ) → answer_by l x p ≡ answer_for l x p
unfolding shown_by
same_for l (Ok x) p = rw (is_settled, is_settled, is_settled_reference)
same_for l (Err refusal) p = refl

module _ (t : Table) (formed : T (well_formed t)) (percent : Percentage) where
  -- what is found from a reference is the same, where it is from each price
  same_from : (f g : ℕ → Option ℕ) → ((p : ℕ) → f p ≡ g p) → (r : Reference) → from_reference f r ≡ from_reference g r
  same_from f g same Missing = refl
  same_from f g same (Price p) = ap as_reference (same p)

  same_low : (r : Reference) → from_reference (lower_limit_found (ladder t) percent) r ≡ low_limit (ladder t) percent r
  same_low = same_from _ _ (low_by_lem t formed percent)

  same_high : (r : Reference) → from_reference (upper_limit_found (ladder t) percent) r ≡ high_limit (ladder t) percent r
  same_high = same_from _ _ (high_by_lem t formed percent)

  same_above : (r : Reference) → enhanced_above (ladder t) r ≡ spreads_above (ladder t) r
  same_above = same_from _ _ (λ p. up_by t formed p (enhanced_spreads - 1))

  same_below : (r : Reference) → enhanced_below (ladder t) r ≡ spreads_below (ladder t) r
  same_below = same_from _ _ (λ p. down_by t formed p (enhanced_spreads - 1))

  same_lowest : (rule : Rule) (q : Queues) (r : References) → lowest_of (ladder t) percent rule q r ≡ lowest_by (ladder t) percent rule q r
  unfolding lowest_of lowest_by
  same_lowest BuyLimit q r = ap (price_or (bottom (ladder t))) (same_low (buy_reference q r.previous_close r.day_low))
  same_lowest BuyEnhanced q r = ap (price_or (bottom (ladder t))) (same_low (buy_reference q r.previous_close r.day_low))
  same_lowest BuySpecial q r = refl
  same_lowest SellLimit q r = refl
  same_lowest SellEnhanced q r = ap (price_or (bottom (ladder t))) (same_below (bid_of q))
  same_lowest SellSpecial q r = refl

  same_highest : (rule : Rule) (q : Queues) (r : References) → highest_of (ladder t) percent rule q r ≡ highest_by (ladder t) percent rule q r
  unfolding highest_of highest_by
  same_highest BuyLimit q r = refl
  same_highest BuyEnhanced q r = ap (price_or (top (ladder t))) (same_above (ask_of q))
  same_highest BuySpecial q r = refl
  same_highest SellLimit q r = ap (price_or (top (ladder t))) (same_high (sell_reference q r.previous_close r.day_high))
  same_highest SellEnhanced q r = ap (price_or (top (ladder t))) (same_high (sell_reference q r.previous_close r.day_high))
  same_highest SellSpecial q r = refl

  same_reading : (choice : Option Chosen) (code : ℕ) (r : References) →
      reading_on (ladder t) percent choice code r ≡ reading (ladder t) percent choice code r
  unfolding reading_by range_of
  same_reading None code r = refl
  same_reading (Some c) code r = rw (same_lowest c.rule c.queues r, same_highest c.rule c.queues r)

  same_answer : (d : Option Question) → answer_decoded (ladder t) percent d ≡ answer (ladder t) percent d
  unfolding reading_of
  same_answer (Some q) =
      let choice = chosen q.codes q.references in
      let code = q.codes.security_code in
      rw (same_reading choice code q.references) (same_for (ladder t) (reading (ladder t) percent choice code q.references) q.price)
  same_answer None = refl

  pub same_prepared : (s : Bytes) → prepared (ladder t) percent s ≡ prepared_by (ladder t) percent s
  unfolding prepared prepared_by reading_of codes_of
  same_prepared s = rw (same_reading (chosen (codes_of s) (references_of s)) (security_code_of s) (references_of s)) refl

  pub same_judged : (s : Bytes) → judged (ladder t) percent s ≡ judged_by (ladder t) percent s
  unfolding judged judged_by
  same_judged s = same_answer (decoded s)

  pub same_trade : (p : ℕ) (r : TradeReferences) → trade_judged (ladder t) percent p r ≡ trade_judged_by (ladder t) percent p r
  unfolding trade_judged trade_reading trade_judged_by
  same_trade p r = rw (same_low r.previous_close, same_high r.previous_close)
