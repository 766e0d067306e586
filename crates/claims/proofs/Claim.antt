-- The claims about lines. A line is right by the definitions exactly where it is right by places, whatever line it is; by places the lines are
-- computed.
use mathlib.Core.Path.{◌≡◌, refl, ap, ◌∙◌}
use Prim.Native.Nat.{ℕ, zero, suc}
use mathlib.Core.Bool.{Bool, true, false, not, ◌&&◌}
use mathlib.Core.List.{List, [], ◌∷◌}
use lib.Dec.{T}
use Rattle.tables.specs.Bands.{Table, well_formed}
use Rattle.tables.specs.Named.{before_phase1, phase1, phase2, table_named, unknown_table}
use Rattle.tables.proofs.Laws.{table_laws}
use Rattle.ladder.specs.Ladder.{Prices, rungs, band_prices, ladder}
use Rattle.ladder.specs.Named.{ladder_named}
use Rattle.facts.specs.Lists.{holds}
use Rattle.ladder.specs.Search.{first, latest_after}
use Rattle.ladder.specs.Places.{price_at, place_from, last_after, is_outside}
use Rattle.ladder.specs.Spreads.{spread_up, spread_down, times, spreads_up, spreads_down}
use Rattle.limits.specs.Limits.{five_percent}
use Rattle.questions.specs.Record.{codes_of, references_of}
use Rattle.questions.specs.Checks.{any_off}
use Rattle.rules.specs.Checks.{disagree}
use Rattle.rules.specs.Rules.{chosen}
use Rattle.preparing.specs.Numbers.{prepared_numbers, range_from}
use Rattle.judging.specs.Answers.{answer_on}
use Rattle.judging.specs.Shown.{shown_of}
use Rattle.judging.specs.Verdicts.{verdict_of}
use Rattle.trades.specs.Trades.{trade_references_of, any_trade_off, trade_verdict}
use Rattle.claims.specs.Worked.{prices, missing, little_endian, mils, Line, order, bytes, low, high, trade, up, down, is, finds, every, right_on, right, lines, Worked}
use Rattle.claims.specs.OldCloses.{old_lines, OldCloses}
use Rattle.claims.specs.Slider.{Slide, first_part, second_part, gives, right_slide, slides, Sliders}
use Rattle.claims.specs.SecurityCodes.{coded_lines, SecurityCodes}
use Rattle.claims.specs.TableLines.{OnTable, table_lines, right_named, TableLines}
use Rattle.claims.proofs.Limits.{up_after, down_after, low_by, high_by, up_by, down_by, low_by_lem, high_by_lem}
use Rattle.claims.proofs.Answers.{shown_by, lowest_by, highest_by, prepared_by, judged_by, trade_judged_by, same_prepared, same_judged, same_trade}

-- a line is right by places, on the ladder l
unfoldable right_by : Prices → Line → Bool
right_by l (order ask lowest highest tried) = every (λ a. is (judged_by l five_percent (ask a.price)) a.number lowest highest) tried
right_by l (bytes s number lowest highest) = is (judged_by l five_percent s) number lowest highest
right_by l (low r q) = finds (low_by l five_percent r) q
right_by l (high r q) = finds (high_by l five_percent r) q
right_by l (trade r lowest highest tried) = every (λ a. is (trade_judged_by l five_percent a.price r) a.number lowest highest) tried
right_by l (up p zero q) = finds (spreads_up l p 0) q
right_by l (up p (suc n) q) = finds (up_after l n p) q
right_by l (down p zero q) = finds (spreads_down l p 0) q
right_by l (down p (suc n) q) = finds (down_after l n p) q

-- two tests that are the same at each of a list
same_every : {A : Type 0} (f g : A → Bool) → ((x : A) → f x ≡ g x) → (l : List A) → every f l ≡ every g l
unfolding every
same_every f g same [] = refl
same_every f g same (x ∷ rest) = rw (same x, same_every f g same rest)

same_right : (t : Table) → T (well_formed t) → (line : Line) → right_on (ladder t) line ≡ right_by (ladder t) line
unfolding right_on right_by
same_right t wf (order ask lowest highest tried) = same_every _ _ (λ a. rw (same_judged t wf five_percent (ask a.price))) tried
same_right t wf (bytes s number lowest highest) = rw (same_judged t wf five_percent s)
same_right t wf (low r q) = rw (low_by_lem t wf five_percent r)
same_right t wf (high r q) = rw (high_by_lem t wf five_percent r)
same_right t wf (trade r lowest highest tried) = same_every _ _ (λ a. rw (same_trade t wf five_percent a.price r)) tried
same_right t wf (up p zero q) = refl
same_right t wf (up p (suc n) q) = rw (up_by t wf p n)
same_right t wf (down p zero q) = refl
same_right t wf (down p (suc n) q) = rw (down_by t wf p n)

phase1_formed : T (well_formed phase1)
unfolding table_named
phase1_formed = (table_laws.named_tables 2).well_formed_lem refl

on_phase1 : (line : Line) → right line ≡ right_by prices line
on_phase1 = same_right phase1 phase1_formed

-- the lines by places, computed
by_places : every (right_by prices) lines ≡ true
unfolding
    every lines right_by judged_by trade_judged_by lowest_by highest_by shown_by little_endian mils codes_of references_of chosen any_off disagree
    shown_of verdict_of trade_references_of any_trade_off trade_verdict phase1 ladder band_prices rungs holds first latest_after spread_up spread_down
    price_at place_from last_after is_outside
by_places = refl

pub worked : Worked
worked = same_every right (right_by prices) on_phase1 lines ∙ by_places

old_by_places : every (right_by prices) old_lines ≡ true
unfolding
    every old_lines right_by judged_by trade_judged_by lowest_by highest_by shown_by little_endian mils codes_of references_of chosen any_off disagree
    shown_of verdict_of trade_references_of any_trade_off trade_verdict phase1 ladder band_prices rungs holds first latest_after spread_up spread_down
    times price_at place_from last_after is_outside
old_by_places = refl

pub old_closes : OldCloses
old_closes = same_every right (right_by prices) on_phase1 old_lines ∙ old_by_places

coded_by_places : every (right_by prices) coded_lines ≡ true
unfolding
    every coded_lines right_by judged_by lowest_by highest_by shown_by little_endian mils codes_of references_of chosen any_off disagree
    shown_of verdict_of phase1 ladder band_prices rungs holds first latest_after spread_up spread_down
    price_at place_from last_after is_outside
coded_by_places = refl

pub security_codes : SecurityCodes
security_codes = same_every right (right_by prices) on_phase1 coded_lines ∙ coded_by_places

-- ---- lines on the named tables

named_by : OnTable → Bool
named_by asked = not (unknown_table asked.table) && right_by (ladder_named asked.table) asked.line

same_named : (asked : OnTable) → right_named asked ≡ named_by asked
unfolding named_by
same_named asked = go (unknown_table asked.table) refl
  where
    n : ℕ
    n = asked.table

    go : (v : Bool) → unknown_table n ≡ v → (not v && right_on (ladder_named n) asked.line) ≡ (not v && right_by (ladder_named n) asked.line)
    go true e = refl
    go false e = same_right (table_named n) ((table_laws.named_tables n).well_formed_lem e) asked.line

table_lines_by_places : every named_by table_lines ≡ true
unfolding
    every table_lines named_by right_by table_named before_phase1 phase1 phase2 ladder band_prices rungs holds first latest_after spread_up spread_down
    times price_at place_from last_after is_outside
table_lines_by_places = refl

pub table_lines_right : TableLines
table_lines_right = same_every right_named named_by same_named table_lines ∙ table_lines_by_places

-- ---- questions that are prepared once

slide_by : Slide → Bool
slide_by (first_part ask n) = gives (prepared_numbers (prepared_by prices five_percent (ask missing))) n
slide_by (second_part n lowest highest tried) =
    every (λ a. is (answer_on prices (range_from n.lowest n.highest n.nine_fold) a.price) a.number lowest highest) tried

same_slide : (slide : Slide) → right_slide slide ≡ slide_by slide
unfolding right_slide slide_by
same_slide (first_part ask n) =
    ap (λ p. gives (prepared_numbers p) n) (same_prepared phase1 phase1_formed five_percent (ask missing))
same_slide (second_part n lowest highest tried) = refl

slides_by_places : every slide_by slides ≡ true
unfolding
    every slides slide_by prepared_by lowest_by highest_by little_endian mils codes_of references_of chosen any_off disagree
    shown_of verdict_of phase1 ladder band_prices rungs holds first latest_after spread_up spread_down
    price_at place_from last_after is_outside
slides_by_places = refl

pub sliders : Sliders
sliders = same_every right_slide slide_by same_slide slides ∙ slides_by_places
