-- Spreads and limits by places: n + 1 spreads are one spread and one look at a place of the ladder, and not n + 1 walks through it. Over any
-- well-formed table.
use Rattle.std.specs.Prelude.{Option, Some, None}
use mathlib.Core.Path.{◌≡◌, refl, ap, sym, ◌∙◌}
use Prim.Native.Nat.{ℕ, suc, ◌+◌, ◌-◌, min, max}
use mathlib.Core.Bool.{Bool, true, false, cond}
use lib.Dec.{T}
use lib.ListN.{length}
use Rattle.tables.specs.Bands.{Table, well_formed}
use Rattle.ladder.specs.Ladder.{Prices, ladder, is_ladder_price}
use Rattle.ladder.specs.Places.{price_at, place_of, is_outside}
use Rattle.ladder.specs.Spreads.{spread_up, spread_down, times, if_within, spreads_up, spreads_down}
use Rattle.ladder.proofs.Laws.{ladder_laws}
use Rattle.limits.specs.declared.Percentage.{Percentage}
use Rattle.limits.specs.Limits.{limit_spreads, percent_lower, percent_upper, lower_limit_found, upper_limit_found}

-- n spreads from a place
abbrev up_from : Prices → ℕ → Option ℕ → Option ℕ
up_from l n (Some k) = price_at (min (k + n) (length l - 1)) l
up_from l n None = None

abbrev down_from : Prices → ℕ → Option ℕ → Option ℕ
down_from l n (Some k) = price_at (k - n) l
down_from l n None = None

-- n + 1 spreads from a price: after the first it has a place
abbrev pub up_after : Prices → ℕ → ℕ → Option ℕ
up_after l n p = cond (is_outside p l) None (up_from l n (place_of (spread_up l p) l))

abbrev pub down_after : Prices → ℕ → ℕ → Option ℕ
down_after l n p = cond (is_outside p l) None (down_from l n (place_of (spread_down l p) l))

-- the spreads of a limit after its first
abbrev limit_more : ℕ
limit_more = limit_spreads - 1

-- what is found, made into another price
abbrev pub with_found : (ℕ → ℕ) → Option ℕ → Option ℕ
with_found g (Some q) = Some (g q)
with_found g None = None

-- the limits: from the price where the spreads end, and the percentage limit
abbrev pub low_by : Prices → Percentage → ℕ → Option ℕ
low_by l percent r = with_found (λ far. min far (percent_lower l percent r)) (down_after l limit_more r)

abbrev pub high_by : Prices → Percentage → ℕ → Option ℕ
high_by l percent r = with_found (λ far. max far (percent_upper l percent r)) (up_after l limit_more r)

-- an answer made into another price is the answer of that price
made : (p : ℕ) (l : Prices) (g : ℕ → ℕ) (answer : ℕ) → if_within p l (g answer) ≡ with_found g (if_within p l answer)
made p l g answer = go (is_outside p l)
  where
    go : (v : Bool) → cond v None (Some (g answer)) ≡ with_found g (cond v None (Some answer))
    go true = refl
    go false = refl

-- a step from p leads to a ladder price, and n more from there go by its place
module _ (t : Table) (formed : T (well_formed t)) (step : ℕ → ℕ) (from : Option ℕ → Option ℕ) (n : ℕ)
    (by : (k q : ℕ) → place_of q (ladder t) ≡ Some k → if_within q (ladder t) (times n step q) ≡ from (Some k)) (p : ℕ)
    (lands : is_outside p (ladder t) ≡ false → T (is_ladder_price (step p) t)) where
  after : if_within p (ladder t) (times n step (step p)) ≡ cond (is_outside p (ladder t)) None (from (place_of (step p) (ladder t)))
  after = go (is_outside p (ladder t)) refl
    where
      go : (v : Bool) → is_outside p (ladder t) ≡ v → cond v None (Some (times n step (step p))) ≡ cond v None (from (place_of (step p) (ladder t)))
      go true e = refl
      go false e =
          let place = (ladder_laws.places_are_inverse t formed).price_has_place (step p) (lands e) in
          let inside = (ladder_laws.ends_are_the_tables t formed).none_outside (step p) (lands e) in
          rw place.1
          (sym ((ladder_laws.only_within_the_ends (step p) (ladder t) (times n step (step p))).within inside) ∙ by place.0 (step p) place.1)

module _ (t : Table) (formed : T (well_formed t)) where
  pub up_by : (p n : ℕ) → spreads_up (ladder t) p (suc n) ≡ up_after (ladder t) n p
  unfolding times
  up_by p n =
      after t formed (spread_up (ladder t)) (up_from (ladder t) n) n (λ k q e. (ladder_laws.going_by_places t formed k q n e).up) p
      (ladder_laws.spreads_stay t formed 0 p).up_lands

  pub down_by : (p n : ℕ) → spreads_down (ladder t) p (suc n) ≡ down_after (ladder t) n p
  unfolding times
  down_by p n =
      after t formed (spread_down (ladder t)) (down_from (ladder t) n) n (λ k q e. (ladder_laws.going_by_places t formed k q n e).down) p
      (ladder_laws.spreads_stay t formed 0 p).down_lands

  pub low_by_lem : (percent : Percentage) (r : ℕ) → lower_limit_found (ladder t) percent r ≡ low_by (ladder t) percent r
  low_by_lem percent r =
      made r (ladder t) (λ far. min far (percent_lower (ladder t) percent r)) (times limit_spreads (spread_down (ladder t)) r) ∙
      ap (with_found (λ far. min far (percent_lower (ladder t) percent r))) (down_by r limit_more)

  pub high_by_lem : (percent : Percentage) (r : ℕ) → upper_limit_found (ladder t) percent r ≡ high_by (ladder t) percent r
  high_by_lem percent r =
      made r (ladder t) (λ far. max far (percent_upper (ladder t) percent r)) (times limit_spreads (spread_up (ladder t)) r) ∙
      ap (with_found (λ far. max far (percent_upper (ladder t) percent r))) (up_by r limit_more)
