-- Single spreads from one ladder price towards another: how many lead there, and what becomes of so many down after so many up.
use mathlib.Core.Path.{◌≡◌, refl}
use Prim.Native.Nat.{ℕ, zero, suc, ◌≤◌, ◌<◌}
use native.Mathlib.Nat.{le_trans}
use native.Mathlib.Decide.{dec_le}
use native.Mathlib.Omega.{arith}
use mathlib.Core.Bool.{false}
use lib.Dec.{T, ltb→lt, lt→ltb}
use Rattle.tables.specs.Bands.{Table, well_formed}
use Rattle.ladder.specs.Ladder.{Prices, ladder, is_ladder_price}
use Rattle.ladder.specs.Places.{first_price, is_outside}
use Rattle.ladder.specs.Spreads.{spread_up, spread_down, times}
use Rattle.ladder.proofs.Laws.{ladder_laws}
use Rattle.limits.specs.Moves.{UpAtMost}

-- the last of n + 1 steps
times_last : (step : ℕ → ℕ) (n p : ℕ) → times (suc n) step p ≡ step (times n step p)
unfolding times
times_last step zero p = refl
times_last step (suc n) p = times_last step n (step p)

-- at most n spreads are at most m, where m is no less
pub more : (l : Prices) (n m from to : ℕ) → n ≤ m → UpAtMost l n from to → UpAtMost l m from to
more l n m from to enough moves = record { spreads = moves.spreads; few = omega (arith, moves.few, enough); lead = moves.lead }

module _ (t : Table) (wf : T (well_formed t)) where
  abbrev pub On : ℕ → Type 0
  On p = T (is_ladder_price p t)

  abbrev pub up : ℕ → ℕ
  up = spread_up (ladder t)

  abbrev pub down : ℕ → ℕ
  down = spread_down (ladder t)

  -- where there is a ladder price ahead, a spread leads on, and not past it
  pub up_moves : (p x : ℕ) → On x → p < x → (p < up p) × (up p ≤ x) × On (up p)
  up_moves p x on m =
      let next = (ladder_laws.spread_up_is_next t wf p).moves x on m in
      (ltb→lt p (up p) next.passes, next.extreme x on (lt→ltb p x m), next.on)

  pub down_moves : (p x : ℕ) → On x → x < p → (down p < p) × (x ≤ down p) × On (down p)
  down_moves p x on m =
      let previous = (ladder_laws.spread_down_is_previous t wf p).moves x on m in
      (ltb→lt (down p) p previous.passes, previous.extreme x on (lt→ltb x p m), previous.on)

  -- spreads up never lead down, nor spreads down up; from a ladder price both end on one
  pub up_leads : (n p : ℕ) → p ≤ times n up p
  up_leads n p = (ladder_laws.spreads_stay t wf n p).up_above

  pub up_on : (n p : ℕ) → On p → On (times n up p)
  up_on n p = (ladder_laws.spreads_stay t wf n p).up_on

  pub down_leads : (n p : ℕ) → times n down p ≤ p
  down_leads n p = (ladder_laws.spreads_stay t wf n p).down_below

  pub down_on : (n p : ℕ) → On p → On (times n down p)
  down_on n p = (ladder_laws.spreads_stay t wf n p).down_on

  pub up_order : (n p q : ℕ) → p ≤ q → times n up p ≤ times n up q
  up_order n p q m = (ladder_laws.spreads_keep_order t wf n p q m).up

  pub down_order : (n p q : ℕ) → p ≤ q → times n down p ≤ times n down q
  down_order n p q m = (ladder_laws.spreads_keep_order t wf n p q m).down

  -- the ladder price at or below a price within the ends, from which a spread up leads where it leads from there
  pub record Behind (r : ℕ) : Type 0 where
    pub p : ℕ
    pub on : On p
    pub low : p ≤ r
    pub same_next : up p ≡ up r

  pub behind : (r : ℕ) → is_outside r (ladder t) ≡ false → r < up r → Behind r
  unfolding times
  behind r w rises = record { p = p; on = before.2; low = low; same_next = same_next }
    where
      next_on : On (up r)
      next_on = (ladder_laws.spreads_stay t wf 0 r).up_lands w

      p : ℕ
      p = down (up r)

      before : (p < up r) × (first_price (ladder t) ≤ p) × On p
      before =
          let ends = ladder_laws.ends_are_the_tables t wf in
          down_moves (up r) (first_price (ladder t)) ends.first_on (omega (arith, (ends.within r w).0, rises))

      low : p ≤ r
      low = go (dec_le p r)
        where
          go : Dec (p ≤ r) → p ≤ r
          go (yes m) = m
          go (no m) = absurd (omega (arith, (up_moves r p before.2 (omega arith)).1, before.0))

      same_next : up p ≡ up r
      same_next = go (dec_le (up r) (up p))
        where
          ahead : (p < up p) × (up p ≤ up r) × On (up p)
          ahead = up_moves p (up r) next_on before.0

          go : Dec (up r ≤ up p) → up p ≡ up r
          go (yes m) = omega (arith, ahead.1)
          go (no m) = absurd (omega (arith, (down_moves (up r) (up p) ahead.2 (omega arith)).1, ahead.0))

  -- from a ladder price to one not below it, and not above n spreads on, lead at most n spreads
  pub up_at_most : (n from to : ℕ) → On from → On to → from ≤ to → to ≤ times n up from → UpAtMost (ladder t) n from to
  unfolding times
  up_at_most zero from to on there low high = record { spreads = 0; few = omega arith; lead = omega arith }
  up_at_most (suc n) from to on there low high = go (dec_le to from) (up_at_most n (up from) to)
    where
      go : Dec (to ≤ from) → (On (up from) → On to → up from ≤ to → to ≤ times n up (up from) → UpAtMost (ladder t) n (up from) to) →
          UpAtMost (ladder t) (suc n) from to
      go (yes here) rest = record { spreads = 0; few = omega arith; lead = omega arith }
      go (no ahead) rest =
          let next = up_moves from to there (omega arith) in
          let r = rest next.2 there next.1 high in
          record { spreads = suc r.spreads; few = omega (arith, r.few); lead = r.lead }

  -- a spread down after one up leads no higher than before, and one up after one down no lower
  down_after_up : (p : ℕ) → On p → down (up p) ≤ p
  unfolding times
  down_after_up p on = go (dec_le (down (up p)) p)
    where
      go : Dec (down (up p) ≤ p) → down (up p) ≤ p
      go (yes m) = m
      go (no m) =
          let next = up_moves p (down (up p)) (down_on 1 (up p) (up_on 1 p on)) (omega arith) in
          let previous = down_moves (up p) p on next.0 in
          absurd (omega (arith, next.1, previous.0))

  up_after_down : (p : ℕ) → On p → p ≤ up (down p)
  unfolding times
  up_after_down p on = go (dec_le p (up (down p)))
    where
      go : Dec (p ≤ up (down p)) → p ≤ up (down p)
      go (yes m) = m
      go (no m) =
          let previous = down_moves p (up (down p)) (up_on 1 (down p) (down_on 1 p on)) (omega arith) in
          let next = up_moves (down p) p on previous.0 in
          absurd (omega (arith, next.0, previous.1))

  -- so do n spreads down after n up
  pub downs_after_ups : (n p : ℕ) → On p → times n down (times n up p) ≤ p
  unfolding times
  downs_after_ups zero p on = omega arith
  downs_after_ups (suc n) p on =
      rw (times_last up n p)
      (le_trans (down_order n (down (up (times n up p))) (times n up p) (down_after_up (times n up p) (up_on n p on))) (downs_after_ups n p on))

  -- and n spreads down from the next price lead at most one spread over where they lead from the price itself
  pub downs_from_next : (n p : ℕ) → On p → times n down (up p) ≤ up (times n down p)
  unfolding times
  downs_from_next zero p on = omega arith
  downs_from_next (suc n) p on =
      rw (times_last down n p)
      (le_trans (down_order n (down (up p)) p (down_after_up p on)) (up_after_down (times n down p) (down_on n p on)))

  -- n spreads up from the next price lead one spread over where they lead from the price itself
  pub ups_from_next : (n p : ℕ) → times n up (up p) ≡ up (times n up p)
  unfolding times
  ups_from_next n p = times_last up n p
