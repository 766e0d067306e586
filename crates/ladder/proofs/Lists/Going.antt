-- Going by places: n spreads up or down from a place of a rising list.
use Rattle.std.specs.Prelude.{Option, Some, None}
use Rattle.std.specs.Option.{unwrap_or}
use mathlib.Core.Path.{◌≡◌, refl, ap, sym, ◌∙◌}
use Prim.Native.Nat.{ℕ, zero, suc, ◌+◌, ◌-◌, min, ◌≤◌}
use native.Mathlib.Decide.{dec_le}
use native.Mathlib.Omega.{arith}
use mathlib.Core.List.{List}
use lib.ListN.{length}
use Rattle.ladder.specs.Places.{price_at, first_price, last_price}
use Rattle.ladder.specs.Spreads.{spread_up, spread_down, times}
use Rattle.facts.specs.Lists.{holds, Rising}
use Rattle.ladder.specs.Arithmetic.{PlacesUp}
use lib.Dec.{T}
use Rattle.ladder.proofs.Lists.Entries.{next_at, at_place, held_entry, entry_below, past, first_entry, last_entry}
use Rattle.ladder.proofs.Lists.Moves.{spread_up_lem, spread_down_lem, up_stays, down_stays}

-- a price at an equal place
at : (l : List ℕ) {j k p q : ℕ} → j ≡ k → p ≡ q → price_at j l ≡ Some p → price_at k l ≡ Some q
at l i e h = ap (λ m. price_at m l) (sym i) ∙ (h ∙ ap Some e)

module _ (l : List ℕ) (r : Rising l) where
  up_entry : (k p : ℕ) → price_at k l ≡ Some p → price_at (min (k + 1) (length l - 1)) l ≡ Some (spread_up l p)
  up_entry k p e = go (dec_le (suc (suc k)) (length l))
    where
      go : Dec (suc (suc k) ≤ length l) → price_at (min (k + 1) (length l - 1)) l ≡ Some (spread_up l p)
      go (yes h) =
          let next = at_place l (suc k) h in
          at l (omega arith) (sym (spread_up_lem l r p next.0 (next_at l r k p next.0 e next.1))) next.1
      go (no h) =
          let top : p ≡ last_price l = last_entry l k p e (omega (arith, entry_below l k p e)) in
          at l (omega (arith, entry_below l k p e)) (top ∙ (sym (up_stays l r) ∙ ap (spread_up l) (sym top))) e

  down_entry : (k p : ℕ) → price_at k l ≡ Some p → price_at (k - 1) l ≡ Some (spread_down l p)
  down_entry zero p e = let bottom : p ≡ first_price l = first_entry l p e in at l refl (bottom ∙ (sym (down_stays l r) ∙ ap (spread_down l) (sym bottom))) e
  down_entry (suc k) p e =
      let before = at_place l k (omega (arith, entry_below l (suc k) p e)) in
      at l (omega arith) (sym (spread_down_lem l r before.0 p (next_at l r k before.0 p before.1 e))) before.1

  pub ups_entry : (n k p : ℕ) → price_at k l ≡ Some p → price_at (min (k + n) (length l - 1)) l ≡ Some (times n (spread_up l) p)
  unfolding times
  ups_entry zero k p e = at l (omega (arith, entry_below l k p e)) refl e
  ups_entry (suc n) k p e =
      at l (omega arith) refl (ups_entry n (min (k + 1) (length l - 1)) (spread_up l p) (up_entry k p e))

  pub downs_entry : (n k p : ℕ) → price_at k l ≡ Some p → price_at (k - n) l ≡ Some (times n (spread_down l) p)
  unfolding times
  downs_entry zero k p e = at l (omega arith) refl e
  downs_entry (suc n) k p e = at l (omega arith) refl (downs_entry n (k - 1) (spread_down l p) (down_entry k p e))

  -- so many places up, or the last price where there are not so many, is as many spreads up
  pub rise_halts : (n p : ℕ) → T (holds p l) → (v : Option ℕ) → PlacesUp l p n v → unwrap_or v (last_price l) ≡ times n (spread_up l) p
  rise_halts n p on v up = go (held_entry l p on)
    where
      go : (k : ℕ) × (price_at k l ≡ Some p) → unwrap_or v (last_price l) ≡ times n (spread_up l) p
      go e = cases (dec_le (suc (e.0 + n)) (length l))
        where
          risen : price_at (min (e.0 + n) (length l - 1)) l ≡ Some (times n (spread_up l) p)
          risen = ups_entry n e.0 p e.1

          cases : Dec (suc (e.0 + n) ≤ length l) → unwrap_or v (last_price l) ≡ times n (spread_up l) p
          cases (yes h) =
              let found : v ≡ Some (times n (spread_up l) p) = up.found e.0 e.1 ∙ at l (omega arith) refl risen in
              rw found
          cases (no h) =
              let none : v ≡ None = up.found e.0 e.1 ∙ past l (e.0 + n) (omega arith) in
              rw none
              (sym (last_entry l (min (e.0 + n) (length l - 1)) _ risen (omega (arith, entry_below l e.0 p e.1))))
