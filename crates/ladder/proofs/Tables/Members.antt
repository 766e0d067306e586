-- The list ladder holds exactly what document 01 calls a ladder price.
use Rattle.std.specs.Prelude.{Some}
use mathlib.Core.Path.{◌≡◌, refl, ap, sym, ◌∙◌}
use Prim.Native.Nat.{ℕ, zero, suc, ◌+◌, ◌-◌, ◌*◌, ◌%◌, ◌≤◌, ◌<◌}
use native.Mathlib.Nat.{le_refl, le_of_lt, eq-zero-or-pos, add-sub_cancel, mul-mod_left, mul-le-mul_right, mul-pos}
use native.Mathlib.Decide.{dec_le}
use native.Mathlib.Omega.{arith}
use mathlib.Core.Bool.{◌&&◌, ◌||◌}
use mathlib.Core.Logic.{◌⊎◌, inl, inr, ⊎_elim}
use mathlib.Core.List.{List, [], ◌∷◌, ◌++◌}
use lib.Dec.{T, eqb, ltb, leb, eqb→eq, ltb→lt, lt→ltb, leb→le, le→leb, eqb_refl}
use Rattle.tables.specs.declared.Band.{Band}
use Rattle.tables.specs.Bands.{well_formed}
use Rattle.ladder.specs.Ladder.{width, rungs, band_prices, ladder, in_band, in_some_band, is_ladder_price}
use Rattle.facts.specs.Lists.{holds}
use Rattle.ladder.specs.Places.{price_at}
use Rattle.facts.proofs.Tests.{and_left, and_right, and_both, or_left, or_right, or_cases, same}
use Rattle.facts.proofs.Lists.{held_cases, held_none, held_first}
use Rattle.ladder.proofs.Lists.Entries.{held_entry, entry_held}
use Rattle.ladder.proofs.Tables.Chain.{Whole, Chain, rungs_entry, rungs_past}
use Rattle.ladder.proofs.Tables.Table.{Index, index_of, table_facts}

-- a multiple of the spread over the bottom is in the band
in_band_lem : (b : Band) → Whole b → (p i : ℕ) → 0 < i → i ≤ width b → p ≡ i * b.spread + b.bottom → T (in_band p b)
in_band_lem b w p i pos h e =
    let over : b.bottom < p = omega (arith, mul-pos pos w.spreads) in
    let under : p ≤ b.top = omega (arith, w.divides, mul-le-mul_right b.spread h) in
    let multiple : (p - b.bottom) % b.spread ≡ 0 = rw (e, add-sub_cancel, mul-mod_left) refl in
    and_both (ltb b.bottom p && leb p b.top) (eqb ((p - b.bottom) % b.spread) 0)
    (and_both (ltb b.bottom p) (leb p b.top) (lt→ltb b.bottom p over) (le→leb p b.top under))
    (rw multiple tt)

-- and a price in the band is such a multiple
in_band_index : (b : Band) → Whole b → (p : ℕ) → T (in_band p b) → Index b p
in_band_index b w p t =
    let ends = and_left (ltb b.bottom p && leb p b.top) (eqb ((p - b.bottom) % b.spread) 0) t in
    index_of b p w (le_of_lt (ltb→lt b.bottom p (and_left (ltb b.bottom p) (leb p b.top) ends)))
    (leb→le p b.top (and_right (ltb b.bottom p) (leb p b.top) ends))
    (eqb→eq ((p - b.bottom) % b.spread) 0 (and_right (ltb b.bottom p && leb p b.top) (eqb ((p - b.bottom) % b.spread) 0) t))

-- a price of a list that begins with the rungs of a band is the band's bottom, is in the band, or is in the list from the band's top on
module _ (b : Band) (w : Whole b) (r : List ℕ) (p : ℕ) where
  abbrev list : List ℕ
  list = b.bottom ∷ (rungs b.spread b.bottom (width b) ++ r)

  leaves : T (holds p list) → (p ≡ b.bottom) ⊎ (T (in_band p b) ⊎ T (holds p (b.top ∷ r)))
  leaves h = let e = held_entry list p h in go e.0 e.1 (dec_le e.0 (width b))
    where
      at : (k : ℕ) → k ≤ width b → price_at k list ≡ Some p → p ≡ k * b.spread + b.bottom
      at k h e = let q = rungs_entry b.spread b.bottom (width b) r k h in cc

      go : (k : ℕ) → price_at k list ≡ Some p → Dec (k ≤ width b) → (p ≡ b.bottom) ⊎ (T (in_band p b) ⊎ T (holds p (b.top ∷ r)))
      go zero e (yes h) = inl (omega (arith, at 0 h e))
      go (suc k) e (yes h) = inr (inl (in_band_lem b w p (suc k) (omega arith) h (at (suc k) h e)))
      go k e (no h) =
          inr
          (inr
          (entry_held (b.top ∷ r) (k - width b) p
          (sym (rungs_past b.spread b.bottom (width b) r b.top (k - width b) k (sym w.divides) (omega arith)) ∙ e)))

  enters : T (in_band p b) → T (holds p list)
  enters t =
      let x = in_band_index b w p t in
      entry_held list x.i p (rungs_entry b.spread b.bottom (width b) r x.i x.within ∙ ap Some (sym x.is))

  passes : T (holds p (b.top ∷ r)) → T (holds p list)
  passes h =
      let e = held_entry (b.top ∷ r) p h in
      entry_held list (width b + e.0) p
      (rungs_past b.spread b.bottom (width b) r b.top e.0 (width b + e.0) (sym w.divides) refl ∙ e.1)

  top_in_band : p ≡ b.top → T (in_band p b)
  top_in_band e = in_band_lem b w p (width b) (wide (eq-zero-or-pos (width b))) (le_refl (width b)) (e ∙ sym w.divides)
    where
      wide : (width b ≡ 0) ⊎ (0 < width b) → 0 < width b
      wide = ⊎_elim (λ z. let u : 0 * b.spread + b.bottom ≡ b.top = rw z at w.divides in omega (arith, w.rises)) (λ h. h)

members_in : (a : ℕ) (t : List Band) → Chain a t → (p : ℕ) → T (holds p (a ∷ band_prices t)) → (p ≡ a) ⊎ T (in_some_band p t)
unfolding band_prices in_some_band
members_in a [] c p h = held_cases a [] p h (λ e. inl e) (λ m. held_none p m)
members_in a (b ∷ bs) c p h =
    ⊎_elim (λ i. inl (i ∙ c.0))
    (⊎_elim (λ t. inr (or_left (in_band p b) (in_some_band p bs) t))
    (λ m.
    ⊎_elim (λ i. inr (or_left (in_band p b) (in_some_band p bs) (top_in_band b c.1 (band_prices bs) p i)))
    (λ s. inr (or_right (in_band p b) (in_some_band p bs) s))
    (members_in b.top bs c.2 p m)))
    (leaves b c.1 (band_prices bs) p (rw (← c.0) at h))

in_members : (a : ℕ) (t : List Band) → Chain a t → (p : ℕ) → T (in_some_band p t) → T (holds p (a ∷ band_prices t))
unfolding band_prices in_some_band
in_members a [] c p h = absurd h
in_members a (b ∷ bs) c p h =
    rw (← c.0)
    (⊎_elim (λ t. enters b c.1 (band_prices bs) p t) (λ s. passes b c.1 (band_prices bs) p (in_members b.top bs c.2 p s))
    (or_cases (in_band p b) (in_some_band p bs) h))

pub the_members : (t : List Band) → T (well_formed t) → (p : ℕ) → holds p (ladder t) ≡ is_ladder_price p t
unfolding well_formed ladder is_ladder_price
the_members [] wf p = absurd wf
the_members (b ∷ bs) wf p =
    let c = (table_facts (b ∷ bs) wf).chain in
    same (holds p (b.bottom ∷ band_prices (b ∷ bs))) (eqb p b.bottom || in_some_band p (b ∷ bs))
    (λ h.
    ⊎_elim (λ e. or_left (eqb p b.bottom) (in_some_band p (b ∷ bs)) (rw e (eqb_refl b.bottom)))
    (λ s. or_right (eqb p b.bottom) (in_some_band p (b ∷ bs)) s) (members_in b.bottom (b ∷ bs) c p h))
    (λ h.
    ⊎_elim (λ e. rw (eqb→eq p b.bottom e) (held_first b.bottom (band_prices (b ∷ bs))))
    (λ s. in_members b.bottom (b ∷ bs) c p s) (or_cases (eqb p b.bottom) (in_some_band p (b ∷ bs)) h))
