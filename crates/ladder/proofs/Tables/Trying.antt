-- The order of trying, and that it does not show: y / scale lands in one band only, so that any two lists of bands that have it find it.
use Rattle.std.specs.Prelude.{Option, Some, None, is_some}
use Rattle.std.specs.List.{find}
use mathlib.Core.Path.{◌≡◌, refl, ap, sym, ◌∙◌}
use Prim.Native.Nat.{ℕ, zero, suc, ◌+◌, ◌-◌, ◌*◌, ◌≤◌, ◌<◌}
use native.Mathlib.Nat.{mul-le-mul_left}
use native.Mathlib.Decide.{dec_le}
use native.Mathlib.Omega.{arith}
use mathlib.Core.Bool.{Bool, true, false, not, ◌&&◌, ◌||◌}
use mathlib.Core.Logic.{◌⊎◌, inl, inr, ⊎_elim}
use mathlib.Core.List.{List, ◌++◌}
use lib.Dec.{T, eqb, ltb, leb, lt→ltb, ltb→lt, le→leb, leb→le}
use lib.ListN.{length, take, drop}
use Rattle.std.proofs.lemmas.List.{take_all}
use Rattle.std.proofs.lemmas.List.Filters.{length-filter_both}
use Rattle.std.proofs.lemmas.List.FromFn.{length-range_with_len}
use Rattle.tables.specs.declared.Band.{Band}
use Rattle.tables.specs.Bands.{well_formed}
use Rattle.facts.specs.Lists.{holds}
use Rattle.facts.proofs.Tests.{and_left, and_right, and_both, same, failed, true_of, untrue}
use Rattle.ladder.specs.Ladder.{ladder}
use Rattle.ladder.specs.Places.{first_price, last_price}
use Rattle.ladder.specs.Trying.{indexes, order, lands, sought, band_of}
use Rattle.ladder.specs.Arithmetic.{count_below}
use Rattle.ladder.proofs.Lists.Finding.{found_passes, none_found, one_found, some_found, in_range, range_bounds, in_left, in_right, in_filter, filter_passes, taken}
use Rattle.ladder.proofs.Tables.Chain.{Chain, band_at}
use Rattle.ladder.proofs.Tables.Table.{start, table_facts, first_is_start, last_is_top}
use Rattle.ladder.proofs.Tables.Landing.{Over, is_over, over_is as over_is_test, over_before, Lands, facts_land, lands_facts, bottoms_rise, tops_rise, lands_once, lands_between, counts_to}

-- ---- the order

pub in_indexes : (first end k : ℕ) → first ≤ k → k < end → T (holds k (indexes first end))
in_indexes first end k low high = in_range first (end - first) k low (omega arith)

pub index_bounds : (first end k : ℕ) → first ≤ end → T (holds k (indexes first end)) → (first ≤ k) × (k < end)
index_bounds first end k h m = let r = range_bounds first (end - first) k m in (r.0, omega (arith, r.1))

-- each band of a table is tried: it is a busy one, or comes before or after these
pub in_order : (n k : ℕ) → k < n → T (holds k (order n))
in_order n k h = in_filter (λ j. ltb j n) (indexes 2 5 ++ (indexes 0 2 ++ indexes 5 n)) k (lt→ltb k n h) (go (dec_le 5 k) (dec_le 2 k))
  where
    go : Dec (5 ≤ k) → Dec (2 ≤ k) → T (holds k (indexes 2 5 ++ (indexes 0 2 ++ indexes 5 n)))
    go (yes u) v = in_right (indexes 2 5) _ k (in_right (indexes 0 2) (indexes 5 n) k (in_indexes 5 n k u h))
    go (no u) (yes v) = in_left (indexes 2 5) _ k (in_indexes 2 5 k v (omega arith))
    go (no u) (no v) = in_right (indexes 2 5) _ k (in_left (indexes 0 2) (indexes 5 n) k (in_indexes 0 2 k (omega arith) (omega arith)))

-- and none twice: the order has as many entries as the table has bands, and no more
order_few : (n : ℕ) → length (order n) ≤ n
order_few zero = omega arith
order_few (suc zero) = omega arith
order_few (suc (suc zero)) = omega arith
order_few (suc (suc (suc zero))) = omega arith
order_few (suc (suc (suc (suc zero)))) = omega arith
order_few (suc (suc (suc (suc (suc n))))) =
    let m = suc (suc (suc (suc (suc n)))) in
    let all = length-filter_both (λ k. ltb k m) (λ k. not (ltb k m)) (λ k. refl) (indexes 2 5 ++ (indexes 0 2 ++ indexes 5 m)) in
    omega (arith, all, length-range_with_len 5 (m - 5))

pub all_tried : (n allowed : ℕ) → n ≤ allowed → take allowed (order n) ≡ order n
all_tried n allowed h = take_all allowed (order n) (omega (arith, order_few n))

-- ---- where y / scale lands

module _ (t : List Band) (wf : T (well_formed t)) (scale y : ℕ) where
  chain : Chain (start t) t
  chain = (table_facts t wf).chain

  pub facts : (k : ℕ) → T (lands scale y t k) → Lands scale y t k
  facts k = lands_facts scale y t k (table_facts t wf).some

  pub past_end : (k : ℕ) → length t ≤ k → false ≡ lands scale y t k
  past_end k e = sym (failed (lands scale y t k) (λ h. absurd (omega (arith, e, (facts k h).index))))

  only : (k : ℕ) → Lands scale y t k → (j : ℕ) → T (lands scale y t j) → j ≡ k
  only k l j h = lands_once (start t) t chain scale y j k (facts j h) l

  -- no two bands hold it
  pub one_lands : (j k : ℕ) → T (lands scale y t j) → T (lands scale y t k) → j ≡ k
  one_lands j k h i = only k (facts k i) j h

  -- a list that has the band where y / scale lands finds it
  pub found_in : (k : ℕ) → Lands scale y t k → (l : List ℕ) → T (holds k l) → find (lands scale y t) l ≡ Some k
  found_in k h l on = one_found (lands scale y t) k (only k h) (facts_land scale y t k h) l on

  -- and what a list finds is the band where it lands
  pub found_lands : (k : ℕ) (l : List ℕ) → find (lands scale y t) l ≡ Some k → Lands scale y t k × T (holds k l)
  found_lands k l e = let r = found_passes (lands scale y t) l k e in (facts k r.0, r.1)

  module _ (allowed : ℕ) (enough : length t ≤ allowed) where
    pub sought_at : (k : ℕ) → Lands scale y t k → sought scale y allowed t ≡ Some k
    sought_at k l = rw (all_tried (length t) allowed enough) (found_in k l (order (length t)) (in_order (length t) k l.index))

    -- what one part of the bands finds is found
    pub sought_part : (l : List ℕ) (found : Option ℕ) (k : ℕ) → found ≡ Some k → found ≡ find (lands scale y t) l → Some k ≡ sought scale y allowed t
    sought_part l found k is e = sym {b = Some k} (sought_at k (found_lands k l (sym e ∙ is)).0)

    -- where the busy bands and those after them find nothing, those before them find what is to be found
    pub sought_rest : (busy after : Option ℕ) → busy ≡ None → busy ≡ find (lands scale y t) (indexes 2 5) → after ≡ None →
        after ≡ find (lands scale y t) (indexes 5 (length t)) → find (lands scale y t) (indexes 0 2) ≡ sought scale y allowed t
    sought_rest busy after in_busy e in_after f = go (find (lands scale y t) (indexes 0 2)) refl
      where
        missed : (l : List ℕ) → find (lands scale y t) l ≡ None → (k : ℕ) → Lands scale y t k → T (holds k l) → ⊥
        missed l none k h on = let some : None ≡ Some k = sym none ∙ found_in k h l on in absurd (grind arith)

        before : find (lands scale y t) (indexes 0 2) ≡ None → (k : ℕ) → Lands scale y t k → ⊥
        before none k h = by (dec_le 5 k) (dec_le 2 k)
          where
            by : Dec (5 ≤ k) → Dec (2 ≤ k) → ⊥
            by (yes u) v = missed (indexes 5 (length t)) (sym f ∙ in_after) k h (in_indexes 5 (length t) k u h.index)
            by (no u) (yes v) = missed (indexes 2 5) (sym e ∙ in_busy) k h (in_indexes 2 5 k v (omega arith))
            by (no u) (no v) = missed (indexes 0 2) none k h (in_indexes 0 2 k (omega arith) (omega arith))

        go : (found : Option ℕ) → find (lands scale y t) (indexes 0 2) ≡ found → found ≡ sought scale y allowed t
        go (Some k) i = sym {b = Some k} (sought_at k (found_lands k (indexes 0 2) i).0)
        go None i = sym (none_found (lands scale y t) (take allowed (order (length t))) (λ k h on. before i k (facts k h)))

  -- inside the ladder it lands in a band
  pub inside_lands : scale * first_price (ladder t) ≤ y → y ≤ scale * last_price (ladder t) → (k : ℕ) × Lands scale y t k
  inside_lands low high =
      let last = length t - 1 in
      let some = (table_facts t wf).some in
      let end : 0 + last ≡ last = omega arith in
      let r = lands_between (start t) t chain scale y 0 last (omega (arith, some)) (go (dec_le y (scale * start t)))
      (rw (end, ← (last_is_top t wf last (omega (arith, some)))) high) in
      (r.0, r.3)
    where
      go : Dec (y ≤ scale * start t) → Over scale y t 0
      go (yes u) = inr (refl, omega (arith, u, low, ap (λ p. scale * p) (first_is_start t wf)))
      go (no u) = inl (omega arith)

  -- ---- among the bands from one index on, below another

  module _ (first end : ℕ) (some : first < end) (there : end ≤ length t) where
    -- outside their ends y / scale lands in none
    none_between : (Over scale y t first → ⊥) ⊎ (scale * (band_at t (end - 1)).top < y) → None ≡ find (lands scale y t) (indexes first end)
    none_between out = sym (none_found (lands scale y t) (indexes first end) (λ k h on. nowhere k (facts k h) (index_bounds first end k (omega arith) on)))
      where
        nowhere : (k : ℕ) → Lands scale y t k → (first ≤ k) × (k < end) → ⊥
        nowhere k l r = ⊎_elim (λ not. not (over_before (start t) t chain scale y first k r.0 l.index l.over)) above out
          where
            above : scale * (band_at t (end - 1)).top < y → ⊥
            above h = omega (arith, h, l.under, mul-le-mul_left scale (tops_rise (start t) t chain k (end - 1) (omega (arith, r.1)) (omega arith)))

    -- inside them it lands in the band that the count leads to
    counted_between : Over scale y t first → y ≤ scale * (band_at t (end - 1)).top →
        Some (first + count_below scale y (take (end - first) (drop first t))) ≡ find (lands scale y t) (indexes first end)
    counted_between low high =
        let last : first + (end - 1 - first) ≡ end - 1 = omega arith in
        let r = lands_between (start t) t chain scale y first (end - 1 - first) (omega arith) low (rw last high) in
        let k = r.0 in
        rw (counts_to (start t) t chain scale y first end k r.1 (omega (arith, r.2)) there r.3)
        (sym {b = Some k} (found_in k r.3 (indexes first end) (in_indexes first end k r.1 (omega (arith, r.2)))))

    -- as the code tests it: where y lies over the bottom, up to the top, and where it does not
    module _ (bottom top : ℕ) (bottom_is : bottom ≡ scale * (band_at t first).bottom) (top_is : top ≡ scale * (band_at t (end - 1)).top)
        (over : Bool) (over_is : over ≡ (ltb bottom y || eqb first 0 && eqb bottom y)) where
      pub found_between : over ≡ true → y ≤ top →
          Some (first + count_below scale y (take (end - first) (drop first t))) ≡ find (lands scale y t) (indexes first end)
      found_between o under =
          let e = rw bottom_is at (sym over_is ∙ o) in
          counted_between (is_over scale y t first (true_of _ e)) (omega (arith, top_is, under))

      pub nothing_between : ((over ≡ true) × (top < y)) ⊎ (over ≡ false) → None ≡ find (lands scale y t) (indexes first end)
      nothing_between out = none_between (⊎_elim (λ o. inr (omega (arith, top_is, o.1))) (λ o. inl (λ h. not_over o h)) out)
        where
          not_over : over ≡ false → Over scale y t first → ⊥
          not_over o h =
              let e = rw bottom_is at (sym over_is ∙ o) in
              untrue _ e (over_is_test scale y t first h)

-- ---- the band of a price

-- what is found is a band of the table, whatever the table
pub found_held : (t : List Band) (p allowed k : ℕ) → band_of p allowed t ≡ Some k → (k < length t) × T (lands 1 p t k)
found_held t p allowed k e =
    let r = found_passes (lands 1 p t) (take allowed (order (length t))) k e in
    let tried = filter_passes (λ j. ltb j (length t)) (indexes 2 5 ++ (indexes 0 2 ++ indexes 5 (length t))) k (taken allowed (order (length t)) k r.1) in
    (ltb→lt k (length t) tried, r.0)

-- a table whose first three bands to be tried lie over one price to another
pub record Busy (t : List Band) (low high : ℕ) : Type 0 where
  pub tried : take 3 (order (length t)) ≡ indexes 2 5
  pub bands : 4 < length t
  pub from : (band_at t 2).bottom ≡ low
  pub to : (band_at t 4).top ≡ high

module _ (t : List Band) (wf : T (well_formed t)) (low high : ℕ) (busy : Busy t low high) (p : ℕ) where
  between : (k : ℕ) → T (lands 1 p t k) → T (holds k (indexes 2 5)) → T (ltb low p && leb p high)
  between k h on =
      and_both (ltb low p) (leb p high) (lt→ltb low p (⊎_elim (λ o. omega (arith, busy.from, bottoms, o)) (λ e. absurd (omega (arith, e.0, bounds.0))) l.over))
      (le→leb p high (omega (arith, busy.to, tops, l.under)))
    where
      l : Lands 1 p t k
      l = facts t wf 1 p k h

      bounds : (2 ≤ k) × (k < 5)
      bounds = index_bounds 2 5 k (omega arith) on

      bottoms : (band_at t 2).bottom ≤ (band_at t k).bottom
      bottoms = bottoms_rise (start t) t (table_facts t wf).chain 2 k bounds.0 l.index

      tops : (band_at t k).top ≤ (band_at t 4).top
      tops = tops_rise (start t) t (table_facts t wf).chain k 4 (omega (arith, bounds.1)) busy.bands

  finds : T (ltb low p && leb p high) → T (is_some (find (lands 1 p t) (indexes 2 5)))
  finds h =
      let over = ltb→lt low p (and_left (ltb low p) (leb p high) h) in
      let under = leb→le p high (and_right (ltb low p) (leb p high) h) in
      let r = lands_between (start t) t (table_facts t wf).chain 1 p 2 2 busy.bands (inl (omega (arith, busy.from, over))) (omega (arith, busy.to, under)) in
      some_found (lands 1 p t) r.0 (facts_land 1 p t r.0 r.3) (indexes 2 5) (in_indexes 2 5 r.0 r.1 (omega (arith, r.2)))

  found : T (is_some (find (lands 1 p t) (indexes 2 5))) → T (ltb low p && leb p high)
  found h = go (find (lands 1 p t) (indexes 2 5)) refl h
    where
      go : (answer : Option ℕ) → find (lands 1 p t) (indexes 2 5) ≡ answer → T (is_some answer) → T (ltb low p && leb p high)
      go (Some k) e h = let r = found_passes (lands 1 p t) (indexes 2 5) k e in between k r.0 r.1
      go None e h = absurd h

  -- they find the prices over the one up to the other
  pub three_find : is_some (band_of p 3 t) ≡ (ltb low p && leb p high)
  three_find = rw busy.tried (same (is_some (find (lands 1 p t) (indexes 2 5))) (ltb low p && leb p high) found finds)
