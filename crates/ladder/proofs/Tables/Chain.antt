-- How the bands of a well-formed table make its ladder: entry k of a band is its bottom and k spreads, and the list rises.
use Rattle.std.specs.Prelude.{Some, None}
use mathlib.Core.Path.{◌≡◌, refl, ap, sym, ◌∙◌}
use Prim.Native.Nat.{ℕ, zero, suc, ◌+◌, ◌-◌, ◌*◌, ◌%◌, ◌≤◌, ◌<◌}
use native.Mathlib.Nat.{lt_irrefl, suc_inj, le-mul_of_pos_right, not-suc-le-zero, le_of_suc-le-suc, div-add-mod'}
use native.Mathlib.Omega.{arith}
use mathlib.Core.Bool.{◌&&◌}
use mathlib.Core.List.{List, [], ◌∷◌, ◌++◌}
use lib.Dec.{T, eqb, ltb, ltb→lt, eqb→eq}
use lib.ListN.{length, get_or, take, drop}
use Rattle.std.proofs.lemmas.List.{take_rest, get_or-take, get_or-drop, length-take, length-drop, length_push, same_from_push, take_more}
use Rattle.std.specs.List.{push}
use Rattle.tables.specs.declared.Band.{Band}
use Rattle.tables.specs.Bands.{no_band, whole, chained}
use Rattle.ladder.specs.Ladder.{width, rungs, band_prices}
use Rattle.ladder.specs.Arithmetic.{places_below}
use Rattle.ladder.specs.Places.{price_at, last_after}
use Rattle.facts.proofs.Tests.{and_left, and_right}
use Rattle.facts.specs.Lists.{Rising}
use Rattle.facts.proofs.Lists.{held_cases, held_none}

-- band k of a table
abbrev pub band_at : List Band → ℕ → Band
band_at t k = get_or t k no_band

-- band k of the first n, and of all
pub first_under : (t : List Band) (n k : ℕ) → k < length (take n t) → k < length t
first_under t n k h = omega (arith, length-take n t)

pub first_band : (t : List Band) (n k : ℕ) → k < length (take n t) → get_or (take n t) k no_band ≡ band_at t k
first_band t n k h = get_or-take n t k no_band (omega (arith, length-take n t))

-- band j of those from an index on, and how many they are: a slice is lent as the code cuts it
pub rest_band : (t : List Band) (i j : ℕ) → get_or (take (length t - i) (drop i t)) j no_band ≡ band_at t (i + j)
rest_band t i j = rw (take_rest t i) (get_or-drop i t j no_band)

pub rest_length : (t : List Band) (i : ℕ) → length (take (length t - i) (drop i t)) ≡ length t - i
rest_length t i = rw (take_rest t i) (length-drop i t)

-- the last of the bands that are left: the rest of them, and where it stands in the table
pub last_band : (t l rest : List Band) (b : Band) → l ≡ take (length l) t → length l ≤ length t → l ≡ push rest b →
    (length l ≡ length rest + 1) × (rest ≡ take (length rest) t) × (b ≡ band_at t (length rest)) × (length rest < length t)
last_band t l rest b are few e =
    let n : length l ≡ length rest + 1 = ap length e ∙ length_push rest b in
    let h : length rest < length t = omega arith in
    let same = same_from_push rest (take (length rest) t) b (band_at t (length rest))
    (sym e ∙ (are ∙ (ap (λ m. take m t) n ∙ take_more t (length rest) no_band h))) in
    (n, same.0, same.1, h)

-- ---- well-formed, as facts

pub record Whole (b : Band) : Type 0 where
  pub rises : b.bottom < b.top
  pub spreads : 0 < b.spread
  pub multiple : (b.top - b.bottom) % b.spread ≡ 0
  pub divides : width b * b.spread + b.bottom ≡ b.top

abbrev pub Chain : ℕ → List Band → Type 0
Chain a [] = Unit {0}
Chain a (b ∷ bs) = (b.bottom ≡ a) × Whole b × Chain b.top bs

pub whole_facts : (b : Band) → T (whole b) → Whole b
whole_facts b t =
    let up = and_left (ltb b.bottom b.top && ltb 0 b.spread) (eqb ((b.top - b.bottom) % b.spread) 0) t in
    let rises : b.bottom < b.top = ltb→lt _ _ (and_left (ltb b.bottom b.top) (ltb 0 b.spread) up) in
    let none : (b.top - b.bottom) % b.spread ≡ 0 =
    eqb→eq _ _ (and_right (ltb b.bottom b.top && ltb 0 b.spread) (eqb ((b.top - b.bottom) % b.spread) 0) t) in
    record {
      rises = rises;
      spreads = ltb→lt _ _ (and_right (ltb b.bottom b.top) (ltb 0 b.spread) up);
      multiple = none;
      divides = omega (arith, div-add-mod' (b.top - b.bottom) b.spread);
    }

pub chain_facts : (a : ℕ) (t : List Band) → T (chained a t) → Chain a t
unfolding chained
chain_facts a [] t = tt
chain_facts a (b ∷ bs) t =
    let here = and_left (eqb b.bottom a && whole b) (chained b.top bs) t in (
      eqb→eq b.bottom a (and_left (eqb b.bottom a) (whole b) here),
      whole_facts b (and_right (eqb b.bottom a) (whole b) here),
      chain_facts b.top bs (and_right (eqb b.bottom a && whole b) (chained b.top bs) t),
    )

-- ---- one band of the list

-- entry i of a band
pub rungs_entry : (s a w : ℕ) (r : List ℕ) (i : ℕ) → i ≤ w → price_at i (a ∷ (rungs s a w ++ r)) ≡ Some (i * s + a)
unfolding rungs price_at
rungs_entry s a w r zero h = ap Some (omega arith)
rungs_entry s a zero r (suc i) h = absurd (not-suc-le-zero h)
rungs_entry s a (suc w) r (suc i) h = rungs_entry s (a + s) w r i (le_of_suc-le-suc h) ∙ ap Some (omega arith)

-- past a band the list goes on from its top
pub rungs_past : (s a w : ℕ) (r : List ℕ) (top m k : ℕ) → top ≡ w * s + a → k ≡ w + m →
    price_at k (a ∷ (rungs s a w ++ r)) ≡ price_at m (top ∷ r)
unfolding rungs price_at
rungs_past s a zero r top m k e f =
    let i : top ≡ a = omega arith in
    let j : k ≡ m = omega arith in
    cc
rungs_past s a (suc w) r top m k e f =
    let j : k ≡ suc (w + m) = omega arith in
    rw j (rungs_past s (a + s) w r top m (w + m) (omega arith) refl)

-- ---- all bands of the list

-- entry i of band k
pub band_entry : (a : ℕ) (t : List Band) → Chain a t → (k i j : ℕ) → k < length t → i ≤ width (band_at t k) → j ≡ places_below k t + i →
    price_at j (a ∷ band_prices t) ≡ Some (i * (band_at t k).spread + (band_at t k).bottom)
unfolding band_prices places_below
band_entry a [] c k i j h w e = absurd (not-suc-le-zero h)
band_entry a (b ∷ bs) c zero i j h w e =
    let f : j ≡ i = omega arith in
    rw (f, ← c.0) (rungs_entry b.spread b.bottom (width b) (band_prices bs) i w)
band_entry a (b ∷ bs) c (suc k) i j h w e =
    rw (← c.0)
    (rungs_past b.spread b.bottom (width b) (band_prices bs) b.top (places_below k bs + i) j (sym c.1.divides) (omega arith) ∙
    band_entry b.top bs c.2 k i (places_below k bs + i) (le_of_suc-le-suc h) w refl)

-- a list that rises behind the top of a band rises behind its bottom
rungs_rise : (s a w : ℕ) (r : List ℕ) (top : ℕ) → top ≡ w * s + a → 0 < s → Rising (top ∷ r) → Rising (a ∷ (rungs s a w ++ r))
unfolding rungs
rungs_rise s a zero r top e pos h = let i : a ≡ top = omega arith in rw i h
rungs_rise s a (suc w) r top e pos h =
    let rest = rungs_rise s (a + s) w r top (omega arith) pos h in
    ((λ x m. held_cases (a + s) (rungs s (a + s) w ++ r) x m (λ u. omega arith) (λ v. let u : a + s < x = rest.0 x v in omega arith)), rest)

pub rises : (a : ℕ) (t : List Band) → Chain a t → Rising (a ∷ band_prices t)
unfolding band_prices
rises a [] c = ((λ x m. held_none x m), tt)
rises a (b ∷ bs) c =
    rw (← c.0)
    (rungs_rise b.spread b.bottom (width b) (band_prices bs) b.top (sym c.1.divides) c.1.spreads (rises b.top bs c.2))

-- ---- the last price

rungs_last : (s a w : ℕ) (r : List ℕ) (top : ℕ) → top ≡ w * s + a → last_after a (rungs s a w ++ r) ≡ last_after top r
unfolding rungs last_after
rungs_last s a zero r top e = let i : a ≡ top = omega arith in rw i
rungs_last s a (suc w) r top e = rungs_last s (a + s) w r top (omega arith)

-- the ladder's last price is the last top
pub last_top : (a : ℕ) (t : List Band) → Chain a t → (k : ℕ) → length t ≡ suc k → last_after a (band_prices t) ≡ (band_at t k).top
unfolding band_prices last_after
last_top a [] c k e = absurd (lt_irrefl 0 (omega arith))
last_top a (b ∷ []) c zero e = rw (← c.0) (rungs_last b.spread b.bottom (width b) [] b.top (sym c.1.divides))
last_top a (b ∷ []) c (suc k) e = absurd (lt_irrefl 0 (omega arith))
last_top a (b ∷ d ∷ bs) c zero e = absurd (lt_irrefl 0 (omega arith))
last_top a (b ∷ d ∷ bs) c (suc k) e =
    rw (← c.0)
    (rungs_last b.spread b.bottom (width b) (band_prices (d ∷ bs)) b.top (sym c.1.divides) ∙
    last_top b.top (d ∷ bs) c.2 k (suc_inj e))

-- past the last place the list has nothing
pub past_last : (a : ℕ) (t : List Band) → Chain a t → (m j : ℕ) → j ≡ places_below (length t) t + suc m →
    price_at j (a ∷ band_prices t) ≡ None
unfolding band_prices places_below price_at
past_last a [] c m j e = let i : j ≡ suc m = omega arith in rw i
past_last a (b ∷ bs) c m j e =
    rw (← c.0)
    (rungs_past b.spread b.bottom (width b) (band_prices bs) b.top (places_below (length bs) bs + suc m) j (sym c.1.divides) (omega arith) ∙
    past_last b.top bs c.2 m (places_below (length bs) bs + suc m) refl)

-- places of a band lie as many above the first as the bands before it have spreads: a place is at most its price
pub below_under : (a : ℕ) (t : List Band) → Chain a t → (k : ℕ) → k < length t → places_below k t + a ≤ (band_at t k).bottom
unfolding places_below
below_under a [] c k h = absurd (not-suc-le-zero h)
below_under a (b ∷ bs) c zero h = omega (arith, c.0)
below_under a (b ∷ bs) c (suc k) h =
    let rest = below_under b.top bs c.2 k (le_of_suc-le-suc h) in
    omega (arith, c.0, c.1.divides, le-mul_of_pos_right (width b) c.1.spreads)

-- one band more
pub below_more : (t : List Band) (k : ℕ) → k < length t → places_below (suc k) t ≡ places_below k t + width (band_at t k)
unfolding places_below
below_more [] k h = absurd (not-suc-le-zero h)
below_more (b ∷ bs) zero h = omega arith
below_more (b ∷ bs) (suc k) h = let rest = below_more bs k (le_of_suc-le-suc h) in omega arith

-- a band starts where the one before it ends
pub band_after : (a : ℕ) (t : List Band) → Chain a t → (k : ℕ) → suc k < length t → (band_at t (suc k)).bottom ≡ (band_at t k).top
band_after a [] c k h = absurd (not-suc-le-zero h)
band_after a (b ∷ []) c k h = absurd (not-suc-le-zero (le_of_suc-le-suc h))
band_after a (b ∷ d ∷ bs) c zero h = c.2.0
band_after a (b ∷ d ∷ bs) c (suc k) h = band_after b.top (d ∷ bs) c.2 k (le_of_suc-le-suc h)

pub band_whole : (a : ℕ) (t : List Band) → Chain a t → (k : ℕ) → k < length t → Whole (band_at t k)
band_whole a [] c k h = absurd (not-suc-le-zero h)
band_whole a (b ∷ bs) c zero h = c.1
band_whole a (b ∷ bs) c (suc k) h = band_whole b.top bs c.2 k (le_of_suc-le-suc h)
