-- A table whose spreads grow slowly: how far single spreads lead, by the bands from which they start.
use Rattle.std.specs.Prelude.{get_or}
use Rattle.std.specs.List.{list_all}
use mathlib.Core.Path.{◌≡◌}
use Prim.Native.Nat.{ℕ, zero, suc, ◌+◌, ◌*◌, ◌≤◌, ◌<◌}
use native.Mathlib.Nat.{not-suc-le-zero, le_of_suc-le-suc}
use native.Mathlib.Decide.{dec_le}
use native.Mathlib.Omega.{arith}
use mathlib.Core.Bool.{Bool, ◌||◌}
use mathlib.Core.List.{List, [], ◌∷◌}
use mathlib.Core.Logic.{◌⊎◌, inl, inr, ⊎_elim}
use lib.Dec.{T, leb, leb→le, le→leb}
use lib.ListN.{length}
use Rattle.facts.proofs.Tests.{and_left, and_right, or_cases}
use Rattle.tables.specs.declared.Band.{Band}
use Rattle.tables.specs.Bands.{Table, no_band, well_formed}
use Rattle.tables.specs.Growth.{far_apart, at_most_thrice, low_priced, grows_little, grows_slowly}
use Rattle.ladder.specs.Spreads.{times}
use Rattle.ladder.specs.Laws.{UpInBand}
use Rattle.ladder.proofs.Laws.{ladder_laws}
use Rattle.limits.proofs.Steps.{On, up, up_moves, up_leads}

abbrev pub band_at : Table → ℕ → Band
band_at t k = get_or t k no_band

-- ---- the test, as facts

-- in which of the three ways a spread grows little from one band to another
abbrev pub Way : Band → Band → Type 0
Way low high = T (low_priced low) ⊎ T (far_apart low high) ⊎ T (at_most_thrice low high)

pub record GrowsLittle (low high : Band) : Type 0 where
  pub rises : low.spread ≤ high.spread
  pub way : Way low high

little : (low high : Band) → T (grows_little low high) → GrowsLittle low high
little low high h =
    let far = far_apart low high in
    let ways = or_cases (low_priced low || far) (at_most_thrice low high) (and_right (leb low.spread high.spread) _ h) in
    record {
      rises = leb→le _ _ (and_left (leb low.spread high.spread) _ h);
      way = ⊎_elim (λ w. ⊎_elim (λ l. inl l) (λ f. inr (inl f)) (or_cases (low_priced low) far w)) (λ m. inr (inr m)) ways;
    }

-- a band and itself
itself : (b : Band) → GrowsLittle b b
itself b = record { rises = omega arith; way = inr (inr (le→leb b.spread (3 * b.spread) (omega arith))) }

-- a test that all bands of a list pass, at an index
at_index : (test : Band → Bool) (t : List Band) → T (list_all test t) → (k : ℕ) → k < length t → T (test (band_at t k))
at_index test [] h k m = absurd (not-suc-le-zero m)
at_index test (b ∷ bs) h zero m = and_left (test b) (list_all test bs) h
at_index test (b ∷ bs) h (suc k) m = at_index test bs (and_right (test b) (list_all test bs) h) k (le_of_suc-le-suc m)

two_bands : (t : List Band) → T (grows_slowly t) → (j k : ℕ) → j < k → k < length t → T (grows_little (band_at t j) (band_at t k))
unfolding grows_slowly
two_bands [] h j k m there = absurd (not-suc-le-zero there)
two_bands (b ∷ bs) h j zero m there = absurd (not-suc-le-zero m)
two_bands (b ∷ bs) h zero (suc k) m there =
    at_index (grows_little b) bs (and_left (list_all (grows_little b) bs) (grows_slowly bs) h) k (le_of_suc-le-suc there)
two_bands (b ∷ bs) h (suc j) (suc k) m there =
    two_bands bs (and_right (list_all (grows_little b) bs) (grows_slowly bs) h) j k (le_of_suc-le-suc m) (le_of_suc-le-suc there)

-- ---- from ladder price to ladder price

module _ (t : Table) (wf : T (well_formed t)) (slow : T (grows_slowly t)) where
  -- a band that goes on above a price comes before none that goes on above a lower one
  module _ (x y j k : ℕ) (of_x : UpInBand t x j) (of_y : UpInBand t y k) (m : x ≤ y) (goes_on : y < up t wf y) where
    in_order : j ≤ k
    in_order = go (dec_le j k)
      where
        go : Dec (j ≤ k) → j ≤ k
        go (yes h) = h
        go (no h) =
            let before = ladder_laws.bands_in_order t wf k j (omega arith) of_x.there in
            absurd (omega (arith, before, of_x.over, of_y.up_to))

    pub grows : GrowsLittle (band_at t j) (band_at t k)
    grows = go (dec_le k j)
      where
        go : Dec (k ≤ j) → GrowsLittle (band_at t j) (band_at t k)
        go (yes h) = let e : j ≡ k = omega (arith, in_order) in rw e (itself (band_at t k))
        go (no h) = little _ _ (two_bands t slow j k (omega arith) of_y.there)

  -- from a ladder price x on, below another one, `last`, each spread is no smaller than that of band j, which goes on above x
  module _ (x j : ℕ) (on : On t wf x) (of_x : UpInBand t x j) where
    abbrev s : ℕ
    s = (band_at t j).spread

    pub wide : (y last : ℕ) → On t wf y → On t wf last → x ≤ y → y < last → y + s ≤ up t wf y
    wide y last on there m below =
        let next = up_moves t wf y last there below in
        let end = (ladder_laws.ends_are_the_tables t wf).none_above last there in
        let of_y = ladder_laws.spread_of_the_band_above t wf y on (omega (arith, end)) in
        omega (arith, of_y.1.by_spread, (grows x y j of_y.0 of_x of_y.1 m next.0).rises)

    -- n of them reach `stop`, or lead n times as far
    pub reach : (n y stop : ℕ) → On t wf y → On t wf stop → x ≤ y → (stop ≤ times n (up t wf) y) ⊎ (y + n * s ≤ times n (up t wf) y)
    unfolding times
    reach zero y stop here there m = inr (omega arith)
    reach (suc n) y stop here there m = go (dec_le stop y) (reach n (up t wf y) stop)
      where
        go : Dec (stop ≤ y) →
            (On t wf (up t wf y) → On t wf stop → x ≤ up t wf y →
            (stop ≤ times n (up t wf) (up t wf y)) ⊎ (up t wf y + n * s ≤ times n (up t wf) (up t wf y))) →
            (stop ≤ times (suc n) (up t wf) y) ⊎ (y + suc n * s ≤ times (suc n) (up t wf) y)
        go (yes h) rest = inl (omega (arith, up_leads t wf (suc n) y))
        go (no h) rest =
            let next = up_moves t wf y stop there (omega arith) in
            let step = wide y stop here there m (omega arith) in
            ⊎_elim (λ a. inl a) (λ b. inr (omega (arith, b, step))) (rest next.2 there (omega (arith, next.0)))
