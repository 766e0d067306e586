-- Where a threshold lands: in one of the bands between whose ends it lies, and in no other. As many bands before that one end below it.
use mathlib.Core.Path.{◌≡◌, refl, sym, ◌∙◌}
use Prim.Native.Nat.{ℕ, zero, suc, ◌+◌, ◌-◌, ◌*◌, ◌≤◌, ◌<◌}
use native.Mathlib.Nat.{not-suc-le-zero, le_of_suc-le-suc, mul-le-mul_left}
use native.Mathlib.Decide.{dec_le}
use native.Mathlib.Omega.{arith}
use mathlib.Core.Bool.{Bool, true, false, cond, ◌&&◌, ◌||◌}
use mathlib.Core.Logic.{◌⊎◌, inl, inr, ⊎_elim}
use mathlib.Core.List.{List, [], ◌∷◌}
use lib.Dec.{T, eqb, ltb, leb, eqb→eq, eqb_refl, ltb→lt, lt→ltb, leb→le, le→leb}
use lib.ListN.{length, take, drop}
use borrow.Author.Tests.{lt-ltb, le-ltb}
use Rattle.std.specs.List.{count_by}
use Rattle.std.proofs.lemmas.List.{get_or_past, length-take-le, length-drop, get_or-take, get_or-drop}
use Rattle.std.proofs.lemmas.List.Recursion.{is_count_by}
use Rattle.tables.specs.declared.Band.{Band}
use Rattle.tables.specs.Bands.{no_band}
use Rattle.ladder.specs.Trying.{lands}
use Rattle.ladder.specs.Arithmetic.{count_below}
use Rattle.facts.proofs.Tests.{and_left, and_right, and_both, or_left, or_right, or_cases}
use Rattle.ladder.proofs.Tables.Chain.{Chain, band_at, band_after, band_whole}

-- y / scale lies over the bottom of band k, or is the first bottom
abbrev pub Over : ℕ → ℕ → List Band → ℕ → Type 0
Over scale y t k = (scale * (band_at t k).bottom < y) ⊎ ((k ≡ 0) × (scale * (band_at t k).bottom ≡ y))

-- band k holds y / scale, as facts
pub record Lands (scale y : ℕ) (t : List Band) (k : ℕ) : Type 0 where
  pub index : k < length t
  pub over : Over scale y t k
  pub under : y ≤ scale * (band_at t k).top

module _ (scale y : ℕ) (t : List Band) (k : ℕ) where
  abbrev low : ℕ
  low = scale * (band_at t k).bottom

  abbrev high : ℕ
  high = scale * (band_at t k).top

  pub over_is : Over scale y t k → T (ltb low y || eqb k 0 && eqb low y)
  over_is o =
      ⊎_elim (λ l. or_left (ltb low y) (eqb k 0 && eqb low y) (lt→ltb low y l))
      (λ e. or_right (ltb low y) (eqb k 0 && eqb low y) (and_both (eqb k 0) (eqb low y) (rw e.0 tt) (rw e.1 (eqb_refl y)))) o

  pub is_over : T (ltb low y || eqb k 0 && eqb low y) → Over scale y t k
  is_over h =
      ⊎_elim (λ l. inl (ltb→lt low y l))
      (λ e. inr (eqb→eq k 0 (and_left (eqb k 0) (eqb low y) e), eqb→eq low y (and_right (eqb k 0) (eqb low y) e)))
      (or_cases (ltb low y) (eqb k 0 && eqb low y) h)

  pub facts_land : Lands scale y t k → T (lands scale y t k)
  facts_land l = and_both (ltb low y || eqb k 0 && eqb low y) (leb y high) (over_is l.over) (le→leb y high l.under)

  -- past the end of a table there is no band to hold it
  pub lands_facts : 0 < length t → T (lands scale y t k) → Lands scale y t k
  lands_facts some h = record { index = index; over = over; under = under }
    where
      over : Over scale y t k
      over = is_over (and_left (ltb low y || eqb k 0 && eqb low y) (leb y high) h)

      under : y ≤ high
      under = leb→le y high (and_right (ltb low y || eqb k 0 && eqb low y) (leb y high) h)

      index : k < length t
      index = go (dec_le (length t) k)
        where
          go : Dec (length t ≤ k) → k < length t
          go (yes u) = ⊎_elim (λ l. absurd (past l)) (λ e. omega (arith, e.0, some)) over
            where
              none : band_at t k ≡ no_band
              none = get_or_past t k no_band u

              past : low < y → ⊥
              past l = let below : scale * 0 < y = rw none at l in let above : y ≤ scale * 0 = rw none at under in omega arith
          go (no u) = omega arith

-- a test that the first m bands of a list pass, and no others
counting : (Band → Bool) → List Band → ℕ
counting test [] = 0
counting test (b ∷ bs) = cond (test b) (1 + counting test bs) (counting test bs)

counts_first : (test : Band → Bool) (l : List Band) (m : ℕ) → m ≤ length l → ((i : ℕ) → i < m → test (band_at l i) ≡ true) →
    ((i : ℕ) → m ≤ i → i < length l → test (band_at l i) ≡ false) → counting test l ≡ m
unfolding counting
counts_first test [] m h pass fail = omega arith
counts_first test (b ∷ bs) zero h pass fail =
    let rest = counts_first test bs 0 (omega arith) (λ i k. absurd (not-suc-le-zero k)) (λ i k j. fail (suc i) (omega arith) (omega arith)) in
    rw (fail 0 (omega arith) (omega arith)) rest
counts_first test (b ∷ bs) (suc m) h pass fail =
    let rest = counts_first test bs m (le_of_suc-le-suc h) (λ i k. pass (suc i) (omega arith)) (λ i k j. fail (suc i) (omega arith) (omega arith)) in
    rw (pass 0 (omega arith)) (omega (arith, rest))

count_first : (test : Band → Bool) (l : List Band) (m : ℕ) → m ≤ length l → ((i : ℕ) → i < m → test (band_at l i) ≡ true) →
    ((i : ℕ) → m ≤ i → i < length l → test (band_at l i) ≡ false) → count_by test l ≡ m
unfolding counting
count_first test l m h pass fail = sym (is_count_by (counting test) test refl (λ b bs. refl) l) ∙ counts_first test l m h pass fail

module _ (a : ℕ) (t : List Band) (c : Chain a t) where
  -- no band ends above the bottom of a later one
  pub ends_before : (j k : ℕ) → j < k → k < length t → (band_at t j).top ≤ (band_at t k).bottom
  ends_before j zero h m = absurd (not-suc-le-zero h)
  ends_before j (suc k) h m = go (dec_le k j) (ends_before j k)
    where
      after : (band_at t (suc k)).bottom ≡ (band_at t k).top
      after = band_after a t c k m

      go : Dec (k ≤ j) → (j < k → k < length t → (band_at t j).top ≤ (band_at t k).bottom) → (band_at t j).top ≤ (band_at t (suc k)).bottom
      go (yes u) rest = let e : j ≡ k = omega arith in rw e (omega (arith, after))
      go (no u) rest = omega (arith, after, rest (omega arith) (omega arith), (band_whole a t c k (omega arith)).rises)

  -- bottoms and tops rise
  module _ (j k : ℕ) (h : j ≤ k) (m : k < length t) where
    rise_by : (A : Type 0) → (j ≡ k → A) → ((band_at t j).top ≤ (band_at t k).bottom → A) → A
    rise_by A f g = go (dec_le k j)
      where
        go : Dec (k ≤ j) → A
        go (yes u) = f (omega arith)
        go (no u) = g (ends_before j k (omega arith) m)

    pub bottoms_rise : (band_at t j).bottom ≤ (band_at t k).bottom
    bottoms_rise = rise_by ((band_at t j).bottom ≤ (band_at t k).bottom) (λ e. rw e (omega arith)) (λ u. omega (arith, u, (band_whole a t c j (omega arith)).rises))

    pub tops_rise : (band_at t j).top ≤ (band_at t k).top
    tops_rise = rise_by ((band_at t j).top ≤ (band_at t k).top) (λ e. rw e (omega arith)) (λ u. omega (arith, u, (band_whole a t c k m).rises))

  module _ (scale y : ℕ) where
    not_both : (j k : ℕ) → j < k → Lands scale y t j → Lands scale y t k → ⊥
    not_both j k h m n =
        ⊎_elim (λ l. omega (arith, m.under, l, mul-le-mul_left scale (ends_before j k h n.index))) (λ e. omega (arith, e.0)) n.over

    -- where it lies over the bottom of a band it lies over that of each band before it
    pub over_before : (j k : ℕ) → j ≤ k → k < length t → Over scale y t k → Over scale y t j
    over_before j k h m o =
        ⊎_elim (λ l. inl (omega (arith, l, mul-le-mul_left scale (bottoms_rise j k h m)))) (λ e. let same : j ≡ k = omega (arith, e.0) in rw same (inr e)) o

    -- y / scale lands in one band only
    pub lands_once : (j k : ℕ) → Lands scale y t j → Lands scale y t k → j ≡ k
    lands_once j k m n = go (dec_le j k) (dec_le k j)
      where
        go : Dec (j ≤ k) → Dec (k ≤ j) → j ≡ k
        go (yes u) (yes v) = omega arith
        go (yes u) (no v) = absurd (not_both j k (omega arith) m n)
        go (no u) v = absurd (not_both k j (omega arith) n m)

    -- between the bottom of a band and the top of one m bands on
    pub lands_between : (first m : ℕ) → first + m < length t → Over scale y t first → y ≤ scale * (band_at t (first + m)).top →
        (k : ℕ) × (first ≤ k) × (k ≤ first + m) × Lands scale y t k
    lands_between first zero h low high =
        let same : first + 0 ≡ first = omega arith in
        (first, omega arith, omega arith, record { index = omega arith; over = low; under = rw same at high })
    lands_between first (suc m) h low high = go (dec_le y (scale * (band_at t first).top)) (lands_between (suc first) m)
      where
        go : Dec (y ≤ scale * (band_at t first).top) → (suc first + m < length t → Over scale y t (suc first) →
            y ≤ scale * (band_at t (suc first + m)).top → (k : ℕ) × (suc first ≤ k) × (k ≤ suc first + m) × Lands scale y t k) →
            (k : ℕ) × (first ≤ k) × (k ≤ first + suc m) × Lands scale y t k
        go (yes u) rest = (first, omega arith, omega arith, record { index = omega arith; over = low; under = u })
        go (no u) rest =
            let after : (band_at t (suc first)).bottom ≡ (band_at t first).top = band_after a t c first (omega arith) in
            let same : first + suc m ≡ suc first + m = omega arith in
            let r = rest (omega arith) (inl (rw after (omega arith))) (rw same at high) in
            (r.0, omega (arith, r.1), omega (arith, r.2), r.3)

    -- of the bands of a part those before the one where y / scale lands end below it
    pub counts_to : (first end k : ℕ) → first ≤ k → k < end → end ≤ length t → Lands scale y t k →
        first + count_below scale y (take (end - first) (drop first t)) ≡ k
    counts_to first end k low high there l =
        let count = count_first test part (k - first) (omega (arith, long)) pass fail in omega (arith, count)
      where
        test : Band → Bool
        test b = ltb (scale * b.top) y

        part : List Band
        part = take (end - first) (drop first t)

        long : length part ≡ end - first
        long = length-take-le (end - first) (drop first t) (omega (arith, length-drop first t))

        part_band : (i : ℕ) → i < end - first → band_at part i ≡ band_at t (first + i)
        part_band i h = get_or-take (end - first) (drop first t) i no_band h ∙ get_or-drop first t i no_band

        pass : (i : ℕ) → i < k - first → test (band_at part i) ≡ true
        pass i h =
            rw (part_band i (omega arith))
            (lt-ltb _ _
            (⊎_elim (λ o. omega (arith, o, mul-le-mul_left scale (ends_before (first + i) k (omega arith) l.index)))
            (λ e. absurd (omega (arith, e.0))) l.over))

        fail : (i : ℕ) → k - first ≤ i → i < length part → test (band_at part i) ≡ false
        fail i h m =
            rw (part_band i (omega (arith, long)))
            (le-ltb _ _ (omega (arith, l.under, mul-le-mul_left scale (tops_rise k (first + i) (omega arith) (omega (arith, long))))))
