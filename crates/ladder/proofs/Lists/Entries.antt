-- Places on a list: what stands at a place, and the place of what stands there.
use Rattle.std.specs.Prelude.{Some, None}
use mathlib.Core.Path.{◌≡◌, refl, ap, sym, ◌∙◌}
use Prim.Native.Nat.{suc-le-suc, ◌<◌, ℕ, zero, suc, ◌+◌, ◌≤◌}
use native.Mathlib.Nat.{suc_inj, not-suc-le-zero, le_of_suc-le-suc}
use native.Mathlib.Omega.{arith}
use mathlib.Core.Bool.{Bool, true, false, cond}
use mathlib.Core.List.{List, [], ◌∷◌}
use borrow.Author.Tests.{eq-eqb, ne_eqb, eqb-true}
use lib.Dec.{T, eqb}
use lib.ListN.{length}
use Rattle.facts.specs.Lists.{holds, Rising}
use Rattle.ladder.specs.Places.{price_at, place_from, first_price, last_after, last_price}
use Rattle.facts.proofs.Lists.{held_cases, held_first, held_rest, held_none, Next, behind, front}

-- nothing found is no price
pub no_price : {C : Type 0} (p : ℕ) → None ≡ Some p → C
no_price p e = absurd (grind arith)

-- the members at places k and k + 1 are neighbours
pub next_at : (l : List ℕ) → Rising l → (k p q : ℕ) → price_at k l ≡ Some p → price_at (suc k) l ≡ Some q → Next l p q
unfolding price_at
next_at [] r k p q i j = no_price p i
next_at (a ∷ []) r zero p q i j = no_price q j
next_at (a ∷ b ∷ l) r zero p q i j =
    let e : p ≡ a = cc in
    let f : q ≡ b = cc in
    rw (e, f) (front a b l r)
next_at (a ∷ []) r (suc k) p q i j = no_price p i
next_at (a ∷ b ∷ l) r (suc k) p q i j = behind a (b ∷ l) r.0 p q (next_at (b ∷ l) r.1 k p q i j)

-- what stands at a place is a member
pub entry_held : (l : List ℕ) (k p : ℕ) → price_at k l ≡ Some p → T (holds p l)
unfolding price_at
entry_held [] k p e = no_price p e
entry_held (a ∷ l) zero p e = let i : p ≡ a = cc in rw i (held_first a l)
entry_held (a ∷ l) (suc k) p e = held_rest a l p (entry_held l k p e)

-- a member stands at a place
pub held_entry : (l : List ℕ) (p : ℕ) → T (holds p l) → (k : ℕ) × (price_at k l ≡ Some p)
unfolding price_at
held_entry [] p h = held_none p h
held_entry (a ∷ l) p h = held_cases a l p h (λ e. (0, ap Some (sym e))) (λ m. go (held_entry l p m))
  where
    go : (k : ℕ) × (price_at k l ≡ Some p) → (k : ℕ) × (price_at k (a ∷ l) ≡ Some p)
    go e = (suc e.0, e.1)

-- the place of the member at place k is k
pub place_of_entry : (l : List ℕ) → Rising l → (j k p : ℕ) → price_at k l ≡ Some p → place_from j p l ≡ Some (j + k)
unfolding price_at place_from
place_of_entry [] r j k p e = no_price p e
place_of_entry (a ∷ l) r j zero p e =
    let i : p ≡ a = cc in
    rw (eq-eqb p a i) (ap Some (omega arith))
place_of_entry (a ∷ l) r j (suc k) p e =
    let m : a < p = r.0 p (entry_held l k p e) in
    rw (ne_eqb p a (λ i. omega arith)) (place_of_entry l r.1 (suc j) k p e ∙ ap Some (omega arith))

-- what is no member has no place
pub place_off : (l : List ℕ) (j p : ℕ) → (T (holds p l) → ⊥) → place_from j p l ≡ None
unfolding place_from
place_off [] j p h = refl
place_off (a ∷ l) j p h =
    rw (ne_eqb p a (λ i. h (rw i (held_first a l)))) (place_off l (suc j) p (λ m. h (held_rest a l p m)))

-- the member whose place is m stands there
pub entry_of_place : (l : List ℕ) (j m p : ℕ) → place_from j p l ≡ Some m → (k : ℕ) × (m ≡ j + k) × (price_at k l ≡ Some p)
unfolding price_at place_from
entry_of_place [] j m p e = absurd (grind arith)
entry_of_place (a ∷ l) j m p e = go (eqb p a) refl e (entry_of_place l (suc j) m p)
  where
    go : (b : Bool) → eqb p a ≡ b → cond b (Some j) (place_from (suc j) p l) ≡ Some m →
        (place_from (suc j) p l ≡ Some m → (k : ℕ) × (m ≡ suc j + k) × (price_at k l ≡ Some p)) →
        (k : ℕ) × (m ≡ j + k) × (price_at k (a ∷ l) ≡ Some p)
    go true t i rest = (0, (let u : j ≡ m = cc in omega arith), ap Some (sym (eqb-true p a t)))
    go false t i rest = let r = rest i in (suc r.0, (let u : m ≡ suc j + r.0 = r.1 in omega arith), r.2)

-- each place below the number of prices has a price, and no other
pub at_place : (l : List ℕ) (k : ℕ) → k < length l → (p : ℕ) × (price_at k l ≡ Some p)
unfolding price_at
at_place [] k h = absurd (not-suc-le-zero h)
at_place (a ∷ l) zero h = (a, refl)
at_place (a ∷ l) (suc k) h = at_place l k (le_of_suc-le-suc h)

pub past : (l : List ℕ) (k : ℕ) → length l ≤ k → price_at k l ≡ None
unfolding price_at
past [] k h = refl
past (a ∷ l) zero h = absurd (not-suc-le-zero h)
past (a ∷ l) (suc k) h = past l k (le_of_suc-le-suc h)

-- a place with a price is below the number of prices
pub entry_below : (l : List ℕ) (k p : ℕ) → price_at k l ≡ Some p → k < length l
unfolding price_at
entry_below [] k p e = no_price p e
entry_below (a ∷ l) zero p e = omega arith
entry_below (a ∷ l) (suc k) p e = suc-le-suc (entry_below l k p e)

-- the price at the first place, and at the last
pub first_entry : (l : List ℕ) (p : ℕ) → price_at 0 l ≡ Some p → p ≡ first_price l
unfolding price_at
first_entry [] p e = no_price p e
first_entry (a ∷ l) p e = cc

pub last_entry : (l : List ℕ) (k p : ℕ) → price_at k l ≡ Some p → suc k ≡ length l → p ≡ last_price l
unfolding price_at last_after
last_entry [] k p e h = no_price p e
last_entry (a ∷ []) zero p e h = cc
last_entry (a ∷ []) (suc k) p e h = no_price p e
last_entry (a ∷ b ∷ l) zero p e h = absurd (omega arith)
last_entry (a ∷ b ∷ l) (suc k) p e h = last_entry (b ∷ l) k p e (suc_inj h)
