-- The laws of specs/Laws.antt, proved. Other crates see them as fields of ladder_laws, and nothing else of this folder.
use Rattle.std.specs.Prelude.{[], Option, Some, None}
use mathlib.Core.Path.{◌≡◌, refl, ap, sym, ◌∙◌}
use Prim.Native.Nat.{ℕ, ◌+◌, ◌-◌, ◌≤◌, ◌<◌}
use native.Mathlib.Nat.{zero-add, le_refl, le_trans}
use native.Mathlib.Omega.{arith}
use mathlib.Core.Bool.{Bool, true, false, cond, not, ◌||◌}
use mathlib.Core.List.{List}
use lib.Dec.{T, eqb, ltb→lt, lt→ltb}
use lib.ListN.{length}
use Rattle.facts.specs.Lists.{holds}
use Rattle.tables.specs.declared.Band.{Band}
use Rattle.tables.specs.Bands.{well_formed}
use Rattle.tables.specs.Named.{before_phase1, phase1, phase2, table_named}
use Rattle.ladder.specs.Ladder.{rungs, band_prices, ladder, is_ladder_price}
use Rattle.ladder.specs.Search.{first, latest_after, latest, above, below}
use Rattle.ladder.specs.Places.{price_at, place_from, place_of, last_after, first_price, last_price, is_outside}
use Rattle.ladder.specs.Trying.{order, lands}
use Rattle.ladder.specs.Spreads.{spread_up, spread_down, times, if_within}
use Rattle.ladder.specs.Laws.{TheTables, SameEnds, Nothing, NothingOnUnknown, TheLadder, LadderRises, EndsAreTheTables, NeverZero, PlacesAreInverse}
use Rattle.ladder.specs.Laws.{BandsInOrder, FoundHolds, MoreFind, ThreeFind, NoBandOnUnknown}
use Rattle.ladder.specs.Laws.{Extreme, Least, Greatest, NonePasses, Finds, FirstIsSmallest, LatestIsLargest}
use Rattle.ladder.specs.Laws.{SpreadUpIsNext, SpreadOfTheBandAbove, SpreadDownIsPrevious, FirstToTheNearest, SpreadsStay, OnlyWithinTheEnds}
use Rattle.ladder.specs.Laws.{NThenM, GoingByPlaces, UpThenDown, SpreadsKeepOrder, RoundingKeepsOrder, LadderLaws}
use Rattle.tables.proofs.Laws.{table_laws}
use Rattle.ladder.proofs.ByNumber.{none, no_band}
use Rattle.ladder.proofs.Lists.Ends.{over_first, under_last, first_held, last_held, Within, within, not_outside, held_within}
use Rattle.ladder.proofs.Lists.Entries.{at_place, past, entry_held, held_entry, place_of_entry, place_off, entry_of_place}
use Rattle.ladder.proofs.Lists.Extremes.{Best, NonePass, FoundIs, result_is, result_none, least_one, greatest_one, first_result, latest_result}
use Rattle.ladder.proofs.Lists.Moves.{times_add}
use Rattle.ladder.proofs.Lists.Going.{ups_entry, downs_entry}
use Rattle.ladder.proofs.Lists.Order.{up_by, down_by, up_leads, down_leads, up_on, down_on, up_lands, down_lands, times_keep, times_lead}
use Rattle.ladder.proofs.Lists.Order.{spreads_up_order, spreads_down_order, at_least_order, at_most_order}
use Rattle.ladder.proofs.Tables.Table.{start, start_held, table_facts, first_is_start, last_is_top, ladder_rises as rises}
use Rattle.ladder.proofs.Lists.Finding.{found_longer}
use Rattle.ladder.proofs.Tables.Members.{the_members}
use Rattle.ladder.proofs.Tables.Landing.{ends_before}
use Rattle.ladder.proofs.Tables.Trying.{Busy, one_lands, found_held, three_find as busy_three}
use Rattle.ladder.proofs.Tables.Stands.{found_all}
use Rattle.ladder.proofs.Tables.NextUp.{up_in_band}

-- counted once for each table, by computation
the_tables : TheTables
unfolding table_named before_phase1 phase1 phase2 ladder band_prices rungs price_at
the_tables =
    record {
      before_phase1_lem = record { prices = refl; first_place = refl; last_place = refl; no_more = refl };
      phase1_lem = record { prices = refl; first_place = refl; last_place = refl; no_more = refl };
      phase2_lem = record { prices = refl; first_place = refl; last_place = refl; no_more = refl };
    }

nothing : Nothing []
unfolding is_outside price_at place_from first latest_after
nothing =
    record {
      outside = λ p. refl;
      no_up = λ p n. refl;
      no_down = λ p n. refl;
      no_place = λ p. refl;
      no_price = λ k. refl;
      no_first = λ test. refl;
      no_latest = λ test. refl;
    }

nothing_on_unknown : NothingOnUnknown
nothing_on_unknown n unknown = rw (← none n (sym unknown)) nothing

-- ---- the list

the_ladder : TheLadder
the_ladder = the_members

-- a member is a ladder price, and a ladder price a member
module _ (t : List Band) (wf : T (well_formed t)) where
  priced : (p : ℕ) → T (holds p (ladder t)) → T (is_ladder_price p t)
  priced p h = rw (← (the_members t wf p)) h

  listed : (p : ℕ) → T (is_ladder_price p t) → T (holds p (ladder t))
  listed p h = rw (the_members t wf p) h

ladder_rises : LadderRises
ladder_rises = rises

ends_are_the_tables : EndsAreTheTables
ends_are_the_tables t wf =
    record {
      first_is_bottom = first_is_start t wf;
      last_is_top = last_is_top t wf (length t - 1) (omega (arith, (table_facts t wf).some));
      first_on = priced t wf _ (first_held (ladder t) (start t) (start_held t wf));
      last_on = priced t wf _ (last_held (ladder t) (start t) (start_held t wf));
      none_below = λ p on. over_first (ladder t) (rises t wf) p (listed t wf p on);
      none_above = λ p on. under_last (ladder t) (rises t wf) p (listed t wf p on);
      none_outside = λ p on. held_within (ladder t) (rises t wf) p (listed t wf p on);
      within = λ p w. let r = within (ladder t) p w in (r.low, r.high);
      not_outside = λ p low high. not_outside (ladder t) (start t) p (start_held t wf) (record { low = low; high = high });
    }

same_ends : SameEnds
same_ends n known =
    let ends = ends_are_the_tables (table_named n) ((table_laws.named_tables n).well_formed_lem known) in
    let edges = table_laws.same_edges n known in
    record { from_first = ends.first_is_bottom ∙ edges.first_bottom; to_last = ends.last_is_top ∙ edges.last_top }

never_zero : NeverZero
never_zero t wf p w = omega (arith, (within (ladder t) p w).low, first_is_start t wf, (table_facts t wf).positive)

-- ---- places

places_are_inverse : PlacesAreInverse
places_are_inverse t wf =
    record {
      place_of_price = place;
      price_of_place = λ k p e. let r = entry_of_place (ladder t) 0 k p e in let i : r.0 ≡ k = sym (r.1 ∙ zero-add r.0) in rw i at r.2;
      price_has_place = λ p h. let r = held_entry (ladder t) p (listed t wf p h) in (r.0, place r.0 p r.1);
      place_has_price = at_place (ladder t);
      off_the_ladder = λ p h. place_off (ladder t) 0 p (λ m. h (priced t wf p m));
      above_the_last = past (ladder t);
    }
  where
    place : (k p : ℕ) → price_at k (ladder t) ≡ Some p → place_of p (ladder t) ≡ Some k
    place k p e = place_of_entry (ladder t) (rises t wf) 0 k p e ∙ ap Some (zero-add k)

-- ---- bands, and the band of a price

bands_in_order : BandsInOrder
bands_in_order t wf j k less there = omega (arith, ends_before (start t) t (table_facts t wf).chain j k less there)

found_holds : FoundHolds
found_holds t p allowed k e = let r = found_held t p allowed k e in record { index = r.0; held = r.1 }

more_find : MoreFind
more_find t p a b k = found_longer (lands 1 p t) (order (length t)) a b k

-- by what is tested: the number is 1, 2, 3. Each table is looked at once, by computation
picked_busy : (one two three : Bool) → not (one || two || three) ≡ false →
    Busy (cond one before_phase1 (cond two phase1 (cond three phase2 []))) 500 50000
unfolding before_phase1 phase1 phase2
picked_busy true two three e = record { tried = refl; bands = omega arith; from = refl; to = refl }
picked_busy false true three e = record { tried = refl; bands = omega arith; from = refl; to = refl }
picked_busy false false true e = record { tried = refl; bands = omega arith; from = refl; to = refl }
picked_busy false false false e = absurd (grind arith)

three_find : ThreeFind
unfolding table_named
three_find n known = busy_three (table_named n) ((table_laws.named_tables n).well_formed_lem known) 500 50000 (picked_busy (eqb n 1) (eqb n 2) (eqb n 3) known)

no_band_on_unknown : NoBandOnUnknown
no_band_on_unknown n unknown p allowed = sym (no_band n (sym unknown) p allowed)

-- ---- searches

module _ (t : List Band) (wf : T (well_formed t)) (R : ℕ → ℕ → Type 0) (test : ℕ → Bool) where
  -- the extreme member of the list is the extreme ladder price, and the reverse
  extreme_of : (q : ℕ) → Best R test (ladder t) q → Extreme R t test q
  extreme_of q b = record { on = priced t wf q b.on; passes = b.passes; extreme = λ x h m. b.extreme x (listed t wf x h) m }

  best_of : (q : ℕ) → Extreme R t test q → Best R test (ladder t) q
  best_of q b = record { on = listed t wf q b.on; passes = b.passes; extreme = λ x h m. b.extreme x (priced t wf x h) m }

  -- what a search of the list finds, as a law about ladder prices
  finds_of : (answer : Option ℕ) → ((x y : ℕ) → R x y → R y x → x ≡ y) → FoundIs R test (ladder t) answer → Finds R t test answer
  finds_of answer one result =
      record {
        found = λ q e. extreme_of q (rw e at result);
        finds = λ q b. result_is R one test (ladder t) answer q result (best_of q b);
        nothing = λ e x h m. none (rw e at result) x h m;
        none = λ n. result_none R test (ladder t) answer result (λ x h m. n x (priced t wf x h) m);
      }
    where
      none : FoundIs R test (ladder t) None → NonePasses t test
      none n x h m = n x (listed t wf x h) m

first_is_smallest : FirstIsSmallest
first_is_smallest t wf test = finds_of t wf Least test (first test (ladder t)) least_one (first_result test (ladder t) (rises t wf))

latest_is_largest : LatestIsLargest
latest_is_largest t wf test = finds_of t wf Greatest test (latest test (ladder t)) greatest_one (latest_result test (ladder t) (rises t wf))

-- ---- spreads

-- a single spread, either way: it ends where `by` says, on the extreme price that passes, or stays at p
module _ (t : List Band) (wf : T (well_formed t)) (R : ℕ → ℕ → Type 0) (test : ℕ → Bool) (p spread : ℕ)
    (by : (P : ℕ → Type 0) → ((q : ℕ) → Best R test (ladder t) q → P q) → (NonePass test (ladder t) → P p) → P spread) where
  moved : (x : ℕ) → T (is_ladder_price x t) → T (test x) → Extreme R t test spread
  moved x on m = by (Extreme R t test) (extreme_of t wf R test) (λ n. absurd (n x (listed t wf x on) m))

  stayed : NonePasses t test → spread ≡ p
  stayed none = by (λ q. q ≡ p) (λ q b. absurd (none q (priced t wf q b.on) b.passes)) (λ n. refl)

spread_up_is_next : SpreadUpIsNext
spread_up_is_next t wf p =
    let by = up_by (ladder t) (rises t wf) p in
    record {
      moves = λ x on over. moved t wf Least (above p) p _ by x on (lt→ltb p x over);
      stays = λ top. stayed t wf Least (above p) p _ by (λ q on m. absurd (omega (arith, top q on, ltb→lt p q m)));
    }

spread_of_the_band_above : SpreadOfTheBandAbove
spread_of_the_band_above t wf p on = up_in_band t wf p (listed t wf p on)

spread_down_is_previous : SpreadDownIsPrevious
spread_down_is_previous t wf p =
    let by = down_by (ladder t) (rises t wf) p in
    record {
      moves = λ x on under. moved t wf Greatest (below p) p _ by x on (lt→ltb x p under);
      stays = λ bottom. stayed t wf Greatest (below p) p _ by (λ q on m. absurd (omega (arith, bottom q on, ltb→lt q p m)));
    }

-- a spread stays within the ends
module _ (t : List Band) (wf : T (well_formed t)) where
  abbrev l : List ℕ
  l = ladder t

  up_inside : (p : ℕ) → is_outside p l ≡ false → is_outside (spread_up l p) l ≡ false
  up_inside p w = held_within l (rises t wf) _ (up_lands l (rises t wf) (start t) (start_held t wf) p (within l p w))

  down_inside : (p : ℕ) → is_outside p l ≡ false → is_outside (spread_down l p) l ≡ false
  down_inside p w = held_within l (rises t wf) _ (down_lands l (rises t wf) (start t) (start_held t wf) p (within l p w))

-- the first spread to the nearest: p is off the ladder, so that both ends lie beyond it
first_to_the_nearest : FirstToTheNearest
unfolding times
first_to_the_nearest t wf p w off =
    let l = ladder t in
    let up = (spread_up_is_next t wf p).moves (last_price l) (ends_are_the_tables t wf).last_on last_above in
    let down = (spread_down_is_previous t wf p).moves (first_price l) (ends_are_the_tables t wf).first_on first_below in
    record {
      above_has = (spread_up l p, up);
      up =
          λ q n b.
          nearest (spread_up l) (up_inside t wf) n q
          (least_one q (spread_up l p) (b.extreme _ up.on up.passes) (up.extreme q b.on b.passes));
      below_has = (spread_down l p, down);
      down =
          λ q n b.
          nearest (spread_down l) (down_inside t wf) n q
          (greatest_one q (spread_down l p) (b.extreme _ down.on down.passes) (down.extreme q b.on b.passes));
    }
  where
    ends : Within (ladder t) p
    ends = within (ladder t) p w

    last_above : p < last_price (ladder t)
    last_above = let not : p ≡ last_price (ladder t) → ⊥ = λ e. off (rw e (ends_are_the_tables t wf).last_on) in omega (arith, ends.high)

    first_below : first_price (ladder t) < p
    first_below = let not : p ≡ first_price (ladder t) → ⊥ = λ e. off (rw e (ends_are_the_tables t wf).first_on) in omega (arith, ends.low)

    nearest : (step : ℕ → ℕ) → ((x : ℕ) → is_outside x (ladder t) ≡ false → is_outside (step x) (ladder t) ≡ false) → (n q : ℕ) → q ≡ step p →
        if_within p (ladder t) (times n step (step p)) ≡ if_within q (ladder t) (times n step q)
    nearest step keeps n q e = rw (e, w, keeps p w)

spreads_stay : SpreadsStay
unfolding times
spreads_stay t wf n p =
    let l = ladder t in
    let r = rises t wf in
    record {
      up_above = times_lead ◌≤◌ le_refl (λ x y z a b. le_trans a b) (spread_up l) (up_leads l r) n p;
      down_below = times_lead (λ x y. y ≤ x) le_refl (λ x y z a b. le_trans b a) (spread_down l) (down_leads l r) n p;
      up_on = λ on. stays (spread_up l) (up_on l r) n p (listed t wf p on);
      down_on = λ on. stays (spread_down l) (down_on l r) n p (listed t wf p on);
      up_lands = λ w. stays (spread_up l) (up_on l r) n (spread_up l p) (up_lands l r (start t) (start_held t wf) p (within l p w));
      down_lands = λ w. stays (spread_down l) (down_on l r) n (spread_down l p) (down_lands l r (start t) (start_held t wf) p (within l p w));
    }
  where
    stays : (step : ℕ → ℕ) → ((p : ℕ) → T (holds p (ladder t)) → T (holds (step p) (ladder t))) → (n p : ℕ) → T (holds p (ladder t)) →
        T (is_ladder_price (times n step p) t)
    stays step on n p h = priced t wf _ (times_keep (λ q. T (holds q (ladder t))) step on n p h)

only_within_the_ends : OnlyWithinTheEnds
only_within_the_ends p l number =
    record {
      within = λ w. rw w;
      price = λ q e. price q (is_outside p l) refl e;
      nothing = λ e. nothing (is_outside p l) refl e;
    }
  where
    price : (q : ℕ) (v : Bool) → is_outside p l ≡ v → cond v None (Some number) ≡ Some q → (is_outside p l ≡ false) × (q ≡ number)
    price q true h i = absurd (grind arith)
    price q false h i = (h, (cc))

    nothing : (v : Bool) → is_outside p l ≡ v → cond v None (Some number) ≡ None → is_outside p l ≡ true
    nothing true h i = h
    nothing false h i = absurd (grind arith)

-- n steps and then m, for any step that stays within the ends
adds : (l : List ℕ) (step : ℕ → ℕ) → ((p : ℕ) → is_outside p l ≡ false → is_outside (step p) l ≡ false) → (n m p q : ℕ) →
    if_within p l (times n step p) ≡ Some q → if_within q l (times m step q) ≡ if_within p l (times (n + m) step p)
adds l step keeps n m p q e =
    let r = (only_within_the_ends p l (times n step p)).price q e in
    let inside : is_outside q l ≡ false = rw r.1 (times_keep (λ x. is_outside x l ≡ false) step keeps n p r.0) in
    rw (inside, r.0) (ap Some (ap (times m step) r.1 ∙ sym (times_add step n m p)))

n_then_m : NThenM
n_then_m t wf n m p q =
    record {
      up = adds (ladder t) (spread_up (ladder t)) (up_inside t wf) n m p q;
      down = adds (ladder t) (spread_down (ladder t)) (down_inside t wf) n m p q;
    }

going_by_places : GoingByPlaces
going_by_places t wf k p n e =
    let at = (places_are_inverse t wf).price_of_place k p e in
    let w = held_within (ladder t) (rises t wf) p (entry_held (ladder t) k p at) in
    record {
      up = rw w (sym (ups_entry (ladder t) (rises t wf) n k p at));
      down = rw w (sym (downs_entry (ladder t) (rises t wf) n k p at));
    }

up_then_down : UpThenDown
unfolding phase1 ladder band_prices rungs is_outside last_after first latest_after spread_up spread_down times
up_then_down = record { up = refl; then_down = refl }

-- ---- order

spreads_keep_order : SpreadsKeepOrder
spreads_keep_order t wf n p q m =
    record { up = spreads_up_order (ladder t) (rises t wf) n p q m; down = spreads_down_order (ladder t) (rises t wf) n p q m }

rounding_keeps_order : RoundingKeepsOrder
rounding_keeps_order t wf scale y z m =
    record {
      at_least_lem = at_least_order (ladder t) (rises t wf) scale y z m;
      at_most_lem = at_most_order (ladder t) (rises t wf) scale y z m;
    }

-- ---- all of them

pub ladder_laws : LadderLaws
ladder_laws =
    record {
      the_tables = the_tables;
      same_ends = same_ends;
      nothing_on_unknown = nothing_on_unknown;
      the_ladder = the_ladder;
      ladder_rises = ladder_rises;
      ends_are_the_tables = ends_are_the_tables;
      never_zero = never_zero;
      places_are_inverse = places_are_inverse;
      bands_in_order = bands_in_order;
      found_holds = found_holds;
      one_holds = one_lands;
      more_find = more_find;
      three_find = three_find;
      all_find = λ t wf p. found_all t wf p;
      no_band_on_unknown = no_band_on_unknown;
      first_is_smallest = first_is_smallest;
      latest_is_largest = latest_is_largest;
      spread_up_is_next = spread_up_is_next;
      spread_of_the_band_above = spread_of_the_band_above;
      spread_down_is_previous = spread_down_is_previous;
      first_to_the_nearest = first_to_the_nearest;
      spreads_stay = spreads_stay;
      only_within_the_ends = only_within_the_ends;
      n_then_m = n_then_m;
      going_by_places = going_by_places;
      up_then_down = up_then_down;
      spreads_keep_order = spreads_keep_order;
      rounding_keeps_order = rounding_keeps_order;
    }
