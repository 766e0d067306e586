-- The walk down, band by band.
use Rattle.std.proofs.Common.{◌≡◌, ℕ, ◌+◌, ◌-◌, length, take, refl, sym, ap, ◌∙◌, arith}
use Rattle.std.proofs.lemmas.List.{length-take-le}
use native.Mathlib.Nat.{le_of_lt}
use Rattle.ladder.proofs.Tables.Chain.{last_band}
use Rattle.ladder.proofs.Tables.Table.{band_facts}
use Rattle.ladder.proofs.Tables.Walks.{fall_stands, fall_ends, fall_leaves}
use Rattle.ladder.proofs.table.SpreadTable.walk_down.Goals as goal

pub loop-band-init : goal.loop-band-init
loop-band-init c =
    let t = c.args.self.now.bands.now in
    let bands = c.into_iter-band-iterator.result.iter.rest.now in
    let whole : c.args.index + 1 - 0 ≡ c.args.index + 1 = omega arith in
    let are : bands ≡ take (c.args.index + 1) t = rw (c.into_iter-band-iterator.ensures.into_iter_gives, c.rev-band-items.ensures.source) (c.iter.ensures.rest ∙ ap (λ (n : ℕ). take n t) whole) in
    let count : length bands ≡ c.args.index + 1 = ap length are ∙ length-take-le (c.args.index + 1) t (omega (arith, c.requires.index)) in
    let last : length bands - 1 ≡ c.args.index = omega arith in (
      rw count are,
      omega (arith, c.requires.index),
      record { stands = λ h. rw last c.requires; halts = λ h. absurd (omega arith); leads = refl },
    )

pub overflow_sub-at : goal.overflow_sub-at
overflow_sub-at c =
    let t = c.args.self.now.bands.now in
    let l = c.loop-band in
    let i = l.invariant in
    let band = last_band t _ _ _ i.0 i.1 c.in-Some.ensures.steps in
    rw band.2
    (fall_stands t c.args.self.now.is_well_formed c.args.price c.args.n l.at l.left _ _ band.0 band.3 _ band.2 i.2).low

pub turn_in-requires : goal.turn_in-requires
turn_in-requires c =
    let t = c.args.self.now.bands.now in
    let i = c.loop-band.invariant in
    let band = last_band t _ _ _ i.0 i.1 c.in-Some.ensures.steps in
    (band_facts t c.args.self.now.is_well_formed _ band.3 _ band.2).spreads

pub returns-in-Ends : goal.returns-in-Ends
returns-in-Ends c =
    let t = c.args.self.now.bands.now in
    let l = c.loop-band in
    let i = l.invariant in
    let band = last_band t _ _ _ i.0 i.1 c.in-Some.ensures.steps in
    fall_ends t c.args.self.now.is_well_formed c.args.price c.args.n l.at l.left _ _ band.0 band.3 _ band.2 i.2 _ c.in-Ends.ensures

pub loop-band-preserved : goal.loop-band-preserved
loop-band-preserved c =
    let t = c.args.self.now.bands.now in
    let l = c.loop-band in
    let i = l.invariant in
    let band = last_band t _ _ _ i.0 i.1 c.in-Some.ensures.steps in (
      band.1,
      le_of_lt band.3,
      fall_leaves t c.args.self.now.is_well_formed c.args.price c.args.n l.at l.left _ _ band.0 band.3 _ band.2 i.2 _ c.in-Leaves.ensures,
    )

pub returns : goal.returns
returns c =
    let i = c.loop-band.invariant in
    sym (i.2.halts c.in-None.ensures.steps.0 c.loop-band.left) ∙ i.2.leads
