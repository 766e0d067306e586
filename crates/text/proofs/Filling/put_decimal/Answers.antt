use Rattle.std.proofs.Common.{[], ◌/◌, ◌%◌, length-append, arith}
use Rattle.text.specs.Decimal.{two_digits, decimal}
use Rattle.text.proofs.Parts.{filled_by_parts}
use Rattle.text.proofs.Decimals.{one_digit, two_digits_lem, last_two}
use Rattle.text.proofs.Filling.put_decimal.Goals as goal

-- where a turn begins, two digits are still to be written after the others
pub put_pair-requires-clause-fits : goal.put_pair-requires-clause-fits
put_pair-requires-clause-fits c =
    let left = rw (last_two c.loop-rest.rest (omega arith)) at ((filled_by_parts _ _).fits c.loop-rest.invariant c.requires) in
    omega (arith, left, length-append (decimal (c.loop-rest.rest / 100)) (two_digits (c.loop-rest.rest % 100)))

pub loop-rest-preserved : goal.loop-rest-preserved
loop-rest-preserved c =
    (filled_by_parts _ _).further c.loop-rest.invariant (last_two c.loop-rest.rest (omega arith)) c.put_pair.ensures

-- where the loop has ended, one digit or two are still to be written
pub put-requires : goal.put-requires
put-requires c = rw (one_digit c.loop-rest.rest (omega arith)) at ((filled_by_parts _ _).fits c.loop-rest.invariant c.requires)

pub returns-then-rest-lt10 : goal.returns-then-rest-lt10
returns-then-rest-lt10 c =
    (filled_by_parts _ _).ended
    ((filled_by_parts _ _).further {less = []} c.loop-rest.invariant (one_digit c.loop-rest.rest (omega arith)) (rw (← c.digit.ensures) c.put.ensures))

pub put_pair-requires-2-clause-fits : goal.put_pair-requires-2-clause-fits
put_pair-requires-2-clause-fits c =
    rw (two_digits_lem c.loop-rest.rest (omega arith) (omega arith)) at ((filled_by_parts _ _).fits c.loop-rest.invariant c.requires)

pub returns : goal.returns
returns c =
    (filled_by_parts _ _).ended
    ((filled_by_parts _ _).further {less = []} c.loop-rest.invariant (two_digits_lem c.loop-rest.rest (omega arith) (omega arith))
    c.put_pair-2.ensures)
