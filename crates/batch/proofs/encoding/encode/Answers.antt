-- Three numbers, one after the other.
use Rattle.std.proofs.Common.{refl}
use Rattle.little_endian.specs.Numbers.{four_bytes}
use Rattle.batch.specs.Record.{encoded}
use Rattle.batch.proofs.Parts.{three_parts}
use Rattle.batch.proofs.encoding.encode.Goals as goal

pub returns : goal.returns
unfolding encoded
returns c =
    let a = c.args.answer in
    rw (c.put.ensures, c.put-2.ensures, c.put-3.ensures)
    (three_parts c.args.part.now (four_bytes a.number) (four_bytes a.lowest) (four_bytes a.highest) c.requires refl refl)
