-- A text that is filled from its end, part by part: a `Filling` is a list whose end lies inside.
use mathlib.Core.Path.{refl, ◌∙◌}
use mathlib.Core.List.{[], ◌++◌, append_assoc}
use Rattle.text.specs.Decimal.{Text}
use Rattle.text.specs.declared.Filling.{Filling}
use Rattle.text.specs.Ending.{Written, FilledTo}
use Rattle.text.specs.Laws.{FilledByParts}
use Rattle.text.proofs.AnyEnd as any_end

-- x is written, and `rest` is not: a list that is filled so far
so_far : (rest x : Text) (was now : Filling) → Written x was now → FilledTo (rest ++ x) rest now.start was.start was.room.now now.room.now
so_far rest x was now w = record { done = x; whole = refl; place = w.start; text = w.text }

-- and then y in front of it
pub written_in_front : (x y : Text) (was next now : Filling) → Written x was next → Written y next now → Written (y ++ x) was now
written_in_front x y was next now w v =
    let both = any_end.further (y ++ x) y next.start was.start was.room.now next.room.now (so_far y x was next w) was.within [] y refl now.start v.start now.room.now v.text in
    let all = any_end.ended (y ++ x) now.start was.start was.room.now now.room.now both in
    record { start = all.0; text = all.1; same_room = v.same_room ∙ w.same_room }

pub filled_by_parts : FilledByParts
filled_by_parts all was =
    let nothing = any_end.begun all was.start was.room.now in
    record {
      begun =
          record {
            done = nothing.done;
            whole = nothing.whole;
            written = record { start = nothing.place; text = nothing.text; same_room = refl };
          };
      fits = λ {rest} {now} f h.
          any_end.room (rest ++ f.done) rest now.start was.start was.room.now now.room.now (so_far rest f.done was now f.written) (rw (← f.whole) h);
      further = λ {rest} {less} {x} {now} {next} f split w.
          record {
            done = x ++ f.done;
            whole = f.whole ∙ rw split (append_assoc less x f.done);
            written = written_in_front f.done x was now next f.written w;
          };
      same_length = λ {rest} {now} f.
          any_end.same_length (rest ++ f.done) rest now.start was.start was.room.now now.room.now (so_far rest f.done was now f.written) was.within;
      ended = λ {now} f. rw (← f.whole) at f.written;
    }
