-- Text that is filled from its end.
use Rattle.std.specs.Prelude.{◌≡◌, ℕ, ◌+◌, ◌-◌, ◌≤◌, ◌++◌, length, take, drop}
use Rattle.text.specs.Decimal.{Text}
use Rattle.text.specs.declared.Filling.{Filling}

-- the text s once x is written into it, so that x ends before `end`
abbrev pub ending_at : ℕ → Text → Text → Text
ending_at end x s = take (end - length x) s ++ (x ++ drop end s)

-- from `start` to its end a text is x, and nothing else
pub record StandsFrom (start : ℕ) (x text : Text) : Type 0 where
  pub inside : start ≤ length text
  pub is_x : drop start text ≡ x

-- x is written in front: it ends where the text started before, and every other character of the room is kept. It is the same room, so that
-- who lent it knows what it then holds.
pub record Written (x : Text) (old new : Filling) : Type 0 where
  pub start : new.start + length x ≡ old.start
  pub text : new.room.now ≡ ending_at old.start x old.room.now
  pub same_room : new.room.ghost_name ≡ old.room.ghost_name

-- A text that is being filled: of `all`, the part `rest` is still to be written; `was` is the text as it was, `now` the text so far.
pub record Filled (all rest : Text) (was now : Filling) : Type 0 where
  pub done : Text
  pub whole : all ≡ rest ++ done
  pub written : Written done was now

-- The same of lists, whatever the end, also one past the text: of `all`, which is to end before `end`, the part `rest` is still to be written,
-- before `at`; s is the text as it was, now the text so far.
pub record FilledTo (all rest : Text) (at end : ℕ) (s now : Text) : Type 0 where
  pub done : Text
  pub whole : all ≡ rest ++ done
  pub place : at + length done ≡ end
  pub text : now ≡ ending_at end done s
