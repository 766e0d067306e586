-- The claim, computed.
use mathlib.Core.Path.{refl}
use Rattle.tables.specs.Named.{phase1}
use Rattle.ladder.specs.Ladder.{rungs, band_prices, ladder}
use Rattle.ladder.specs.Places.{last_after, is_outside}
use Rattle.facts.specs.Lists.{holds}
use Rattle.questions.specs.Record.{bytes_of}
use Rattle.daybook.specs.Kept.{current_of, last_of, lowest_of, highest_of}
use Rattle.daybook.specs.Accepted.{event_number}
use Rattle.daybook.specs.Days.{opened, entered}
use Rattle.daynumbers.specs.Numbers.{numbers_of_day, day_from}
use Rattle.claims.specs.Worked.{little_endian, mils}
use Rattle.claims.specs.Played.{same, right_from, steps, Played}

pub played : Played
unfolding
    right_from steps same little_endian mils opened entered event_number current_of last_of lowest_of highest_of numbers_of_day day_from bytes_of
    phase1 ladder band_prices rungs holds last_after is_outside
played = refl
