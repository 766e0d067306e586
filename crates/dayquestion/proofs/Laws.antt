-- The laws of specs/Laws.antt, proved. Other crates see them as fields of filling_laws.
use mathlib.Core.Path.{refl}
use Rattle.ladder.specs.Ladder.{ladder}
use Rattle.questions.specs.Missing.{present}
use Rattle.daybook.specs.Events.{Buy, Sell, History}
use Rattle.daybook.specs.Kept.{current_of, any_quote}
use Rattle.daybook.specs.Accepted.{accepted}
use Rattle.daybook.specs.Days.{played}
use Rattle.daybook.proofs.Laws.{day_laws}
use Rattle.dayquestion.specs.Laws.{OpeningUntilQuoted, QuestionByTheList, OnlyTheCaller, FillingLaws}
use Rattle.dayquestion.proofs.Opening.{any_last, opening_code}
use Rattle.dayquestion.proofs.Filled as filled

question_by_the_list : QuestionByTheList
question_by_the_list l close events o = rw (day_laws.kept_prices l close events, any_last (accepted l events)) refl

opening_until_quoted : OpeningUntilQuoted
opening_until_quoted l close events o =
    rw (day_laws.kept_prices l close events, any_last h) (opening_code (any_quote h) (present (current_of Buy h)) (present (current_of Sell h)))
  where
    h : History
    h = accepted l events

only_the_caller : OnlyTheCaller
only_the_caller t wf small percent close events o fits =
    filled.only_the_caller t wf small (played (ladder t) close events) (day_laws.days_are_in_order (ladder t) close events) o fits percent

pub filling_laws : FillingLaws
filling_laws =
    record { opening_until_quoted = opening_until_quoted; question_by_the_list = question_by_the_list; only_the_caller = only_the_caller }
